use Rattle.std.proofs.Common.{◌≡◌, ◌<◌, ◌≤◌, ◌+◌, ◌∙◌, List, length, get_or, Bool, sym, ap, subst, arith}
use Rattle.std.specs.Borrow.{Bor}
use Rattle.std.specs.Prelude.{◌&&◌, drop}
use Rattle.rdx_lang.specs.ProgramView.{program_of}
use Rattle.rdx_lang.specs.declared.program.Program.{Program}
use Rattle.rdx_answer.specs.Answering.{counts_behind}
use Rattle.rdx_answer.specs.Bound.{Bound}
use Rattle.rdx_answer.specs.Inside.Explaining.{GainsAnswer, IsShowableQuery}
use Rattle.rdx_answer.specs.Inside.Counting.{counts_of}
use Rattle.rdx_answer.specs.Inside.Tabled.{forms_in}
use Rattle.rdx_answer.specs.Tests.{Counts}
use Rattle.rdx_answer.specs.Views.{bound_in, bound_of, program_in, query_of}
use Rattle.rdx_answer.proofs.ExplainedParts.{ExplainedUpto, explained_named, explained_next, explained_end}
use Rattle.rdx_answer.proofs.Upto.{total, total-behind}
use Rattle.rdx_answer.proofs.explained_answers.answer_explained.Goals.{then-met, else-met}
use Rattle.rdx_answer.proofs.explained_answers.answer_explained.Goals as goal

pub write_explained-requires-clause-shown : goal.write_explained-requires-clause-shown
write_explained-requires-clause-shown g c =
    let P = program_in c.args.file.now in
    let all = c.args.file.now.queries.items in
    let i = c.loop-query.query-index in
    let q = c.query-item.result in
    let v = c.deref-query-items.ensures.value in
    let bs : List Bound = bound_in c.args.file.now in
    let t : forms_in c.in_ok-table.table ≡ bs = c.in_ok-table.ensures ∙ ap bound_of c.deref.ensures.value in
    subst (λ (p : Program). IsShowableQuery (program_of p) (query_of (forms_in c.in_ok-table.table) q)) (sym c.loop-query.invariant.program)
    (subst (λ (xs : List Bound). IsShowableQuery P (query_of xs q)) (sym t)
    (explained_named P bs all i q (counts_of c.loop-query.counts) c.loop-query.transcript.items c.loop-query.met
    (subst (λ qs. i < length qs) v c.loop-query-test.true) (subst (λ qs. q ≡ get_or qs i q) v c.query-item.is)
    (record { valid = c.requires.asked.valid; languages = c.requires.asked.languages }) c.loop-query.invariant.upto))

pub loop-query-preserved : goal.loop-query-preserved
loop-query-preserved g c =
    let P = program_in c.args.file.now in
    let all = c.args.file.now.queries.items in
    let i = c.loop-query.query-index in
    let q = c.query-item.result in
    let m = c.in_ok-is_met.is_met in
    let n : Counts = counts_of c.loop-query.counts in
    let v = c.deref-query-items.ensures.value in
    let both : c.if-met.met ≡ (c.loop-query.met && m) =
    elim c.if-met.branch [
      | then-met w ↦ w.met-is ∙ sym (ap (λ (b : Bool). b && m) w.if-met.true)
      | else-met w ↦ w.met-is ∙ w.if-met.false ∙ sym (ap (λ (b : Bool). b && m) w.if-met.false)
    ]
    in
    let bs : List Bound = bound_in c.args.file.now in
    let t : forms_in c.in_ok-table.table ≡ bs = c.in_ok-table.ensures ∙ ap bound_of c.deref.ensures.value in
    let appended : GainsAnswer P n (query_of bs q) c.loop-query.transcript.items c.write_explained.new.out.items m =
    subst (λ (xs : List Bound). GainsAnswer P n (query_of xs q) c.loop-query.transcript.items c.write_explained.new.out.items m) t
    (subst (λ (p : Program). GainsAnswer (program_of p) n (query_of (forms_in c.in_ok-table.table) q) c.loop-query.transcript.items
    c.write_explained.new.out.items m)
    c.loop-query.invariant.program c.in_ok-is_met.ensures.answer) in
    let behind : counts_of c.counts_behind-counts.result ≡ counts_behind (query_of bs q) m n = c.counts_behind-counts.ensures bs in
    let few : total (counts_of c.counts_behind-counts.result) ≤ total n + 1 =
    subst (λ (k : Counts). total k ≤ total n + 1) (sym behind) (total-behind (query_of bs q) m n) in
    record {
      program = ap (λ (p : Bor Program). p.now) c.in_ok-is_met.ensures.same ∙ c.loop-query.invariant.program;
      finder = ap (λ (p : Bor Program). p.now) c.in_ok-is_met.ensures.kept ∙ c.loop-query.invariant.finder;
      few = let h = c.loop-query.invariant.few in omega (arith, few, h);
      upto = subst (λ (b : Bool). ExplainedUpto P bs all (drop (i + 1) all) (counts_of c.counts_behind-counts.result) c.write_explained.new.out.items b) (sym both)
          (subst (λ (k : Counts). ExplainedUpto P bs all (drop (i + 1) all) k c.write_explained.new.out.items (c.loop-query.met && m)) (sym behind)
          (explained_next P bs all i q n c.loop-query.transcript.items c.write_explained.new.out.items c.loop-query.met m
          (subst (λ qs. i < length qs) v c.loop-query-test.true) (subst (λ qs. q ≡ get_or qs i q) v c.query-item.is) appended c.loop-query.invariant.upto));
    }

pub returns : goal.returns
returns g c =
    let all = c.args.file.now.queries.items in
    let l : length c.deref-query-items.result.now ≡ length all = ap length c.deref-query-items.ensures.value in
    explained_end (program_in c.args.file.now) (bound_in c.args.file.now) all c.loop-query.query-index (counts_of c.loop-query.counts)
    c.loop-query.transcript.items c.loop-query.met (omega (arith, l, c.loop-query-test.false)) c.loop-query.invariant.upto
