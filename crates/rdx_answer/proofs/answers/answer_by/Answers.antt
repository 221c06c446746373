use Rattle.std.proofs.Common.{◌≡◌, ◌<◌, ◌≤◌, ◌+◌, ◌∙◌, ℕ, List, length, get_or, Bool, sym, ap, subst, arith}
use Rattle.std.specs.Borrow.{Bor}
use Rattle.std.specs.Prelude.{◌&&◌, drop}
use Rattle.rdx_lang.specs.ProgramView.{program_of}
use Rattle.rdx_lang.specs.declared.program.Program.{Program}
use Rattle.rdx_answer.specs.Answering.{counts_behind}
use Rattle.rdx_answer.specs.Bound.{Bound}
use Rattle.rdx_answer.specs.Inside.Appending.{AppendsAnswer}
use Rattle.rdx_answer.specs.Inside.Counting.{counts_of}
use Rattle.rdx_answer.specs.Inside.Tabled.{forms_in}
use Rattle.rdx_answer.specs.Queries.{NamesKnown}
use Rattle.rdx_answer.specs.Tests.{Counts}
use Rattle.rdx_answer.specs.Views.{bound_in, bound_of, program_in, query_of}
use Rattle.rdx_answer.proofs.Upto.{Upto, total, total-behind, upto_named, upto_next, upto_end}
use Rattle.rdx_answer.proofs.answers.answer_by.Goals.{then-met, else-met}
use Rattle.rdx_answer.proofs.answers.answer_by.Goals as goal

pub write_answer-requires-clause-known : goal.write_answer-requires-clause-known
write_answer-requires-clause-known g c =
    let P = program_in c.args.file.now in
    let all = c.args.file.now.queries.items in
    let i = c.loop-query.query-index in
    let q = c.query-item.result in
    let v = c.deref-query-items.ensures.value in
    let bs : List Bound = bound_in c.args.file.now in
    let t : forms_in c.in_ok-table.table ≡ bs = c.in_ok-table.ensures ∙ ap bound_of c.deref.ensures.value in
    subst (λ (p : Program). NamesKnown (program_of p) (query_of (forms_in c.in_ok-table.table) q)) (sym c.loop-query.invariant.program)
    (subst (λ (xs : List Bound). NamesKnown P (query_of xs q)) (sym t)
    (upto_named P c.args.choices.now bs all i q (counts_of c.loop-query.counts) c.loop-query.transcript.items c.loop-query.met
    (subst (λ qs. i < length qs) v c.loop-query-test.true) (subst (λ qs. q ≡ get_or qs i q) v c.query-item.is) c.loop-query.invariant.upto))

pub loop-query-preserved : goal.loop-query-preserved
loop-query-preserved g c =
    let P = program_in c.args.file.now in
    let cs : List ℕ = c.args.choices.now in
    let all = c.args.file.now.queries.items in
    let i = c.loop-query.query-index in
    let q = c.query-item.result in
    let m = c.in_ok-is_met.is_met in
    let n : Counts = counts_of c.loop-query.counts in
    let v = c.deref-query-items.ensures.value in
    let both : c.if-met.met ≡ (c.loop-query.met && m) =
    elim c.if-met.branch [
      | then-met w ↦ w.met-is ∙ sym (ap (λ (b : Bool). b && m) w.if-met.true)
      | else-met w ↦ w.met-is ∙ w.if-met.false ∙ sym (ap (λ (b : Bool). b && m) w.if-met.false)
    ]
    in
    let bs : List Bound = bound_in c.args.file.now in
    let t : forms_in c.in_ok-table.table ≡ bs = c.in_ok-table.ensures ∙ ap bound_of c.deref.ensures.value in
    let appended : AppendsAnswer P cs n (query_of bs q) c.loop-query.transcript.items c.write_answer.new.out.items m =
    subst (λ (xs : List Bound). AppendsAnswer P cs n (query_of xs q) c.loop-query.transcript.items c.write_answer.new.out.items m) t
    (subst (λ (p : Program). AppendsAnswer (program_of p) cs n (query_of (forms_in c.in_ok-table.table) q) c.loop-query.transcript.items
    c.write_answer.new.out.items m)
    c.loop-query.invariant.program c.in_ok-is_met.ensures.answer) in
    let behind : counts_of c.counts_behind-counts.result ≡ counts_behind (query_of bs q) m n = c.counts_behind-counts.ensures bs in
    let few : total (counts_of c.counts_behind-counts.result) ≤ total n + 1 =
    subst (λ (k : Counts). total k ≤ total n + 1) (sym behind) (total-behind (query_of bs q) m n) in
    record {
      program = ap (λ (p : Bor Program). p.now) c.in_ok-is_met.ensures.same ∙ c.loop-query.invariant.program;
      few = let h = c.loop-query.invariant.few in omega (arith, few, h);
      upto = subst (λ (b : Bool). Upto P cs bs all (drop (i + 1) all) (counts_of c.counts_behind-counts.result) c.write_answer.new.out.items b) (sym both)
          (subst (λ (k : Counts). Upto P cs bs all (drop (i + 1) all) k c.write_answer.new.out.items (c.loop-query.met && m)) (sym behind)
          (upto_next P cs bs all i q n c.loop-query.transcript.items c.write_answer.new.out.items c.loop-query.met m
          (subst (λ qs. i < length qs) v c.loop-query-test.true) (subst (λ qs. q ≡ get_or qs i q) v c.query-item.is) appended c.loop-query.invariant.upto));
    }

pub returns : goal.returns
returns g c =
    let all = c.args.file.now.queries.items in
    let l : length c.deref-query-items.result.now ≡ length all = ap length c.deref-query-items.ensures.value in
    upto_end (program_in c.args.file.now) c.args.choices.now (bound_in c.args.file.now) all c.loop-query.query-index (counts_of c.loop-query.counts)
    c.loop-query.transcript.items c.loop-query.met (omega (arith, l, c.loop-query-test.false)) c.loop-query.invariant.upto
