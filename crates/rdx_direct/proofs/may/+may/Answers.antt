use Rattle.std.proofs.Common.{arith, ◌≡◌, ◌∙◌, ℕ, List, length, ap, drop, map, sym}
use Rattle.rdx_term.specs.Tree.{Tree, Contents, list, trees}
use Rattle.rdx_term.specs.View.{tree_of, trees_of}
use Rattle.rdx_lang.proofs.ItemsAhead.{ahead-one}
use Rattle.rdx_lang.proofs.PatternEquations.{pattern_kind, pattern_seq}
use Rattle.rdx_lang.proofs.Rest.{rest_at, rest_none}
use Rattle.rdx_lang.specs.Patterns.{seq}
use Rattle.rdx_lang.specs.PatternView.{pattern_of, slot_of, items_of}
use Rattle.rdx_direct.proofs.GoingLaws.{rest_more}
use Rattle.rdx_direct.proofs.MayLaws.{kind_never, seq_never, never_short, never_first, never_next, never_end}
use Rattle.rdx_direct.proofs.may.+may.Goals as goal

pub may-returns-in-Kind : goal.may-returns-in-Kind
may-returns-in-Kind t c =
    kind_never (tree_of c.args.t.now) c.may_be.result (ap pattern_of c.in-Kind.is ∙ pattern_kind c.in-Kind.kind) c.may_be.ensures

pub may-returns-in-List : goal.may-returns-in-List
may-returns-in-List t c =
    let ts = c.items.result.now in
    let same : tree_of c.args.t.now ≡ list c.in-List.node.value.mark (trees_of ts) =
    ap tree_of c.in-List.is ∙ ap (λ (us : List Tree). list c.in-List.node.value.mark (trees us)) (ap (λ (l : Contents). l.items) (sym c.deref-in-List-2.ensures) ∙ sym c.items.ensures.value) in
    let e : pattern_of c.args.pat.now ≡ seq (items_of (map slot_of c.deref-in-List.result.now)) = ap pattern_of c.in-Seq.is ∙ pattern_seq c.in-Seq.items ∙ ap (λ x. seq (items_of (map slot_of x))) (sym c.deref-in-List.ensures.value) in
    seq_never c.may_all.result e same c.may_all.ensures

pub may_all-loop-i-init : goal.may_all-loop-i-init
may_all-loop-i-init t c = λ n b m. n b m

pub may_all-returns-then-i-ts : goal.may_all-returns-then-i-ts
may_all-returns-then-i-ts t c =
    let i : ℕ = c.loop-i.i in
    λ h. c.loop-i.invariant (never_short (ahead-one c.args.items.now i c.index-items-i.result (omega arith) c.index-items-i.is c.in-One.pat c.in-One.is) (ap trees (rest_none tree_of c.args.ts.now i (omega arith))))

pub may_all-returns-then-not-may : goal.may_all-returns-then-not-may
may_all-returns-then-not-may t c =
    let i : ℕ = c.loop-i.i in
    λ h. c.loop-i.invariant (never_first (ahead-one c.args.items.now i c.index-items-i.result (omega arith) c.index-items-i.is c.in-One.pat c.in-One.is)
    (ap trees (rest_at tree_of c.args.ts.now i c.index-ts-i.result (omega arith) c.index-ts-i.is)) (c.may.ensures c.if-not-may.true))

pub may_all-loop-i-preserved : goal.may_all-loop-i-preserved
may_all-loop-i-preserved t c =
    let i : ℕ = c.loop-i.i in
    λ n. c.loop-i.invariant (never_next (ahead-one c.args.items.now i c.index-items-i.result (omega arith) c.index-items-i.is c.in-One.pat c.in-One.is)
    (ap trees (rest_at tree_of c.args.ts.now i c.index-ts-i.result (omega arith) c.index-ts-i.is)) n)

pub may_all-returns : goal.may_all-returns
may_all-returns t c =
    let i : ℕ = c.loop-i.i in
    λ h. c.loop-i.invariant (never_end (map tree_of (drop i c.args.ts.now)) (ap items_of (rest_none slot_of c.args.items.now i (omega arith)))
    (rest_more tree_of c.args.ts.now i (length c.args.items.now) (omega arith) h))
