use Rattle.std.proofs.Common.{◌≡◌, ◌+◌, ◌-◌, take, length, map, drop, sym, ◌∙◌, ap, subst, arith}
use Rattle.rdx_lang.specs.Checked.{language_in}
use Rattle.rdx_lang.specs.Patterns.{seq}
use Rattle.rdx_lang.specs.PatternView.{pattern_of, slot_of, items_of}
use Rattle.rdx_lang.specs.Rules.{Split}
use Rattle.rdx_lang.proofs.PatternEquations.{pattern_seq}
use Rattle.rdx_term.specs.View.{tree_of, trees_of}
use Rattle.rdx_why.specs.Inside.Forms.{NeverMatch}
use Rattle.rdx_why.proofs.FormLaws.{at_start, rest_whole, none_split, too_few_split, not_split, not_others, not_matched, further_split}
use Rattle.rdx_why.proofs.forms.+splitting_forms.Goals as goal

pub may_split-returns-in-Seq : goal.may_split-returns-in-Seq
may_split-returns-in-Seq t c f u s b m =
    let e : pattern_of c.args.pat.now ≡ seq (items_of (map slot_of c.deref-in-Seq.result.now)) =
    ap pattern_of c.in-Seq.is ∙ pattern_seq c.in-Seq.items ∙ ap (λ is. seq (items_of (map slot_of is))) (sym c.deref-in-Seq.ensures.value) in
    c.may_split_list.ensures f u s b (subst (λ p. Split (language_in c.args.language.now) p u (tree_of c.args.context.now) s b) e m)

pub may_split_items-loop-i-init : goal.may_split_items-loop-i-init
may_split_items-loop-i-init t c = (at_start (language_in c.args.language.now) c.args.items.now c.args.terms.now c.args.place, omega arith)

pub may_split_items-returns-then-i-terms : goal.may_split_items-returns-then-i-terms
may_split_items-returns-then-i-terms t c f =
    too_few_split (language_in c.args.language.now) c.args.items.now c.args.terms.now c.args.place c.loop-i.i c.loop-i.invariant.0
    c.index-items-i.result c.loop-i-test.true c.index-items-i.is c.in-One.q c.in-One.is c.if-i-terms.true

pub may_split_items-returns-then-may_split : goal.may_split_items-returns-then-may_split
may_split_items-returns-then-may_split t c f =
    not_others (language_in c.args.language.now) c.args.items.now c.args.terms.now c.args.place c.loop-i.i c.loop-i.invariant.0
    c.index-items-i.result c.loop-i-test.true c.index-items-i.is c.in-One.q c.in-One.is
    c.index-terms-i.result c.if-i-terms.false c.index-terms-i.is c.if-i-place.true
    (subst (λ is. NeverMatch (language_in c.args.language.now) (items_of (map slot_of is)) (trees_of (drop (c.loop-i.i + 1) c.args.terms.now)))
    (rest_whole c.args.items.now (c.loop-i.i + 1) (omega arith))
    (subst (λ ts. NeverMatch (language_in c.args.language.now) (items_of (map slot_of (take (length c.args.items.now - (c.loop-i.i + 1)) (drop (c.loop-i.i + 1) c.args.items.now)))) (trees_of ts))
    (rest_whole c.args.terms.now (c.loop-i.i + 1) (omega arith)) (c.may_match_items.ensures f)))

pub may_split_items-returns-else-may_split : goal.may_split_items-returns-else-may_split
may_split_items-returns-else-may_split t c f =
    not_split (language_in c.args.language.now) c.args.items.now c.args.terms.now c.args.place c.loop-i.i c.loop-i.invariant.0
    c.index-items-i.result c.loop-i-test.true c.index-items-i.is c.in-One.q c.in-One.is
    c.index-terms-i.result c.if-i-terms.false c.index-terms-i.is c.if-i-place.true (c.may_split.ensures f)

pub may_split_items-returns-then-not-may_match : goal.may_split_items-returns-then-not-may_match
may_split_items-returns-then-not-may_match t c f =
    not_matched (language_in c.args.language.now) c.args.items.now c.args.terms.now c.args.place c.loop-i.i c.loop-i.invariant.0
    c.index-items-i.result c.loop-i-test.true c.index-items-i.is c.in-One.q c.in-One.is
    c.index-terms-i-in-One.result c.if-i-terms.false c.index-terms-i-in-One.is (omega arith) (c.may_match.ensures c.if-not-may_match.true)

pub may_split_items-loop-i-preserved : goal.may_split_items-loop-i-preserved
may_split_items-loop-i-preserved t c = (
  further_split (language_in c.args.language.now) c.args.items.now c.args.terms.now c.args.place c.loop-i.i c.loop-i.invariant.0
      c.index-items-i.result c.loop-i-test.true c.index-items-i.is c.in-One.q c.in-One.is
      c.index-terms-i-in-One.result c.if-i-terms.false c.index-terms-i-in-One.is (omega arith),
  omega arith,
)

pub may_split_items-returns : goal.may_split_items-returns
may_split_items-returns t c f = none_split (language_in c.args.language.now) c.args.items.now c.args.terms.now c.args.place c.loop-i.i c.loop-i.invariant.0 (omega arith)
