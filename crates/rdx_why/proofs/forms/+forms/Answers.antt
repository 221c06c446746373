use Rattle.std.proofs.Common.{◌≡◌, true, false, length, map, sym, ◌∙◌, ap, subst, arith}
use Rattle.std.proofs.lemmas.Bool.{eq-eqb}
use Rattle.rdx_lang.specs.Checked.{language_in}
use Rattle.rdx_lang.specs.Patterns.{seq}
use Rattle.rdx_lang.specs.PatternView.{pattern_of, slot_of, items_of}
use Rattle.rdx_lang.specs.Rules.{Match}
use Rattle.rdx_lang.proofs.PatternEquations.{pattern_seq}
use Rattle.rdx_term.specs.View.{tree_of}
use Rattle.rdx_why.proofs.FormLaws.{too_few, not_this, further, at_end}
use Rattle.rdx_why.proofs.forms.+forms.Goals as goal
use Rattle.rdx_why.proofs.forms.+forms.Goals.{may_match_items-then-i-terms-via-then-i-terms, may_match_items-then-i-terms-via-else-i-terms+then-not-may_match}

pub may_match-returns-in-Seq : goal.may_match-returns-in-Seq
may_match-returns-in-Seq t c f b m =
    let e : pattern_of c.args.pat.now ≡ seq (items_of (map slot_of c.deref-in-Seq.result.now)) =
    ap pattern_of c.in-Seq.is ∙ pattern_seq c.in-Seq.items ∙ ap (λ is. seq (items_of (map slot_of is))) (sym c.deref-in-Seq.ensures.value) in
    c.may_match_list.ensures f b (subst (λ p. Match (language_in c.args.language.now) p (tree_of c.args.t.now) b) e m)

pub may_match_items-loop-i-init : goal.may_match_items-loop-i-init
may_match_items-loop-i-init t c = (λ d. d, omega arith)

pub may_match_items-returns-then-i-terms : goal.may_match_items-returns-then-i-terms
may_match_items-returns-then-i-terms t c f =
    elim c.then-i-terms.branch [
      | may_match_items-then-i-terms-via-then-i-terms w ↦
          too_few (language_in c.args.language.now) c.args.items.now c.args.terms.now c.loop-i.i c.loop-i.invariant.0
          c.index-items-i.result c.loop-i-test.true c.index-items-i.is c.in-One.q c.in-One.is w.if-i-terms.true
      | may_match_items-then-i-terms-via-else-i-terms+then-not-may_match w ↦
          not_this (language_in c.args.language.now) c.args.items.now c.args.terms.now c.loop-i.i c.loop-i.invariant.0
          c.index-items-i.result c.loop-i-test.true c.index-items-i.is c.in-One.q c.in-One.is
          w.index-terms-i.result w.if-i-terms.false w.index-terms-i.is (w.may_match.ensures w.if-not-may_match.true)
    ]

pub may_match_items-loop-i-preserved : goal.may_match_items-loop-i-preserved
may_match_items-loop-i-preserved t c = (
  further (language_in c.args.language.now) c.args.items.now c.args.terms.now c.loop-i.i c.loop-i.invariant.0
      c.index-items-i.result c.loop-i-test.true c.index-items-i.is c.in-One.q c.in-One.is
      c.index-terms-i.result c.if-i-terms.false c.index-terms-i.is,
  omega arith,
)

pub may_match_items-returns : goal.may_match_items-returns
may_match_items-returns t c f =
    at_end (language_in c.args.language.now) c.args.items.now c.args.terms.now c.loop-i.i c.loop-i.invariant.0 (omega arith) c.loop-i.invariant.1
    (λ e. let g : true ≡ false = sym (eq-eqb (length c.args.items.now) (length c.args.terms.now) e) ∙ f in absurd cc)
