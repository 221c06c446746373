use Rattle.std.proofs.Common.{◌≡◌, ◌+◌, ◌∙◌, map, drop, sym, ap}
use Rattle.rdx_lang.specs.Patterns.{Pattern, Items, in_hole}
use Rattle.rdx_lang.specs.PatternView.{pattern_of, slot_of, items_of, language_of}
use Rattle.rdx_lang.specs.declared.facts.May.{May}
use Rattle.rdx_lang.specs.declared.pattern.Ref.{Ref}
use Rattle.rdx_lang.proofs.ItemsAhead.{ahead-one, ahead-many}
use Rattle.rdx_lang.proofs.PatternEquations.{pattern_in_hole}
use Rattle.rdx_facts.specs.Inside.Flags.{may_of, may_by, items_may, with_one, with_many, filled}
use Rattle.rdx_facts.proofs.patterns.+may.Goals as goal
use Rattle.rdx_facts.proofs.patterns.+may.Goals.{items_may-in-One, items_may-in-Many}

pub items_may-loop-item-preserved : goal.items_may-loop-item-preserved
items_may-loop-item-preserved t c =
    let E : Ref → May = may_by (language_of c.args.language.now) c.args.marks.now in
    let items = c.args.items.now in
    let i = c.loop-item.item-index in
    let rest = items_of (map slot_of (drop (i + 1) items)) in
    let m : May = c.loop-item.may in
    elim c.match-item.branch [
      | items_may-in-One w ↦
          let ahead = ahead-one items i c.item-item.result c.loop-item-test.true c.item-item.is w.in-One.pat w.in-One.is in
          ap (λ (k : May). items_may E k rest) (w.may-is ∙ w.with_one-may.ensures ∙ ap (with_one m) w.pattern_may.ensures)
          ∙ ap (λ (ps : Items). items_may E m ps) (sym ahead)
          ∙ c.loop-item.invariant
      | items_may-in-Many w ↦
          let ahead = ahead-many items i c.item-item.result c.loop-item-test.true c.item-item.is w.in-Many.pat w.in-Many.length w.in-Many.is in
          ap (λ (k : May). items_may E k rest)
          (w.may-is ∙ w.with_many-may.ensures ∙ (λ j. with_many m (w.pattern_may-in-Many.ensures j) (w.is_some.ensures j)))
          ∙ ap (λ (ps : Items). items_may E m ps) (sym ahead)
          ∙ c.loop-item.invariant
    ]

pub pattern_may-returns-in-InHole : goal.pattern_may-returns-in-InHole
pattern_may-returns-in-InHole t c =
    let E : Ref → May = may_by (language_of c.args.language.now) c.args.marks.now in
    let q = pattern_of c.deref-in-InHole.result.now in
    let r = pattern_of c.deref-in-InHole-2.result.now in
    let e : pattern_of c.args.pat.now ≡ in_hole q r =
    ap pattern_of c.in-InHole.is ∙ pattern_in_hole c.in-InHole.left c.in-InHole.right
    ∙ (λ i. in_hole (pattern_of (sym c.deref-in-InHole.ensures i)) (pattern_of (sym c.deref-in-InHole-2.ensures i))) in
    let left : May = c.pattern_may-left.result in
    let right : May = c.pattern_may-right.result in
    let f : filled left right ≡ filled (may_of E q) (may_of E r) = λ i. filled (c.pattern_may-left.ensures i) (c.pattern_may-right.ensures i) in
    let g : c.filled.result ≡ filled (may_of E q) (may_of E r) = c.filled.ensures ∙ f in
    g ∙ ap (λ (p : Pattern). may_of E p) (sym e)
