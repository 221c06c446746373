use Rattle.std.proofs.Common.{◌≡◌, ◌+◌, ◌++◌, ◌∙◌, List, map, drop, sym, ap, append_assoc}
use Rattle.std.proofs.lemmas.Result.{on_ok_weaker}
use Rattle.rdx_lang.specs.Crosses.{Way, ways, item_ways}
use Rattle.rdx_lang.specs.Patterns.{Pattern, Items, in_hole}
use Rattle.rdx_lang.specs.PatternView.{pattern_of, slot_of, items_of}
use Rattle.rdx_lang.proofs.ItemsAhead.{ahead-one, ahead-many}
use Rattle.rdx_lang.proofs.PatternEquations.{pattern_in_hole}
use Rattle.rdx_patterns.proofs.crosses.ways.+ways.Goals as goal
use Rattle.rdx_patterns.proofs.crosses.ways.+ways.Goals.{add_item_ways-in-One+in_ok-add_ways-in-One, add_item_ways-in-Many+in_ok-add_ways-in-Many}

pub add_item_ways-loop-item-preserved : goal.add_item_ways-loop-item-preserved
add_item_ways-loop-item-preserved t c =
    let items = c.args.items.now in
    let i = c.loop-item.item-index in
    let rest = items_of (map slot_of (drop (i + 1) items)) in
    let old = c.loop-item.out.items in
    elim c.match-item.branch [
      | add_item_ways-in-One+in_ok-add_ways-in-One w ↦
          let p = pattern_of w.in-One.pat in
          let ahead = ahead-one items i c.item-item.result c.loop-item-test.true c.item-item.is w.in-One.pat w.in-One.is in
          ap (λ (ws : List Way). ws ++ item_ways rest) (ap (λ v. v.items) w.out-is ∙ w.in_ok-add_ways-in-One.ensures)
          ∙ append_assoc old (ways p) (item_ways rest)
          ∙ ap (λ (ps : Items). old ++ item_ways ps) (sym ahead)
          ∙ c.loop-item.invariant
      | add_item_ways-in-Many+in_ok-add_ways-in-Many w ↦
          let p = pattern_of w.in-Many.pat in
          let ahead = ahead-many items i c.item-item.result c.loop-item-test.true c.item-item.is w.in-Many.pat w.in-Many.field-1 w.in-Many.is in
          ap (λ (ws : List Way). ws ++ item_ways rest) (ap (λ v. v.items) w.out-is ∙ w.in_ok-add_ways-in-Many.ensures)
          ∙ append_assoc old (ways p) (item_ways rest)
          ∙ ap (λ (ps : Items). old ++ item_ways ps) (sym ahead)
          ∙ c.loop-item.invariant
    ]

pub add_ways-returns-in_ok-add_ways-in-InHole : goal.add_ways-returns-in_ok-add_ways-in-InHole
add_ways-returns-in_ok-add_ways-in-InHole t c =
    let q = pattern_of c.deref-in-InHole.result.now in
    let r = pattern_of c.deref-in-InHole-2.result.now in
    let old = c.args.out.now.items in
    let e : pattern_of c.args.pat.now ≡ in_hole q r =
    ap pattern_of c.in-InHole.is ∙ pattern_in_hole c.in-InHole.left c.in-InHole.right
    ∙ (λ i. in_hole (pattern_of (sym c.deref-in-InHole.ensures i)) (pattern_of (sym c.deref-in-InHole-2.ensures i))) in
    on_ok_weaker c.add_ways-in-InHole-2.result
    (λ h. h ∙ ap (λ (ws : List Way). ws ++ ways r) c.in_ok-add_ways-in-InHole.ensures ∙ append_assoc old (ways q) (ways r)
    ∙ ap (λ (p : Pattern). old ++ ways p) (sym e))
    c.add_ways-in-InHole-2.ensures
