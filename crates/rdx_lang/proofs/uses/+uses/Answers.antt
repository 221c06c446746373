use Rattle.std.proofs.Common.{◌≡◌, ◌+◌, ◌++◌, ◌∙◌, List, suc, map, drop, sym, ap}
use Rattle.rdx_lang.specs.Depths.{Use, uses, length_use, item_uses}
use Rattle.rdx_lang.specs.Inside.Capped.{capped_uses, uses_in}
use Rattle.rdx_lang.specs.Patterns.{Items}
use Rattle.rdx_lang.specs.PatternView.{pattern_of, slot_of, items_of}
use Rattle.rdx_lang.proofs.CappedUses.{uses-deeper, behind-one, behind-many}
use Rattle.rdx_lang.proofs.ItemsAhead.{ahead-one, ahead-many}
use Rattle.rdx_lang.proofs.uses.+uses.Goals as goal
use Rattle.rdx_lang.proofs.uses.+uses.Goals.{add_item_uses-in-One+in_ok-add_uses-in-One, add_item_uses-in-Many+in_ok-add_uses-in-Many+in_ok-add_length_use-in-Many}

pub add_item_uses-loop-item-preserved : goal.add_item_uses-loop-item-preserved
add_item_uses-loop-item-preserved t c =
    let items = c.args.items.now in
    let i = c.loop-item.item-index in
    let d = c.args.depth in
    let rest = items_of (map slot_of (drop (i + 1) items)) in
    let old = uses_in c.loop-item.out.items in
    elim c.match-item.branch [
      | add_item_uses-in-One+in_ok-add_uses-in-One w ↦
          let p = pattern_of w.in-One.pat in
          let ahead = ahead-one items i c.item-item.result c.loop-item-test.true c.item-item.is w.in-One.pat w.in-One.is in
          let e : uses_in c.match-item.out.items ≡ old ++ capped_uses (uses d p) = ap (λ v. uses_in v.items) w.out-is
          ∙ w.in_ok-add_uses-in-One.ensures in
          ap (λ (us : List Use). us ++ capped_uses (item_uses d rest)) e
          ∙ behind-one d p rest old
          ∙ ap (λ (ps : Items). old ++ capped_uses (item_uses d ps)) (sym ahead)
          ∙ c.loop-item.invariant
      | add_item_uses-in-Many+in_ok-add_uses-in-Many+in_ok-add_length_use-in-Many w ↦
          let p = pattern_of w.in-Many.pat in
          let n = w.in-Many.length in
          let ahead = ahead-many items i c.item-item.result c.loop-item-test.true c.item-item.is w.in-Many.pat n w.in-Many.is in
          let f : uses_in w.add_uses-in-Many.new.out.items ≡ old ++ capped_uses (uses (suc d) p) =
          w.in_ok-add_uses-in-Many.ensures ∙ ap (λ us. old ++ us) (uses-deeper d w.deeper.result p w.deeper.ensures) in
          let e : uses_in c.match-item.out.items ≡ (old ++ capped_uses (uses (suc d) p)) ++ capped_uses (length_use d n) =
          ap (λ v. uses_in v.items) w.out-is ∙ w.in_ok-add_length_use-in-Many.ensures ∙ ap (λ us. us ++ capped_uses (length_use d n)) f in
          ap (λ (us : List Use). us ++ capped_uses (item_uses d rest)) e
          ∙ behind-many d p n rest old
          ∙ ap (λ (ps : Items). old ++ capped_uses (item_uses d ps)) (sym ahead)
          ∙ c.loop-item.invariant
    ]
