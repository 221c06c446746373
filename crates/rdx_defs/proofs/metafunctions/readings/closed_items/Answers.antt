use Rattle.std.proofs.Common.{◌≡◌, ◌++◌, ◌∙◌, List, [], ◌∷◌, Option, map, reverse, append_assoc, append-nil, sym, ap, arith}
use Rattle.std.proofs.lemmas.Grind.{common_steps}
use Rattle.std.proofs.lemmas.List.{map-append}
use Rattle.std.specs.Option.{option_to_list}
use Rattle.rdx_lang.specs.PatternView.{Slot, slot_of, items_of}
use Rattle.rdx_lang.specs.declared.pattern.Item.{Item}
use Rattle.rdx_defs.proofs.Closing.{shut, turned, twice, slots-closed}
use Rattle.rdx_defs.proofs.metafunctions.readings.closed_items.Goals as goal

pub loop-item-init : goal.loop-item-init
loop-item-init c =
    ap (λ (xs : List Item). map slot_of xs ++ map shut (reverse c.reverse.new.self.items)) c.new-closed.ensures.items
    ∙ twice c.args.items.items c.reverse.new.self.items c.reverse.ensures.items

pub loop-item-preserved : goal.loop-item-preserved
loop-item-preserved c =
    let x = c.in_ok-closed_item.field-0 in
    let ys = map slot_of c.loop-item.closed.items in
    let rest = map shut (reverse c.pop.new.self.items) in
    let e : c.loop-item.items.items ≡ c.pop.new.self.items ++ c.in-Some.item ∷ [] =
    c.pop.ensures.items ∙ ap (λ (o : Option Item). c.pop.new.self.items ++ option_to_list o) c.in-Some.is in
    let p : c.push.new.self.items ≡ c.loop-item.closed.items ++ x ∷ [] = c.in_ok-push.ensures.items in
    let s : slot_of x ≡ shut c.in-Some.item = c.in_ok-closed_item.ensures in
    ap (λ (xs : List Item). map slot_of xs ++ rest) p
    ∙ ap (λ (zs : List Slot). zs ++ rest) (map-append slot_of c.loop-item.closed.items (x ∷ []))
    ∙ append_assoc ys (slot_of x ∷ []) rest
    ∙ ap (λ (z : Slot). ys ++ z ∷ rest) s
    ∙ ap (λ (zs : List Slot). ys ++ zs) (sym (turned c.pop.new.self.items c.loop-item.items.items c.in-Some.item e))
    ∙ c.loop-item.invariant

pub returns : goal.returns
returns c =
    let ys = map slot_of c.loop-item.closed.items in
    let e : c.loop-item.items.items ≡ [] = grind (arith, common_steps) in
    ap items_of (sym (append-nil ys) ∙ ap (λ (xs : List Item). ys ++ map shut (reverse xs)) (sym e) ∙ c.loop-item.invariant)
    ∙ slots-closed c.args.items.items
