use Rattle.std.proofs.Common.{ap, sym, ◌∙◌, map, ◌++◌, ◌+◌, take, drop}
use Rattle.rdx_patterns.specs.Inside.Slots.{unnamed_slot, changed_slot}
use Rattle.rdx_lang.specs.PatternView.{pattern_of, slot_of, items_of}
use Rattle.rdx_patterns.proofs.CrossedItems.{put-around, take-rest}
use Rattle.rdx_patterns.proofs.crosses.alternatives.changed_at.Goals as goal

pub returns : goal.returns
returns c =
    let p = put-around slot_of (pattern_of c.args.changed) c.args.items.now c.args.place c.index-items-place.result c.requires c.index-items-place.is in
    let r = take-rest c.args.items.now (c.args.place + 1) in
    let n = c.new-all.ensures.items in
    let a = c.in_ok-add_unnamed.ensures in
    let b = c.in_ok-add_in_place.ensures in
    let d = c.in_ok-add_unnamed-2.ensures in
    ap items_of (d
    ∙ ap (λ xs. map slot_of c.add_in_place.new.out.items ++ map unnamed_slot (map slot_of xs)) r
    ∙ ap (λ ss. ss ++ map unnamed_slot (map slot_of (drop (c.args.place + 1) c.args.items.now)))
    (b ∙ ap (λ ss. ss ++ changed_slot (pattern_of c.args.changed) (slot_of c.index-items-place.result))
    (a ∙ ap (λ xs. map slot_of xs ++ map unnamed_slot (map slot_of (take c.args.place c.args.items.now))) n)))
    ∙ sym p
