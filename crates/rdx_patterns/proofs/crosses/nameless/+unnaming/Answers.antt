use Rattle.std.proofs.Common.{ap, sym, ◌∙◌, map}
use Rattle.rdx_lang.specs.Crosses as model
use Rattle.rdx_lang.specs.Patterns.{seq}
use Rattle.rdx_patterns.specs.Inside.Slots.{unnamed_slot}
use Rattle.rdx_lang.specs.PatternView.{pattern_of, slot_of, items_of}
use Rattle.rdx_lang.proofs.PatternEquations.{pattern_seq}
use Rattle.rdx_patterns.proofs.CrossedItems.{unnamed-slots}
use Rattle.rdx_patterns.proofs.crosses.nameless.+unnaming.Goals as goal

pub unnamed-returns-in_ok-unnamed_items-in-Seq : goal.unnamed-returns-in_ok-unnamed_items-in-Seq
unnamed-returns-in_ok-unnamed_items-in-Seq t c =
    let e = c.in_ok-unnamed_items-in-Seq.ensures in
    let d = c.deref-in-Seq.ensures.value in
    pattern_seq c.in_ok-unnamed_items-in-Seq.field-0
    ∙ ap seq (ap items_of (e ∙ ap (λ xs. map unnamed_slot (map slot_of xs)) d) ∙ sym (unnamed-slots (map slot_of c.in-Seq.items.items)))
    ∙ sym (ap model.unnamed (ap pattern_of c.in-Seq.is ∙ pattern_seq c.in-Seq.items))
