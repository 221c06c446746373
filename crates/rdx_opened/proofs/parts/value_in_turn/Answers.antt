use Rattle.std.proofs.Common.{◌≡◌, ◌∙◌, Some, map, sym, ap}
use Rattle.rdx_lang.specs.Bindings.{many, values}
use Rattle.rdx_lang.specs.BindingView.{value_of}
use Rattle.rdx_lang.proofs.ValueEquations.{value_many}
use Rattle.rdx_opened.specs.Picking.{nth_value, turn_value}
use Rattle.rdx_opened.proofs.Picking.{nth_found}
use Rattle.rdx_opened.proofs.parts.value_in_turn.Goals as goal

pub returns-in-Many : goal.returns-in-Many
returns-in-Many c =
    let h = c.get.ensures.lookup in
    let e : value_of c.args.value.now ≡ many (values (map value_of c.in-Many.values.items)) = ap value_of c.in-Many.is
    ∙ value_many c.in-Many.values in
    nth_found c.deref.result.now c.args.turn c.get.result h.1 h.3
    ∙ ap (λ vs. nth_value (values (map value_of vs)) c.args.turn) c.deref.ensures.value
    ∙ sym (ap (λ v. turn_value (Some v) c.args.turn) e)
