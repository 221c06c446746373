use Rattle.std.proofs.Common.{◌≡◌, ◌∙◌, ℕ, Some, length, map, sym, ap, arith}
use Rattle.rdx_lang.specs.Bindings.{many, values}
use Rattle.rdx_lang.specs.BindingView.{value_of}
use Rattle.rdx_lang.proofs.ValueEquations.{value_many}
use Rattle.rdx_opened.specs.Picking.{turns_in}
use Rattle.rdx_opened.proofs.Picking.{count_values}
use Rattle.rdx_opened.proofs.parts.turns_in.Goals as goal

pub returns-in-Many : goal.returns-in-Many
returns-in-Many c =
    let n : c.len.result ≡ length c.in-Many.values.items = omega arith in
    let e : value_of c.args.value.now ≡ many (values (map value_of c.in-Many.values.items)) = ap value_of c.in-Many.is
    ∙ value_many c.in-Many.values in
    ap (λ (k : ℕ). Some k) (n ∙ sym (count_values c.in-Many.values.items)) ∙ sym (ap (λ v. turns_in (Some v)) e)
