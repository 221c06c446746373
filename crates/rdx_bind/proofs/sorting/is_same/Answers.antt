use Rattle.std.proofs.Common.{◌∙◌, sym}
use Rattle.rdx_lang.specs.Shown.{binding_of}
use Rattle.rdx_bind.proofs.SameBindings.{bindings_alike}
use Rattle.rdx_bind.proofs.sorting.is_same.Goals as goal

pub returns : goal.returns
returns c =
    let k = bindings_alike (binding_of c.args.a.now) (binding_of c.args.b.now) in
    (λ h. k.0 (sym c.compares_equal.ensures ∙ h), λ e. c.compares_equal.ensures ∙ k.1 e)
