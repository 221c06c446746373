use Rattle.std.proofs.Common.{arith, ◌≡◌, length, refl, sym, ◌∙◌, ap, subst}
use Rattle.rdx_term.specs.View.{tree_of}
use Rattle.rdx_lang.specs.Bindings.{Value, Binding, one}
use Rattle.rdx_lang.specs.BindingView.{value_of}
use Rattle.rdx_lang.proofs.ValueEquations.{value_one}
use Rattle.rdx_lang.specs.Members.{In}
use Rattle.rdx_lang.specs.Shown.{binding_of}
use Rattle.rdx_direct.proofs.WantedLaws.{only_binding, part_size}
use Rattle.rdx_direct.proofs.named.part_nodes.Goals as goal

pub returns-in-One : goal.returns-in-One
returns-in-One c w g p i o =
    let x = c.args.name.now in
    let b = c.index-given-0.result in
    let l : length c.args.given.now ≡ 1 = omega arith in
    let e : g ≡ binding_of b = only_binding c.args.given.now b g l c.index-given-0.is i in
    let there : In (x, value_of c.in_ok-context.field-0.now) (binding_of b).pairs = (c.in_ok-context.ensures.bound (value_of c.in_ok-context.field-0.now)).0 refl in
    let named : In (x, one (tree_of c.in-One.context)) g.pairs = subst (λ (d : Binding). In (x, one (tree_of c.in-One.context)) d.pairs) (sym e)
    (subst (λ (v : Value). In (x, v) (binding_of b).pairs) (ap value_of c.in-One.is ∙ value_one c.in-One.context) there) in
    part_size (tree_of c.args.t.now) (tree_of c.in-One.context) w c.saturating_sub.result p (o (one (tree_of c.in-One.context)) named) (omega arith)
