use Rattle.std.proofs.Common.{◌∙◌, Some, sym, ap, subst}
use Rattle.std.specs.Prelude.{option_map}
use Rattle.rdx_templates.specs.Scope.{scope_of}
use Rattle.rdx_parts.specs.Arguments.{Arguments}
use Rattle.rdx_parts.specs.PartViews.{headed_of}
use Rattle.rdx_parts.specs.PartsHave.{AreReadable, PremiseHas, readable}
use Rattle.rdx_parts.proofs.stands.collecting.add_held.Goals as goal

pub add_arguments-requires : goal.add_arguments-requires
add_arguments-requires c =
    let h : PremiseHas (scope_of c.args.scope.now) readable (Some (headed_of c.in-Some.premise)) =
    subst (PremiseHas (scope_of c.args.scope.now) readable) (sym c.headed_list.ensures ∙ ap (option_map headed_of) c.in-Some.is) c.requires in
    subst (λ (a : Arguments). AreReadable a.items) (sym c.premise_arguments.ensures) h.1.readable
