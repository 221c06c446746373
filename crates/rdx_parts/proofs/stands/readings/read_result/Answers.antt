use Rattle.std.proofs.Common.{◌≡◌, ◌∙◌, ap}
use Rattle.std.proofs.lemmas.Result.{IfOk-weaker}
use Rattle.rdx_templates.specs.Bound.{Bound}
use Rattle.rdx_templates.specs.Scope.{scope_of}
use Rattle.rdx_templates.specs.TemplateReading.{template_reading}
use Rattle.rdx_parts.specs.Outlines.{bound_by_branch}
use Rattle.rdx_parts.specs.PartViews.{branch_of}
use Rattle.rdx_parts.specs.Stands.{names_bound}
use Rattle.rdx_parts.proofs.NamesBound.{branch-names}
use Rattle.rdx_parts.proofs.stands.readings.read_result.Goals as goal

pub returns : goal.returns
returns c =
    let ns = c.args.names.now in
    let S = scope_of c.args.scope.now in
    let b = branch_of c.args.branch in
    let all : c.in_ok-all.all ≡ names_bound (bound_by_branch S ns b) = c.in_ok-all.ensures ∙ branch-names S ns b in
    IfOk-weaker c.read_datum.result _ _
    (λ _ e. e ∙ ap (λ (es : Bound). template_reading S es b.result) all) c.read_datum.ensures
