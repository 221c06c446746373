use Rattle.std.proofs.Common.{◌≡◌, ◌∙◌, sym, ap}
use Rattle.std.proofs.lemmas.Result.{IfOk-weaker}
use Rattle.rdx_templates.specs.Bound.{Bound}
use Rattle.rdx_templates.specs.Scope.{scope_of}
use Rattle.rdx_parts.specs.Outlines.{bound_by_taken}
use Rattle.rdx_parts.specs.ByNames.{extras_reading}
use Rattle.rdx_parts.specs.PartViews.{branch_of}
use Rattle.rdx_parts.proofs.NamesBound.{extras-reads}
use Rattle.rdx_parts.proofs.stands.readings.read_extras_of.Goals as goal

pub returns : goal.returns
returns c =
    let ns = c.args.names.now in
    let S = scope_of c.args.scope.now in
    let b = branch_of c.args.branch in
    IfOk-weaker c.read_extras.result _ _
    (λ _ e. e ∙ ap (λ (es : Bound). extras_reading b.place S ns es b.extras) c.in_ok-bound.ensures
    ∙ sym (extras-reads S ns b.place (bound_by_taken ns b.takes) b.extras)) c.read_extras.ensures
