use Rattle.std.proofs.Common.{◌∙◌, ap, option_map}
use Rattle.std.specs.Prelude.{not}
use Rattle.rdx_lang.specs.ProgramView.{premise_of}
use Rattle.rdx_lang.specs.TemplateView.{template_of}
use Rattle.rdx_forms.specs.HoldsForms.{lone_parts}
use Rattle.rdx_forms.specs.KnownView.{known_of}
use Rattle.rdx_forms.specs.Inside.PartViews.{holds_of}
use Rattle.rdx_forms.proofs.HoldsChecks.{some-image, holds-tested}
use Rattle.rdx_forms.proofs.holds_forms.read_holds_test.Goals as goal

pub returns-clause-asks : goal.returns-clause-asks
returns-clause-asks c =
    let q = c.in_ok-premise.field-0 in
    holds-tested (known_of c.args.known.now) c.args.form.now
    (some-image holds_of c.lone_parts.result (lone_parts c.args.form.now) c.lone_parts.ensures (c.is_none.ensures ∙ ap not c.if-is_none.false))
    (premise_of q.premise) (option_map template_of q.result) c.in_ok-premise.ensures.asks
