use Rattle.std.proofs.Common.{Some, sym, ◌∙◌, ap}
use Rattle.rdx_lang.specs.BindingView.{value_of}
use Rattle.rdx_lang.specs.PatternView.{pattern_of}
use Rattle.rdx_lang.proofs.PatternEquations.{pattern_named}
use Rattle.rdx_lang.proofs.ValueEquations.{value_one}
use Rattle.rdx_why.proofs.along.named_context.Goals as goal

pub returns-in-One : goal.returns-in-One
returns-in-One c = (
  c.in-Named.x,
  pattern_of c.in-Named.field-1.value,
  ap pattern_of c.in-Named.is ∙ pattern_named c.in-Named.x c.in-Named.field-1,
  sym c.in_ok-context-in-Named.ensures.value ∙ ap Some (ap value_of c.in-One.is ∙ value_one c.in-One.context),
)
