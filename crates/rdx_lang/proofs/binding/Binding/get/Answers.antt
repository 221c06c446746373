use Rattle.rdx_lang.specs.Shown.{binding_of}
use Rattle.rdx_lang.proofs.NamePlaces.{found_exactly, none-gap, value_at-place}
use Rattle.rdx_lang.proofs.binding.Binding.get.Goals as goal

pub returns-in-Ok-clause-value : goal.returns-in-Ok-clause-value
returns-in-Ok-clause-value c = value_at-place _ _ c.in-Ok.place c.index.result.now c.args.self.now.ascending c.in-Ok.ensures.there c.index.ensures

pub returns-in-Ok-clause-bound : goal.returns-in-Ok-clause-bound
returns-in-Ok-clause-bound c = found_exactly (binding_of c.args.self.now) _ _ c.args.self.now.ascending (returns-in-Ok-clause-value c)

pub returns-in-Err-clause-value : goal.returns-in-Err-clause-value
returns-in-Err-clause-value c = none-gap _ _ c.in-Err.field-0 c.in-Err.ensures.gap

pub returns-in-Err-clause-bound : goal.returns-in-Err-clause-bound
returns-in-Err-clause-bound c = found_exactly (binding_of c.args.self.now) _ _ c.args.self.now.ascending (returns-in-Err-clause-value c)
