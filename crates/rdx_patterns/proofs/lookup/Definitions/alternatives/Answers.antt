use Rattle.std.proofs.Common.{map}
use Rattle.rdx_lang.specs.PatternView.{definition_of}
use Rattle.rdx_lang.specs.declared.pattern.Ref.TheVariants.{Nt}
use Rattle.rdx_patterns.proofs.DefinitionKeys.{nothing-among}
use Rattle.rdx_patterns.proofs.lookup.Definitions.alternatives.Goals as goal

pub returns-in-None : goal.returns-in-None
returns-in-None c = nothing-among (map definition_of c.args.self.now) (Nt c.args.name.now) c.find_named.result c.find_named.ensures c.in-None.is
