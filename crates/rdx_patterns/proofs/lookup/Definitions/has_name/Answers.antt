use Rattle.std.proofs.Common.{map, ◌∙◌}
use Rattle.rdx_lang.specs.PatternView.{definition_of}
use Rattle.rdx_lang.specs.declared.pattern.Ref.TheVariants.{Nt}
use Rattle.rdx_patterns.proofs.DefinitionKeys.{found-defined}
use Rattle.rdx_patterns.proofs.lookup.Definitions.has_name.Goals as goal

pub returns : goal.returns
returns c = c.is_some.ensures ∙ found-defined (map definition_of c.args.self.now) (Nt c.args.name.now) c.find_named.result c.find_named.ensures
