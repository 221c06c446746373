use Rattle.std.proofs.Common.{map, ◌∙◌}
use Rattle.rdx_lang.specs.PatternView.{definition_of}
use Rattle.rdx_patterns.proofs.DefinitionKeys.{found-defined}
use Rattle.rdx_patterns.proofs.lookup.Definitions.has.Goals as goal

pub returns : goal.returns
returns c = c.is_some.ensures ∙ found-defined (map definition_of c.args.self.now) c.args.nonterminal.now c.find.result c.find.ensures
