use Rattle.rdx_patterns.specs.Readable.{IsReadable}
use Rattle.rdx_templates.specs.Scope.{scope_of}
use Rattle.rdx_parts.specs.PartsHave.{IsReadableTaken}
use Rattle.rdx_relations.proofs.InheritedParts.{premise-has}
use Rattle.rdx_relations.proofs.ReadableParts.{readable-inherited}
use Rattle.rdx_defs.proofs.judgements.stands.question_stands.Goals as goal

pub add_held-requires : goal.add_held-requires
add_held-requires c = premise-has IsReadable IsReadableTaken readable-inherited (scope_of c.args.scope.now) c.args.premise.now c.requires
