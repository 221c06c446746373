use Rattle.std.proofs.Common.{◌≡◌, drop}
use Rattle.rdx_relations.specs.RelationReading.{first_name}
use Rattle.rdx_relations.proofs.relations.readings.first_name.Given as goal

abbrev pub invariant-loop-d : goal.invariant-loop-d
invariant-loop-d l = first_name l.extras ≡ first_name (drop l.d-index l.extras)
