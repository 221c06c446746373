use Rattle.std.proofs.Common.{◌≡◌, ◌++◌, drop}
use Rattle.std.specs.Prelude.{flat_map}
use Rattle.rdx_patterns.specs.Ends.{ends_in}
use Rattle.rdx_relations.specs.Inside.FormViews.{relation_form_of}
use Rattle.rdx_relations.specs.RelationEnds as model
use Rattle.rdx_relations.proofs.relations.ends.expanded_ends.Given as goal

abbrev pub invariant-loop-d : goal.invariant-loop-d
invariant-loop-d l = l.ends.items ++ flat_map ends_in (drop l.d-index l.form.cases.now) ≡ model.expanded_ends (relation_form_of l.form)
