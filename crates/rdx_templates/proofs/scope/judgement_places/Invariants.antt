use Rattle.std.proofs.Common.{drop}
use Rattle.std.specs.BTreeMap.{get_by_text}
use Rattle.rdx_lang.specs.Model.Places.{FindsPlaces}
use Rattle.rdx_templates.proofs.scope.judgement_places.Given as goal

abbrev pub invariant-loop-place : goal.invariant-loop-place
invariant-loop-place l = FindsPlaces (λ j. j.0) (get_by_text l.places) l.place (drop l.place l.judgements)
