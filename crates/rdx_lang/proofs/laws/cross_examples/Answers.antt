use Rattle.std.proofs.Common.{refl}
use Rattle.rdx_lang.proofs.CrossExamples.{crosses_matter}
use Rattle.rdx_lang.proofs.laws.cross_examples.Goals as goal

pub returns-clause-cross_of_sums : goal.returns-clause-cross_of_sums
returns-clause-cross_of_sums c = refl

pub returns-clause-other_has_no_hole : goal.returns-clause-other_has_no_hole
returns-clause-other_has_no_hole c = refl

pub returns-clause-repetition_is_split : goal.returns-clause-repetition_is_split
returns-clause-repetition_is_split c = refl

pub returns-clause-nested_are_split : goal.returns-clause-nested_are_split
returns-clause-nested_are_split c = refl

pub returns-clause-no_places : goal.returns-clause-no_places
returns-clause-no_places c = refl

pub returns-clause-added_in_order : goal.returns-clause-added_in_order
returns-clause-added_in_order c = refl

pub returns-clause-without_is_before : goal.returns-clause-without_is_before
returns-clause-without_is_before c = refl

pub returns-clause-crosses_matter : goal.returns-clause-crosses_matter
returns-clause-crosses_matter c = crosses_matter
