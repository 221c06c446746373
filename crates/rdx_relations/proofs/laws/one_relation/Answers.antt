use Rattle.rdx_relations.proofs.OneForm.{one_relation, one_relation_refusal, never_both_relation, never_neither_relation}
use Rattle.rdx_relations.proofs.laws.one_relation.Goals as goal

pub returns-clause-relation : goal.returns-clause-relation
returns-clause-relation c = one_relation

pub returns-clause-refusal : goal.returns-clause-refusal
returns-clause-refusal c = one_relation_refusal

pub returns-clause-never_both : goal.returns-clause-never_both
returns-clause-never_both c = never_both_relation

pub returns-clause-never_neither : goal.returns-clause-never_neither
returns-clause-never_neither c = never_neither_relation
