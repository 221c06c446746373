-- A datum is one relation at most, or it has one refusal as one.
use Rattle.std.proofs.Common.{◌≡◌, Option, Some, None, refl, sym, ap, ◌∙◌, ◌⊎◌, inl, inr}
use Rattle.std.specs.Prelude.{IsSome}
use Rattle.rdx_patterns.specs.Refusal.{Refusal, unnamed, refusal_of}
use Rattle.rdx_patterns.specs.declared.shape.fault.DefKind.TheVariants.{Shape}
use Rattle.rdx_relations.specs.RelationForms.{relation_form}
use Rattle.rdx_relations.specs.RelationLaws.{OneRelation, OneRelationRefusal, NeverBothRelation, NeverNeitherRelation}
use Rattle.rdx_relations.specs.RelationReading.{relation_reading}
use Rattle.rdx_relations.specs.RelationRefusal.{relation_refusal}
use Rattle.rdx_relations.proofs.FormRefusals.{no-relation}
use Rattle.rdx_templates.proofs.OneReading.{same_some, not_some}

-- what is not refused is there, where whatever is not there is refused
pub there_or_refused : {A : Type 0} (o : Option A) (r : Option Refusal) (q : Refusal) → (o ≡ None → r ≡ Some q) → ((r ≡ None) × IsSome o) ⊎ IsSome r
there_or_refused o (Some p) q h = inr refl
there_or_refused (Some x) None q h = inl (refl, refl)
there_or_refused None None q h = absurd (let e = h refl in cc)

-- ---- relations

pub one_relation : OneRelation
one_relation S ns x d r q a b = a.is_read ∙ ap (relation_reading S ns x) (same_some (relation_form d) a.parts b.parts a.is_form b.is_form) ∙ sym b.is_read

pub one_relation_refusal : OneRelationRefusal
one_relation_refusal S ns x d r q e f = same_some (relation_refusal S ns d) (refusal_of r) (refusal_of q) e f

pub never_both_relation : NeverBothRelation
never_both_relation S ns x d r q a e = not_some (relation_refusal S ns d) (refusal_of q) a.passes e

pub never_neither_relation : NeverNeitherRelation
never_neither_relation S ns d = there_or_refused (relation_form d) (relation_refusal S ns d) (unnamed Shape d) (no-relation S ns d)
