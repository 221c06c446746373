-- What the readers of relations answer.
use Rattle.std.specs.Prelude.{◌≡◌, ℕ, List, Some, None, Result, Ok, Err}
use Rattle.rdx_sexp.specs.Sexp.{Sexp}
use Rattle.rdx_lang.specs.ProgramView.{relation_of}
use Rattle.rdx_lang.specs.declared.program.Relation.{Relation}
use Rattle.rdx_patterns.specs.Refusal.{refusal_of}
use Rattle.rdx_patterns.specs.declared.shape.fault.DefFault.{DefFault}
use Rattle.rdx_patterns.specs.declared.shape.fault.DefFault.TheVariants.{Refused, NoMemory}
use Rattle.rdx_relations.specs.RelationForms.{RelationForm, relation_form}
use Rattle.rdx_relations.specs.RelationReading.{relation_reading}
use Rattle.rdx_relations.specs.RelationRefusal.{relation_refusal}
use Rattle.rdx_templates.specs.Scope.{Scope}

-- the relation is the one of this name that a form with these parts stands for, in this scope, over the nonterminals ns
pub record IsRelation (S : Scope) (ns : List (List ℕ)) (x : List ℕ) (d : Sexp) (r : Relation) : Type 0 where
  pub passes : relation_refusal S ns d ≡ None
  pub parts : RelationForm
  pub is_form : relation_form d ≡ Some parts
  pub is_read : relation_of r ≡ relation_reading S ns x parts

-- the datum is refused so as a relation, unless memory ran out
abbrev pub IsRelationFault : Scope → List (List ℕ) → Sexp → DefFault → Type 0
IsRelationFault S ns d (Refused r) = relation_refusal S ns d ≡ Some (refusal_of r)
IsRelationFault S ns d NoMemory = Unit {0}

-- the datum is this relation in this scope, over the nonterminals ns, or it is refused so
abbrev pub ReadsRelation : Scope → List (List ℕ) → List ℕ → Sexp → Result Relation DefFault → Type 0
ReadsRelation S ns x d (Ok r) = IsRelation S ns x d r
ReadsRelation S ns x d (Err e) = IsRelationFault S ns d e
