-- What is answered for a relation without shorthand.
use Rattle.std.specs.Prelude.{◌≡◌, ◌++◌, ℕ, List, [], Option, Some, None, Result, Ok, Err}
use Rattle.rdx_sexp.specs.Sexp.{Sexp}
use Rattle.rdx_lang.specs.ProgramView.{relation_of}
use Rattle.rdx_lang.specs.declared.program.Relation.{Relation}
use Rattle.rdx_patterns.specs.Refusal.{Refusal, refusal_of}
use Rattle.rdx_patterns.specs.declared.shape.fault.DefFault.{DefFault}
use Rattle.rdx_patterns.specs.declared.shape.fault.DefFault.TheVariants.{Refused, NoMemory}
use Rattle.rdx_relations.specs.LanguageRefusal.{refusal_over}
use Rattle.rdx_relations.specs.RelationForms.{RelationForm}
use Rattle.rdx_relations.specs.RelationReading.{expanded_reading}
use Rattle.rdx_relations.specs.RelationStands.{expanded_stands, shortcuts_stand}
use Rattle.rdx_templates.specs.Scope.{Scope}

-- the refusal of one with these parts, which was written with these shortcuts
abbrev pub expanded_refusal : Scope → List (List ℕ) → RelationForm → List Sexp → Option Refusal
expanded_refusal S ns r ds = refusal_over S ns (Some r.language) (expanded_stands S ns r ++ shortcuts_stand [] ds)

-- the relation is the one of this name that such parts stand for
pub record IsExpandedRelation (S : Scope) (ns : List (List ℕ)) (x : List ℕ) (r : RelationForm) (ds : List Sexp) (R : Relation) : Type 0 where
  pub passes : expanded_refusal S ns r ds ≡ None
  pub is_read : relation_of R ≡ expanded_reading S ns x r

-- they are refused so, unless memory ran out
abbrev pub IsExpandedFault : Scope → List (List ℕ) → RelationForm → List Sexp → DefFault → Type 0
IsExpandedFault S ns r ds (Refused q) = expanded_refusal S ns r ds ≡ Some (refusal_of q)
IsExpandedFault S ns r ds NoMemory = Unit {0}

-- they are this relation, or are refused so
abbrev pub ReadsExpanded : Scope → List (List ℕ) → List ℕ → RelationForm → List Sexp → Result Relation DefFault → Type 0
ReadsExpanded S ns x r ds (Ok R) = IsExpandedRelation S ns x r ds R
ReadsExpanded S ns x r ds (Err e) = IsExpandedFault S ns r ds e
