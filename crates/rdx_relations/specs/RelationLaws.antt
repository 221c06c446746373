-- What follows from the definitions of relations, stated for the contracts of the module of laws.
use Rattle.std.specs.Prelude.{◌≡◌, ℕ, List, ◌⊎◌, None, IsSome, Ok, Err}
use Rattle.rdx_sexp.specs.Sexp.{Sexp}
use Rattle.rdx_lang.specs.ProgramView.{relation_of}
use Rattle.rdx_lang.specs.declared.program.Relation.{Relation}
use Rattle.rdx_patterns.specs.Refusal.{refusal_of}
use Rattle.rdx_patterns.specs.declared.shape.fault.DefFault.TheVariants.{Refused}
use Rattle.rdx_patterns.specs.declared.shape.fault.DefRefusal.{DefRefusal}
use Rattle.rdx_relations.specs.Answers.{ReadsRelation}
use Rattle.rdx_relations.specs.RelationForms.{relation_form}
use Rattle.rdx_relations.specs.RelationRefusal.{relation_refusal}
use Rattle.rdx_templates.specs.Scope.{Scope}

-- ---- with a given name, in a given scope, over given nonterminals

-- a datum is one relation at most
abbrev pub OneRelation : Type 0
OneRelation = (S : Scope) (ns : List (List ℕ)) (x : List ℕ) (d : Sexp) (r q : Relation) → ReadsRelation S ns x d (Ok r) → ReadsRelation S ns x d (Ok q) → relation_of r ≡ relation_of q

-- a datum has one refusal as a relation at most
abbrev pub OneRelationRefusal : Type 0
OneRelationRefusal =
    (S : Scope) (ns : List (List ℕ)) (x : List ℕ) (d : Sexp) (r q : DefRefusal) → ReadsRelation S ns x d (Err (Refused r)) → ReadsRelation S ns x d (Err (Refused q)) → refusal_of r ≡ refusal_of q

-- a datum that is a relation isn't refused as one
abbrev pub NeverBothRelation : Type 0
NeverBothRelation = (S : Scope) (ns : List (List ℕ)) (x : List ℕ) (d : Sexp) (r : Relation) (q : DefRefusal) → ReadsRelation S ns x d (Ok r) → ReadsRelation S ns x d (Err (Refused q)) → ⊥

-- each datum has the parts of a relation and passes the checks, or is refused as one
abbrev pub NeverNeitherRelation : Type 0
NeverNeitherRelation = (S : Scope) (ns : List (List ℕ)) (d : Sexp) → ((relation_refusal S ns d ≡ None) × IsSome (relation_form d)) ⊎ IsSome (relation_refusal S ns d)
