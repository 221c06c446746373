-- When a form of a relation is refused.
use Rattle.std.specs.Prelude.{ℕ, List, Option, option_map}
use Rattle.rdx_sexp.specs.Sexp.{Sexp}
use Rattle.rdx_patterns.specs.Refusal.{Refusal}
use Rattle.rdx_relations.specs.LanguageRefusal.{refusal_over}
use Rattle.rdx_relations.specs.RelationForms.{RelationForm, relation_form}
use Rattle.rdx_relations.specs.RelationStands.{relation_stands}
use Rattle.rdx_templates.specs.Scope.{Scope}

-- the refusal of a datum with these parts as a relation in this scope, over the nonterminals ns
abbrev pub relation_refusal_by : Scope → List (List ℕ) → Sexp → Option RelationForm → Option Refusal
relation_refusal_by S ns d o = refusal_over S ns (option_map (λ r. r.language) o) (relation_stands S ns d o)

-- the refusal of a datum so
abbrev pub relation_refusal : Scope → List (List ℕ) → Sexp → Option Refusal
relation_refusal S ns d = relation_refusal_by S ns d (relation_form d)
