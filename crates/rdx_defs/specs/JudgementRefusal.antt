-- When a form of a judgement is refused, and when a premise by itself is.
use Rattle.std.specs.Prelude.{ℕ, List, [], ◌∷◌, ◌++◌, Option, Some, None, option_map}
use Rattle.rdx_sexp.specs.Sexp.{Sexp}
use Rattle.rdx_patterns.specs.PatternChecks as patterns
use Rattle.rdx_patterns.specs.Refusal.{Refusal}
use Rattle.rdx_parts.specs.Headed.{headed}
use Rattle.rdx_defs.specs.JudgementForms.{JudgementForm, judgement_form}
use Rattle.rdx_defs.specs.JudgementStands.{judgement_stands}
use Rattle.rdx_relations.specs.LanguageRefusal.{refusal_over}
use Rattle.rdx_templates.specs.Scope.{Scope}
use Rattle.rdx_parts.specs.StandRefusal.{stands_refusal}
use Rattle.rdx_parts.specs.Stands.{Stand, template, names_bound, bound_by_premise, held_stands}

-- the refusal of a datum with these parts as a judgement in this scope, over the nonterminals ns
abbrev pub judgement_refusal_by : Scope → List (List ℕ) → Sexp → Option JudgementForm → Option Refusal
judgement_refusal_by S ns d o = refusal_over S ns (option_map (λ f. f.language) o) (judgement_stands S ns d o)

-- the refusal of a datum so
abbrev pub judgement_refusal : Scope → List (List ℕ) → Sexp → Option Refusal
judgement_refusal S ns d = judgement_refusal_by S ns d (judgement_form d)

-- ---- premises by themselves

-- a template behind symbols that bind names, where there is one
abbrev pub result_stands : List patterns.Bound → Option Sexp → List Stand
result_stands bs None = []
result_stands bs (Some t) = template (names_bound bs) t ∷ []

-- what stands in d, which has to be a premise before which no name is bound, and in a template behind it, which sees its names
abbrev pub lone_premise_stands : Scope → List (List ℕ) → Sexp → Option Sexp → List Stand
lone_premise_stands S ns d t = held_stands S ns [] d (headed d) ++ result_stands (bound_by_premise S ns (headed d)) t

-- the refusal of these
abbrev pub premise_refusal : Scope → List (List ℕ) → Sexp → Option Sexp → Option Refusal
premise_refusal S ns d t = stands_refusal S ns (lone_premise_stands S ns d t)
