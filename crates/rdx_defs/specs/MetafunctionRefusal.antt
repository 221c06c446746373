-- When a form of a metafunction is refused.
use Rattle.std.specs.Prelude.{ℕ, List, Option, option_map}
use Rattle.rdx_sexp.specs.Sexp.{Sexp}
use Rattle.rdx_patterns.specs.Refusal.{Refusal}
use Rattle.rdx_defs.specs.MetafunctionForms.{MetafunctionForm, metafunction_form}
use Rattle.rdx_defs.specs.MetafunctionStands.{metafunction_stands}
use Rattle.rdx_relations.specs.LanguageRefusal.{refusal_over}
use Rattle.rdx_templates.specs.Scope.{Scope}

-- the refusal of a datum with these parts as a metafunction in this scope, over the nonterminals ns
abbrev pub metafunction_refusal_by : Scope → List (List ℕ) → Sexp → Option MetafunctionForm → Option Refusal
metafunction_refusal_by S ns d o = refusal_over S ns (option_map (λ f. f.language) o) (metafunction_stands S ns d o)

-- the refusal of a datum so
abbrev pub metafunction_refusal : Scope → List (List ℕ) → Sexp → Option Refusal
metafunction_refusal S ns d = metafunction_refusal_by S ns d (metafunction_form d)
