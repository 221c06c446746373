-- The judgement that a form stands for, over the nonterminals ns of its language. A form that is refused has one too, which counts for nothing.
use Rattle.std.specs.Prelude.{ℕ, List, [], ◌∷◌, Option, Some, None, option_map}
use Rattle.rdx_sexp.specs.Sexp.{Sexp}
use Rattle.rdx_lang.specs.Patterns.{Pattern, seq}
use Rattle.rdx_lang.specs.Programs.{Mode, JudgementRule, Judgement}
use Rattle.rdx_patterns.specs.Parts.{text_of}
use Rattle.rdx_parts.specs.Arguments.{in_conclusion, in_premise, patterns_in, templates_in}
use Rattle.rdx_parts.specs.ExtraForms.{of_rule}
use Rattle.rdx_parts.specs.ExtraReading.{extras_reading, items_reading, list_reading, templates_reading}
use Rattle.rdx_parts.specs.Headed.{Headed}
use Rattle.rdx_defs.specs.JudgementForms.{RuleForm, rule_form, own_rule, JudgementForm, judgement_in, contract_form, own_mode}
use Rattle.rdx_defs.specs.JudgementStands.{rule_arguments, bound_by_inputs, bound_by_rule}
use Rattle.rdx_defs.specs.MetafunctionReading.{closed_items, text_in}
use Rattle.rdx_templates.specs.Scope.{Scope}
use Rattle.rdx_parts.specs.StandChecks.{label}
use Rattle.rdx_parts.specs.Stands.{names_bound}

-- the rule of a form, by the mode of its judgement
abbrev pub rule_reading : Scope → List (List ℕ) → Option Mode → RuleForm → JudgementRule
rule_reading S ns m r = record {
  name = option_map label r.name;
  inputs = list_reading ns (patterns_in (rule_arguments m r));
  extras = extras_reading of_rule S ns (bound_by_inputs ns m r) r.premises;
  outputs = templates_reading S (names_bound (bound_by_rule S ns m r)) (templates_in (rule_arguments m r));
}

-- the same before the rules behind it
abbrev pub with_rule : Scope → List (List ℕ) → Option Mode → Option RuleForm → List JudgementRule → List JudgementRule
with_rule S ns m None rs = rs
with_rule S ns m (Some r) rs = rule_reading S ns m r ∷ rs

-- the rules of data, those of the judgement of this name
abbrev pub rules_reading : Scope → List (List ℕ) → Option Sexp → Option Mode → List Sexp → List JudgementRule
rules_reading S ns j m [] = []
rules_reading S ns j m (d ∷ ds) = with_rule S ns m (own_rule j (rule_form d)) (rules_reading S ns j m ds)

-- the pattern of lists by these patterns, each closed, so that equal names in two of them do not ask for equal terms
abbrev pub closed_list : List (List ℕ) → List Sexp → Pattern
closed_list ns ds = seq (closed_items (items_reading ns ds))

-- the contract of a form by its mode, of the list of inputs and of that of outputs
abbrev pub contract_reading : List (List ℕ) → Option Mode → Headed → Pattern × Pattern
contract_reading ns m h =
    (closed_list ns (patterns_in (in_conclusion m h.arguments)), closed_list ns (patterns_in (in_premise m h.arguments)))

-- a mode, where there is one
abbrev pub mode_or_none : Option Mode → Mode
mode_or_none None = []
mode_or_none (Some m) = m

-- the judgement that a form with these parts stands for
abbrev pub judgement_reading : Scope → List (List ℕ) → JudgementForm → Judgement
judgement_reading S ns f = record {
  name = text_in (judgement_in f);
  language = text_of f.language;
  mode = mode_or_none (own_mode f);
  contract = option_map (contract_reading ns (own_mode f)) (contract_form f);
  rules = rules_reading S ns (judgement_in f) (own_mode f) f.rules;
}
