-- What stands in a form of a judgement. In a rule the names of the inputs of the conclusion are bound for its premises, and all of them for its
-- outputs, wherever the conclusion is written.
use Rattle.std.specs.Prelude.{ℕ, true, false, not, List, [], ◌∷◌, ◌++◌, Option, Some, None, map, flat_map, codes, if◌then◌else◌}
use Rattle.rdx_sexp.specs.Sexp.{Sexp}
use Rattle.rdx_lang.specs.Programs.{Mode}
use Rattle.rdx_patterns.specs.Occurrences.{occurrences}
use Rattle.rdx_patterns.specs.PatternChecks as patterns
use Rattle.rdx_parts.specs.Arguments.{Arguments, in_conclusion, is_misfit, patterns_in}
use Rattle.rdx_parts.specs.ExtraForms.{of_rule}
use Rattle.rdx_parts.specs.Headed.{Headed, headed}
use Rattle.rdx_defs.specs.JudgementForms.{RuleForm, rule_form, own_rule, OptionForm, JudgementForm, judgement_in, mode_form, own_mode, is_flag, key_text, is_fit_option}
use Rattle.rdx_relations.specs.RelationForms.{is_keyword}
use Rattle.rdx_templates.specs.Scope.{Scope}
use Rattle.rdx_parts.specs.Stands.{Stand, misshaped, judgement, pattern, misfit, named, names_bound, bound_by_patterns, bound_by_extras, arguments_stand, misfits, extras_stand}

-- ---- rules

-- the arguments of a conclusion, by the mode of its form
abbrev pub rule_arguments : Option Mode → RuleForm → Arguments
rule_arguments m r = in_conclusion m r.parts.arguments

-- the symbols that bind names in its inputs
abbrev pub bound_by_inputs : List (List ℕ) → Option Mode → RuleForm → List patterns.Bound
bound_by_inputs ns m r = bound_by_patterns ns (patterns_in (rule_arguments m r))

-- in its inputs and its premises
abbrev pub bound_by_rule : Scope → List (List ℕ) → Option Mode → RuleForm → List patterns.Bound
bound_by_rule S ns m r = bound_by_inputs ns m r ++ bound_by_extras of_rule S ns r.premises

-- what stands in the conclusion of a rule
abbrev pub conclusion_stands : Scope → List (List ℕ) → Option Mode → RuleForm → List Stand
conclusion_stands S ns m r =
    misfits (is_misfit m r.parts.arguments) r.conclusion r.parts.head
    ++ arguments_stand ns [] (names_bound (bound_by_rule S ns m r)) (rule_arguments m r)

-- in its premises
abbrev pub premises_stand : Scope → List (List ℕ) → Option Mode → RuleForm → List Stand
premises_stand S ns m r = extras_stand of_rule S ns (bound_by_inputs ns m r) true r.premises

-- its name, where it has one
abbrev pub name_stands : Option Sexp → List Stand
name_stands None = []
name_stands (Some n) = named false n ∷ []

-- what stands in the rule d by such a mode, as it is written
abbrev pub rule_stands : Scope → List (List ℕ) → Option Mode → Sexp → Option RuleForm → List Stand
rule_stands S ns m d None = misshaped d ∷ []
rule_stands S ns m d (Some r) =
    if r.is_last
    then premises_stand S ns m r ++ name_stands r.name ++ conclusion_stands S ns m r
    else conclusion_stands S ns m r ++ premises_stand S ns m r ++ name_stands r.name

-- what stands in rules of the judgement of this name
abbrev pub rules_stand : Scope → List (List ℕ) → Option Sexp → Option Mode → List Sexp → List Stand
rules_stand S ns j m [] = []
rules_stand S ns j m (d ∷ ds) = rule_stands S ns m d (own_rule j (rule_form d)) ++ rules_stand S ns j m ds

-- ---- options

-- the items of a mode of this judgement that are neither `I` nor `O`
abbrev pub flags_stand : Sexp → List Sexp → List Stand
flags_stand j ds = flat_map (λ d. misfits (not (is_flag d)) d j) ds

-- what stands in a mode
abbrev pub mode_stands : Headed → List Stand
mode_stands h = judgement h.head ∷ flags_stand h.head h.arguments

-- each pattern of a contract stands by itself
abbrev pub lone_patterns : List Sexp → List Stand
lone_patterns ds = map (λ d. pattern [] (occurrences 0 d)) ds

-- what stands in the contract d, by such a mode
abbrev pub contract_stands : Option Mode → Sexp → Headed → List Stand
contract_stands m d h = misfits (is_misfit m h.arguments) d h.head ++ lone_patterns h.arguments

-- what stands in an option that has its shape, which gives the datum d
abbrev pub given_stands : Option Mode → Sexp → Sexp → Option Headed → List Stand
given_stands m k d None = []
given_stands m k d (Some h) = if is_keyword (codes "mode") k then mode_stands h else contract_stands m d h

-- the same of what it gives, where it gives something
abbrev pub option_stands : Option Mode → Sexp → Option Sexp → List Stand
option_stands m k None = []
option_stands m k (Some d) = given_stands m k d (headed d)

-- what stands in options of the judgement of this name, behind options with these keywords
abbrev pub options_stand : Option Sexp → Option Mode → List (List ℕ) → List OptionForm → List Stand
options_stand j m seen [] = []
options_stand j m seen (o ∷ os) =
    (if is_fit_option j seen o then option_stands m o.key o.given else misshaped o.key ∷ []) ++ options_stand j m (key_text o.key ∷ seen) os

-- ---- forms

-- the form d, if it has no mode
abbrev pub missing_mode : Sexp → Option Headed → List Stand
missing_mode d None = misfit d None ∷ []
missing_mode d (Some h) = []

-- what stands in the form d with these parts
abbrev pub parts_stand : Scope → List (List ℕ) → Sexp → JudgementForm → List Stand
parts_stand S ns d f =
    missing_mode d (mode_form f)
    ++ options_stand (judgement_in f) (own_mode f) [] f.options
    ++ rules_stand S ns (judgement_in f) (own_mode f) f.rules

-- what stands in the form d, which has these parts
abbrev pub judgement_stands : Scope → List (List ℕ) → Sexp → Option JudgementForm → List Stand
judgement_stands S ns d None = misshaped d ∷ []
judgement_stands S ns d (Some f) = parts_stand S ns d f
