-- What a form gives by the names that are bound before each place, without the symbols that bind them.
use Rattle.std.specs.Prelude.{ℕ, Bool, true, false, List, [], ◌∷◌, ◌++◌, Option, Some, None, map, flat_map, if◌then◌else◌}
use Rattle.rdx_sexp.specs.Sexp.{Sexp}
use Rattle.rdx_lang.specs.Programs as model
use Rattle.rdx_lang.specs.Programs.{Extra, such_as}
use Rattle.rdx_lang.specs.Templates.{term}
use Rattle.rdx_patterns.specs.Occurrences.{Occurrence, occurrences}
use Rattle.rdx_patterns.specs.Parts.{text_of}
use Rattle.rdx_patterns.specs.PatternChecks as patterns
use Rattle.rdx_patterns.specs.PatternChecks.{bad_occurrences}
use Rattle.rdx_patterns.specs.Reading.{reading}
use Rattle.rdx_patterns.specs.declared.patterns.position.Position.TheVariants.{Query}
use Rattle.rdx_templates.specs.Bound.{Bound}
use Rattle.rdx_templates.specs.Scope.{Scope}
use Rattle.rdx_templates.specs.TemplateChecks.{bad_parts, shallow_parts, undriven_parts, escapes}
use Rattle.rdx_templates.specs.TemplateOccurrences.{TemplatePart, template_parts, host_parts}
use Rattle.rdx_templates.specs.TemplateReading.{template_reading, host_reading}
use Rattle.rdx_parts.specs.Arguments.{Arguments, patterns_in}
use Rattle.rdx_parts.specs.ExtraForms.{ExtraForm, such_that, provided, confirmed, holding, freshly, name, no_extra, ExtraPlace, of_rule, form_at}
use Rattle.rdx_parts.specs.ExtraReading.{held_reading}
use Rattle.rdx_parts.specs.Headed.{Headed, headed}
use Rattle.rdx_parts.specs.Outlines.{Takes, one, Branch, RuleBranch, Question, Outline, taken_occurrences, bound_by_taken}
use Rattle.rdx_parts.specs.StandChecks.{other_depths}
use Rattle.rdx_parts.specs.Stands.{bound_among, names_bound, premise_arguments}
use Rattle.rdx_parts.specs.declared.stands.faults.Check.{Check}
use Rattle.rdx_parts.specs.declared.stands.faults.Check.TheVariants.{Places, Depths, Driving, Escapes}

-- ---- names

-- those that what is taken binds
abbrev pub taken_names : List (List ℕ) → Takes → Bound
taken_names ns w = names_bound (bound_by_taken ns w)

-- patterns that stand by themselves
abbrev pub patterns_names : List (List ℕ) → List Sexp → Bound
patterns_names ns ds = flat_map (λ d. taken_names ns (one d)) ds

-- a premise
abbrev pub premise_names : Scope → List (List ℕ) → Option Headed → Bound
premise_names S ns None = []
premise_names S ns (Some q) = patterns_names ns (patterns_in (premise_arguments S q))

-- names to be made
abbrev pub fresh_names : List Sexp → Bound
fresh_names ds = map (λ d. (text_of d, 0)) ds

-- an extra
abbrev pub extra_names : Scope → List (List ℕ) → ExtraForm → Bound
extra_names S ns (such_that p t) = taken_names ns (one p)
extra_names S ns (provided h) = []
extra_names S ns (confirmed t) = []
extra_names S ns (holding d) = premise_names S ns (headed d)
extra_names S ns (freshly ds) = fresh_names ds
extra_names S ns name = []
extra_names S ns no_extra = []

-- extras at such a place
abbrev pub extras_names : ExtraPlace → Scope → List (List ℕ) → List Sexp → Bound
extras_names k S ns [] = []
extras_names k S ns (d ∷ ds) = extra_names S ns (form_at k d) ++ extras_names k S ns ds

-- a branch
abbrev pub branch_names : Scope → List (List ℕ) → Branch → Bound
branch_names S ns b = taken_names ns b.takes ++ extras_names b.place S ns b.extras

-- the inputs of the conclusion of a rule
abbrev pub input_names : List (List ℕ) → RuleBranch → Bound
input_names ns r = patterns_names ns (patterns_in r.arguments)

-- a rule
abbrev pub rule_names : Scope → List (List ℕ) → RuleBranch → Bound
rule_names S ns r = input_names ns r ++ extras_names of_rule S ns r.premises

-- ---- the places at which one of the checks that have to know what is bound refuses

-- in a pattern in which these stand
abbrev pub pattern_faults : Check → List (List ℕ) → Bound → List Occurrence → List Sexp
pattern_faults Places ns es os = bad_occurrences ns os
pattern_faults Depths ns es os = other_depths es (bound_among ns os)
pattern_faults Driving ns es os = []
pattern_faults Escapes ns es os = patterns.escapes os

-- in a template or a host expression in which these stand
abbrev pub part_faults : Check → Scope → Bound → List TemplatePart → List Sexp
part_faults Places S es ps = bad_parts ps
part_faults Depths S es ps = shallow_parts es ps
part_faults Driving S es ps = undriven_parts S es ps
part_faults Escapes S es ps = escapes ps

-- in a template
abbrev pub template_faults : Check → Scope → Bound → Sexp → List Sexp
template_faults k S es t = part_faults k S es (template_parts S es 0 t)

-- in a host expression
abbrev pub host_faults : Check → Scope → Bound → Sexp → List Sexp
host_faults k S es h = part_faults k S es (host_parts S es 0 h)

-- in arguments with such flags, behind names that are bound before the first pattern, where these names are bound for the templates
abbrev pub flagged_faults : Check → Scope → List (List ℕ) → Bound → Bound → List Bool → List Sexp → List Sexp
flagged_faults k S ns es all [] ds = []
flagged_faults k S ns es all (f ∷ fs) [] = []
flagged_faults k S ns es all (true ∷ fs) (d ∷ ds) =
    pattern_faults k ns es (occurrences 0 d) ++ flagged_faults k S ns (es ++ taken_names ns (one d)) all fs ds
flagged_faults k S ns es all (false ∷ fs) (d ∷ ds) = template_faults k S all d ++ flagged_faults k S ns es all fs ds

-- where there are flags
abbrev pub faults_by : Check → Scope → List (List ℕ) → Bound → Bound → Option (List Bool) → List Sexp → List Sexp
faults_by k S ns es all None ds = []
faults_by k S ns es all (Some fs) ds = flagged_faults k S ns es all fs ds

-- in arguments
abbrev pub arguments_faults : Check → Scope → List (List ℕ) → Bound → Bound → Arguments → List Sexp
arguments_faults k S ns es all a = faults_by k S ns es all a.flags a.items

-- in a premise
abbrev pub premise_faults : Check → Scope → List (List ℕ) → Bound → Option Headed → List Sexp
premise_faults k S ns es None = []
premise_faults k S ns es (Some q) = arguments_faults k S ns es es (premise_arguments S q)

-- in an extra
abbrev pub extra_faults : Check → Scope → List (List ℕ) → Bound → ExtraForm → List Sexp
extra_faults k S ns es (such_that p t) = pattern_faults k ns es (occurrences 0 p) ++ template_faults k S es t
extra_faults k S ns es (provided h) = host_faults k S es h
extra_faults k S ns es (confirmed t) = template_faults k S es t
extra_faults k S ns es (holding d) = premise_faults k S ns es (headed d)
extra_faults k S ns es (freshly ds) = []
extra_faults k S ns es name = []
extra_faults k S ns es no_extra = []

-- in extras
abbrev pub extras_faults : ExtraPlace → Check → Scope → List (List ℕ) → Bound → List Sexp → List Sexp
extras_faults e k S ns es [] = []
extras_faults e k S ns es (d ∷ ds) =
    extra_faults k S ns es (form_at e d) ++ extras_faults e k S ns (es ++ extra_names S ns (form_at e d)) ds

-- in a branch
abbrev pub branch_faults : Check → Scope → List (List ℕ) → Branch → List Sexp
branch_faults k S ns b =
    pattern_faults k ns [] (taken_occurrences b.takes)
    ++ (template_faults k S (branch_names S ns b) b.result ++ extras_faults b.place k S ns (taken_names ns b.takes) b.extras)

-- in branches
abbrev pub branches_faults : Check → Scope → List (List ℕ) → List Branch → List Sexp
branches_faults k S ns bs = flat_map (branch_faults k S ns) bs

-- in a pattern that stands by itself
abbrev pub lone_faults : Check → List (List ℕ) → Sexp → List Sexp
lone_faults k ns p = pattern_faults k ns [] (occurrences 0 p)

-- in such patterns
abbrev pub alone_faults : Check → List (List ℕ) → List Sexp → List Sexp
alone_faults k ns ps = flat_map (lone_faults k ns) ps

-- in the conclusion of a rule
abbrev pub conclusion_faults : Check → Scope → List (List ℕ) → RuleBranch → List Sexp
conclusion_faults k S ns r = arguments_faults k S ns [] (rule_names S ns r) r.arguments

-- in its premises
abbrev pub premises_faults : Check → Scope → List (List ℕ) → RuleBranch → List Sexp
premises_faults k S ns r = extras_faults of_rule k S ns (input_names ns r) r.premises

-- in a rule, as it is written
abbrev pub rule_faults : Check → Scope → List (List ℕ) → RuleBranch → List Sexp
rule_faults k S ns r =
    if r.is_last
    then premises_faults k S ns r ++ conclusion_faults k S ns r
    else conclusion_faults k S ns r ++ premises_faults k S ns r

-- in rules
abbrev pub rules_faults : Check → Scope → List (List ℕ) → List RuleBranch → List Sexp
rules_faults k S ns rs = flat_map (rule_faults k S ns) rs

-- in a template behind a premise by itself, where there is one
abbrev pub result_faults : Check → Scope → Bound → Option Sexp → List Sexp
result_faults k S es None = []
result_faults k S es (Some t) = template_faults k S es t

-- in a premise by itself, and behind it
abbrev pub question_faults : Check → Scope → List (List ℕ) → Question → List Sexp
question_faults k S ns q =
    premise_faults k S ns [] (headed q.premise) ++ result_faults k S (premise_names S ns (headed q.premise)) q.result

-- in such premises
abbrev pub questions_faults : Check → Scope → List (List ℕ) → List Question → List Sexp
questions_faults k S ns qs = flat_map (question_faults k S ns) qs

-- in a form
abbrev pub outline_faults : Check → Scope → List (List ℕ) → Outline → List Sexp
outline_faults k S ns o =
    alone_faults k ns o.alone
    ++ (branches_faults k S ns o.branches ++ (rules_faults k S ns o.rules ++ questions_faults k S ns o.questions))

-- ---- readings

-- what names to be made ask
abbrev pub fresh_reading : List Sexp → List Extra
fresh_reading ds = map (λ d. model.fresh (text_of d)) ds

-- what an extra asks, where it asks something
abbrev pub extra_reading : Scope → List (List ℕ) → Bound → ExtraForm → List Extra
extra_reading S ns es (such_that p t) = such_as (reading ns Query p) (template_reading S es t) ∷ []
extra_reading S ns es (provided h) = model.provided (host_reading S es h) ∷ []
extra_reading S ns es (confirmed t) = model.provided (term (template_reading S es t)) ∷ []
extra_reading S ns es (holding d) = held_reading S ns es (headed d)
extra_reading S ns es (freshly ds) = fresh_reading ds
extra_reading S ns es name = []
extra_reading S ns es no_extra = []

-- what extras ask
abbrev pub extras_reading : ExtraPlace → Scope → List (List ℕ) → Bound → List Sexp → List Extra
extras_reading e S ns es [] = []
extras_reading e S ns es (d ∷ ds) =
    extra_reading S ns es (form_at e d) ++ extras_reading e S ns (es ++ extra_names S ns (form_at e d)) ds
