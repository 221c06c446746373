-- What stands in a form, without what is bound before it.
use Rattle.std.specs.Prelude.{ℕ, true, [], List, ◌∷◌, ◌++◌, Option, Some, None, map, if◌then◌else◌}
use Rattle.rdx_sexp.specs.Sexp.{Sexp}
use Rattle.rdx_lang.specs.Programs.{Mode}
use Rattle.rdx_parts.specs.Arguments.{is_misfit}
use Rattle.rdx_parts.specs.ExtraForms.{of_rule}
use Rattle.rdx_parts.specs.Headed.{headed}
use Rattle.rdx_defs.specs.Inside.FormOutlines.{clause_branch, own_clause, contract_patterns}
use Rattle.rdx_defs.specs.JudgementForms.{RuleForm, rule_form, own_rule, JudgementForm, judgement_in, mode_form, own_mode}
use Rattle.rdx_defs.specs.JudgementStands.{rule_arguments, name_stands, missing_mode, options_stand}
use Rattle.rdx_defs.specs.MetafunctionForms.{ClauseForm, clause_form, MetafunctionForm}
use Rattle.rdx_defs.specs.MetafunctionReading.{text_in}
use Rattle.rdx_templates.specs.Scope.{Scope}
use Rattle.rdx_parts.specs.Stands.{Stand, misshaped, function, template, misfits}
use Rattle.rdx_parts.specs.BareStands.{lone_pattern, arguments_stand, held_stands, extras_stand, branch_stands}

-- in the clause d
abbrev pub clause_stands : Scope → Sexp → Option ClauseForm → List Stand
clause_stands S d None = misshaped d ∷ []
clause_stands S d (Some c) = branch_stands S true (clause_branch c)

-- in clauses of the metafunction x
abbrev pub clauses_stand : Scope → List ℕ → List Sexp → List Stand
clauses_stand S x [] = []
clauses_stand S x (d ∷ ds) = clause_stands S d (own_clause x (clause_form d)) ++ clauses_stand S x ds

-- the name of a metafunction, where there is one, and the patterns of its contract
abbrev pub head_stands : List Sexp → Option Sexp → List Stand
head_stands ps None = []
head_stands ps (Some f) = function f ∷ map lone_pattern ps

-- in a metafunction with these parts that goes by this name
abbrev pub function_stands : Scope → MetafunctionForm → Option Sexp → List Stand
function_stands S m f = head_stands (contract_patterns m.contract) f ++ clauses_stand S (text_in f) m.clauses

-- ---- judgements

-- in the conclusion of a rule, by such a mode
abbrev pub conclusion_stands : Option Mode → RuleForm → List Stand
conclusion_stands m r =
    misfits (is_misfit m r.parts.arguments) r.conclusion r.parts.head ++ arguments_stand (rule_arguments m r)

-- in the rule d
abbrev pub rule_stands : Scope → Option Mode → Sexp → Option RuleForm → List Stand
rule_stands S m d None = misshaped d ∷ []
rule_stands S m d (Some r) =
    if r.is_last
    then extras_stand of_rule S true r.premises ++ name_stands r.name ++ conclusion_stands m r
    else conclusion_stands m r ++ extras_stand of_rule S true r.premises ++ name_stands r.name

-- in rules of the judgement of this name
abbrev pub rules_stand : Scope → Option Sexp → Option Mode → List Sexp → List Stand
rules_stand S j m [] = []
rules_stand S j m (d ∷ ds) = rule_stands S m d (own_rule j (rule_form d)) ++ rules_stand S j m ds

-- in the form d of a judgement with these parts
abbrev pub judgement_stands : Scope → Sexp → JudgementForm → List Stand
judgement_stands S d f =
    missing_mode d (mode_form f)
    ++ options_stand (judgement_in f) (own_mode f) [] f.options
    ++ rules_stand S (judgement_in f) (own_mode f) f.rules

-- in a premise by itself, and behind it
abbrev pub question_stands : Scope → Sexp → Option Sexp → List Stand
question_stands S d None = held_stands S d (headed d)
question_stands S d (Some t) = held_stands S d (headed d) ++ template [] t ∷ []
