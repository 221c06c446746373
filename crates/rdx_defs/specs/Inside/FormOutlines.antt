-- The outlines of forms: the branches of their clauses and rules, and the patterns that stand by themselves.
use Rattle.std.specs.Prelude.{ℕ, suc, Bool, [], List, ◌∷◌, ◌++◌, Option, Some, None, codes, bytes_eq, if◌then◌else◌}
use Rattle.rdx_sexp.specs.Sexp.{Sexp, Sexps, sexps, nil, cons}
use Rattle.rdx_patterns.specs.Heads.{Roles, patterns as items_of_list, next, rest}
use Rattle.rdx_patterns.specs.Parts.{is_word, text_of}
use Rattle.rdx_patterns.specs.Reading.{is_pattern}
use Rattle.rdx_lang.specs.Programs.{Mode}
use Rattle.rdx_parts.specs.ExtraForms.{of_clause}
use Rattle.rdx_parts.specs.Headed.{Headed, headed}
use Rattle.rdx_defs.specs.JudgementForms.{RuleForm, rule_form, own_rule, OptionForm, JudgementForm, judgement_in, own_mode, is_any_keyword, cut_options, key_text, is_fit_option}
use Rattle.rdx_defs.specs.JudgementStands.{rule_arguments}
use Rattle.rdx_defs.specs.MetafunctionForms.{ClauseForm, clause_form, ContractForm, MetafunctionForm}
use Rattle.rdx_defs.specs.MetafunctionReading.{text_in}
use Rattle.rdx_relations.specs.RelationForms.{is_keyword}
use Rattle.rdx_parts.specs.Outlines.{several, Branch, RuleBranch, Outline}

-- the branch of a clause
abbrev pub clause_branch : ClauseForm → Branch
clause_branch c = record { takes = several c.arguments; place = of_clause; extras = c.extras; result = c.result }

-- where there is one
abbrev pub in_clause : Option ClauseForm → List Branch
in_clause None = []
in_clause (Some c) = clause_branch c ∷ []

-- the clause, where it is one of the metafunction x
abbrev pub own_clause : List ℕ → Option ClauseForm → Option ClauseForm
own_clause x None = None
own_clause x (Some c) = if bytes_eq (text_of c.function) x then Some c else None

-- the branches of the clauses of the metafunction x
abbrev pub clause_branches : List ℕ → List Sexp → List Branch
clause_branches x [] = []
clause_branches x (d ∷ ds) = in_clause (own_clause x (clause_form d)) ++ clause_branches x ds

-- the datum, where it is a pattern
abbrev pub pattern_when : Bool → Sexp → List Sexp
pattern_when b d = if b then d ∷ [] else []

-- the patterns among items in these roles
abbrev pub patterns_among : Roles → Sexps → List Sexp
patterns_among rs nil = []
patterns_among rs (cons d ds) = pattern_when (is_pattern (next rs d)) d ++ patterns_among (rest rs d) ds

-- the patterns of a contract
abbrev pub contract_patterns : Option ContractForm → List Sexp
contract_patterns None = []
contract_patterns (Some c) = patterns_among items_of_list (sexps c.arguments) ++ c.value ∷ []

-- the outline of a metafunction that goes by this name
abbrev pub metafunction_outline : MetafunctionForm → Option Sexp → Outline
metafunction_outline m f = record { alone = contract_patterns m.contract; branches = clause_branches (text_in f) m.clauses; rules = []; questions = [] }

-- the branch of a rule, by the mode of its judgement
abbrev pub rule_branch : Option Mode → RuleForm → RuleBranch
rule_branch m r = record { arguments = rule_arguments m r; premises = r.premises; is_last = r.is_last }

-- where there is one
abbrev pub in_rule : Option Mode → Option RuleForm → List RuleBranch
in_rule m None = []
in_rule m (Some r) = rule_branch m r ∷ []

-- the branches of the rules of the judgement of this name
abbrev pub rule_branches : Option Sexp → Option Mode → List Sexp → List RuleBranch
rule_branches j m [] = []
rule_branches j m (d ∷ ds) = in_rule m (own_rule j (rule_form d)) ++ rule_branches j m ds

-- how many of these are options, with what they give
abbrev pub options_length : List Sexp → ℕ
options_length [] = 0
options_length (k ∷ []) = if is_any_keyword k then 1 else 0
options_length (k ∷ v ∷ ds) = if is_any_keyword k then suc (suc (options_length ds)) else 0

-- a judgement over the language of this name
abbrev pub judgement_over : Sexp → List Sexp → JudgementForm
judgement_over l ds = record { language = l; options = (cut_options ds).0; rules = (cut_options ds).1 }

-- the datum stands for an input
abbrev pub is_input : Sexp → Bool
is_input d = is_word (codes "I") d

-- the patterns that an option gives: those of a contract
abbrev pub given_patterns : Sexp → Option Headed → List Sexp
given_patterns k None = []
given_patterns k (Some h) = if is_keyword (codes "mode") k then [] else h.arguments

-- of what it gives, where it gives something
abbrev pub option_patterns : Sexp → Option Sexp → List Sexp
option_patterns k None = []
option_patterns k (Some d) = given_patterns k (headed d)

-- those of options of the judgement of this name, behind options with these keywords
abbrev pub options_patterns : Option Sexp → List (List ℕ) → List OptionForm → List Sexp
options_patterns j seen [] = []
options_patterns j seen (o ∷ os) =
    (if is_fit_option j seen o then option_patterns o.key o.given else []) ++ options_patterns j (key_text o.key ∷ seen) os

-- the outline of a judgement
abbrev pub judgement_outline : JudgementForm → Outline
judgement_outline f = record {
  alone = options_patterns (judgement_in f) [] f.options;
  branches = [];
  rules = rule_branches (judgement_in f) (own_mode f) f.rules;
  questions = [];
}

-- the outline of a premise by itself
abbrev pub question_outline : Sexp → Option Sexp → Outline
question_outline d t = record { alone = []; branches = []; rules = []; questions = record { premise = d; result = t } ∷ [] }
