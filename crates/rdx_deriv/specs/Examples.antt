-- Worked examples of judgements and of derivations. They are proved, as the clauses of `laws::worked_examples`.
use Rattle.std.specs.Prelude.{◌≡◌, ℕ, [], ◌∷◌, None, codes}
use Rattle.rdx_term.specs.Tree.{Tree}
use Rattle.rdx_lang.specs.Bindings.{Binding, no_names}
use Rattle.rdx_lang.specs.Examples.{int, list_of_one, binds, seq_of_one, any, Numbers}
use Rattle.rdx_lang.specs.Patterns.{Pattern, seq, nil}
use Rattle.rdx_lang.specs.Programs.{Program, holds, JudgementRule}
use Rattle.rdx_lang.specs.RepetitionExamples.{empty_list, any_1}
use Rattle.rdx_lang.specs.Templates as templates
use Rattle.rdx_lang.specs.Templates.{var}
use Rattle.rdx_eval.specs.Answers.{fault, spent}
use Rattle.rdx_eval.specs.JudgementExamples.{of_rules, giving}
use Rattle.rdx_deriv.specs.Derivations.{Goal, matched, judged, Derivation, node, none, more}
use Rattle.rdx_deriv.specs.Holds.{Holds}
use Rattle.rdx_deriv.specs.Judged.{Judged, calls}

-- ---- what the examples speak of

-- `j` has this output, without inputs
abbrev pub JudgedBy : Program → Tree → Type 0
JudgedBy P t = Judged P (codes "j") empty_list (list_of_one t)

abbrev pub has_output : Tree → Goal
has_output t = judged (codes "j") empty_list (list_of_one t)

-- that a pattern matches a term and binds this
abbrev pub matches : Pattern → Tree → Binding → Goal
matches p t b = matched Numbers.name p t b

-- that there are no inputs
abbrev pub no_inputs : Derivation
no_inputs = node (matches (seq nil) empty_list no_names) [] none

-- ---- one rule

-- `[(j 1)]`
abbrev pub OneRule : Program
OneRule = of_rules (giving 1 [] ∷ [])

-- by its rule at this place the output is 1
abbrev pub one_by : ℕ → Derivation
one_by i = node (has_output (int 1)) (i ∷ []) (more no_inputs none)

-- so 1 is judged, and this derivation holds
abbrev pub OneIsJudged : Type 0
OneIsJudged = JudgedBy OneRule (int 1)

abbrev pub OneIsDerived : Type 0
OneIsDerived = Holds OneRule (one_by 0)

-- nothing else is judged
abbrev pub NothingElse : Type 0
NothingElse = (o : Tree) → Judged OneRule (codes "j") empty_list o → o ≡ list_of_one (int 1)

-- there is no rule at another place
abbrev pub NoOtherRule : Type 0
NoOtherRule = Holds OneRule (one_by 1) → ⊥

-- and the match of the inputs has to stand under the node
abbrev pub InputsAreMatched : Type 0
InputsAreMatched = Holds OneRule (node (has_output (int 1)) (0 ∷ []) none) → ⊥

-- ---- a rule with a premise

-- `(any_1)`, as a pattern
abbrev pub one_any : Pattern
one_any = seq_of_one any_1

-- `[(j (any_1)) (j any_1)]`
abbrev pub wrapping : JudgementRule
wrapping = record {
  name = None;
  inputs = seq nil;
  extras = holds (record { judgement = codes "j"; inputs = []; outputs = one_any }) ∷ [];
  outputs = templates.seq (templates.one (var (codes "any_1") 0) templates.nil) ∷ [];
}

-- `[(j 1)] [(j (any_1)) (j any_1)]`
abbrev pub Wrapped : Program
Wrapped = of_rules (giving 1 [] ∷ wrapping ∷ [])

-- that `(any_1)` matches `(1)`, where any_1 stands for 1
abbrev pub one_found : Derivation
one_found =
    node (matches one_any (list_of_one (int 1)) (binds (codes "any_1") (int 1))) []
    (more (node (matches any_1 (int 1) (binds (codes "any_1") (int 1))) [] (more (node (matches any (int 1) no_names) [] none) none)) none)

-- `(1)` is judged by the second rule: under it stand the match of the inputs, the premise and the match of what this has
abbrev pub WrappedIsJudged : Type 0
WrappedIsJudged = JudgedBy Wrapped (list_of_one (int 1))

abbrev pub WrappedIsDerived : Type 0
WrappedIsDerived = Holds Wrapped (node (has_output (list_of_one (int 1))) (1 ∷ []) (more no_inputs (more (one_by 0) (more one_found none))))

-- what is judged has no end here, so what is answered is that the height is spent
abbrev pub WrappedIsSpent : Type 0
WrappedIsSpent = (calls Wrapped).outputs_of (codes "j") empty_list (fault (spent (codes "j")))
