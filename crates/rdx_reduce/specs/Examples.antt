-- Worked examples: the steps of small rules from small terms. They are proved, as the clauses of `laws::worked_examples`. By the other laws
-- each of these answers is the only one.
use Rattle.std.specs.Prelude.{ℕ, pos, List, [], ◌∷◌, Option, Some, None, codes}
use Rattle.rdx_term.specs.Tree.{Tree}
use Rattle.rdx_term.specs.Tree.{hole as the_hole}
use Rattle.rdx_lang.specs.Examples.{int, list_of_one, list_of_two, seq_of_two, first_marked, second_marked, E_1, number, Numbers, Contexts}
use Rattle.rdx_lang.specs.Patterns as pattern
use Rattle.rdx_lang.specs.Patterns.{Pattern, Language, hole, in_hole}
use Rattle.rdx_lang.specs.Programs.{Program, Relation, Rule, Extra, such_as, provided}
use Rattle.rdx_lang.specs.RepetitionExamples as patterns
use Rattle.rdx_lang.specs.RepetitionExamples.{seq_of_both}
use Rattle.rdx_lang.specs.Templates as templates
use Rattle.rdx_lang.specs.Templates.{Template, lit, var, fill, term, apply, none, more}
use Rattle.rdx_lang.specs.declared.operation.HostOp.TheVariants.{Eq}
use Rattle.rdx_eval.specs.Answers.{Answer, value, fault, not_context, not_contract}
use Rattle.rdx_eval.specs.Heights.{calls_at}
use Rattle.rdx_eval.specs.Examples.{any_1, x}
use Rattle.rdx_eval.specs.declared.fault.Side.TheVariants as sides
use Rattle.rdx_reduce.specs.Steps.{Step, Steps}

-- ---- rules and answers of the examples

-- `(--> p t)`
abbrev pub leads : Pattern → Template → Rule
leads p t = record { name = None; pattern = p; extras = []; result = t }

-- `(--> p t e)`
abbrev pub leads_where : Pattern → Template → Extra → Rule
leads_where p t e = record { name = None; pattern = p; extras = e ∷ []; result = t }

-- the step by the rule at this place to this term
abbrev pub step : ℕ → Tree → Step
step i u = record { rule = i; reduct = u }

-- the relation r of these rules, with this domain, where there is one
abbrev pub of_rules : Option Pattern → List Rule → Relation
of_rules d rs = record { name = codes "r"; language = codes "L"; domain = d; rules = rs }

-- over this language the rules have this answer from the term, in each program
abbrev pub TakeIn : Language → List Rule → Tree → Answer (List Step) → Type 0
TakeIn L rs t a = (P : Program) (n : ℕ) → Steps L (calls_at P n) (of_rules None rs) t a

-- they have it over `Numbers`
abbrev pub Take : List Rule → Tree → Answer (List Step) → Type 0
Take = TakeIn Numbers

-- ---- steps

-- `(--> (x any_1) any_1)` takes `(x 1)` to 1
abbrev pub OneStep : Type 0
OneStep =
    Take (leads (seq_of_two (pattern.lit x) patterns.any_1) (any_1 0) ∷ []) (list_of_two x (int 1)) (value (step 0 (int 1) ∷ []))

-- each rule takes its own step, also where two lead to one term: `(--> any_1 any_1)` and `(--> any_1 1)` from 1
abbrev pub StepByEach : Type 0
StepByEach =
    Take (leads patterns.any_1 (any_1 0) ∷ leads patterns.any_1 (lit (int 1)) ∷ []) (int 1)
    (value (step 0 (int 1) ∷ step 1 (int 1) ∷ []))

-- one rule takes one step to one term, also by two bindings: `(--> (any_1 ... any_2 ...) 1)` from `(1)`
abbrev pub OnceForTwo : Type 0
OnceForTwo =
    Take (leads (seq_of_both patterns.any_1 None patterns.any_2 None) (lit (int 1)) ∷ []) (list_of_one (int 1))
    (value (step 0 (int 1) ∷ []))

-- a fault is the answer, also where a rule before it has a step: `(--> any_1 any_1)` and `(--> any_1 (in-hole any_1 1))` from 1, which is no
-- context
abbrev pub FaultAlone : Type 0
FaultAlone =
    Take (leads patterns.any_1 (any_1 0) ∷ leads patterns.any_1 (fill (any_1 0) (lit (int 1))) ∷ []) (int 1) (fault (not_context 0))

-- a step by an earlier rule comes first, whichever terms they lead to: `(--> any_1 2)` and `(--> any_1 1)` from 1
abbrev pub RulesInOrder : Type 0
RulesInOrder =
    Take (leads patterns.any_1 (lit (int 2)) ∷ leads patterns.any_1 (lit (int 1)) ∷ []) (int 1)
    (value (step 0 (int 2) ∷ step 1 (int 1) ∷ []))

-- marks count: `(--> (in-hole E_1 hole) E_1)` takes two steps from `(hole hole)`, to two contexts that differ only in which of their two holes is
-- marked
abbrev pub MarksCount : Type 0
MarksCount =
    TakeIn Contexts (leads (in_hole E_1 hole) (var (codes "E_1") 0) ∷ []) (list_of_two the_hole the_hole)
    (value (step 0 first_marked ∷ step 0 second_marked ∷ []))

-- of two faults the first is the answer: `(--> any_1 (in-hole any_1 1))` and `(--> any_1 (in-hole (hole hole) 1))` from 1, which has no hole, where
-- the other has two
abbrev pub FirstFault : Type 0
FirstFault =
    Take (leads patterns.any_1 (fill (any_1 0) (lit (int 1))) ∷ leads patterns.any_1 (fill (lit (list_of_two the_hole the_hole)) (lit (int 1))) ∷ [])
    (int 1) (fault (not_context 0))

-- ---- extras

-- `(side-condition (= any_1 2))`
abbrev pub is_two : Extra
is_two = provided (apply Eq (more (term (any_1 0)) (more (templates.number (pos 2)) none)))

-- a condition that holds leaves the step: `(--> any_1 3 (side-condition (= any_1 2)))` takes 2 to 3
abbrev pub ConditionHolds : Type 0
ConditionHolds = Take (leads_where patterns.any_1 (lit (int 3)) is_two ∷ []) (int 2) (value (step 0 (int 3) ∷ []))

-- one that does not takes it away: it takes no step from 1
abbrev pub ConditionFails : Type 0
ConditionFails = Take (leads_where patterns.any_1 (lit (int 3)) is_two ∷ []) (int 1) (value [])

-- so does `where` without a match, and what the result would say is then never asked: `(--> any_1 (in-hole any_1 1) (where 2 any_1))` takes no step
-- from 1, which is no context
abbrev pub WhereFails : Type 0
WhereFails =
    Take (leads_where patterns.any_1 (fill (any_1 0) (lit (int 1))) (such_as (pattern.lit (int 2)) (any_1 0)) ∷ []) (int 1) (value [])

-- ---- domains

-- with the domain `number`, the rules have this answer from the term over `Numbers`
abbrev pub TakeNumbers : List Rule → Tree → Answer (List Step) → Type 0
TakeNumbers rs t a = (P : Program) (n : ℕ) → Steps Numbers (calls_at P n) (of_rules (Some number) rs) t a

-- a term that is not in the domain is a fault, also where no rule takes it: no rule, from `x`
abbrev pub TermOutside : Type 0
TermOutside = TakeNumbers [] x (fault (not_contract (codes "r") sides.In x))

-- so is a reduct, also where a rule before it has a step: `(--> any_1 2)` and `(--> any_1 x)` from 1
abbrev pub ReductOutside : Type 0
ReductOutside =
    TakeNumbers (leads patterns.any_1 (lit (int 2)) ∷ leads patterns.any_1 (lit x) ∷ []) (int 1) (fault (not_contract (codes "r") sides.Out x))

-- one in the domain is none: `(--> any_1 2)` from 1
abbrev pub BothInside : Type 0
BothInside = TakeNumbers (leads patterns.any_1 (lit (int 2)) ∷ []) (int 1) (value (step 0 (int 2) ∷ []))
