-- Worked examples of contracts. They are proved, as the clauses of `laws::worked_contracts`. By the other laws each of these answers is the only
-- one.
use Rattle.std.specs.Prelude.{ℕ, suc, true, false, List, [], ◌∷◌, None, Some, codes}
use Rattle.rdx_term.specs.Tree.{Tree}
use Rattle.rdx_lang.specs.Examples.{int, list_of_one, list_of_two, Numbers}
use Rattle.rdx_lang.specs.Patterns as patterns
use Rattle.rdx_lang.specs.Patterns.{Pattern, wild}
use Rattle.rdx_lang.specs.Programs.{Program, provided, Clause, JudgementRule}
use Rattle.rdx_lang.specs.Templates.{lit}
use Rattle.rdx_lang.specs.declared.operation.HostOp.TheVariants.{Quotient}
use Rattle.rdx_eval.specs.Answers.{Answer, value, fault, ambiguous, not_contract, divide_by_zero}
use Rattle.rdx_eval.specs.CallExamples.{by_zero}
use Rattle.rdx_eval.specs.ClauseExamples.{taking, of_functions, for_any, one_any, one_one, some_item}
use Rattle.rdx_eval.specs.Examples.{any_1, a}
use Rattle.rdx_eval.specs.Heights.{calls_at}
use Rattle.rdx_eval.specs.declared.fault.Side.TheVariants as sides

-- ---- metafunctions

-- a metafunction `f` by these clauses, whose contract has these patterns for the list of arguments and for the value
abbrev pub under_contract : Pattern → Pattern → List Clause → Program
under_contract p q cs = of_functions (record { name = codes "f"; language = Numbers.name; contract = Some (p, q); clauses = cs } ∷ [])

-- what it is answered for a list of arguments, at each height but none
abbrev pub ContractGives : Pattern → Pattern → List Clause → Tree → Answer Tree → Type 0
ContractGives p q cs t r = (n : ℕ) → (calls_at (under_contract p q cs) (suc n)).value_of (codes "f") t r

-- `[(f any_1) any_1]`
abbrev pub itself : List Clause
itself = taking one_any [] (any_1 0) ∷ []

-- `f : 1 -> _` doesn't allow the arguments `(2)`, whichever clause takes them, and no clause is tried: that of
-- `[(f any_1) a (side-condition (quotient 1 0))]` would have a fault
abbrev pub DomainRefuses : Type 0
DomainRefuses =
    ContractGives one_one wild (taking one_any (provided by_zero ∷ []) (lit a) ∷ []) (list_of_one (int 2))
    (fault (not_contract (codes "f") sides.In (list_of_one (int 2))))

-- `f : _ -> 1` doesn't allow the value 2, and allows 1
abbrev pub RangeRefuses : Type 0
RangeRefuses = ContractGives one_any (patterns.lit (int 1)) itself (list_of_one (int 2)) (fault (not_contract (codes "f") sides.Out (int 2)))

abbrev pub RangeAllows : Type 0
RangeAllows = ContractGives one_any (patterns.lit (int 1)) itself (list_of_one (int 1)) (value (int 1))

-- `_ ...`, by itself
abbrev pub any_list : Pattern
any_list = patterns.seq (patterns.many wild None patterns.nil)

-- that there are several values is told before their contract is asked: `f : _ ... -> 3` with `[(f _ ... any_1 _ ...) any_1]` makes 1 and 2 of 1 and 2
abbrev pub AmbiguousFirst : Type 0
AmbiguousFirst =
    ContractGives any_list (patterns.lit (int 3)) (taking some_item [] (any_1 0) ∷ []) (list_of_two (int 1) (int 2))
    (fault (ambiguous (codes "f") (list_of_two (int 1) (int 2)) (int 1) (int 2)))

-- ---- judgements

-- a judgement `j` of one input and one output, by these rules, whose contract has these patterns for the list of inputs and for that of outputs
abbrev pub judging : Pattern → Pattern → List JudgementRule → Program
judging p q rs = record {
  languages = Numbers ∷ [];
  metafunctions = [];
  judgements = record { name = codes "j"; language = Numbers.name; mode = true ∷ false ∷ []; contract = Some (p, q); rules = rs } ∷ [];
  relations = [];
}

-- what it is answered for a list of inputs, at each height but none
abbrev pub JudgementGives : Pattern → Pattern → List JudgementRule → Tree → Answer (List Tree) → Type 0
JudgementGives p q rs t r = (n : ℕ) → (calls_at (judging p q rs) (suc n)).outputs_of (codes "j") t r

-- `(j 1 _)` doesn't allow the input 2, even where no rule is for it
abbrev pub InputsRefused : Type 0
InputsRefused = JudgementGives one_one one_any [] (list_of_one (int 2)) (fault (not_contract (codes "j") sides.In (list_of_one (int 2))))

-- `(j _ 1)` with `[(j any_1 any_1)]` doesn't allow the output 2, and allows 1
abbrev pub OutputsRefused : Type 0
OutputsRefused =
    JudgementGives one_any one_one (for_any [] (any_1 0) ∷ []) (list_of_one (int 2)) (fault (not_contract (codes "j") sides.Out (list_of_one (int 2))))

abbrev pub OutputsAllowed : Type 0
OutputsAllowed =
    JudgementGives one_any one_one (for_any [] (any_1 0) ∷ []) (list_of_one (int 1)) (value (list_of_one (int 1) ∷ []))

-- a list of outputs is asked where it is made: its fault comes before those of later rules, and behind those of earlier ones
abbrev pub RefusedBeforeLater : Type 0
RefusedBeforeLater =
    JudgementGives one_any one_one (for_any [] (any_1 0) ∷ for_any (provided by_zero ∷ []) (any_1 0) ∷ []) (list_of_one (int 2))
    (fault (not_contract (codes "j") sides.Out (list_of_one (int 2))))

abbrev pub RefusedBehindEarlier : Type 0
RefusedBehindEarlier =
    JudgementGives one_any one_one (for_any (provided by_zero ∷ []) (any_1 0) ∷ for_any [] (any_1 0) ∷ []) (list_of_one (int 2))
    (fault (divide_by_zero Quotient (int 1 ∷ int 0 ∷ [])))
