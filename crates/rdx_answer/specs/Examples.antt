-- Worked examples: queries, with the text that they write in each program, and how values are printed. They are proved, as the clauses of
-- `laws::worked_examples`.
use Rattle.std.specs.Prelude.{◌≡◌, ℕ, Bool, true, false, pos, List, [], ◌∷◌, Option, Some, None, codes}
use Rattle.rdx_term.specs.Tree as tree
use Rattle.rdx_term.specs.Tree.{Tree}
use Rattle.rdx_lang.specs.Bindings.{Value, one, many, len, values}
use Rattle.rdx_lang.specs.Programs.{Program}
use Rattle.rdx_lang.specs.Templates.{lit, Host, term, number, boolean, either, none, more}
use Rattle.rdx_lang.specs.declared.operation.HostOp.TheVariants.{Add, Quotient}
use Rattle.rdx_eval.specs.CallExamples.{of_two, by_zero}
use Rattle.rdx_answer.specs.AnswerText.{value_text, pair_text}
use Rattle.rdx_answer.specs.Answering.{AreAnswers}
use Rattle.rdx_answer.specs.Queries.{Query, value, test_equal, test_results}
use Rattle.rdx_answer.specs.Tests.{no_tests}

-- ---- how values are printed

-- the list of two terms, with this mark
abbrev pub marked_pair : Option ℕ → Tree → Tree → Tree
marked_pair m t u = tree.list m (tree.cons t (tree.cons u tree.nil))

-- a context with two holes has the path of its own hole behind it
abbrev pub OwnHole : Type 0
OwnHole = value_text (one (marked_pair (Some 1) tree.hole tree.hole)) ≡ codes "(hole hole) at [1]"

-- one with one hole has not, and neither has a list with two holes and no mark, which is no context
abbrev pub OneHole : Type 0
OneHole = value_text (one (marked_pair (Some 0) tree.hole (tree.truth true))) ≡ codes "(hole #t)"

abbrev pub NoOwnHole : Type 0
NoOwnHole = value_text (one (marked_pair None tree.hole tree.hole)) ≡ codes "(hole hole)"

-- one integer
abbrev pub one_integer : ℕ → Value
one_integer n = one (tree.integer (pos n))

-- the sequence of these values
abbrev pub sequence : List Value → Value
sequence vs = many (values vs)

-- a sequence stands in square brackets, as does each sequence in it, and one of no values too
abbrev pub NestedSequences : Type 0
NestedSequences = value_text (sequence (sequence (one_integer 1 ∷ one_integer 2 ∷ []) ∷ sequence [] ∷ [])) ≡ codes "[[1 2] []]"

-- a context with two holes has its path behind it in a sequence too
abbrev pub OwnHoleInSequence : Type 0
OwnHoleInSequence = value_text (sequence (one (marked_pair (Some 1) tree.hole tree.hole) ∷ one_integer 3 ∷ [])) ≡ codes "[(hole hole) at [1] 3]"

-- a length is a number
abbrev pub LengthInDecimal : Type 0
LengthInDecimal = pair_text (codes "..._a", len 2) ≡ codes "..._a = 2"

-- ---- what queries write

-- in each program, whatever the choices
abbrev pub WritesInEach : List Query → List ℕ → Bool → Type 0
WritesInEach qs written met = (P : Program) (cs : List ℕ) → AreAnswers P cs no_tests qs written met

-- `(test-equal m n)`
abbrev pub equal : ℕ → ℕ → Query
equal m n = test_equal (number (pos m)) (number (pos n))

-- A host expression by itself writes what it makes. Also false leaves nothing unmet: `(+ 1 2) (or #f)`.
abbrev pub ValuesWritten : Type 0
ValuesWritten =
    WritesInEach (value (of_two Add (number (pos 1)) (number (pos 2))) ∷ value (either (more (boolean false) none)) ∷ [])
    (codes "value 3\nvalue #f\n") true

-- A test that fails shows what was found and what was wanted, and it is not met: `(test-equal 1 2)`.
abbrev pub FailedTest : Type 0
FailedTest = WritesInEach (equal 1 2 ∷ []) (codes "fail\n  got 1\n  want 2\n") false

-- a context with two holes, of which the one at this place is its own
abbrev pub context_at : ℕ → Host
context_at k = term (lit (marked_pair (Some k) tree.hole tree.hole))

-- a test passes where its two terms differ in their marks alone
abbrev pub MarksForgotten : Type 0
MarksForgotten = WritesInEach (test_equal (context_at 0) (context_at 1) ∷ []) (codes "pass\n") true

-- Tests are counted, and what tells how many there were sets the counts back: `(test-equal 1 2) (test-equal 1 1) (test-results) (test-results)`.
abbrev pub CountsSetBack : Type 0
CountsSetBack =
    WritesInEach (equal 1 2 ∷ equal 1 1 ∷ test_results ∷ test_results ∷ [])
    (codes "fail\n  got 1\n  want 2\npass\ntests 2 passed 1 failed 1\ntests 0 passed 0 failed 0\n") false

-- A test that ends in a fault writes the line of it and counts as failed: `(test-equal (quotient 1 0) 1) (test-results)`.
abbrev pub FaultInTest : Type 0
FaultInTest =
    WritesInEach (test_equal by_zero (number (pos 1)) ∷ test_results ∷ [])
    (codes "fault DivideByZero (quotient 1 0)\ntests 1 passed 0 failed 1\n") false

-- The host expressions of a test make their terms from left to right: `(test-equal (quotient 1 0) (quotient 2 0))` has the first one's fault.
abbrev pub FirstFault : Type 0
FirstFault =
    WritesInEach (test_equal by_zero (of_two Quotient (number (pos 2)) (number (pos 0))) ∷ [])
    (codes "fault DivideByZero (quotient 1 0)\n") false
