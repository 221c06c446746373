-- The worked examples of queries hold.
use Rattle.std.proofs.Common.{◌≡◌, ℕ, Bool, true, false, pos, List, [], ◌∷◌, ◌++◌, refl, ap, sym, ◌∙◌, codes, Some}
use Rattle.std.specs.Str.{chars}
use Rattle.std.specs.declared.cmp.Ordering.TheVariants.{Less}
use Rattle.rdx_term.specs.Bare.{bare}
use Rattle.rdx_term.specs.Order.{tree_cmp}
use Rattle.rdx_term.specs.Tree as tree
use Rattle.rdx_term.specs.Tree.{Tree}
use Rattle.rdx_lang.specs.Examples.{int}
use Rattle.rdx_lang.specs.Members.{In, here, there}
use Rattle.rdx_lang.specs.Programs.{Program}
use Rattle.rdx_lang.specs.Templates.{Host, number}
use Rattle.rdx_lang.specs.declared.operation.HostOp.TheVariants.{Add, Quotient}
use Rattle.rdx_lang.proofs.Examples.{one_alone}
use Rattle.rdx_eval.specs.Answers.{value, goes, divide_by_zero}
use Rattle.rdx_eval.specs.CallExamples.{of_two, by_zero}
use Rattle.rdx_eval.specs.Heights.{height}
use Rattle.rdx_eval.proofs.CallExamples.{by_zero as divides, nothing_holds}
use Rattle.rdx_answer.specs.AnswerText.{value_line, fault_line}
use Rattle.rdx_answer.specs.Answering.{HostValue, IsAnswer, over_value, over_fault, no_answers, more_answers}
use Rattle.rdx_answer.specs.Examples.{marked_pair, equal, ValuesWritten, FailedTest, MarksForgotten, CountsSetBack, FaultInTest, FirstFault}
use Rattle.rdx_answer.specs.Queries.{Query, test_equal}
use Rattle.rdx_answer.specs.Tests.{SameTerms, LikeOne, LeastLike, AreDistinct, Counts, no_tests, failure_text, results_line, same_terms, other_terms}
use Rattle.rdx_answer.proofs.PrintedExamples.{digit_0, digit_1, digit_2, digit_3}

-- ---- terms that are compared

-- the member of a list of one
only_member : (t u : Tree) → In t (u ∷ []) → t ≡ u
only_member t u (here e) = e
only_member t u (there i) = elim i [ ]

-- two terms are the same where they are alike
alike : (t u : Tree) → bare t ≡ bare u → SameTerms (t ∷ []) (u ∷ [])
alike t u e = record {
  all_wanted = λ s i. record { other = u; is_one = here refl; alike = sym (ap bare (only_member s t i) ∙ e) };
  all_found = λ s i. record { other = t; is_one = here refl; alike = e ∙ sym (ap bare (only_member s u i)) };
}

-- 1 is not 2
unlike : SameTerms (int 1 ∷ []) (int 2 ∷ []) → ⊥
unlike s =
    let o : LikeOne (int 2 ∷ []) (int 1) = s.all_wanted (int 1) (here refl) in
    differ (ap bare (sym (only_member o.other (int 2) o.is_one)) ∙ o.alike)
  where
    differ : int 2 ≡ int 1 → ⊥
    differ e = absurd cc

-- one term is the only one like itself, where it is not less than itself
distinct_alone : (t : Tree) → (tree_cmp t t ≡ Less → ⊥) → AreDistinct (t ∷ []) (t ∷ [])
distinct_alone t n =
    one_alone t
    (record { is_one = here refl; least = λ u i e l. n (ap (λ (s : Tree). tree_cmp s t) (sym (only_member u t i)) ∙ l) })
    (λ (u : Tree) (k : LeastLike (t ∷ []) u). only_member u t k.is_one)

-- ---- what is printed

three_printed : codes "value 3\n" ≡ value_line (int 3)
three_printed = λ i. codes "value " ++ digit_3 i ++ codes "\n"

failure_printed : codes "fail\n  got 1\n  want 2\n" ≡ failure_text (int 1 ∷ []) (int 2 ∷ [])
failure_printed = λ i. codes "fail\n" ++ (codes "  " ++ (codes "got " ++ digit_1 i) ++ codes "\n" ++ [])
    ++ (codes "  " ++ (codes "want " ++ digit_2 i) ++ codes "\n" ++ [])

division_printed : codes "fault DivideByZero (quotient 1 0)\n" ≡ fault_line (divide_by_zero Quotient (int 1 ∷ int 0 ∷ []))
division_printed = λ i. codes "fault "
    ++ (codes "DivideByZero " ++ (codes "(" ++ codes "quotient" ++ (codes " " ++ digit_1 i ++ (codes " " ++ digit_0 i ++ [])) ++ codes ")"))
    ++ codes "\n"

-- so many passed and failed
abbrev counted : ℕ → ℕ → Counts
counted p f = record { passed = p; failed = f }

two_counted : codes "tests 2 passed 1 failed 1\n" ≡ results_line (counted 1 1)
two_counted = λ i. codes "tests " ++ digit_2 i ++ codes " passed " ++ digit_1 i ++ codes " failed " ++ digit_1 i ++ codes "\n"

one_counted : codes "tests 1 passed 0 failed 1\n" ≡ results_line (counted 0 1)
one_counted = λ i. codes "tests " ++ digit_1 i ++ codes " passed " ++ digit_0 i ++ codes " failed " ++ digit_1 i ++ codes "\n"

none_counted : codes "tests 0 passed 0 failed 0\n" ≡ results_line (counted 0 0)
none_counted = λ i. codes "tests " ++ digit_0 i ++ codes " passed " ++ digit_0 i ++ codes " failed " ++ digit_0 i ++ codes "\n"

-- ---- answers

-- `(+ 1 2)`
sum_made : (P : Program) → HostValue P (of_two Add (number (pos 1)) (number (pos 2))) (value (int 3))
sum_made P = goes (goes (goes refl refl) (goes (goes (goes refl refl) (goes refl refl)) refl)) refl

-- what a test of two host expressions writes, which is the same by all choices and counts
abbrev TestWrites : Program → Query → List ℕ → Bool → Type 0
TestWrites P q written met = IsAnswer P [] no_tests q written met

-- 1 is compared with 2, and with itself
other_tested : (P : Program) → TestWrites P (equal 1 2) (codes "fail\n  got 1\n  want 2\n") false
other_tested P =
    over_value (int 1) refl
    (over_value (int 2) refl
    (other_terms (int 1 ∷ []) (int 2 ∷ []) unlike (distinct_alone (int 1) (λ e. absurd cc)) (distinct_alone (int 2) (λ e. absurd cc))
    failure_printed refl))

same_tested : (P : Program) → TestWrites P (equal 1 1) (codes "pass\n") true
same_tested P = over_value (int 1) refl (over_value (int 1) refl (same_terms (alike (int 1) (int 1) refl) refl refl))

-- the first one divides by zero
division_tested : (P : Program) (h : Host) → TestWrites P (test_equal by_zero h) (codes "fault DivideByZero (quotient 1 0)\n") false
division_tested P h = over_fault (divide_by_zero Quotient (int 1 ∷ int 0 ∷ [])) (divides P height) division_printed refl

-- ---- the examples

pub values_written : ValuesWritten
unfolding chars
values_written P cs =
    more_answers (codes "value 3\n") (codes "value #f\n") true true
    (over_value (int 3) (sum_made P) (record { printed = three_printed; is_met = refl }))
    (more_answers (codes "value #f\n") [] true true
    (over_value (tree.truth false) (nothing_holds P height) (record { printed = refl; is_met = refl })) no_answers)

pub failed_test : FailedTest
unfolding chars
failed_test P cs = more_answers (codes "fail\n  got 1\n  want 2\n") [] false true (other_tested P) no_answers

pub marks_forgotten : MarksForgotten
unfolding chars
marks_forgotten P cs =
    let t : ℕ → Tree = λ k. marked_pair (Some k) tree.hole tree.hole in
    more_answers (codes "pass\n") [] true true
    (over_value (t 0) refl (over_value (t 1) refl (same_terms (alike (t 0) (t 1) refl) refl refl))) no_answers

pub counts_set_back : CountsSetBack
unfolding chars
counts_set_back P cs =
    let two : List ℕ = codes "tests 2 passed 1 failed 1\n" in
    let none : List ℕ = codes "tests 0 passed 0 failed 0\n" in
    more_answers (codes "fail\n  got 1\n  want 2\n") (codes "pass\n" ++ two ++ none) false true (other_tested P)
    (more_answers (codes "pass\n") (two ++ none) true true (same_tested P)
    (more_answers two none true true (record { printed = two_counted; is_met = refl })
    (more_answers none [] true true (record { printed = none_counted; is_met = refl }) no_answers)))

pub fault_in_test : FaultInTest
unfolding chars
fault_in_test P cs =
    more_answers (codes "fault DivideByZero (quotient 1 0)\n") (codes "tests 1 passed 0 failed 1\n") false true (division_tested P (number (pos 1)))
    (more_answers (codes "tests 1 passed 0 failed 1\n") [] true true (record { printed = one_counted; is_met = refl }) no_answers)

pub first_fault : FirstFault
unfolding chars
first_fault P cs =
    more_answers (codes "fault DivideByZero (quotient 1 0)\n") [] false true (division_tested P (of_two Quotient (number (pos 2)) (number (pos 0))))
    no_answers
