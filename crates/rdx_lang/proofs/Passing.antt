-- Tests that all members of a list pass, as they go by the members.
use Rattle.std.proofs.Common.{◌≡◌, ◌⊎◌, inl, inr, Bool, true, false, List, [], ◌∷◌, refl, sym, ◌∙◌, ap}
use Rattle.std.specs.Cmp.{first_so, second_so}
use Rattle.std.specs.List.{list_all}
use Rattle.std.specs.Prelude.{◌&&◌}
use Rattle.rdx_lang.specs.Collecting.{Adds}
use Rattle.rdx_lang.specs.Members.{In, here, there}
use Rattle.rdx_lang.proofs.LookupLaws.{both_so}

-- what makes each other true is equal
same_truth : (a b : Bool) → (a ≡ true → b ≡ true) → (b ≡ true → a ≡ true) → a ≡ b
same_truth true b f g = sym (f refl)
same_truth false true f g = g refl
same_truth false false f g = refl

-- what passes for all passes for each
pub member_passes : {A : Type 0} (test : A → Bool) (x : A) (xs : List A) → list_all test xs ≡ true → In x xs → test x ≡ true
member_passes test x [] h i = elim i [ ]
member_passes test x (y ∷ ys) h (here e) = ap test e ∙ first_so (test y) (list_all test ys) h
member_passes test x (y ∷ ys) h (there i) = member_passes test x ys (second_so (test y) (list_all test ys) h) i

-- what passes for each passes for all
pub all_pass : {A : Type 0} (test : A → Bool) (xs : List A) → ((x : A) → In x xs → test x ≡ true) → list_all test xs ≡ true
all_pass test [] f = refl
all_pass test (x ∷ xs) f = both_so (test x) (list_all test xs) (f x (here refl)) (all_pass test xs (λ y i. f y (there i)))

-- a test for the members of one list and one more
pub one_more_passes : {A : Type 0} (test : A → Bool) (xs ys : List A) (y : A) → Adds (λ z. z ≡ y) xs ys
    → list_all test ys ≡ (list_all test xs && test y)
one_more_passes {A} test xs ys y m = same_truth (list_all test ys) (list_all test xs && test y) to from
  where
    to : list_all test ys ≡ true → (list_all test xs && test y) ≡ true
    to h =
        both_so (list_all test xs) (test y)
        (all_pass test xs (λ z i. member_passes test z ys h ((m z).1 (inl i)))) (member_passes test y ys h ((m y).1 (inr refl)))

    of_either : (list_all test xs && test y) ≡ true → (z : A) → In z xs ⊎ z ≡ y → test z ≡ true
    of_either h z (inl i) = member_passes test z xs (first_so (list_all test xs) (test y) h) i
    of_either h z (inr e) = ap test e ∙ second_so (list_all test xs) (test y) h

    from : (list_all test xs && test y) ≡ true → list_all test ys ≡ true
    from h = all_pass test ys (λ z i. of_either h z ((m z).0 i))

-- four tests in another order
and_four : (a b c d : Bool) → ((a && b) && (c && d)) ≡ ((a && c) && (b && d))
and_four true true c d = refl
and_four true false true d = refl
and_four true false false d = refl
and_four false b c d = refl

-- a test that is two is passed where both are
pub both_pass : {A : Type 0} (test first second : A → Bool) → ((x : A) → test x ≡ (first x && second x)) → (xs : List A)
    → list_all test xs ≡ (list_all first xs && list_all second xs)
both_pass test first second e [] = refl
both_pass test first second e (x ∷ xs) = (λ i. e x i && both_pass test first second e xs i)
    ∙ and_four (first x) (second x) (list_all first xs) (list_all second xs)
