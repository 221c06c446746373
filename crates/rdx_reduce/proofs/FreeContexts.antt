-- The names of contexts are free, where the rules bind few names, however often; and closed rules bind one name more.
use Rattle.std.proofs.Common.{◌≡◌, inl, inr, ◌<◌, ◌≤◌, ◌^◌, ℕ, zero, suc, Bool, true, false, List, [], ◌∷◌, length, refl, sym, ap, subst, ◌∙◌, arith, if◌then◌else◌, true≢false}
use Rattle.std.proofs.lemmas.Bool.{cases_lt, false_from_ne_true, or_from}
use Rattle.std.specs.Cmp.Lexicographic.{bytes_decides}
use Rattle.std.specs.List.{list_any}
use Rattle.std.specs.Prelude.{bytes_eq, codes}
use Rattle.rdx_lang.specs.Closures.{rule_names, context_name, closed_rule}
use Rattle.rdx_lang.specs.Members.{In, here, there}
use Rattle.rdx_lang.specs.Variants.{variant, first_from, first_variant}
use Rattle.rdx_lang.proofs.MemberLaws.{in-map}
use Rattle.rdx_lang.proofs.VariantLaws.{first_is_free}
use Rattle.rdx_reduce.specs.ValidClosures.{BindsFew, FewLeaveNames, ClosureBindsOneMore}
use Rattle.rdx_reduce.proofs.ContextBindings.{none_of}

-- a text that is not one of some names is none of them
untested : (x : List ℕ) (ys : List (List ℕ)) → (In x ys → ⊥) → list_any (bytes_eq x) ys ≡ false
untested x [] n = refl
untested x (y ∷ ys) n =
    or_from (bytes_eq x y) (list_any (bytes_eq x) ys) (false_from_ne_true (bytes_eq x y) (λ e. n (here ((bytes_decides x y).0 e))))
    (untested x ys (λ i. n (there i)))

-- ---- names that are among others

module _ (x : List ℕ) (xs ys : List (List ℕ)) (among : (y : List ℕ) → In y xs → In y ys) where
  -- what is none of those is none of these
  none-among : (z : List ℕ) → list_any (bytes_eq z) ys ≡ false → list_any (bytes_eq z) xs ≡ false
  none-among z e = untested z xs (λ i. none_of z ys e (among z i))

  -- where the search among those ends with a free one, so does a longer one among these
  free-from : (k m n : ℕ) → m ≤ n → list_any (bytes_eq (first_from x ys k m)) ys ≡ false → list_any (bytes_eq (first_from x xs k n)) xs ≡ false
  free-from k zero zero l e = none-among (variant x k) e
  free-from k zero (suc n) l e =
      let f = none-among (variant x k) e in
      ap (λ b. list_any (bytes_eq (if b then first_from x xs (suc k) n else variant x k)) xs) f ∙ f
  free-from k (suc m) zero l e = absurd (omega (arith, l))
  free-from k (suc m) (suc n) l e =
      by_tests (list_any (bytes_eq (variant x k)) xs) (list_any (bytes_eq (variant x k)) ys) refl refl e (free-from (suc k) m n (omega (arith, l)))
    where
      by_tests : (b c : Bool) → list_any (bytes_eq (variant x k)) xs ≡ b → list_any (bytes_eq (variant x k)) ys ≡ c
          → list_any (bytes_eq (if c then first_from x ys (suc k) m else variant x k)) ys ≡ false
          → (list_any (bytes_eq (first_from x ys (suc k) m)) ys ≡ false → list_any (bytes_eq (first_from x xs (suc k) n)) xs ≡ false)
          → list_any (bytes_eq (if b then first_from x xs (suc k) n else variant x k)) xs ≡ false
      by_tests false c f g h rest = f
      by_tests true true f g h rest = rest h
      by_tests true false f g h rest = absurd (true≢false (sym f ∙ none-among (variant x k) g))

  -- however often they come, names that are among few leave one free
  first-free : length ys < 10 ^ 64 → list_any (bytes_eq (first_variant x xs)) xs ≡ false
  first-free l = elim (cases_lt (length xs) (length ys)) [
    | inl h ↦ (first_is_free x xs (omega (arith, h, l))).free
    | inr h ↦ free-from 0 (length ys) (length xs) h (first_is_free x ys l).free
  ]

-- ---- rules

-- so there is room for a context
pub few_leave_names : FewLeaveNames
few_leave_names n rs l h r i =
    let b = h r i in
    let few = b.few in
    first-free (codes "context") (rule_names r) b.texts b.among (omega (arith, l, few))

-- each closed rule binds one name more
pub closures_bind_one_more : ClosureBindsOneMore
closures_bind_one_more n q x R h s i =
    let k = in-map (closed_rule q) R.rules s i in
    let b = h k.0 k.1 in
    let few = b.few in
    subst (BindsFew (suc n)) (sym k.2)
    (record {
      texts = context_name k.0 ∷ b.texts;
      few = omega (arith, few);
      among = λ y j. elim j [
        | here e ↦ here e
        | there l ↦ there (b.among y l)
      ];
    })
