-- A list in which each is below the next one ascends.
use Rattle.std.proofs.Common.{◌≡◌, ℕ, zero, suc, ◌+◌, ◌≤◌, false, List, [], ◌∷◌, length, drop, map, refl, sym, subst, arith}
use Rattle.std.specs.Bool.{◌==◌}
use Rattle.std.specs.Prelude.{not}
use Rattle.std.specs.Cmp.{IsTotalOrder}
use Rattle.std.specs.declared.cmp.Ordering.{Ordering}
use Rattle.std.specs.declared.cmp.Ordering.TheVariants.{Less, Equal, Greater}
use Rattle.std.specs.Ordering.{ordering_index}
use Rattle.rdx_lang.specs.Ascending.{IsBelow, IsAscending}

module _ {A : Type 0} (cmp : A → A → Ordering) (o : IsTotalOrder cmp) where
  -- what is below y is below all that y is below
  below_next : (x y : A) (ys : List A) → cmp x y ≡ Less → IsBelow cmp y ys → IsBelow cmp x ys
  below_next x y [] l h = tt
  below_next x y (z ∷ ys) l h = (o.trans x y z l h.0, below_next x y ys l h.1)

  -- one more before a list that ascends, below its first
  pub ascends_before : (x y : A) (ys : List A) → cmp x y ≡ Less → IsAscending cmp (y ∷ ys) → IsAscending cmp (x ∷ y ∷ ys)
  ascends_before x y ys l h = ((l, below_next x y ys l h.0), h)

  -- the same of lists that are equal to these
  pub ascends_before_at : (x y : A) (xs ys zs : List A) → xs ≡ x ∷ ys → ys ≡ y ∷ zs → cmp x y ≡ Less → IsAscending cmp ys → IsAscending cmp xs
  ascends_before_at x y xs ys zs e f l h =
      let g : IsAscending cmp (x ∷ y ∷ zs) = ascends_before x y zs l (subst (IsAscending cmp) f h) in
      let same : x ∷ y ∷ zs ≡ xs = sym (rw f at e) in
      subst (IsAscending cmp) same g

-- where one at most is left of a list, that ascends
pub last_ascends : {A B : Type 0} (cmp : B → B → Ordering) (f : A → B) (xs : List A) (n : ℕ) → length xs ≤ n + 1 → IsAscending cmp (map f (drop n xs))
last_ascends cmp f [] zero h = tt
last_ascends cmp f [] (suc n) h = tt
last_ascends cmp f (x ∷ []) zero h = (tt, tt)
last_ascends cmp f (x ∷ y ∷ xs) zero h = absurd (omega arith)
last_ascends cmp f (x ∷ xs) (suc n) h = last_ascends cmp f xs n (omega arith)

-- what is not other than less is less
pub less_by_index : (o : Ordering) → not (ordering_index o == 0) ≡ false → o ≡ Less
less_by_index Less e = refl
less_by_index Equal e = absurd cc
less_by_index Greater e = absurd cc
