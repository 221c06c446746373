-- Lists of ids, and the terms with them.
use Rattle.std.proofs.Common.{◌≡◌, ℕ, zero, suc, ◌<◌, ◌⊎◌, inl, inr, List, [], ◌∷◌, ◌++◌, length, refl, sym, ◌∙◌, ap, arith}
use Rattle.rdx_term.specs.Tree.{Tree, trees}
use Rattle.rdx_store.specs.Stored.{tree_by_id, trees_by_ids, AreIds, AreDistinct}

-- one id more
pub ids-push : (is : List ℕ) (i n : ℕ) → AreIds is n → i < n → AreIds (is ++ i ∷ []) n
ids-push [] i n a h = (h, tt)
ids-push (j ∷ is) i n a h = (a.0, ids-push is i n a.1 h)

-- where no two ids have one term, no two lists of ids have the same terms
pub one_ids : (ts : List Tree) → AreDistinct ts → (is js : List ℕ) → AreIds is (length ts) → AreIds js (length ts)
    → trees (trees_by_ids ts is) ≡ trees (trees_by_ids ts js) → is ≡ js
one_ids ts d [] [] a b e = refl
one_ids ts d [] (j ∷ js) a b e = cc
one_ids ts d (i ∷ is) [] a b e = cc
one_ids ts d (i ∷ is) (j ∷ js) a b e =
    let f : tree_by_id ts i ≡ tree_by_id ts j = cc in
    let g : trees (trees_by_ids ts is) ≡ trees (trees_by_ids ts js) = cc in
    λ k. d i j a.0 b.0 f k ∷ one_ids ts d is js a.1 b.1 g k

-- ---- one term more

-- an id is one of before and has its term, or is the last and has the new one
abbrev IsOldOrNew : List Tree → Tree → ℕ → Type 0
IsOldOrNew ts t i =
    ((i < length ts) × (tree_by_id (ts ++ t ∷ []) i ≡ tree_by_id ts i)) ⊎ ((i ≡ length ts) × (tree_by_id (ts ++ t ∷ []) i ≡ t))

-- so it is of each
old_or_new : (ts : List Tree) (t : Tree) (i : ℕ) → i < length (ts ++ t ∷ []) → IsOldOrNew ts t i
old_or_new [] t zero h = inr (refl, refl)
old_or_new [] t (suc i) h = absurd (omega arith)
old_or_new (u ∷ ts) t zero h = inl (omega arith, refl)
old_or_new (u ∷ ts) t (suc i) h =
    elim (old_or_new ts t i (omega arith)) [ inl o ↦ inl (omega (arith, o.0), o.1) | inr n ↦ inr (ap suc n.0, n.1) ]

-- one term more that no id has
pub distinct-push : (ts : List Tree) (t : Tree)
    → AreDistinct ts → ((i : ℕ) → i < length ts → tree_by_id ts i ≡ t → ⊥) → AreDistinct (ts ++ t ∷ [])
distinct-push ts t d f i j h k e = by_both (old_or_new ts t i h) (old_or_new ts t j k)
  where
    by_both : IsOldOrNew ts t i → IsOldOrNew ts t j → i ≡ j
    by_both (inl a) (inl b) = d i j a.0 b.0 (sym a.1 ∙ e ∙ b.1)
    by_both (inl a) (inr b) = absurd (f i a.0 (sym a.1 ∙ e ∙ b.1))
    by_both (inr a) (inl b) = absurd (f j b.0 (sym b.1 ∙ sym e ∙ a.1))
    by_both (inr a) (inr b) = a.0 ∙ sym b.0
