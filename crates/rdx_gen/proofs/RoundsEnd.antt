-- Rounds that find more each time, and not more than some number, end in what another round leaves as it is.
use Rattle.std.proofs.Common.{◌≡◌, ◌⊎◌, inl, inr, ℕ, zero, suc, ◌+◌, ◌<◌, ◌≤◌, refl, sym, ap, ◌∙◌, arith}
use Rattle.std.specs.Fn.{iterate}

-- what a round leaves as it is stays in any number of them
pub stays_in_rounds : {A : Type 0} (f : A → A) (n : ℕ) (x : A) → f x ≡ x → iterate f n x ≡ x
stays_in_rounds f zero x e = refl
stays_in_rounds f (suc n) x e = ap (iterate f n) e ∙ stays_in_rounds f n x e

module _ {A : Type 0} (f : A → A) (count : A → ℕ) (most : ℕ) (I : A → Type 0) (keeps : (x : A) → I x → I (f x))
    (finds : (x : A) → I x → (f x ≡ x) ⊎ (count x < count (f x))) (bounded : (x : A) → I x → count x ≤ most) where
  ends : (n : ℕ) (x : A) → I x → most ≤ count x + n → f (iterate f n x) ≡ iterate f n x
  ends zero x i h = elim (finds x i) [
    | inl e ↦ e
    | inr l ↦ let b = bounded (f x) (keeps x i) in absurd (omega (arith, h, l, b))
  ]
  ends (suc n) x i h = elim (finds x i) [
    | inl e ↦ ap f (stays_in_rounds f (suc n) x e) ∙ e ∙ sym (stays_in_rounds f (suc n) x e)
    | inr l ↦ ends n (f x) (keeps x i) (omega (arith, h, l))
  ]

  -- as many rounds as can find something are enough
  pub rounds_end : (x : A) → I x → f (iterate f most x) ≡ iterate f most x
  rounds_end x i = ends most x i (omega arith)
