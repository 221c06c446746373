-- Which lists have the mark that a list of their items gets.
use Rattle.std.proofs.Common.{◌≡◌, ℕ, ◌==◌, Bool, true, false, ◌⊎◌, inl, inr, Option, Some, None, if◌then◌else◌, sym, ◌∙◌, ap}
use Rattle.std.proofs.lemmas.Bool.Decides.{eqb_tells}
use Rattle.rdx_term.specs.Building.{mark_for, hole_place}
use Rattle.rdx_term.specs.Context.{MarkFits}
use Rattle.rdx_term.specs.Tree.{Trees, trees_holes}
use Rattle.rdx_term.proofs.Trees.{one_hole-mark}

-- with one hole the mark is at it
one_is_marked : (ts : Trees) → trees_holes ts ≡ 1 → mark_for ts ≡ Some (hole_place ts)
one_is_marked ts e = go (eqb_tells (trees_holes ts) 1)
  where
    go : ((trees_holes ts == 1 ≡ true) × (trees_holes ts ≡ 1)) ⊎ ((trees_holes ts == 1 ≡ false) × (trees_holes ts ≡ 1 → ⊥)) → mark_for ts ≡ Some (hole_place ts)
    go (inl h) = ap (λ (b : Bool). if b then Some (hole_place ts) else None) h.0
    go (inr h) = absurd (h.1 e)

-- and otherwise there is none
other_is_unmarked : (ts : Trees) → (trees_holes ts ≡ 1 → ⊥) → mark_for ts ≡ None
other_is_unmarked ts e = go (eqb_tells (trees_holes ts) 1)
  where
    go : ((trees_holes ts == 1 ≡ true) × (trees_holes ts ≡ 1)) ⊎ ((trees_holes ts == 1 ≡ false) × (trees_holes ts ≡ 1 → ⊥)) → mark_for ts ≡ None
    go (inl h) = absurd (e h.1)
    go (inr h) = ap (λ (b : Bool). if b then Some (hole_place ts) else None) h.0

pub listed-one : (m : Option ℕ) (ts : Trees) → MarkFits m ts → trees_holes ts ≡ 1 → m ≡ mark_for ts
listed-one m ts f e = one_hole-mark m ts f e ∙ sym (one_is_marked ts e)

pub listed-none : (m : Option ℕ) (ts : Trees) → (trees_holes ts ≡ 1 → ⊥) → m ≡ None → m ≡ mark_for ts
listed-none m ts e n = n ∙ sym (other_is_unmarked ts e)

pub unlisted : (m : Option ℕ) (ts : Trees) → (trees_holes ts ≡ 1 → ⊥) → m ≡ mark_for ts → m ≡ None
unlisted m ts e h = h ∙ other_is_unmarked ts e
