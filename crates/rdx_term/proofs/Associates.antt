-- Filling in two steps.
use Rattle.std.proofs.Common.{◌≡◌, ℕ, zero, suc, IsTrue, Some, None, refl, sym, ◌∙◌, ap}
use mathlib.Core.Bool.{true≢false}
use Rattle.rdx_term.specs.Tree.{Tree, hole, integer, truth, text, symbol, list, Trees, nil, cons}
use Rattle.rdx_term.specs.Context.{is_context, is_context_at}
use Rattle.rdx_term.specs.Fill.{marked_at, fill_of, fill_at}
use Rattle.rdx_term.proofs.Contexts.{marked_at-context, is_context_at-fill_at}

mutual
  pub fill_of-fill_of : (c d t : Tree) → IsTrue (is_context c) → IsTrue (is_context d) → fill_of (fill_of c d) t ≡ fill_of c (fill_of d t)
  fill_of-fill_of hole d t h k = refl
  fill_of-fill_of (integer n) d t h k = absurd (true≢false (sym h))
  fill_of-fill_of (truth b) d t h k = absurd (true≢false (sym h))
  fill_of-fill_of (text s) d t h k = absurd (true≢false (sym h))
  fill_of-fill_of (symbol s) d t h k = absurd (true≢false (sym h))
  fill_of-fill_of (list None ts) d t h k = absurd (true≢false (sym h))
  fill_of-fill_of (list (Some i) ts) d t h k =
      ap (λ (c : Tree). fill_of c t) (marked_at-context i (fill_at ts i d) (is_context_at-fill_at ts i d h k)) ∙ ap (marked_at i) (fill_at-fill_at ts i d t h k)

  pub fill_at-fill_at : (ts : Trees) (i : ℕ) (d t : Tree) → IsTrue (is_context_at ts i) → IsTrue (is_context d) → fill_at (fill_at ts i d) i t ≡ fill_at ts i (fill_of d t)
  fill_at-fill_at nil i d t h k = refl
  fill_at-fill_at (cons u ts) zero d t h k = ap (λ (w : Tree). cons w ts) (fill_of-fill_of u d t h k)
  fill_at-fill_at (cons u ts) (suc i) d t h k = ap (cons u) (fill_at-fill_at ts i d t h k)
