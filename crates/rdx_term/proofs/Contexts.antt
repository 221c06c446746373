-- Lists marked at a place, and filled contexts: when they are contexts, their paths, and that the hole changes nothing.
use Rattle.std.proofs.Common.{◌≡◌, ℕ, zero, suc, false, IsTrue, Some, None, List, ◌∷◌, ◌++◌, refl, sym, ◌∙◌, ap}
use mathlib.Core.Bool.{true≢false}
use Rattle.rdx_term.specs.Tree.{Tree, hole, integer, truth, text, symbol, list, Trees, nil, cons}
use Rattle.rdx_term.specs.Context.{is_context, is_context_at}
use Rattle.rdx_term.specs.Building.{list_of}
use Rattle.rdx_term.specs.Fill.{marked_at, fill_of, fill_at}
use Rattle.rdx_term.specs.Path.{path, path_at}

-- where the item is a context, the list is marked at it
pub marked_at-context : (k : ℕ) (ts : Trees) → IsTrue (is_context_at ts k) → marked_at k ts ≡ list (Some k) ts
marked_at-context k ts h = rw h refl

-- and where it is none, it is the list that is built of the items
pub marked_at-none : (k : ℕ) (ts : Trees) → is_context_at ts k ≡ false → marked_at k ts ≡ list_of ts
marked_at-none k ts h = rw h refl

-- a context filled with a context is a context
mutual
  pub is_context-fill_of : (c d : Tree) → IsTrue (is_context c) → IsTrue (is_context d) → IsTrue (is_context (fill_of c d))
  is_context-fill_of hole d h k = k
  is_context-fill_of (integer n) d h k = h
  is_context-fill_of (truth b) d h k = h
  is_context-fill_of (text s) d h k = h
  is_context-fill_of (symbol s) d h k = h
  is_context-fill_of (list None ts) d h k = h
  is_context-fill_of (list (Some i) ts) d h k =
      let at_place : IsTrue (is_context_at (fill_at ts i d) i) = is_context_at-fill_at ts i d h k in
      ap is_context (marked_at-context i (fill_at ts i d) at_place) ∙ at_place

  pub is_context_at-fill_at : (ts : Trees) (i : ℕ) (d : Tree) → IsTrue (is_context_at ts i) → IsTrue (is_context d) → IsTrue (is_context_at (fill_at ts i d) i)
  is_context_at-fill_at nil i d h k = h
  is_context_at-fill_at (cons t ts) zero d h k = is_context-fill_of t d h k
  is_context_at-fill_at (cons t ts) (suc i) d h k = is_context_at-fill_at ts i d h k

-- its path is the two paths one behind the other
mutual
  pub path-fill_of : (c d : Tree) → IsTrue (is_context c) → IsTrue (is_context d) → path (fill_of c d) ≡ path c ++ path d
  path-fill_of hole d h k = refl
  path-fill_of (integer n) d h k = absurd (true≢false (sym h))
  path-fill_of (truth b) d h k = absurd (true≢false (sym h))
  path-fill_of (text s) d h k = absurd (true≢false (sym h))
  path-fill_of (symbol s) d h k = absurd (true≢false (sym h))
  path-fill_of (list None ts) d h k = absurd (true≢false (sym h))
  path-fill_of (list (Some i) ts) d h k =
      ap path (marked_at-context i (fill_at ts i d) (is_context_at-fill_at ts i d h k)) ∙ ap (λ (ks : List ℕ). i ∷ ks) (path_at-fill_at ts i d h k)

  pub path_at-fill_at : (ts : Trees) (i : ℕ) (d : Tree) → IsTrue (is_context_at ts i) → IsTrue (is_context d) → path_at (fill_at ts i d) i ≡ path_at ts i ++ path d
  path_at-fill_at nil i d h k = absurd (true≢false (sym h))
  path_at-fill_at (cons t ts) zero d h k = path-fill_of t d h k
  path_at-fill_at (cons t ts) (suc i) d h k = path_at-fill_at ts i d h k

-- filled with the hole a context is as it was
mutual
  pub fill_of-hole : (c : Tree) → IsTrue (is_context c) → fill_of c hole ≡ c
  fill_of-hole hole h = refl
  fill_of-hole (integer n) h = refl
  fill_of-hole (truth b) h = refl
  fill_of-hole (text s) h = refl
  fill_of-hole (symbol s) h = refl
  fill_of-hole (list None ts) h = refl
  fill_of-hole (list (Some i) ts) h = ap (marked_at i) (fill_at-hole ts i h) ∙ marked_at-context i ts h

  pub fill_at-hole : (ts : Trees) (i : ℕ) → IsTrue (is_context_at ts i) → fill_at ts i hole ≡ ts
  fill_at-hole nil i h = refl
  fill_at-hole (cons t ts) zero h = ap (λ (u : Tree). cons u ts) (fill_of-hole t h)
  fill_at-hole (cons t ts) (suc i) h = ap (cons t) (fill_at-hole ts i h)
