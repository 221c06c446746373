-- A filled context: its path leads to the part, and around that is the context, with its marks. So a context and a part that give a tree are
-- always those at a path in it.
use Rattle.std.proofs.Common.{◌≡◌, ℕ, zero, suc, ◌<◌, Bool, true, false, if◌then◌else◌, IsTrue, Some, None, List, ◌∷◌, refl, sym, ◌∙◌, ap, subst, arith}
use mathlib.Core.Bool.{true≢false}
use Rattle.rdx_term.specs.Tree.{Tree, hole, integer, truth, text, symbol, list, Trees, nil, cons}
use Rattle.rdx_term.specs.Context.{is_context, is_context_at}
use Rattle.rdx_term.specs.Building.{mark_for, list_of}
use Rattle.rdx_term.specs.Fill.{fill_of, fill_at}
use Rattle.rdx_term.specs.Path.{path, path_at}
use Rattle.rdx_term.specs.Items.{trees_count, item_at, put_at}
use Rattle.rdx_term.specs.AtPaths.{IsPlace, tree_at, context_at}
use Rattle.rdx_term.proofs.Contexts.{fill_of-hole}
use Rattle.rdx_term.proofs.AtPaths.{IsPlace-item, tree_at-item, context_at-item}

-- where a context stands among items, there is an item once it is filled
fill_at-count : (ts : Trees) (k : ℕ) (t : Tree) → IsTrue (is_context_at ts k) → k < trees_count (fill_at ts k t)
fill_at-count nil k t h = absurd (true≢false (sym h))
fill_at-count (cons u ts) zero t h = omega arith
fill_at-count (cons u ts) (suc k) t h = let later : k < trees_count (fill_at ts k t) = fill_at-count ts k t h in omega arith

-- ---- the path of the context leads to something

-- a path that leads on in the item at `k` leads there in a list of these items, with either mark
place_where : (b : Bool) (k : ℕ) (ts : Trees) (ks : List ℕ) → k < trees_count ts → IsPlace (item_at ts k hole) ks → IsPlace (if b then list (Some k) ts else list_of ts) (k ∷ ks)
place_where true k ts ks h i = IsPlace-item (Some k) ts k ks hole h i
place_where false k ts ks h i = IsPlace-item (mark_for ts) ts k ks hole h i

-- the path of a context leads to something in the context filled
mutual
  pub IsPlace-fill_of : (c t : Tree) → IsTrue (is_context c) → IsPlace (fill_of c t) (path c)
  IsPlace-fill_of hole t h = tt
  IsPlace-fill_of (integer n) t h = tt
  IsPlace-fill_of (truth b) t h = tt
  IsPlace-fill_of (text s) t h = tt
  IsPlace-fill_of (symbol s) t h = tt
  IsPlace-fill_of (list None ts) t h = tt
  IsPlace-fill_of (list (Some k) ts) t h =
      place_where (is_context_at (fill_at ts k t) k) k (fill_at ts k t) (path_at ts k) (fill_at-count ts k t h) (IsPlace-fill_at ts k t h)

  pub IsPlace-fill_at : (ts : Trees) (k : ℕ) (t : Tree) → IsTrue (is_context_at ts k) → IsPlace (item_at (fill_at ts k t) k hole) (path_at ts k)
  IsPlace-fill_at nil k t h = absurd (true≢false (sym h))
  IsPlace-fill_at (cons u ts) zero t h = IsPlace-fill_of u t h
  IsPlace-fill_at (cons u ts) (suc k) t h = IsPlace-fill_at ts k t h

-- ---- to the part

-- in a list of these items, with either mark, there stands what stands in the item
tree_where : (b : Bool) (k : ℕ) (ts : Trees) (ks : List ℕ) → k < trees_count ts → tree_at (if b then list (Some k) ts else list_of ts) (k ∷ ks) ≡ tree_at (item_at ts k hole) ks
tree_where true k ts ks h = tree_at-item (Some k) ts k ks hole h
tree_where false k ts ks h = tree_at-item (mark_for ts) ts k ks hole h

-- what stands in a filled context where its path leads is the part
mutual
  pub tree_at-fill_of : (c t : Tree) → IsTrue (is_context c) → tree_at (fill_of c t) (path c) ≡ t
  tree_at-fill_of hole t h = refl
  tree_at-fill_of (integer n) t h = absurd (true≢false (sym h))
  tree_at-fill_of (truth b) t h = absurd (true≢false (sym h))
  tree_at-fill_of (text s) t h = absurd (true≢false (sym h))
  tree_at-fill_of (symbol s) t h = absurd (true≢false (sym h))
  tree_at-fill_of (list None ts) t h = absurd (true≢false (sym h))
  tree_at-fill_of (list (Some k) ts) t h =
      tree_where (is_context_at (fill_at ts k t) k) k (fill_at ts k t) (path_at ts k) (fill_at-count ts k t h) ∙ tree_at-fill_at ts k t h

  pub tree_at-fill_at : (ts : Trees) (k : ℕ) (t : Tree) → IsTrue (is_context_at ts k) → tree_at (item_at (fill_at ts k t) k hole) (path_at ts k) ≡ t
  tree_at-fill_at nil k t h = absurd (true≢false (sym h))
  tree_at-fill_at (cons u ts) zero t h = tree_at-fill_of u t h
  tree_at-fill_at (cons u ts) (suc k) t h = tree_at-fill_at ts k t h

-- ---- around which is the context

-- and the context is that of the item, in its place
context_where : (b : Bool) (k : ℕ) (ts : Trees) (ks : List ℕ) → k < trees_count ts
    → context_at (if b then list (Some k) ts else list_of ts) (k ∷ ks) ≡ list (Some k) (put_at ts k (context_at (item_at ts k hole) ks))
context_where true k ts ks h = context_at-item (Some k) ts k ks hole h
context_where false k ts ks h = context_at-item (mark_for ts) ts k ks hole h

-- the context around the part is the one that was filled
mutual
  pub context_at-fill_of : (c t : Tree) → IsTrue (is_context c) → context_at (fill_of c t) (path c) ≡ c
  context_at-fill_of hole t h = refl
  context_at-fill_of (integer n) t h = absurd (true≢false (sym h))
  context_at-fill_of (truth b) t h = absurd (true≢false (sym h))
  context_at-fill_of (text s) t h = absurd (true≢false (sym h))
  context_at-fill_of (symbol s) t h = absurd (true≢false (sym h))
  context_at-fill_of (list None ts) t h = absurd (true≢false (sym h))
  context_at-fill_of (list (Some k) ts) t h =
      context_where (is_context_at (fill_at ts k t) k) k (fill_at ts k t) (path_at ts k) (fill_at-count ts k t h) ∙ ap (list (Some k)) (context_at-fill_at ts k t h)

  pub context_at-fill_at : (ts : Trees) (k : ℕ) (t : Tree) → IsTrue (is_context_at ts k)
      → put_at (fill_at ts k t) k (context_at (item_at (fill_at ts k t) k hole) (path_at ts k)) ≡ ts
  context_at-fill_at nil k t h = absurd (true≢false (sym h))
  context_at-fill_at (cons u ts) zero t h = ap (λ (w : Tree). cons w ts) (context_at-fill_of u t h)
  context_at-fill_at (cons u ts) (suc k) t h = ap (cons u) (context_at-fill_at ts k t h)

-- ---- of a context as it is, which is filled with the hole

-- its path leads to something
pub IsPlace-path : (c : Tree) → IsTrue (is_context c) → IsPlace c (path c)
IsPlace-path c h = subst (λ (t : Tree). IsPlace t (path c)) (fill_of-hole c h) (IsPlace-fill_of c hole h)

-- which is the hole
pub tree_at-path : (c : Tree) → IsTrue (is_context c) → tree_at c (path c) ≡ hole
tree_at-path c h = ap (λ (t : Tree). tree_at t (path c)) (sym (fill_of-hole c h)) ∙ tree_at-fill_of c hole h

-- and the context around that is it
pub context_at-path : (c : Tree) → IsTrue (is_context c) → context_at c (path c) ≡ c
context_at-path c h = ap (λ (t : Tree). context_at t (path c)) (sym (fill_of-hole c h)) ∙ context_at-fill_of c hole h
