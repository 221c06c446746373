-- The items of trees by their places: how many there are, the item at a place, and the items with another in its place.
use Rattle.std.proofs.Common.{◌≡◌, ◌≢◌, ℕ, zero, suc, ◌+◌, ◌<◌, ◌≤◌, IsTrue, List, [], ◌∷◌, length, get_or, refl, sym, ap, arith}
use Rattle.std.proofs.Math.ListN.{set}
use mathlib.Core.Bool.{true≢false}
use Rattle.rdx_term.specs.Tree.{Tree, Trees, nil, cons, trees, tree_depth, trees_depth, tree_nodes, trees_nodes}
use Rattle.rdx_term.specs.Context.{is_context, is_context_at, IsMarked, AreMarked}
use Rattle.rdx_term.specs.Terms.{IsSpelled, AreSpelled}
use Rattle.rdx_term.specs.Fill.{fill_of, fill_at}
use Rattle.rdx_term.specs.Path.{path, path_at}
use Rattle.rdx_term.specs.Bare.{bare, bare_all}
use Rattle.rdx_term.specs.Items.{trees_count, item_at, put_at}
use Rattle.rdx_term.specs.declared.term.Term.{Term}
use Rattle.rdx_term.specs.View.{tree_of, trees_of}

-- ---- of lists, and of lists of terms

-- there are as many items as the list is long
pub trees_count-trees : (ts : List Tree) → trees_count (trees ts) ≡ length ts
trees_count-trees [] = refl
trees_count-trees (t ∷ ts) = let later : trees_count (trees ts) ≡ length ts = trees_count-trees ts in omega arith

pub trees_count-trees_of : (xs : List Term) → trees_count (trees_of xs) ≡ length xs
trees_count-trees_of [] = refl
trees_count-trees_of (x ∷ xs) = let later : trees_count (trees_of xs) ≡ length xs = trees_count-trees_of xs in omega arith

-- the item at a place is what stands there in the list
pub item_at-trees : (ts : List Tree) (k : ℕ) (d : Tree) → item_at (trees ts) k d ≡ get_or ts k d
item_at-trees [] k d = refl
item_at-trees (t ∷ ts) zero d = refl
item_at-trees (t ∷ ts) (suc k) d = item_at-trees ts k d

pub item_at-trees_of : (xs : List Term) (k : ℕ) (d : Term) → item_at (trees_of xs) k (tree_of d) ≡ tree_of (get_or xs k d)
item_at-trees_of [] k d = refl
item_at-trees_of (x ∷ xs) zero d = refl
item_at-trees_of (x ∷ xs) (suc k) d = item_at-trees_of xs k d

-- an item replaced in the list is replaced in the items
pub trees-set : (ts : List Tree) (k : ℕ) (u : Tree) → trees (set ts k u) ≡ put_at (trees ts) k u
trees-set [] k u = refl
trees-set (t ∷ ts) zero u = refl
trees-set (t ∷ ts) (suc k) u = ap (cons t) (trees-set ts k u)

pub trees_of-set : (xs : List Term) (k : ℕ) (x : Term) → trees_of (set xs k x) ≡ put_at (trees_of xs) k (tree_of x)
trees_of-set [] k x = refl
trees_of-set (y ∷ xs) zero x = refl
trees_of-set (y ∷ xs) (suc k) x = ap (cons (tree_of y)) (trees_of-set xs k x)

-- ---- of an item

-- where there is an item, it does not matter what stands for one that there is not
pub item_at-other : (ts : Trees) (k : ℕ) (d e : Tree) → k < trees_count ts → item_at ts k d ≡ item_at ts k e
item_at-other nil k d e h = absurd (omega arith)
item_at-other (cons t ts) zero d e h = refl
item_at-other (cons t ts) (suc k) d e h = item_at-other ts k d e (omega arith)

-- it is at most as deep as the deepest
pub item_at_le-depth : (ts : Trees) (k : ℕ) (d : Tree) → k < trees_count ts → tree_depth (item_at ts k d) ≤ trees_depth ts
item_at_le-depth nil k d h = absurd (omega arith)
item_at_le-depth (cons t ts) zero d h = omega arith
item_at_le-depth (cons t ts) (suc k) d h = let later : tree_depth (item_at ts k d) ≤ trees_depth ts = item_at_le-depth ts k d (omega arith) in omega arith

-- it has at most the nodes of all of them
pub item_at_le-nodes : (ts : Trees) (k : ℕ) (d : Tree) → k < trees_count ts → tree_nodes (item_at ts k d) ≤ trees_nodes ts
item_at_le-nodes nil k d h = absurd (omega arith)
item_at_le-nodes (cons t ts) zero d h = omega arith
item_at_le-nodes (cons t ts) (suc k) d h = let later : tree_nodes (item_at ts k d) ≤ trees_nodes ts = item_at_le-nodes ts k d (omega arith) in omega arith

-- its marks fit where those of all of them do
pub IsMarked-item_at : (ts : Trees) (k : ℕ) (d : Tree) → AreMarked ts → IsMarked d → IsMarked (item_at ts k d)
IsMarked-item_at nil k d m n = n
IsMarked-item_at (cons t ts) zero d m n = m.0
IsMarked-item_at (cons t ts) (suc k) d m n = IsMarked-item_at ts k d m.1 n

-- it is spelled where all of them are
pub IsSpelled-item_at : (ts : Trees) (k : ℕ) (d : Tree) → AreSpelled ts → IsSpelled d → IsSpelled (item_at ts k d)
IsSpelled-item_at nil k d s r = r
IsSpelled-item_at (cons t ts) zero d s r = s.0
IsSpelled-item_at (cons t ts) (suc k) d s r = IsSpelled-item_at ts k d s.1 r

-- where a context stands there is an item
pub is_context_at-count : (ts : Trees) (k : ℕ) → IsTrue (is_context_at ts k) → k < trees_count ts
is_context_at-count nil k h = absurd (true≢false (sym h))
is_context_at-count (cons t ts) zero h = omega arith
is_context_at-count (cons t ts) (suc k) h = let later : k < trees_count ts = is_context_at-count ts k h in omega arith

-- and it is that context
pub is_context_at-item_at : (ts : Trees) (k : ℕ) (d : Tree) → k < trees_count ts → is_context_at ts k ≡ is_context (item_at ts k d)
is_context_at-item_at nil k d h = absurd (omega arith)
is_context_at-item_at (cons t ts) zero d h = refl
is_context_at-item_at (cons t ts) (suc k) d h = is_context_at-item_at ts k d (omega arith)

-- the path at a place is its path
pub path_at-item_at : (ts : Trees) (k : ℕ) (d : Tree) → k < trees_count ts → path_at ts k ≡ path (item_at ts k d)
path_at-item_at nil k d h = absurd (omega arith)
path_at-item_at (cons t ts) zero d h = refl
path_at-item_at (cons t ts) (suc k) d h = path_at-item_at ts k d (omega arith)

-- ---- of items of which one is replaced

-- there are as many
pub trees_count-put : (ts : Trees) (k : ℕ) (u : Tree) → trees_count (put_at ts k u) ≡ trees_count ts
trees_count-put nil k u = refl
trees_count-put (cons t ts) zero u = refl
trees_count-put (cons t ts) (suc k) u = ap (λ n. n + 1) (trees_count-put ts k u)

-- the new item stands in its place
pub item_at-put : (ts : Trees) (k : ℕ) (u d : Tree) → k < trees_count ts → item_at (put_at ts k u) k d ≡ u
item_at-put nil k u d h = absurd (omega arith)
item_at-put (cons t ts) zero u d h = refl
item_at-put (cons t ts) (suc k) u d h = item_at-put ts k u d (omega arith)

-- the others stay
pub item_at-put_other : (ts : Trees) (k j : ℕ) (u d : Tree) → k ≢ j → item_at (put_at ts k u) j d ≡ item_at ts j d
item_at-put_other nil k j u d h = refl
item_at-put_other (cons t ts) zero zero u d h = absurd (h refl)
item_at-put_other (cons t ts) zero (suc j) u d h = refl
item_at-put_other (cons t ts) (suc k) zero u d h = refl
item_at-put_other (cons t ts) (suc k) (suc j) u d h = item_at-put_other ts k j u d (λ e. h (ap suc e))

-- the last that is put in a place counts
pub put_at-put : (ts : Trees) (k : ℕ) (u w : Tree) → put_at (put_at ts k u) k w ≡ put_at ts k w
put_at-put nil k u w = refl
put_at-put (cons t ts) zero u w = refl
put_at-put (cons t ts) (suc k) u w = ap (cons t) (put_at-put ts k u w)

-- an item that is put in its own place changes nothing
pub put_at-item_at : (ts : Trees) (k : ℕ) (d : Tree) → put_at ts k (item_at ts k d) ≡ ts
put_at-item_at nil k d = refl
put_at-item_at (cons t ts) zero d = refl
put_at-item_at (cons t ts) (suc k) d = ap (cons t) (put_at-item_at ts k d)

-- a context stands at the place where the new item is one
pub is_context_at-put : (ts : Trees) (k : ℕ) (u : Tree) → k < trees_count ts → is_context_at (put_at ts k u) k ≡ is_context u
is_context_at-put nil k u h = absurd (omega arith)
is_context_at-put (cons t ts) zero u h = refl
is_context_at-put (cons t ts) (suc k) u h = is_context_at-put ts k u (omega arith)

-- the path at the place is that of the new item
pub path_at-put : (ts : Trees) (k : ℕ) (u : Tree) → k < trees_count ts → path_at (put_at ts k u) k ≡ path u
path_at-put nil k u h = absurd (omega arith)
path_at-put (cons t ts) zero u h = refl
path_at-put (cons t ts) (suc k) u h = path_at-put ts k u (omega arith)

-- the new item is filled in its place
pub fill_at-put : (ts : Trees) (k : ℕ) (c t : Tree) → fill_at (put_at ts k c) k t ≡ put_at ts k (fill_of c t)
fill_at-put nil k c t = refl
fill_at-put (cons u ts) zero c t = refl
fill_at-put (cons u ts) (suc k) c t = ap (cons u) (fill_at-put ts k c t)

-- filling at a place puts the item filled in its own place
pub fill_at-item_at : (ts : Trees) (k : ℕ) (d t : Tree) → fill_at ts k t ≡ put_at ts k (fill_of (item_at ts k d) t)
fill_at-item_at nil k d t = refl
fill_at-item_at (cons u ts) zero d t = refl
fill_at-item_at (cons u ts) (suc k) d t = ap (cons u) (fill_at-item_at ts k d t)

-- marks forgotten in the new item and in all others
pub bare_all-put : (ts : Trees) (k : ℕ) (u : Tree) → bare_all (put_at ts k u) ≡ put_at (bare_all ts) k (bare u)
bare_all-put nil k u = refl
bare_all-put (cons t ts) zero u = refl
bare_all-put (cons t ts) (suc k) u = ap (cons (bare t)) (bare_all-put ts k u)

-- an item that is replaced by one that is equal but for marks
pub bare_all-put_same : (ts : Trees) (k : ℕ) (u d : Tree) → bare u ≡ bare (item_at ts k d) → bare_all (put_at ts k u) ≡ bare_all ts
bare_all-put_same nil k u d e = refl
bare_all-put_same (cons t ts) zero u d e = ap (λ (w : Tree). cons w (bare_all ts)) e
bare_all-put_same (cons t ts) (suc k) u d e = ap (cons (bare t)) (bare_all-put_same ts k u d e)

-- marks fit where those of the new item and of all that were there do
pub AreMarked-put : (ts : Trees) (k : ℕ) (u : Tree) → AreMarked ts → IsMarked u → AreMarked (put_at ts k u)
AreMarked-put nil k u m n = tt
AreMarked-put (cons t ts) zero u m n = (n, m.1)
AreMarked-put (cons t ts) (suc k) u m n = (m.0, AreMarked-put ts k u m.1 n)

-- so with the spelling
pub AreSpelled-put : (ts : Trees) (k : ℕ) (u : Tree) → AreSpelled ts → IsSpelled u → AreSpelled (put_at ts k u)
AreSpelled-put nil k u s r = tt
AreSpelled-put (cons t ts) zero u s r = (r, s.1)
AreSpelled-put (cons t ts) (suc k) u s r = (s.0, AreSpelled-put ts k u s.1 r)
