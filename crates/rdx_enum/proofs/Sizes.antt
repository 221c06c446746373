-- How many nodes there are in what comes of two terms, and in rows.
use Rattle.std.proofs.Common.{◌≡◌, ℕ, zero, suc, ◌+◌, ◌<◌, ◌≤◌, ◌⊎◌, inl, inr, Bool, true, false, Some, None, List, [], ◌∷◌, ◌++◌, length, Vec, refl, sym, ◌∙◌, ap, subst, true≢false, if◌then◌else◌, arith}
use Rattle.std.proofs.Math.Nat.{eq-or-lt_of_le}
use Rattle.std.proofs.lemmas.Bool.{cases_lt}
use Rattle.std.specs.declared.alloc.Global.{Global}
use Rattle.rdx_term.specs.Building.{list_of}
use Rattle.rdx_term.specs.Context.{is_context, is_context_at}
use Rattle.rdx_term.specs.Fill.{fill_of}
use Rattle.rdx_term.specs.Limits.{KeepsLimits}
use Rattle.rdx_term.specs.Tree.{Tree, hole, integer, truth, text, symbol, list, Trees, nil, cons, tree_depth, trees_depth, tree_nodes, trees_nodes}
use Rattle.rdx_term.specs.declared.term.Term.{Term}
use Rattle.rdx_term.proofs.AtPaths.{one_le-nodes}
use Rattle.rdx_term.proofs.Measures.{tree_nodes-fill_of}
use Rattle.rdx_lang.specs.Members.{In}
use Rattle.rdx_lang.proofs.Collecting.{In_along, no_member}
use Rattle.rdx_enum.specs.Inside.Rows.{Rows, row_of, row_at, HaveNodes, AreSized, Comes, HasOnly, Keeps}
use Rattle.rdx_enum.specs.Inside.Ways.{joined, spent, relisted, relisted_all, with_item, with_context, with_behind}
use Rattle.rdx_enum.specs.declared.way.Way.{Way}
use Rattle.rdx_enum.specs.declared.way.Way.TheVariants.{Item, Context, Behind, Filled, Put}
use Rattle.rdx_enum.proofs.RowLaws.{length-more, row_at-before, row_at-last, row_at-none}

-- ---- trees

-- a tree is no deeper than it has nodes
mutual
  pub depth_within : (t : Tree) → tree_depth t ≤ tree_nodes t
  depth_within hole = omega arith
  depth_within (integer n) = omega arith
  depth_within (truth b) = omega arith
  depth_within (text s) = omega arith
  depth_within (symbol s) = omega arith
  depth_within (list m ts) = omega (arith, depths_within ts)

  depths_within : (ts : Trees) → trees_depth ts ≤ trees_nodes ts
  depths_within nil = omega arith
  depths_within (cons t ts) = omega (arith, depth_within t, depths_within ts)

-- so it is within the limits where it has at most 500 nodes
pub small_within : (t : Tree) → tree_nodes t ≤ 500 → KeepsLimits t
small_within t h = let d : tree_depth t ≤ tree_nodes t = depth_within t in record { shallow = omega arith; small = omega arith }

-- lists built anew have as many nodes
mutual
  pub tree_nodes-relisted : (t : Tree) → tree_nodes (relisted t) ≡ tree_nodes t
  tree_nodes-relisted hole = refl
  tree_nodes-relisted (integer n) = refl
  tree_nodes-relisted (truth b) = refl
  tree_nodes-relisted (text s) = refl
  tree_nodes-relisted (symbol s) = refl
  tree_nodes-relisted (list m ts) = ap (λ n. n + 1) (trees_nodes-relisted ts)

  pub trees_nodes-relisted : (ts : Trees) → trees_nodes (relisted_all ts) ≡ trees_nodes ts
  trees_nodes-relisted nil = refl
  trees_nodes-relisted (cons t ts) = λ i. tree_nodes-relisted t i + trees_nodes-relisted ts i

-- a place where there is a context is below the number of nodes
pub place_within : (ts : Trees) (k : ℕ) → is_context_at ts k ≡ true → k < trees_nodes ts
place_within nil k h = absurd (true≢false (sym h))
place_within (cons t ts) zero h = let l : 1 ≤ tree_nodes t = one_le-nodes t in omega arith
place_within (cons t ts) (suc k) h = let l : 1 ≤ tree_nodes t = one_le-nodes t in let m : k < trees_nodes ts = place_within ts k h in omega arith

-- ---- what comes of two terms

-- what is there only where the test holds
where_so : (b : Bool) (a x : Tree) → (if b then Some a else None) ≡ Some x → (b ≡ true) × (a ≡ x)
where_so true a x h = (refl, cc)
where_so false a x h = absurd (cc)

with_item-nodes : (t u x : Tree) → with_item t u ≡ Some x → tree_nodes x ≡ tree_nodes t + tree_nodes u
with_item-nodes t hole x h = absurd (cc)
with_item-nodes t (integer n) x h = absurd (cc)
with_item-nodes t (truth b) x h = absurd (cc)
with_item-nodes t (text s) x h = absurd (cc)
with_item-nodes t (symbol s) x h = absurd (cc)
with_item-nodes t (list m ts) x h =
    let e : list_of (cons t ts) ≡ x = cc in
    subst (λ (y : Tree). tree_nodes y ≡ tree_nodes t + tree_nodes (list m ts)) e (omega arith)

with_context-nodes : (t u x : Tree) → with_context t u ≡ Some x → tree_nodes x ≡ tree_nodes t + tree_nodes u
with_context-nodes t hole x h = absurd (cc)
with_context-nodes t (integer n) x h = absurd (cc)
with_context-nodes t (truth b) x h = absurd (cc)
with_context-nodes t (text s) x h = absurd (cc)
with_context-nodes t (symbol s) x h = absurd (cc)
with_context-nodes t (list m ts) x h =
    subst (λ (y : Tree). tree_nodes y ≡ tree_nodes t + tree_nodes (list m ts)) (where_so (is_context t) (list (Some zero) (cons t ts)) x h).1 (omega arith)

with_behind-nodes : (t u x : Tree) → with_behind t u ≡ Some x → tree_nodes x ≡ tree_nodes t + tree_nodes u
with_behind-nodes t hole x h = absurd (cc)
with_behind-nodes t (integer n) x h = absurd (cc)
with_behind-nodes t (truth b) x h = absurd (cc)
with_behind-nodes t (text s) x h = absurd (cc)
with_behind-nodes t (symbol s) x h = absurd (cc)
with_behind-nodes t (list None ts) x h = absurd (cc)
with_behind-nodes t (list (Some k) ts) x h =
    let e : list (Some (suc k)) (cons t ts) ≡ x = cc in
    subst (λ (y : Tree). tree_nodes y ≡ tree_nodes t + tree_nodes (list (Some k) ts)) e (omega arith)

pub put-nodes : (t u x : Tree) → joined Put t u ≡ Some x → tree_nodes x + 1 ≡ tree_nodes t + tree_nodes u
put-nodes t u x h =
    let s = where_so (is_context t) (fill_of t u) x h in
    subst (λ (y : Tree). tree_nodes y + 1 ≡ tree_nodes t + tree_nodes u) s.1 (tree_nodes-fill_of t u s.0)

filled-nodes : (t u x : Tree) → joined Filled t u ≡ Some x → tree_nodes x + 1 ≡ tree_nodes t + tree_nodes u
filled-nodes t u x h =
    let s = where_so (is_context t) (relisted (fill_of t u)) x h in
    subst (λ (y : Tree). tree_nodes y + 1 ≡ tree_nodes t + tree_nodes u) s.1
    (ap (λ n. n + 1) (tree_nodes-relisted (fill_of t u)) ∙ tree_nodes-fill_of t u s.0)

-- it has the nodes of both, but for the hole that is filled
pub joined-nodes : (w : Way) (t u x : Tree) → joined w t u ≡ Some x → tree_nodes x + spent w ≡ tree_nodes t + tree_nodes u
joined-nodes Item t u x h = let e : tree_nodes x ≡ tree_nodes t + tree_nodes u = with_item-nodes t u x h in omega arith
joined-nodes Context t u x h = let e : tree_nodes x ≡ tree_nodes t + tree_nodes u = with_context-nodes t u x h in omega arith
joined-nodes Behind t u x h = let e : tree_nodes x ≡ tree_nodes t + tree_nodes u = with_behind-nodes t u x h in omega arith
joined-nodes Filled t u x h = filled-nodes t u x h
joined-nodes Put t u x h = put-nodes t u x h

-- ---- rows

pub sized_nil : (rows : Rows) → rows ≡ [] → AreSized rows
sized_nil rows e m t h = no_member (In_along (row_at rows m) [] (ap (λ (r : Rows). row_at r m) e) h)

-- one row more
pub sized_more : (n : ℕ) (rows : Rows) (row : Vec Term Global) → length rows ≡ n → AreSized rows → HaveNodes n (row_of row) → AreSized (rows ++ row ∷ [])
sized_more n rows row l s r m t h = go (cases_lt m n)
  where
    last : (m ≡ n) ⊎ (n < m) → tree_nodes t ≡ m
    last (inl e) = r t (In_along (row_at (rows ++ row ∷ []) m) (row_of row) (row_at-last rows row m (e ∙ sym l)) h) ∙ sym e
    last (inr b) =
        let k : length (rows ++ row ∷ []) ≡ length rows + 1 = length-more rows row in
        no_member (In_along (row_at (rows ++ row ∷ []) m) [] (row_at-none (rows ++ row ∷ []) m (omega arith)) h)

    behind : (n ≡ m) ⊎ (n < m) → tree_nodes t ≡ m
    behind (inl e) = last (inl (sym e))
    behind (inr b) = last (inr b)

    go : (m < n) ⊎ (n ≤ m) → tree_nodes t ≡ m
    go (inl b) = s m t (In_along (row_at (rows ++ row ∷ []) m) (row_at rows m) (row_at-before rows row m (omega arith)) h)
    go (inr b) = behind (eq-or-lt_of_le b)

module _ (w : Way) (heads tails : Rows) (a : AreSized heads) (b : AreSized tails) where
  -- what comes of two terms of rows has the nodes that are left
  pub comes_size : (m : ℕ) (x : Tree) → Comes w heads tails (m + spent w) x → tree_nodes x ≡ m
  comes_size m x c =
      let e : tree_nodes x + spent w ≡ tree_nodes c.first + tree_nodes c.second = joined-nodes w c.first c.second x c.gives in
      let f : tree_nodes c.first ≡ c.before = a c.before c.first c.head in
      let g : tree_nodes c.second ≡ c.behind = b c.behind c.second c.tail in
      let t : c.before + c.behind ≡ m + spent w = c.together in
      omega arith

  -- two terms have two nodes at least
  pub none_comes : (total : ℕ) (x : Tree) → total ≤ 1 → Comes w heads tails total x → ⊥
  none_comes total x l c =
      let f : tree_nodes c.first ≡ c.before = a c.before c.first c.head in
      let g : tree_nodes c.second ≡ c.behind = b c.behind c.second c.tail in
      let f1 : 1 ≤ tree_nodes c.first = one_le-nodes c.first in
      let g1 : 1 ≤ tree_nodes c.second = one_le-nodes c.second in
      let t : c.before + c.behind ≡ total = c.together in
      omega arith

  -- what has only what a row has, and what comes of two terms, has as many nodes
  pub only_size : (m : ℕ) (old out : List Tree) → HaveNodes m old → HasOnly w heads tails (m + spent w) old out → HaveNodes m out
  only_size m old out h o t i = go (o t i)
    where
      go : In t old ⊎ Comes w heads tails (m + spent w) t → tree_nodes t ≡ m
      go (inl k) = h t k
      go (inr c) = comes_size m t c

  -- and none more, where there are too few nodes for two
  pub only_old : (total : ℕ) (old out : List Tree) → total ≤ 1 → HasOnly w heads tails total old out → Keeps out old
  only_old total old out l o t i = go (o t i)
    where
      go : In t old ⊎ Comes w heads tails total t → In t old
      go (inl k) = k
      go (inr c) = absurd (none_comes total t l c)

-- a row that begins with what base has, and is listed at its end, has only this and what comes
pub listed_only : (w : Way) (heads tails : Rows) (total : ℕ) (base first out listed : List Tree) → first ≡ base → HasOnly w heads tails total first out → ((x : Tree) → In x listed → In x out)
    → HasOnly w heads tails total base listed
listed_only w heads tails total base first out listed e o l x h = go (o x (l x h))
  where
    go : In x first ⊎ Comes w heads tails total x → In x base ⊎ Comes w heads tails total x
    go (inl k) = inl (In_along first base e k)
    go (inr c) = inr c
