-- In a language that is free of left recursion the terms of a nonterminal up to a size are finitely many, so they have a listing.
use Rattle.std.proofs.Common.{◌≡◌, ℕ, zero, suc, ◌+◌, ◌<◌, ◌≤◌, ◌⊎◌, inl, inr, List, [], ◌∷◌, refl, sym, subst, arith}
use Rattle.std.proofs.lemmas.Bool.{cases_lt}
use Rattle.rdx_term.specs.Building.{list_of}
use Rattle.rdx_term.specs.Model.TotalOrder.{tree_cmp-total}
use Rattle.rdx_term.specs.Order.{tree_cmp}
use Rattle.rdx_term.specs.Tree.{Tree, hole, integer, truth, text, symbol, list, Trees, nil, cons, tree_depth, tree_nodes, trees_nodes}
use Rattle.rdx_term.proofs.AtPaths.{one_le-nodes}
use Rattle.rdx_term.proofs.OrderLaws.{tree_cmp-equal}
use Rattle.rdx_lang.specs.Bindings.{Binding, visible}
use Rattle.rdx_lang.specs.Edges.{IsFree}
use Rattle.rdx_lang.specs.Laws.{SomeListing}
use Rattle.rdx_lang.specs.Listing.{Matches}
use Rattle.rdx_lang.specs.Members.{In, here}
use Rattle.rdx_lang.specs.Patterns.{Pattern, nt, Language}
use Rattle.rdx_lang.specs.declared.pattern.Ref.{Ref}
use Rattle.rdx_lang.proofs.Finite.{Finite, Comes, Maps, IsImage, finite_none, finite_one, finite_as, finite_either, finite_by, finite_images, sorted, listed}
use Rattle.rdx_enum.specs.Laws.{HasTerms}
use Rattle.rdx_enum.specs.Pool.{pool, IsOver, AreOver}
use Rattle.rdx_enum.specs.UpTo.{MatchesSome, IsUpTo}

-- ---- some of finitely many

-- x has P and Q
pub record HasBoth {A : Type 0} (P Q : A → Type 0) (x : A) : Type 0 where
  pub first : P x
  pub second : Q x

-- y is x, which has Q
record IsItself {A : Type 0} (Q : A → Type 0) (x y : A) : Type 0 where
  same : y ≡ x
  has : Q x

-- of finitely many, those are finitely many of which something holds that is decided
finite_where : {A : Type 0} (P Q : A → Type 0) → Finite P → ((x : A) → P x → Q x ⊎ (Q x → ⊥)) → Finite (HasBoth P Q)
finite_where {A} P Q p d = finite_by P (IsItself Q) (HasBoth P Q) forth back p one
  where
    forth : (y : A) → Comes P (IsItself Q) y → HasBoth P Q y
    forth y c = record { first = subst P (sym c.by.same) c.has; second = subst Q (sym c.by.same) c.by.has }

    back : (y : A) → HasBoth P Q y → Comes P (IsItself Q) y
    back y h = record { from = y; has = h.first; by = record { same = refl; has = h.second } }

    by_case : (x : A) → Q x ⊎ (Q x → ⊥) → Finite (IsItself Q x)
    by_case x (inl q) = finite_one (IsItself Q x) x (record { same = refl; has = q }) (λ y i. i.same)
    by_case x (inr n) = finite_none (IsItself Q x) (λ y i. n i.has)

    one : (x : A) → P x → Finite (IsItself Q x)
    one x h = by_case x (d x h)

-- ---- trees over a pool

-- it is no list
abbrev IsLeaf : Tree → Type 0
IsLeaf hole = Unit {0}
IsLeaf (integer n) = Unit {0}
IsLeaf (truth b) = Unit {0}
IsLeaf (text s) = Unit {0}
IsLeaf (symbol s) = Unit {0}
IsLeaf (list m ts) = ⊥

-- that is decided
leaf_decided : (t : Tree) → IsLeaf t ⊎ (IsLeaf t → ⊥)
leaf_decided hole = inl tt
leaf_decided (integer n) = inl tt
leaf_decided (truth b) = inl tt
leaf_decided (text s) = inl tt
leaf_decided (symbol s) = inl tt
leaf_decided (list m ts) = inr (λ f. f)

module _ (P : List Tree) where
  -- a tree over the pool with at most k nodes
  record IsSmall (k : ℕ) (t : Tree) : Type 0 where
    over : IsOver P t
    small : tree_nodes t ≤ k

  -- items over the pool that have at most k nodes together
  record AreSmall (k : ℕ) (ts : Trees) : Type 0 where
    over : AreOver P ts
    small : trees_nodes ts ≤ k

  -- a leaf of the pool
  abbrev IsPoolLeaf : Tree → Type 0
  IsPoolLeaf t = HasBoth (λ (u : Tree). In u P) IsLeaf t

  -- a leaf of the pool is over it, and has one node
  leaf_small : (k : ℕ) (t : Tree) → In t P → IsLeaf t → IsSmall (suc k) t
  leaf_small k hole i l = record { over = i; small = omega arith }
  leaf_small k (integer n) i l = record { over = i; small = omega arith }
  leaf_small k (truth b) i l = record { over = i; small = omega arith }
  leaf_small k (text s) i l = record { over = i; small = omega arith }
  leaf_small k (symbol s) i l = record { over = i; small = omega arith }
  leaf_small k (list m ts) i l = absurd l

  -- a leaf, or the list of such items
  abbrev IsLeafOrList : ℕ → Tree → Type 0
  IsLeafOrList k t = IsPoolLeaf t ⊎ IsImage (AreSmall k) list_of t

  -- such a tree has at most one node more
  leaf_or_list-small : (k : ℕ) (t : Tree) → IsLeafOrList k t → IsSmall (suc k) t
  leaf_or_list-small k t (inl l) = leaf_small k t l.first l.second
  leaf_or_list-small k t (inr c) = subst (IsSmall (suc k)) (sym c.by) (of c.from c.has)
    where
      of : (ts : Trees) → AreSmall k ts → IsSmall (suc k) (list_of ts)
      of ts a = let s : trees_nodes ts ≤ k = a.small in record { over = (refl, a.over); small = omega arith }

  -- and each tree over the pool is one of these
  small-leaf_or_list : (k : ℕ) (t : Tree) → IsSmall (suc k) t → IsLeafOrList k t
  small-leaf_or_list k hole s = inl (record { first = s.over; second = tt })
  small-leaf_or_list k (integer n) s = inl (record { first = s.over; second = tt })
  small-leaf_or_list k (truth b) s = inl (record { first = s.over; second = tt })
  small-leaf_or_list k (text x) s = inl (record { first = s.over; second = tt })
  small-leaf_or_list k (symbol x) s = inl (record { first = s.over; second = tt })
  small-leaf_or_list k (list m ts) s =
      let n : trees_nodes ts + 1 ≤ suc k = s.small in
      inr (record { from = ts; has = record { over = s.over.1; small = omega arith }; by = λ i. list (s.over.0 i) ts })

  -- finitely many leaves are in the pool
  finite_leaves : Finite IsPoolLeaf
  finite_leaves = finite_where (λ (u : Tree). In u P) IsLeaf (record { members = P; sound = λ x i. i; complete = λ x i. i }) (λ t i. leaf_decided t)

  -- so trees with at most one node more are finitely many where such items are
  trees_from : (k : ℕ) → Finite (AreSmall k) → Finite (IsSmall (suc k))
  trees_from k f =
      finite_as (IsLeafOrList k) (IsSmall (suc k)) (leaf_or_list-small k) (small-leaf_or_list k)
      (finite_either IsPoolLeaf (IsImage (AreSmall k) list_of) finite_leaves (finite_images (AreSmall k) list_of f))

  -- no items
  abbrev IsNil : Trees → Type 0
  IsNil ts = ts ≡ nil

  -- such items behind a tree, together with it
  record IsBehind (k : ℕ) (t : Tree) (ts : Trees) : Type 0 where
    rest : Trees
    has : AreSmall k rest
    fits : tree_nodes t + trees_nodes rest ≤ suc k
    whole : ts ≡ cons t rest

  -- no items, or a tree and items behind it
  abbrev IsNilOrMore : ℕ → Trees → Type 0
  IsNilOrMore k ts = IsNil ts ⊎ Comes (IsSmall (suc k)) (IsBehind k) ts

  -- no items are over the pool, whatever it is
  nil_small : (k : ℕ) → AreSmall k nil
  nil_small k = record { over = tt; small = omega arith }

  -- such items have at most one node more
  nil_or_more-small : (k : ℕ) (ts : Trees) → IsNilOrMore k ts → AreSmall (suc k) ts
  nil_or_more-small k ts (inl e) = subst (AreSmall (suc k)) (sym e) (nil_small (suc k))
  nil_or_more-small k ts (inr c) =
      subst (AreSmall (suc k)) (sym c.by.whole) (record { over = (c.has.over, c.by.has.over); small = c.by.fits })

  -- and all items over the pool are these
  small-nil_or_more : (k : ℕ) (ts : Trees) → AreSmall (suc k) ts → IsNilOrMore k ts
  small-nil_or_more k nil s = inl refl
  small-nil_or_more k (cons t ts) s =
      let n : tree_nodes t + trees_nodes ts ≤ suc k = s.small in
      let one : 1 ≤ tree_nodes t = one_le-nodes t in
      inr (record {
        from = t;
        has = record { over = s.over.0; small = omega arith };
        by = record { rest = ts; has = record { over = s.over.1; small = omega arith }; fits = n; whole = refl };
      })

  -- the items fit behind the tree
  abbrev Fits : ℕ → Tree → Trees → Type 0
  Fits k t ts = tree_nodes t + trees_nodes ts ≤ suc k

  -- that is decided
  fits_decided : (k : ℕ) (t : Tree) (ts : Trees) → Fits k t ts ⊎ (Fits k t ts → ⊥)
  fits_decided k t ts = elim (cases_lt (suc k) (tree_nodes t + trees_nodes ts)) [ inl m ↦ inr (λ f. omega (arith, m, f)) | inr l ↦ inl l ]

  -- so finitely many items begin with the tree
  behind_from : (k : ℕ) (t : Tree) → Finite (AreSmall k) → Finite (IsBehind k t)
  behind_from k t f =
      finite_as (IsImage (HasBoth (AreSmall k) (Fits k t)) (cons t)) (IsBehind k t)
      (λ ts c. record { rest = c.from; has = c.has.first; fits = c.has.second; whole = c.by })
      (λ ts b. record { from = b.rest; has = record { first = b.has; second = b.fits }; by = b.whole })
      (finite_images (HasBoth (AreSmall k) (Fits k t)) (cons t) (finite_where (AreSmall k) (Fits k t) f (λ ts a. fits_decided k t ts)))

  -- so items with at most one node more are finitely many
  items_from : (k : ℕ) → Finite (AreSmall k) → Finite (IsSmall (suc k)) → Finite (AreSmall (suc k))
  items_from k f g =
      finite_as (IsNilOrMore k) (AreSmall (suc k)) (nil_or_more-small k) (small-nil_or_more k)
      (finite_either IsNil (Comes (IsSmall (suc k)) (IsBehind k)) (finite_one IsNil nil refl (λ ts e. e))
      (finite_by (IsSmall (suc k)) (IsBehind k) (Comes (IsSmall (suc k)) (IsBehind k)) (λ ts c. c) (λ ts c. c) g (λ t s. behind_from k t f)))

  -- no items have no nodes
  none_small : (ts : Trees) → AreSmall zero ts → ts ≡ nil
  none_small nil s = refl
  none_small (cons t ts) s = let n : tree_nodes t + trees_nodes ts ≤ 0 = s.small in let one : 1 ≤ tree_nodes t = one_le-nodes t in absurd (omega arith)

  -- items over the pool are finitely many up to each size
  finite_items : (k : ℕ) → Finite (AreSmall k)
  finite_items zero = finite_one (AreSmall zero) nil (nil_small zero) none_small
  finite_items (suc k) = items_from k (finite_items k) (trees_from k (finite_items k))

  -- so are trees
  finite_trees : (k : ℕ) → Finite (IsSmall k)
  finite_trees zero = finite_none (IsSmall zero) (λ t s. let n : tree_nodes t ≤ 0 = s.small in let one : 1 ≤ tree_nodes t = one_le-nodes t in omega arith)
  finite_trees (suc k) = trees_from k (finite_items k)

-- ---- those that are matched

module _ (some_listing : SomeListing) where
  -- a listing tells whether there is a match
  match_decided : (L : Language) → IsFree L → (p : Pattern) (t : Tree) → MatchesSome L p t ⊎ (MatchesSome L p t → ⊥)
  match_decided L free p t = let l = some_listing L free p t in by_listing l.found l.listing
    where
      by_listing : (bs : List Binding) → Matches L p t bs → MatchesSome L p t ⊎ (MatchesSome L p t → ⊥)
      by_listing [] m = inr (λ s. elim (m.complete (visible s.0) (record { whole = s.0; holds = s.1; seen = refl })) [ ])
      by_listing (b ∷ bs) m = let s = m.sound b (here refl) in inl (s.whole, s.holds)

  -- the depth is within the limit
  abbrev IsShallow : Tree → Type 0
  IsShallow t = tree_depth t ≤ 500

  -- that is decided
  shallow_decided : (t : Tree) → IsShallow t ⊎ (IsShallow t → ⊥)
  shallow_decided t = elim (cases_lt 500 (tree_depth t)) [ inl m ↦ inr (λ f. omega (arith, m, f)) | inr l ↦ inl l ]

  -- the terms of a nonterminal up to a size are finitely many
  finite_terms : (L : Language) (x : Ref) (k : ℕ) → IsFree L → Finite (IsUpTo L x k)
  finite_terms L x k free =
      finite_as (HasBoth (HasBoth (IsSmall (pool L) k) IsShallow) (MatchesSome L (nt x))) (IsUpTo L x k)
      (λ t h. record { over = h.first.first.over; small = h.first.first.small; shallow = h.first.second; matched = h.second })
      (λ t u. record { first = record { first = record { over = u.over; small = u.small }; second = u.shallow }; second = u.matched })
      (finite_where (HasBoth (IsSmall (pool L) k) IsShallow) (MatchesSome L (nt x))
      (finite_where (IsSmall (pool L) k) IsShallow (finite_trees (pool L) k) (λ t s. shallow_decided t)) (λ t h. match_decided L free (nt x) t))

  -- so they have a listing
  pub some_terms : (L : Language) (x : Ref) (k : ℕ) → IsFree L → HasTerms L x k
  some_terms L x k free =
      let f : Finite (IsUpTo L x k) = finite_terms L x k free in
      record { terms = sorted tree_cmp tree_cmp-total tree_cmp-equal f.members; listing = listed tree_cmp tree_cmp-total tree_cmp-equal (IsUpTo L x k) f }
