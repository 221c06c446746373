-- In a language that is free of left recursion every pattern has, for every term, a listing of its bindings and one of its splits.
use Rattle.std.proofs.Common.{◌≡◌, ◌<◌, ◌≤◌, ℕ, zero, suc, length, ◌⊎◌, inl, inr, List, [], ◌∷◌, refl, sym, ◌∙◌, ap, subst, arith}
use Rattle.rdx_term.specs.Tree as tree
use Rattle.rdx_term.specs.Tree.{Tree, Trees, tree_nodes, trees_nodes}
use Rattle.rdx_lang.specs.Bindings.{Binding, visible}
use Rattle.rdx_lang.specs.Decompositions.{Decomposition}
use Rattle.rdx_lang.specs.Edges.{Edge, edge_nt, edge_named, edge_differ, edge_hide_hole, edge_closed, edge_left, edge_right, Reaches, at_once, further, IsFree}
use Rattle.rdx_lang.specs.Empty.{IsEmpty, empty_hole, empty_nt, empty_named, empty_differ, empty_closed, empty_in_hole}
use Rattle.rdx_lang.specs.Laws.{HasListing, HasSplitsListing}
use Rattle.rdx_lang.specs.Listing.{IsSeen, SplitsInto, SplitsVisibly}
use Rattle.rdx_lang.specs.Members.{In, here, there}
use Rattle.rdx_lang.specs.Model.TotalOrders.{binding_cmp-total, decomposition_cmp-total}
use Rattle.rdx_lang.specs.Order.{binding_cmp, decomposition_cmp}
use Rattle.rdx_lang.specs.Patterns.{Pattern, wild, of_kind, except, prefix, hole, lit, nt, named, differ, in_hole, hide_hole, closed, seq, Items, nil, one, many, Definition, Language}
use Rattle.rdx_lang.specs.Rules.{Match, IsAlternative, Split, SplitItems, SplitRun, split_hole, split_nt, split_named, split_differ, split_in_hole, split_closed, split_seq, split_here, split_behind, split_many, run_here, run_there, run_behind}
use Rattle.rdx_lang.specs.WellFormed.{defined}
use Rattle.rdx_lang.specs.declared.pattern.Ref.{Ref}
use Rattle.rdx_lang.proofs.Finite.{Finite, IsImage, finite_as, finite_images, sorted, listed}
use Rattle.rdx_lang.proofs.FinitePatterns.{FinitelyMany, FinitelyManyItems, finite_wild, finite_kind, finite_except, finite_prefix, finite_hole, finite_lit, finite_nt, finite_named, finite_differ, finite_in_hole, finite_hide_hole, finite_closed, finite_no_list, finite_seq, finite_none_left, finite_no_term, finite_no_item, finite_one_more}
use Rattle.rdx_lang.proofs.FiniteRuns.{FinitelyManyRuns, finite_no_turn, finite_turn_more, finite_many}
use Rattle.rdx_lang.proofs.MemberLaws.{map-in}
use Rattle.rdx_lang.proofs.OrderLaws.{binding_cmp-tells, decomposition_cmp-tells}

-- ---- the part of a split

-- p is Empty and u is t, or u is smaller than t
abbrev WholeOrLess : Language → Pattern → Tree → Tree → Type 0
WholeOrLess L p t u = (IsEmpty L p × (u ≡ t)) ⊎ (tree_nodes u < tree_nodes t)

-- one split and another of its part
part_of_part : {L : Language} {q r : Pattern} {t u s : Tree} → WholeOrLess L q t u → WholeOrLess L r u s → WholeOrLess L (in_hole q r) t s
part_of_part (inl d) (inl e) = inl (empty_in_hole d.0 e.0, e.1 ∙ d.1)
part_of_part {t = t} {s = s} (inl d) (inr l) = inr (subst (λ (w : Tree). tree_nodes s < tree_nodes w) d.1 l)
part_of_part {t = t} (inr l) (inl e) = inr (subst (λ (w : Tree). tree_nodes w < tree_nodes t) (sym e.1) l)
part_of_part (inr l) (inr m) = inr (omega (arith, l, m))

-- the part is no larger than the term
no_larger : {L : Language} {p : Pattern} {t u : Tree} → WholeOrLess L p t u → tree_nodes u ≤ tree_nodes t
no_larger {t = t} {u = u} (inl e) = let n : tree_nodes u ≡ tree_nodes t = ap tree_nodes e.1 in omega (arith, n)
no_larger (inr l) = omega (arith, l)

mutual
  -- what stands in the hole is the whole term, if the pattern is Empty, or smaller
  split_part : {L : Language} {p : Pattern} {t C u : Tree} {b : Binding} → Split L p t C u b → WholeOrLess L p t u
  split_part split_hole = inl (empty_hole, refl)
  split_part (split_nt a h) = elim (split_part h) [ inl e ↦ inl (empty_nt a e.0, e.1) | inr l ↦ inr l ]
  split_part (split_named h j) = elim (split_part h) [ inl e ↦ inl (empty_named e.0, e.1) | inr l ↦ inr l ]
  split_part (split_differ h j) = elim (split_part h) [ inl e ↦ inl (empty_differ e.0, e.1) | inr l ↦ inr l ]
  split_part (split_in_hole h g e j) = part_of_part (split_part h) (split_part g)
  split_part (split_closed h) = elim (split_part h) [ inl e ↦ inl (empty_closed e.0, e.1) | inr l ↦ inr l ]
  split_part (split_seq h e) = inr (let l = item_part h in omega (arith, l))

  -- the part of an item is no larger than all items
  item_part : {L : Language} {ps : Items} {ts : Trees} {k : ℕ} {D u : Tree} {b : Binding} → SplitItems L ps ts k D u b
      → tree_nodes u ≤ trees_nodes ts
  item_part (split_here h g j) = let l = no_larger (split_part h) in omega (arith, l)
  item_part (split_behind m h j) = let l = item_part h in omega (arith, l)
  item_part (split_many r k j) = run_part r

  -- so is the part of a term in a run, or behind it
  run_part : {L : Language} {p : Pattern} {ps : Items} {ts : Trees} {k : ℕ} {D u : Tree} {cs : List Binding} {d : Binding}
      → SplitRun L p ps ts k D u cs d → tree_nodes u ≤ trees_nodes ts
  run_part (run_here h r) = let l = no_larger (split_part h) in omega (arith, l)
  run_part (run_there m r) = let l = run_part r in omega (arith, l)
  run_part (run_behind h) = item_part h

-- ---- lists of nonterminals

-- a list without this member
abbrev removed : (x : Ref) (ys : List Ref) → In x ys → List Ref
removed x (y ∷ ys) (here e) = ys
removed x (y ∷ ys) (there i) = y ∷ removed x ys i
removed x [] i = elim i [ ]

-- it is shorter by one
removed-length : (x : Ref) (ys : List Ref) (i : In x ys) → suc (length (removed x ys i)) ≡ length ys
removed-length x [] i = elim i [ ]
removed-length x (y ∷ ys) (here e) = refl
removed-length x (y ∷ ys) (there i) = ap suc (removed-length x ys i)

-- all other members are there
from_removed : (x : Ref) (ys : List Ref) (i : In x ys) (z : Ref) → In z ys → (z ≡ x) ⊎ In z (removed x ys i)
from_removed x [] i z j = elim i [ ]
from_removed x (y ∷ ys) (here e) z (here f) = inl (f ∙ sym e)
from_removed x (y ∷ ys) (here e) z (there j) = inr j
from_removed x (y ∷ ys) (there i) z (here f) = inr (here f)
from_removed x (y ∷ ys) (there i) z (there j) = elim (from_removed x ys i z j) [ inl e ↦ inl e | inr k ↦ inr (there k) ]

module _ (L : Language) where
  -- all are among those that were passed, or among those that are left
  abbrev Covers : List Ref → List Ref → Type 0
  Covers passed rest = (x : Ref) → In x (defined L) → In x passed ⊎ In x rest

  -- left edges lead to the pattern from all that were passed
  abbrev ReachedFrom : List Ref → Pattern → Type 0
  ReachedFrom passed p = (x : Ref) → In x passed → Reaches L (nt x) p

  -- one edge more
  reaches-edge : (p q r : Pattern) → Reaches L p q → Edge L q r → Reaches L p r
  reaches-edge p q r (at_once e) f = further e (at_once f)
  reaches-edge p q r (further {q = s} e h) f = further e (reaches-edge s q r h f)

  -- so left edges lead further from all that were passed
  reached-edge : (passed : List Ref) (p q : Pattern) → ReachedFrom passed p → Edge L p q → ReachedFrom passed q
  reached-edge passed p q r e x i = reaches-edge (nt x) p q (r x i) e

  -- and from a nonterminal that is passed now
  reached-nt : (x : Ref) (passed : List Ref) (p : Pattern) → ReachedFrom passed (nt x) → Edge L (nt x) p → ReachedFrom (x ∷ passed) p
  reached-nt x passed p r e y (here f) = subst (λ (z : Ref). Reaches L (nt z) p) (sym f) (at_once e)
  reached-nt x passed p r e y (there i) = reaches-edge (nt y) (nt x) p (r y i) e

  -- where one more is passed, one less is left
  covers-less : (passed rest : List Ref) → Covers passed rest → (x : Ref) (i : In x rest) → Covers (x ∷ passed) (removed x rest i)
  covers-less passed rest c x i z h = elim (c z h) [
    | inl j ↦ inl (there j)
    | inr j ↦ elim (from_removed x rest i z j) [ inl f ↦ inl (here f) | inr k ↦ inr k ]
  ]

  -- ---- one term

  -- the right part of `in-hole` at all that its left part leaves in the hole: smaller terms, and the term itself where the left part is Empty
  at_part : (q r : Pattern) (t : Tree) → ((u : Tree) → tree_nodes u < tree_nodes t → FinitelyMany L r u) → (IsEmpty L q → FinitelyMany L r t)
      → (d : Decomposition) → SplitsInto L q t d → FinitelyMany L r d.part
  at_part q r t smaller whole d h = by_part (split_part h)
    where
      by_part : WholeOrLess L q t d.part → FinitelyMany L r d.part
      by_part (inl e) = subst (FinitelyMany L r) (sym e.1) (whole e.0)
      by_part (inr l) = smaller d.part l

  -- there are finitely many for all terms that are no larger than these
  abbrev AtMost : Trees → Type 0
  AtMost ts = (u : Tree) → tree_nodes u ≤ trees_nodes ts → (p : Pattern) → FinitelyMany L p u

  -- so there are at the terms behind the first
  at_rest : (t : Tree) (ts : Trees) → AtMost (tree.cons t ts) → AtMost ts
  at_rest t ts f u l q = f u (omega (arith, l)) q

  -- runs, where there are finitely many for the items behind them, wherever these begin
  by_runs : (p : Pattern) (ps : Items) → ((us : Trees) → AtMost us → FinitelyManyItems L ps us) → (ts : Trees) → AtMost ts
      → FinitelyManyRuns L p ps ts
  by_runs p ps g tree.nil f = finite_no_turn L p ps (g tree.nil f)
  by_runs p ps g (tree.cons t ts) f =
      finite_turn_more L p ps t ts (g (tree.cons t ts) f) (f t (omega arith) p) (by_runs p ps g ts (at_rest t ts f))

  -- items, where there are finitely many for each of these terms
  by_items : (ps : Items) (ts : Trees) → AtMost ts → FinitelyManyItems L ps ts
  by_items nil tree.nil f = finite_none_left L
  by_items nil (tree.cons t ts) f = finite_no_item L t ts
  by_items (one p ps) tree.nil f = finite_no_term L p ps
  by_items (one p ps) (tree.cons t ts) f = finite_one_more L p ps t ts (f t (omega arith) p) (by_items ps ts (at_rest t ts f))
  by_items (many p n ps) ts f = finite_many L p ps n ts (by_runs p ps (λ us g. by_items ps us g) ts f)

  -- list patterns, where there are finitely many for all smaller terms
  by_list : (t : Tree) → ((u : Tree) → tree_nodes u < tree_nodes t → (p : Pattern) → FinitelyMany L p u) → (ps : Items)
      → FinitelyMany L (seq ps) t
  by_list tree.hole f ps = finite_no_list L ps tree.hole (λ m ts e. absurd cc)
  by_list (tree.integer z) f ps = finite_no_list L ps (tree.integer z) (λ m ts e. absurd cc)
  by_list (tree.truth h) f ps = finite_no_list L ps (tree.truth h) (λ m ts e. absurd cc)
  by_list (tree.text x) f ps = finite_no_list L ps (tree.text x) (λ m ts e. absurd cc)
  by_list (tree.symbol x) f ps = finite_no_list L ps (tree.symbol x) (λ m ts e. absurd cc)
  by_list (tree.list m ts) f ps = finite_seq L ps m ts (by_items ps ts (λ u l q. f u (omega (arith, l)) q))

  -- at one term, where there are finitely many for all smaller ones
  module _ (free : IsFree L) (t : Tree) (smaller : (u : Tree) → tree_nodes u < tree_nodes t → (p : Pattern) → FinitelyMany L p u) where
    -- behind these passed nonterminals, where the others are decided
    by_pattern : (passed rest : List Ref) → Covers passed rest
        → ((x : Ref) → In x rest → (p : Pattern) → ReachedFrom (x ∷ passed) p → FinitelyMany L p t)
        → (p : Pattern) → ReachedFrom passed p → FinitelyMany L p t
    by_pattern passed rest c f wild r = finite_wild L t
    by_pattern passed rest c f (of_kind k) r = finite_kind L k t
    by_pattern passed rest c f (except rs) r = finite_except L rs t
    by_pattern passed rest c f (prefix y) r = finite_prefix L y t
    by_pattern passed rest c f hole r = finite_hole L t
    by_pattern passed rest c f (lit u) r = finite_lit L u t
    by_pattern passed rest c f (nt x) r = finite_nt L x t alternative
      where
        alternative : (p : Pattern) → IsAlternative L x p → FinitelyMany L p t
        alternative p a = elim (c x (map-in (λ (d : Definition). d.0) L.nonterminals (x, a.all) a.defined)) [
          | inl i ↦ absurd (free x (r x i))
          | inr i ↦ f x i p (reached-nt x passed p r (edge_nt a))
        ]
    by_pattern passed rest c f (named x q) r =
        finite_named L x q t (by_pattern passed rest c f q (reached-edge passed (named x q) q r edge_named))
    by_pattern passed rest c f (differ x q) r =
        finite_differ L x q t (by_pattern passed rest c f q (reached-edge passed (differ x q) q r edge_differ))
    by_pattern passed rest c f (in_hole q s) r =
        finite_in_hole L q s t (by_pattern passed rest c f q (reached-edge passed (in_hole q s) q r edge_left))
        (at_part q s t (λ u l. smaller u l s) (λ e. by_pattern passed rest c f s (reached-edge passed (in_hole q s) s r (edge_right e))))
    by_pattern passed rest c f (hide_hole q) r =
        finite_hide_hole L q t (by_pattern passed rest c f q (reached-edge passed (hide_hole q) q r edge_hide_hole))
    by_pattern passed rest c f (closed q) r =
        finite_closed L q t (by_pattern passed rest c f q (reached-edge passed (closed q) q r edge_closed))
    by_pattern passed rest c f (seq ps) r = by_list t smaller ps

    -- behind these, where n are left
    by_rest : (n : ℕ) (passed rest : List Ref) → length rest ≡ n → Covers passed rest → (p : Pattern) → ReachedFrom passed p
        → FinitelyMany L p t
    by_rest zero passed [] e c p r = by_pattern passed [] c (λ x i. elim i [ ]) p r
    by_rest zero passed (y ∷ rest) e c p r = absurd (omega (arith, e))
    by_rest (suc n) passed rest e c p r =
        by_pattern passed rest c (λ x i q s. by_rest n (x ∷ passed) (removed x rest i) (one_less x i) (covers-less passed rest c x i) q s) p r
      where
        one_less : (x : Ref) (i : In x rest) → length (removed x rest i) ≡ n
        one_less x i = let l = removed-length x rest i in omega (arith, e, l)

    -- at this term
    at_term : (p : Pattern) → FinitelyMany L p t
    at_term p = by_rest (length (defined L)) [] (defined L) refl (λ x i. inr i) p (λ x i. elim i [ ])

  -- ---- all terms

  -- at the terms with fewer nodes than n
  below_nodes : IsFree L → (n : ℕ) (t : Tree) → tree_nodes t < n → (p : Pattern) → FinitelyMany L p t
  below_nodes free zero t h p = absurd (omega (arith, h))
  below_nodes free (suc n) t h p = at_term free t (λ u l q. below_nodes free n u (omega (arith, h, l)) q) p

  -- at every term
  finitely_many : IsFree L → (p : Pattern) (t : Tree) → FinitelyMany L p t
  finitely_many free p t = below_nodes free (suc (tree_nodes t)) t (omega arith) p

  -- what is seen of bindings of which there are finitely many
  finitely_seen : (p : Pattern) (t : Tree) → FinitelyMany L p t → Finite (IsSeen (Match L p t))
  finitely_seen p t f = finite_as (IsImage (Match L p t) visible) (IsSeen (Match L p t)) forth back (finite_images (Match L p t) visible f.matches)
    where
      forth : (b : Binding) → IsImage (Match L p t) visible b → IsSeen (Match L p t) b
      forth b i = record { whole = i.from; holds = i.has; seen = i.by }

      back : (b : Binding) → IsSeen (Match L p t) b → IsImage (Match L p t) visible b
      back b s = record { from = s.whole; has = s.holds; by = s.seen }

  -- the same context and part, with what is seen of the binding
  abbrev shown : Decomposition → Decomposition
  shown d = record { context = d.context; part = d.part; binding = visible d.binding }

  -- what is seen of splits of which there are finitely many
  finitely_split : (p : Pattern) (t : Tree) → FinitelyMany L p t → Finite (SplitsVisibly L p t)
  finitely_split p t f = finite_as (IsImage (SplitsInto L p t) shown) (SplitsVisibly L p t) forth back (finite_images (SplitsInto L p t) shown f.splits)
    where
      forth : (d : Decomposition) → IsImage (SplitsInto L p t) shown d → SplitsVisibly L p t d
      forth d i = subst (SplitsVisibly L p t) (sym i.by) (record { whole = i.from.binding; holds = i.has; seen = refl })

      back : (d : Decomposition) → SplitsVisibly L p t d → IsImage (SplitsInto L p t) shown d
      back d s = record {
        from = record { context = d.context; part = d.part; binding = s.whole };
        has = s.holds;
        by = λ i. record { context = d.context; part = d.part; binding = s.seen i };
      }

  -- each pattern has a listing of its bindings
  pub has_listing : IsFree L → (p : Pattern) (t : Tree) → HasListing L p t
  has_listing free p t =
      let f : Finite (IsSeen (Match L p t)) = finitely_seen p t (finitely_many free p t) in
      record {
        found = sorted binding_cmp binding_cmp-total binding_cmp-tells f.members;
        listing = listed binding_cmp binding_cmp-total binding_cmp-tells (IsSeen (Match L p t)) f;
      }

  -- and one of what it splits the term into
  pub has_splits_listing : IsFree L → (p : Pattern) (t : Tree) → HasSplitsListing L p t
  has_splits_listing free p t =
      let f : Finite (SplitsVisibly L p t) = finitely_split p t (finitely_many free p t) in
      record {
        found = sorted decomposition_cmp decomposition_cmp-total decomposition_cmp-tells f.members;
        listing = listed decomposition_cmp decomposition_cmp-total decomposition_cmp-tells (SplitsVisibly L p t) f;
      }
