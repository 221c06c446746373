-- Where ranks fall along every left edge, so do the numbers that they give to patterns, and no nonterminal reaches itself.
use Rattle.std.proofs.Common.{◌≡◌, ℕ, ◌+◌, ◌<◌, ◌≤◌, max, Bool, true, false, List, [], ◌∷◌, drop, refl, sym, subst, arith, if◌then◌else◌}
use Rattle.std.proofs.Math.Nat.{max-le}
use Rattle.rdx_lang.specs.Edges.{Edge, edge_nt, edge_named, edge_differ, edge_hide_hole, edge_closed, edge_left, edge_right, Reaches, at_once, further}
use Rattle.rdx_lang.specs.Empty.{is_empty, TellsEmpty}
use Rattle.rdx_lang.specs.Laws.{RanksFall, EdgesFall, RankedIsFree}
use Rattle.rdx_lang.specs.Lookup.{alternatives_among}
use Rattle.rdx_lang.specs.Members.{In, here, there}
use Rattle.rdx_lang.specs.Patterns.{Pattern, wild, of_kind, except, prefix, hole, lit, nt, named, differ, in_hole, hide_hole, closed, seq, Definition, Language}
use Rattle.rdx_lang.specs.Nodes.{pattern_nodes, patterns_nodes}
use Rattle.rdx_lang.specs.Ranks.{first_rank, root_ranks, roots_among, AreBelow, FallIn, FallInAll, FallAmong, AreRanks}
use Rattle.rdx_lang.specs.LeftNumbers.{above, rank_of, left_number}
use Rattle.rdx_lang.specs.References.{is_same}
use Rattle.rdx_lang.specs.WellFormed.{IsWellFormed}
use Rattle.rdx_lang.specs.declared.pattern.Ref.{Ref}
use Rattle.rdx_lang.proofs.Emptiness.{is_empty-exact, empty_is_decided}
use Rattle.rdx_lang.proofs.LookupLaws.{alternatives_of-all}

-- what is more than all these is n at most, where they are below n
above-least : (ms : List ℕ) (n : ℕ) → AreBelow ms n → above ms ≤ n
above-least [] n h = omega arith
above-least (m ∷ ms) n h = max-le h.0 (above-least ms n h.1)

-- a number that counts only where the test says so is below n, where it is so then and n is positive
counts_below : (b : Bool) (m n : ℕ) → 0 < n → (b ≡ true → m < n) → (if b then m else 0) < n
counts_below true m n o f = f refl
counts_below false m n o f = o

-- one more than both, where both are below n
max-below : (a b n : ℕ) → a < n → b < n → max a b + 1 ≤ n
max-below a b n h k = omega arith

module _ (L : Language) (E : Ref → Bool) (e : TellsEmpty L E) (roots : Ref → List ℕ) where
  -- a number for each pattern, from these ranks of the roots of alternatives
  abbrev number : Pattern → ℕ
  number p = left_number E (λ x. above (roots x)) p

  -- the number of `in-hole` is the rank of its root at most, where those of its parts are
  in_hole-root : (q r : Pattern) (ns : List ℕ) → FallIn L roots (in_hole q r) ns → number q ≤ first_rank (drop 1 ns)
      → number r ≤ first_rank (drop (pattern_nodes q) (drop 1 ns)) → number (in_hole q r) ≤ first_rank ns
  in_hole-root q r ns h k l = max-below (number q) (if is_empty E q then number r else 0) (first_rank ns) left right
    where
      left : number q < first_rank ns
      left = let m : first_rank (drop 1 ns) < first_rank ns = h.0.0 in omega arith

      behind : is_empty E q ≡ true → number r < first_rank ns
      behind s =
          let m : first_rank (drop (pattern_nodes q) (drop 1 ns)) < first_rank ns = h.1.0 ((is_empty-exact L E e q).0 s) in
          omega arith

      right : (if is_empty E q then number r else 0) < first_rank ns
      right = counts_below (is_empty E q) (number r) (first_rank ns) (omega (arith, left)) behind

  -- the number of a pattern is the rank of its root at most
  number-root : (p : Pattern) (ns : List ℕ) → FallIn L roots p ns → number p ≤ first_rank ns
  number-root wild ns h = omega arith
  number-root (of_kind k) ns h = omega arith
  number-root (except rs) ns h = omega arith
  number-root (prefix r) ns h = omega arith
  number-root hole ns h = omega arith
  number-root (lit u) ns h = omega arith
  number-root (nt x) ns h = above-least (roots x) (first_rank ns) h
  number-root (named x q) ns h =
      let k : number q ≤ first_rank (drop 1 ns) = number-root q (drop 1 ns) h.1 in
      let l : first_rank (drop 1 ns) < first_rank ns = h.0 in
      omega arith
  number-root (differ x q) ns h =
      let k : number q ≤ first_rank (drop 1 ns) = number-root q (drop 1 ns) h.1 in
      let l : first_rank (drop 1 ns) < first_rank ns = h.0 in
      omega arith
  number-root (in_hole q r) ns h =
      in_hole-root q r ns h (number-root q (drop 1 ns) h.0.1) (number-root r (drop (pattern_nodes q) (drop 1 ns)) h.1.1)
  number-root (hide_hole q) ns h =
      let k : number q ≤ first_rank (drop 1 ns) = number-root q (drop 1 ns) h.1 in
      let l : first_rank (drop 1 ns) < first_rank ns = h.0 in
      omega arith
  number-root (closed q) ns h =
      let k : number q ≤ first_rank (drop 1 ns) = number-root q (drop 1 ns) h.1 in
      let l : first_rank (drop 1 ns) < first_rank ns = h.0 in
      omega arith
  number-root (seq ps) ns h = omega arith

  -- the number of each of these patterns is below what is more than the ranks of their roots
  number-among : (all : List Pattern) (ns : List ℕ) (p : Pattern) → FallInAll L roots all ns → In p all → number p < above (root_ranks all ns)
  number-among [] ns p f h = elim h [ ]
  number-among (q ∷ all) ns p f (here e) =
      let k : number q ≤ first_rank ns = number-root q ns f.0 in
      subst (λ (r : Pattern). number r < above (root_ranks (q ∷ all) ns)) (sym e) (omega arith)
  number-among (q ∷ all) ns p f (there h) =
      let k : number p < above (root_ranks all (drop (pattern_nodes q) ns)) = number-among all (drop (pattern_nodes q) ns) p f.1 h in
      omega arith

  -- the number of each pattern that is looked up for x is below what is more than the ranks of their roots
  number-looked_up : (ds : List Definition) (ns : List ℕ) (x : Ref) (p : Pattern) → FallAmong L roots ds ns → In p (alternatives_among ds x) → number p < above (roots_among ds ns x)
  number-looked_up [] ns x p f h = elim h [ ]
  number-looked_up (d ∷ ds) ns x p f h = by_test (is_same x d.0) (number-looked_up ds (drop (patterns_nodes d.1) ns) x p f.1) h
    where
      later : List ℕ
      later = roots_among ds (drop (patterns_nodes d.1) ns) x

      by_test : (s : Bool) → (In p (alternatives_among ds x) → number p < above later) → In p (if s then d.1 else alternatives_among ds x)
          → number p < above (if s then root_ranks d.1 ns else later)
      by_test true g i = number-among d.1 ns p f.0 i
      by_test false g i = g i

-- the number of an alternative is below that of its nonterminal
pub ranks_fall : RanksFall
ranks_fall L ns E w r e x p a =
    number-looked_up L E e (roots_among L.nonterminals ns) L.nonterminals ns x p r.fall ((alternatives_of-all L x w.distinct p).1 a)

-- what counts, where the test says so
counts : (b : Bool) (a m : ℕ) → b ≡ true → m < max a (if b then m else 0) + 1
counts true a m h = omega arith
counts false a m h = absurd cc

module _ (L : Language) (ns : List ℕ) (E : Ref → Bool) (w : IsWellFormed L) (r : AreRanks L ns) (e : TellsEmpty L E) where
  -- numbers fall along a left edge
  left_number-edge : {p q : Pattern} → Edge L p q → left_number E (rank_of L ns) q < left_number E (rank_of L ns) p
  left_number-edge (edge_nt {x = x} {p = p} a) = ranks_fall L ns E w r e x p a
  left_number-edge (edge_named {x = x} {q = q}) = omega arith
  left_number-edge (edge_differ {x = x} {q = q}) = omega arith
  left_number-edge (edge_hide_hole {q = q}) = omega arith
  left_number-edge (edge_closed {q = q}) = omega arith
  left_number-edge (edge_left {q = q} {r = s}) = omega arith
  left_number-edge (edge_right {q = q} {r = s} h) =
      counts (is_empty E q) (left_number E (rank_of L ns) q) (left_number E (rank_of L ns) s) ((is_empty-exact L E e q).1 h)

  -- numbers fall along left edges
  left_number-reaches : {p q : Pattern} → Reaches L p q → left_number E (rank_of L ns) q < left_number E (rank_of L ns) p
  left_number-reaches (at_once d) = left_number-edge d
  left_number-reaches (further d h) = let k = left_number-edge d in let l = left_number-reaches h in omega arith

-- where ranks fall along every left edge, so do the numbers of patterns
pub edges_fall : EdgesFall
edges_fall L ns E w r e p q d = left_number-edge L ns E w r e d

-- where ranks fall along every left edge, no nonterminal reaches itself
pub ranked_is_free : RankedIsFree
ranked_is_free L ns w r x h = let t = empty_is_decided L in let k = left_number-reaches L ns t.test w r t.tells h in omega arith
