-- Ranks in pre-order fall along every left edge, where the number of each nonterminal is above those of its alternatives.
use Rattle.std.proofs.Common.{◌≡◌, ℕ, ◌+◌, ◌<◌, Bool, true, false, List, [], ◌∷◌, ◌++◌, length, drop, map, max, refl, sym, ◌∙◌, ap, subst, arith, length-append, append_assoc, if◌then◌else◌}
use Rattle.std.proofs.lemmas.List.{drop_at}
use Rattle.rdx_lang.specs.Empty.{IsEmpty, TellsEmpty, is_empty}
use Rattle.rdx_lang.specs.Lookup.{alternatives_among, alternatives_of}
use Rattle.rdx_lang.specs.Members.{In, here, there}
use Rattle.rdx_lang.specs.Patterns.{Pattern, wild, of_kind, except, prefix, hole, lit, nt, named, differ, in_hole, hide_hole, closed, seq, Items, nil, one, many, Definition, Language}
use Rattle.rdx_lang.specs.Nodes.{pattern_nodes, items_nodes, patterns_nodes, definitions_nodes}
use Rattle.rdx_lang.specs.Ranks.{first_rank, root_ranks, roots_among, AreBelow, FallIn, FallInItems, FallInAll, FallAmong, AreRanks}
use Rattle.rdx_lang.specs.LeftNumbers.{left_number}
use Rattle.rdx_lang.specs.References.{is_same}
use Rattle.rdx_lang.specs.declared.pattern.Ref.{Ref}
use Rattle.rdx_lang.proofs.Emptiness.{is_empty-exact}
use Rattle.rdx_leftrec.specs.Inside.Preorder.{pattern_ranks, items_ranks, patterns_ranks, definitions_ranks}

module _ (E : Ref → Bool) (R : Ref → ℕ) where
  -- ---- how many ranks there are, and which come first

  mutual
    -- one for each node of a pattern
    length-pattern_ranks : (p : Pattern) → length (pattern_ranks E R p) ≡ pattern_nodes p
    length-pattern_ranks wild = refl
    length-pattern_ranks (of_kind k) = refl
    length-pattern_ranks (except rs) = refl
    length-pattern_ranks (prefix r) = refl
    length-pattern_ranks hole = refl
    length-pattern_ranks (lit u) = refl
    length-pattern_ranks (nt x) = refl
    length-pattern_ranks (named x q) = let k = length-pattern_ranks q in omega arith
    length-pattern_ranks (differ x q) = let k = length-pattern_ranks q in omega arith
    length-pattern_ranks (in_hole q r) =
        let k = length-pattern_ranks q in
        let l = length-pattern_ranks r in
        omega (arith, length-append (pattern_ranks E R q) (pattern_ranks E R r))
    length-pattern_ranks (hide_hole q) = let k = length-pattern_ranks q in omega arith
    length-pattern_ranks (closed q) = let k = length-pattern_ranks q in omega arith
    length-pattern_ranks (seq ps) = let k = length-items_ranks ps in omega arith

    -- and of items
    length-items_ranks : (ps : Items) → length (items_ranks E R ps) ≡ items_nodes ps
    length-items_ranks nil = refl
    length-items_ranks (one p ps) =
        let k = length-pattern_ranks p in
        let l = length-items_ranks ps in
        omega (arith, length-append (pattern_ranks E R p) (items_ranks E R ps))
    length-items_ranks (many p n ps) =
        let k = length-pattern_ranks p in
        let l = length-items_ranks ps in
        omega (arith, length-append (pattern_ranks E R p) (items_ranks E R ps))

  -- and of the patterns of a list
  length-patterns_ranks : (ps : List Pattern) → length (patterns_ranks E R ps) ≡ patterns_nodes ps
  length-patterns_ranks [] = refl
  length-patterns_ranks (p ∷ ps) =
      let k = length-pattern_ranks p in
      let l = length-patterns_ranks ps in
      omega (arith, length-append (pattern_ranks E R p) (patterns_ranks E R ps))

  -- and of definitions
  length-definitions_ranks : (ds : List Definition) → length (definitions_ranks E R ds) ≡ definitions_nodes ds
  length-definitions_ranks [] = refl
  length-definitions_ranks (d ∷ ds) =
      let k = length-patterns_ranks d.1 in
      let l = length-definitions_ranks ds in
      omega (arith, length-append (patterns_ranks E R d.1) (definitions_ranks E R ds))

  -- the first rank is that of the root
  first-pattern_ranks : (p : Pattern) (rest : List ℕ) → first_rank (pattern_ranks E R p ++ rest) ≡ left_number E R p
  first-pattern_ranks wild rest = refl
  first-pattern_ranks (of_kind k) rest = refl
  first-pattern_ranks (except rs) rest = refl
  first-pattern_ranks (prefix r) rest = refl
  first-pattern_ranks hole rest = refl
  first-pattern_ranks (lit u) rest = refl
  first-pattern_ranks (nt x) rest = refl
  first-pattern_ranks (named x q) rest = refl
  first-pattern_ranks (differ x q) rest = refl
  first-pattern_ranks (in_hole q r) rest = refl
  first-pattern_ranks (hide_hole q) rest = refl
  first-pattern_ranks (closed q) rest = refl
  first-pattern_ranks (seq ps) rest = refl

  -- behind a pattern's ranks come the others
  drop-pattern_ranks : (p : Pattern) (rest : List ℕ) → drop (pattern_nodes p) (pattern_ranks E R p ++ rest) ≡ rest
  drop-pattern_ranks p rest = drop_at (pattern_ranks E R p) rest (pattern_nodes p) (length-pattern_ranks p)

  -- and behind those of a list of patterns
  drop-patterns_ranks : (ps : List Pattern) (rest : List ℕ) → drop (patterns_nodes ps) (patterns_ranks E R ps ++ rest) ≡ rest
  drop-patterns_ranks ps rest = drop_at (patterns_ranks E R ps) rest (patterns_nodes ps) (length-patterns_ranks ps)

  -- ---- the ranks of the roots of alternatives

  -- the ranks of the roots of patterns are their numbers
  root_ranks-patterns : (ps : List Pattern) (rest : List ℕ) → root_ranks ps (patterns_ranks E R ps ++ rest) ≡ map (left_number E R) ps
  root_ranks-patterns [] rest = refl
  root_ranks-patterns (p ∷ ps) rest =
      let a : (pattern_ranks E R p ++ patterns_ranks E R ps) ++ rest ≡ pattern_ranks E R p ++ (patterns_ranks E R ps ++ rest) =
      append_assoc (pattern_ranks E R p) (patterns_ranks E R ps) rest in
      let behind : root_ranks ps (drop (pattern_nodes p) (pattern_ranks E R p ++ (patterns_ranks E R ps ++ rest))) ≡ map (left_number E R) ps =
      ap (λ (ns : List ℕ). root_ranks ps ns) (drop-pattern_ranks p (patterns_ranks E R ps ++ rest)) ∙ root_ranks-patterns ps rest in
      subst (λ (ns : List ℕ). root_ranks (p ∷ ps) ns ≡ map (left_number E R) (p ∷ ps)) (sym a) (λ i. first-pattern_ranks p (patterns_ranks E R ps ++ rest) i ∷ behind i)

  -- those of the alternatives of a nonterminal are the numbers of what is looked up
  roots_among-definitions : (ds : List Definition) (x : Ref) → roots_among ds (definitions_ranks E R ds) x ≡ map (left_number E R) (alternatives_among ds x)
  roots_among-definitions [] x = refl
  roots_among-definitions (d ∷ ds) x =
      by_test (is_same x d.0) (ap (λ (ns : List ℕ). roots_among ds ns x) (drop-patterns_ranks d.1 (definitions_ranks E R ds)) ∙ roots_among-definitions ds x)
    where
      by_test : (s : Bool) → roots_among ds (drop (patterns_nodes d.1) (patterns_ranks E R d.1 ++ definitions_ranks E R ds)) x ≡ map (left_number E R) (alternatives_among ds x)
          → (if s then root_ranks d.1 (patterns_ranks E R d.1 ++ definitions_ranks E R ds) else roots_among ds (drop (patterns_nodes d.1) (patterns_ranks E R d.1 ++ definitions_ranks E R ds)) x)
          ≡ map (left_number E R) (if s then d.1 else alternatives_among ds x)
      by_test true later = root_ranks-patterns d.1 (definitions_ranks E R ds)
      by_test false later = later

  -- these numbers are below n where that of each pattern is
  below-each : (ps : List Pattern) (n : ℕ) → ((p : Pattern) → In p ps → left_number E R p < n) → AreBelow (map (left_number E R) ps) n
  below-each [] n h = tt
  below-each (p ∷ ps) n h = (h p (here refl), below-each ps n (λ q i. h q (there i)))

  -- the number of the right part of `in-hole` is less where the left part is Empty
  right-less : (b : Bool) (m n : ℕ) → b ≡ true → n < max m (if b then n else 0) + 1
  right-less true m n e = omega arith
  right-less false m n e = absurd cc

  -- ---- ranks fall, where the number of each nonterminal is above the ranks of the roots of its alternatives

  module _ (L : Language) (t : TellsEmpty L E) (roots : Ref → List ℕ) (above : (x : Ref) → AreBelow (roots x) (R x)) where
    -- in items, where they do in the pattern of the first and in those behind it
    falls-first : (p : Pattern) (ps : Items) (rest : List ℕ) → FallIn L roots p (pattern_ranks E R p ++ (items_ranks E R ps ++ rest))
        → FallInItems L roots ps (items_ranks E R ps ++ rest) → FallInItems L roots (one p ps) (items_ranks E R (one p ps) ++ rest)
    falls-first p ps rest h k =
        subst (λ (ns : List ℕ). FallInItems L roots (one p ps) ns) (sym (append_assoc (pattern_ranks E R p) (items_ranks E R ps) rest))
        (h, subst (λ (ns : List ℕ). FallInItems L roots ps ns) (sym (drop-pattern_ranks p (items_ranks E R ps ++ rest))) k)

    mutual
      -- in a pattern
      falls-pattern : (p : Pattern) (rest : List ℕ) → FallIn L roots p (pattern_ranks E R p ++ rest)
      falls-pattern wild rest = tt
      falls-pattern (of_kind k) rest = tt
      falls-pattern (except rs) rest = tt
      falls-pattern (prefix r) rest = tt
      falls-pattern hole rest = tt
      falls-pattern (lit u) rest = tt
      falls-pattern (nt x) rest = above x
      falls-pattern (named x q) rest = (let k = first-pattern_ranks q rest in omega arith, falls-pattern q rest)
      falls-pattern (differ x q) rest = (let k = first-pattern_ranks q rest in omega arith, falls-pattern q rest)
      falls-pattern (in_hole q r) rest = subst parts (sym (append_assoc (pattern_ranks E R q) (pattern_ranks E R r) rest)) (
        (let k = first-pattern_ranks q (pattern_ranks E R r ++ rest) in omega arith, falls-pattern q (pattern_ranks E R r ++ rest)),
        subst right (sym (drop-pattern_ranks q (pattern_ranks E R r ++ rest))) (less, falls-pattern r rest),
      )
        where
          right : List ℕ → Type 0
          right ns = (IsEmpty L q → first_rank ns < left_number E R (in_hole q r)) × FallIn L roots r ns

          parts : List ℕ → Type 0
          parts ns = ((first_rank ns < left_number E R (in_hole q r)) × FallIn L roots q ns) × right (drop (pattern_nodes q) ns)

          less : IsEmpty L q → first_rank (pattern_ranks E R r ++ rest) < left_number E R (in_hole q r)
          less e =
              let k = first-pattern_ranks r rest in
              let l = right-less (is_empty E q) (left_number E R q) (left_number E R r) ((is_empty-exact L E t q).1 e) in
              omega arith
      falls-pattern (hide_hole q) rest = (let k = first-pattern_ranks q rest in omega arith, falls-pattern q rest)
      falls-pattern (closed q) rest = (let k = first-pattern_ranks q rest in omega arith, falls-pattern q rest)
      falls-pattern (seq ps) rest = falls-items ps rest

      -- in items
      falls-items : (ps : Items) (rest : List ℕ) → FallInItems L roots ps (items_ranks E R ps ++ rest)
      falls-items nil rest = tt
      falls-items (one p ps) rest = falls-first p ps rest (falls-pattern p (items_ranks E R ps ++ rest)) (falls-items ps rest)
      falls-items (many p n ps) rest = falls-first p ps rest (falls-pattern p (items_ranks E R ps ++ rest)) (falls-items ps rest)

    -- in the patterns of a list
    falls-patterns : (ps : List Pattern) (rest : List ℕ) → FallInAll L roots ps (patterns_ranks E R ps ++ rest)
    falls-patterns [] rest = tt
    falls-patterns (p ∷ ps) rest = subst (λ (ns : List ℕ). FallInAll L roots (p ∷ ps) ns) (sym (append_assoc (pattern_ranks E R p) (patterns_ranks E R ps) rest))
        (falls-pattern p (patterns_ranks E R ps ++ rest), subst (λ (ns : List ℕ). FallInAll L roots ps ns) (sym (drop-pattern_ranks p (patterns_ranks E R ps ++ rest))) (falls-patterns ps rest))

    -- in definitions
    falls-definitions : (ds : List Definition) → FallAmong L roots ds (definitions_ranks E R ds)
    falls-definitions [] = tt
    falls-definitions (d ∷ ds) =
        (falls-patterns d.1 (definitions_ranks E R ds), subst (λ (ns : List ℕ). FallAmong L roots ds ns) (sym (drop-patterns_ranks d.1 (definitions_ranks E R ds))) (falls-definitions ds))

  -- ranks from a number for each nonterminal that is above the numbers of its alternatives
  pub ranks-fall : (L : Language) → TellsEmpty L E → ((x : Ref) (p : Pattern) → In p (alternatives_of L x) → left_number E R p < R x) → AreRanks L (definitions_ranks E R L.nonterminals)
  ranks-fall L t h = record {
    each = length-definitions_ranks L.nonterminals;
    fall = falls-definitions L t (roots_among L.nonterminals (definitions_ranks E R L.nonterminals)) above L.nonterminals;
  }
    where
      above : (x : Ref) → AreBelow (roots_among L.nonterminals (definitions_ranks E R L.nonterminals) x) (R x)
      above x =
          subst (λ (ms : List ℕ). AreBelow ms (R x)) (sym (roots_among-definitions L.nonterminals x)) (below-each (alternatives_of L x) (R x) (λ p i. h x p i))
