-- What is left of a list pattern and its terms, as their forms are looked at.
use Rattle.std.proofs.Common.{◌≡◌, ℕ, zero, suc, ◌+◌, ◌-◌, take, ◌<◌, ◌≤◌, List, [], ◌∷◌, length, drop, get_or, map, refl, sym, ap, subst, arith}
use Rattle.std.proofs.lemmas.List.{take_all}
use Rattle.rdx_term.specs.Tree.{Tree, Trees, cons, trees}
use Rattle.rdx_term.specs.Tree.{nil as no_trees}
use Rattle.rdx_term.specs.View.{tree_of, trees_of}
use Rattle.rdx_term.specs.declared.term.Term.{Term}
use Rattle.rdx_lang.specs.Bindings.{Binding}
use Rattle.rdx_lang.specs.Patterns.{Pattern, Items, nil, one, Language}
use Rattle.rdx_lang.specs.PatternView.{pattern_of, slot_of, items_of}
use Rattle.rdx_lang.specs.Rules.{Match, MatchItems, match_one, Split, SplitItems, split_here, split_behind}
use Rattle.rdx_term.specs.Items.{put_at}
use Rattle.rdx_lang.specs.declared.pattern.Item as code_item
use Rattle.rdx_lang.specs.declared.pattern.Pat as code_pattern
use Rattle.rdx_lang.proofs.ItemsAhead.{ahead-one}
use Rattle.rdx_lang.proofs.Rest.{rest_at, rest_none}
use Rattle.rdx_why.specs.Inside.Forms.{NeverMatch, NeverMatches, NeverSplit, NeverSplits}

-- what is behind n elements is all that is taken of it
pub rest_whole : {A : Type 0} (xs : List A) (n : ℕ) → n ≤ length xs → take (length xs - n) (drop n xs) ≡ drop n xs
rest_whole xs n h = take_all (length xs - n) (drop n xs) (let d = dropped xs n h in omega arith)
  where
    dropped : {A : Type 0} (us : List A) (j : ℕ) → j ≤ length us → length (drop j us) + j ≡ length us
    dropped us zero h = omega arith
    dropped [] (suc j) h = absurd (omega arith)
    dropped (u ∷ us) (suc j) h = let r = dropped us j (omega arith) in omega arith

module _ (L : Language) where
  -- the items match the terms, and bind something
  pub record DoMatch (ps : Items) (ts : Trees) : Type 0 where
    pub binding : Binding
    pub matched : MatchItems L ps ts binding

  -- where all do, those from the place on do
  abbrev pub KeepsMatch : List code_item.Item → List Term → ℕ → Type 0
  KeepsMatch items terms i =
      DoMatch (items_of (map slot_of items)) (trees_of terms) → DoMatch (items_of (map slot_of (drop i items))) (trees_of (drop i terms))

  head : {p : Pattern} {ps : Items} {t : Tree} {ts : Trees} {b : Binding} → MatchItems L (one p ps) (cons t ts) b → (c : Binding) × Match L p t c
  head (match_one {c = c} m ms j) = (c, m)

  tail : {p : Pattern} {ps : Items} {t : Tree} {ts : Trees} {b : Binding} → MatchItems L (one p ps) (cons t ts) b → DoMatch ps ts
  tail (match_one {d = d} m ms j) = record { binding = d; matched = ms }

  short : {p : Pattern} {ps : Items} {b : Binding} → MatchItems L (one p ps) no_trees b → ⊥
  short h = elim h [ ]

  over : {t : Tree} {ts : Trees} {b : Binding} → MatchItems L nil (cons t ts) b → ⊥
  over h = elim h [ ]

  module _ (items : List code_item.Item) (terms : List Term) (i : ℕ) (k : KeepsMatch items terms i) where
    module _ (item : code_item.Item) (h : i < length items) (e : item ≡ get_or items i item) (p : code_pattern.Pat) (f : item ≡ code_item.One p) where
      ahead : items_of (map slot_of (drop i items)) ≡ one (pattern_of p) (items_of (map slot_of (drop (i + 1) items)))
      ahead = ahead-one items i item h e p f

      -- no term is left for an item
      pub too_few : length terms ≤ i → NeverMatch L (items_of (map slot_of items)) (trees_of terms)
      too_few l b m =
          let d = k (record { binding = b; matched = m }) in
          let n : trees_of (drop i terms) ≡ no_trees = ap trees (rest_none tree_of terms i l) in
          short (subst (λ (ts : Trees). MatchItems L (one (pattern_of p) (items_of (map slot_of (drop (i + 1) items)))) ts d.binding) n
          (subst (λ (ps : Items). MatchItems L ps (trees_of (drop i terms)) d.binding) ahead d.matched))

      module _ (t : Term) (g : i < length terms) (w : t ≡ get_or terms i t) where
        both : (d : DoMatch (items_of (map slot_of (drop i items))) (trees_of (drop i terms)))
            → MatchItems L (one (pattern_of p) (items_of (map slot_of (drop (i + 1) items)))) (cons (tree_of t) (trees_of (drop (i + 1) terms))) d.binding
        both d =
            subst (λ (ts : Trees). MatchItems L (one (pattern_of p) (items_of (map slot_of (drop (i + 1) items)))) ts d.binding)
            (ap trees (rest_at tree_of terms i t g w))
            (subst (λ (ps : Items). MatchItems L ps (trees_of (drop i terms)) d.binding) ahead d.matched)

        -- an item doesn't match its term
        pub not_this : NeverMatches L (pattern_of p) (tree_of t) → NeverMatch L (items_of (map slot_of items)) (trees_of terms)
        not_this n b m = let c = head (both (k (record { binding = b; matched = m }))) in n c.0 c.1

        -- one item further
        pub further : KeepsMatch items terms (i + 1)
        further d = tail (both (k d))

  empty_rest : (us : List Term) (c : Binding) → MatchItems L nil (trees_of us) c → length us ≡ 0
  empty_rest [] c m = refl
  empty_rest (u ∷ us) c m = absurd (over m)

  -- at the end as many terms as items were met, if no fewer
  pub at_end : (items : List code_item.Item) (terms : List Term) (i : ℕ) → KeepsMatch items terms i → length items ≡ i → i ≤ length terms
      → (length items ≡ length terms → ⊥) → NeverMatch L (items_of (map slot_of items)) (trees_of terms)
  at_end items terms i k h l n b m =
      let d = k (record { binding = b; matched = m }) in
      let e : length (drop i terms) ≡ 0 =
      empty_rest (drop i terms) d.binding
      (subst (λ (ps : Items). MatchItems L ps (trees_of (drop i terms)) d.binding) (ap items_of (rest_none slot_of items i (omega arith))) d.matched) in
      let f : length (drop i terms) + i ≡ length terms = dropped terms i l in
      n (omega arith)
    where
      dropped : (us : List Term) (j : ℕ) → j ≤ length us → length (drop j us) + j ≡ length us
      dropped us zero h = omega arith
      dropped [] (suc j) h = absurd (omega arith)
      dropped (u ∷ us) (suc j) h = let r = dropped us j (omega arith) in omega arith

  -- ---- lists that are split

  -- the items split some terms at the place k, of which these are left with the context in the place of the term there
  pub record DoSplit (ps : Items) (us : Trees) (k : ℕ) : Type 0 where
    pub terms : Trees
    pub context : Tree
    pub part : Tree
    pub binding : Binding
    pub same : us ≡ put_at terms k context
    pub splits : SplitItems L ps terms k context part binding

  -- where all do, those from the place on do
  abbrev pub KeepsSplit : List code_item.Item → List Term → ℕ → ℕ → Type 0
  KeepsSplit items terms k i =
      DoSplit (items_of (map slot_of items)) (trees_of terms) k
      → DoSplit (items_of (map slot_of (drop i items))) (trees_of (drop i terms)) (k - i)

  pub at_start : (items : List code_item.Item) (terms : List Term) (k : ℕ) → KeepsSplit items terms k 0
  at_start items terms k d = subst (λ (n : ℕ). DoSplit (items_of (map slot_of items)) (trees_of terms) n) (omega arith) d

  no_items : {us : Trees} {k : ℕ} → DoSplit nil us k → ⊥
  no_items d = elim d.splits [ ]

  -- the first item is met by a term
  some_term : {p : Pattern} {ps : Items} {k : ℕ} → DoSplit (one p ps) no_trees k → ⊥
  some_term d = by_splits d.same d.splits
    where
      by_splits : {p : Pattern} {ps : Items} {ts : Trees} {k : ℕ} {D s : Tree} {b : Binding} → no_trees ≡ put_at ts k D → SplitItems L (one p ps) ts k D s b → ⊥
      by_splits e (split_here m ms j) = absurd cc
      by_splits e (split_behind m ms j) = absurd cc

  -- it is split
  first_split : {p : Pattern} {ps : Items} {u : Tree} {us : Trees} → DoSplit (one p ps) (cons u us) 0 → NeverSplits L p u → ⊥
  first_split d n = by_splits d.same d.splits n
    where
      by_splits : {p : Pattern} {ps : Items} {u : Tree} {us ts : Trees} {D s : Tree} {b : Binding} → cons u us ≡ put_at ts 0 D → SplitItems L (one p ps) ts 0 D s b
          → NeverSplits L p u → ⊥
      by_splits {p} {ps} {u} {us} {D = D} e (split_here {t = t} {s = s} {c = c} m ms j) n =
          let f : u ≡ D = cc in n t s c (subst (λ (w : Tree). Split L p t w s c) (sym f) m)

  others_match : {p : Pattern} {ps : Items} {u : Tree} {us : Trees} → DoSplit (one p ps) (cons u us) 0 → NeverMatch L ps us → ⊥
  others_match d n = by_splits d.same d.splits n
    where
      by_splits : {p : Pattern} {ps : Items} {u : Tree} {us ts : Trees} {D s : Tree} {b : Binding} → cons u us ≡ put_at ts 0 D → SplitItems L (one p ps) ts 0 D s b
          → NeverMatch L ps us → ⊥
      by_splits {p} {ps} {u} {us} {D = D} e (split_here {ts = ts} {d = d} m ms j) n =
          let f : us ≡ ts = cc in n d (subst (λ (w : Trees). MatchItems L ps w d) (sym f) ms)

  -- it matches, and one behind it is split
  first_match : {p : Pattern} {ps : Items} {u : Tree} {us : Trees} {k : ℕ} → DoSplit (one p ps) (cons u us) (suc k) → (c : Binding) × Match L p u c
  first_match d = by_splits d.same d.splits
    where
      by_splits : {p : Pattern} {ps : Items} {u : Tree} {us ts : Trees} {k : ℕ} {D s : Tree} {b : Binding} → cons u us ≡ put_at ts (suc k) D
          → SplitItems L (one p ps) ts (suc k) D s b → (c : Binding) × Match L p u c
      by_splits {p} {u = u} e (split_behind {t = t} {c = c} m ms j) = let f : u ≡ t = cc in (c, subst (λ (w : Tree). Match L p w c) (sym f) m)

  later_split : {p : Pattern} {ps : Items} {u : Tree} {us : Trees} {k : ℕ} → DoSplit (one p ps) (cons u us) (suc k) → DoSplit ps us k
  later_split d = by_splits d.same d.splits
    where
      by_splits : {p : Pattern} {ps : Items} {u : Tree} {us ts : Trees} {k : ℕ} {D s : Tree} {b : Binding} → cons u us ≡ put_at ts (suc k) D
          → SplitItems L (one p ps) ts (suc k) D s b → DoSplit ps us k
      by_splits {D = D} {s = s} e (split_behind {ts = ts} {d = d} m ms j) =
          record { terms = ts; context = D; part = s; binding = d; same = cc; splits = ms }

  module _ (items : List code_item.Item) (terms : List Term) (k i : ℕ) (keep : KeepsSplit items terms k i) where
    never : (DoSplit (items_of (map slot_of (drop i items))) (trees_of (drop i terms)) (k - i) → ⊥) → NeverSplit L (items_of (map slot_of items)) (trees_of terms) k
    never n ts D s b e m = n (keep (record { terms = ts; context = D; part = s; binding = b; same = e; splits = m }))

    -- no item is left
    pub none_split : length items ≤ i → NeverSplit L (items_of (map slot_of items)) (trees_of terms) k
    none_split h =
        never (λ d. no_items (subst (λ (ps : Items). DoSplit ps (trees_of (drop i terms)) (k - i)) (ap items_of (rest_none slot_of items i h)) d))

    module _ (item : code_item.Item) (h : i < length items) (e : item ≡ get_or items i item) (p : code_pattern.Pat) (f : item ≡ code_item.One p) where
      -- no term is left for an item
      pub too_few_split : length terms ≤ i → NeverSplit L (items_of (map slot_of items)) (trees_of terms) k
      too_few_split l =
          never (λ d. some_term (subst (λ (ts : Trees). DoSplit (one (pattern_of p) (items_of (map slot_of (drop (i + 1) items)))) ts (k - i))
          (ap trees (rest_none tree_of terms i l))
          (subst (λ (ps : Items). DoSplit ps (trees_of (drop i terms)) (k - i)) (ahead-one items i item h e p f) d)))

      module _ (t : Term) (g : i < length terms) (w : t ≡ get_or terms i t) where
        -- what is left begins with both
        begins : (n : ℕ) → k - i ≡ n → DoSplit (items_of (map slot_of (drop i items))) (trees_of (drop i terms)) (k - i)
            → DoSplit (one (pattern_of p) (items_of (map slot_of (drop (i + 1) items)))) (cons (tree_of t) (trees_of (drop (i + 1) terms))) n
        begins n z d =
            subst (λ (m : ℕ). DoSplit (one (pattern_of p) (items_of (map slot_of (drop (i + 1) items)))) (cons (tree_of t) (trees_of (drop (i + 1) terms))) m) z
            (subst (λ (ts : Trees). DoSplit (one (pattern_of p) (items_of (map slot_of (drop (i + 1) items)))) ts (k - i)) (ap trees (rest_at tree_of terms i t g w))
            (subst (λ (ps : Items). DoSplit ps (trees_of (drop i terms)) (k - i)) (ahead-one items i item h e p f) d))

        -- the item at the place does not split
        pub not_split : i ≡ k → NeverSplits L (pattern_of p) (tree_of t) → NeverSplit L (items_of (map slot_of items)) (trees_of terms) k
        not_split z n = never (λ d. first_split (begins 0 (omega arith) d) n)

        -- or those behind it do not match
        pub not_others : i ≡ k → NeverMatch L (items_of (map slot_of (drop (i + 1) items))) (trees_of (drop (i + 1) terms))
            → NeverSplit L (items_of (map slot_of items)) (trees_of terms) k
        not_others z n = never (λ d. others_match (begins 0 (omega arith) d) n)

        -- an item before the place does not match
        pub not_matched : i < k → NeverMatches L (pattern_of p) (tree_of t) → NeverSplit L (items_of (map slot_of items)) (trees_of terms) k
        not_matched z n = never (λ d. let c = first_match (begins (suc (k - (i + 1))) (omega arith) d) in n c.0 c.1)

        -- one item further
        pub further_split : i < k → KeepsSplit items terms k (i + 1)
        further_split z d = later_split (begins (suc (k - (i + 1))) (omega arith) (keep d))
