-- Where each nonterminal may do what its alternatives may, no pattern does what it may not.
use Rattle.std.proofs.Common.{◌≡◌, ℕ, ◌+◌, ◌<◌, ◌≤◌, Bool, true, false, List, [], ◌∷◌, map, refl, sym, ap, ◌∙◌, subst, arith}
use Rattle.std.proofs.lemmas.Bool.{and_parts, and_from, or_left, or_right, both_ways, leb-true}
use Rattle.std.specs.Prelude.{not, ◌&&◌, ◌||◌, Option, Some, None, is_some, nat_eq, nat_le, if◌then◌else◌}
use Rattle.rdx_term.proofs.Bare.{tree_holes-same_bare}
use Rattle.rdx_term.specs.Bare.{bare}
use Rattle.rdx_term.specs.Items.{trees_count}
use Rattle.rdx_term.specs.Tree.{Tree, integer, truth, text, symbol, list, Trees, tree_holes, trees_holes}
use Rattle.rdx_term.specs.Tree.{hole as the_hole}
use Rattle.rdx_lang.proofs.FactLaws.{item_count-same_bare}
use Rattle.rdx_lang.specs.Bindings.{Binding}
use Rattle.rdx_lang.specs.Facts.{is_list, item_count, greatest, IsAtMost, AreEach, AreKnown}
use Rattle.rdx_lang.specs.Members.{In, here, there}
use Rattle.rdx_lang.specs.Names.{names, item_names, add_names, with_length_name}
use Rattle.rdx_lang.specs.Patterns.{Pattern, wild, of_kind, except, prefix, hole, lit, nt, named, differ, in_hole, hide_hole, closed, seq, Items, nil, one, many, Definition, Language}
use Rattle.rdx_lang.specs.Rules.{Match, MatchItems, MatchRun, match_wild, match_kind, match_except, match_prefix, match_hole, match_lit, match_nt, match_named, match_differ, match_in_hole, match_hide_hole, match_closed, match_seq, match_none, match_one, match_many, run_end, run_more, is_of_kind, IsAlternative}
use Rattle.rdx_lang.specs.Rules.{Split, SplitItems, SplitRun, split_hole, split_nt, split_named, split_differ, split_in_hole, split_closed, split_seq, split_here, split_behind, split_many, run_here, run_there, run_behind}
use Rattle.rdx_lang.specs.declared.facts.Each.{Each}
use Rattle.rdx_lang.specs.declared.facts.Known.{Known}
use Rattle.rdx_lang.specs.declared.facts.May.{May}
use Rattle.rdx_lang.specs.declared.pattern.Kind.{Kind}
use Rattle.rdx_lang.specs.declared.pattern.Kind.TheVariants.{Any, Number, Natural, Integer, Real, Text, Boolean, Variable, Unmentioned}
use Rattle.rdx_lang.specs.declared.pattern.Ref.{Ref}
use Rattle.rdx_facts.specs.Inside.Flags.{anything, atoms, kind_may, literal, filled, empty, with_one, with_many, may_of, items_may, is_within, are_within, is_closed, mays, flags_of, flags_by}
use Rattle.rdx_facts.proofs.Parts.{part-solid, part-same}

-- ---- flags

-- a list has so many items at least and at most
pub record IsBetween (low high : ℕ) (t : Tree) : Type 0 where
  pub least : is_list t ≡ true → low ≤ item_count t
  pub most : high < greatest → is_list t ≡ true → item_count t ≤ high

-- what m says, where a term is matched
pub record Fits (m : May) (t : Tree) : Type 0 where
  pub atoms : is_list t ≡ false → m.atoms ≡ true
  pub long : IsBetween m.least m.most t
  pub solid : tree_holes t ≡ 0 → m.solid ≡ true

-- what is so of the first of two tests is so of the second
leads : (a b : Bool) → (not a || b) ≡ true → a ≡ true → b ≡ true
leads true b h e = h
leads false b h e = absurd cc

-- the tests of which `is_within` consists
record Within (m k : May) : Type 0 where
  pub split : m.split ≡ true → k.split ≡ true
  pub atoms : m.atoms ≡ true → k.atoms ≡ true
  pub least : k.least ≤ m.least
  pub most : m.most ≤ k.most
  pub solid : m.solid ≡ true → k.solid ≡ true

within-tests : (m k : May) → is_within m k ≡ true → Within m k
within-tests m k h =
    let low : Bool = nat_le k.least m.least in
    let high : Bool = nat_le m.most k.most in
    let a = and_parts ((not m.split || k.split) && (not m.atoms || k.atoms) && low && high) (not m.solid || k.solid) h in
    let b = and_parts ((not m.split || k.split) && (not m.atoms || k.atoms) && low) high a.0 in
    let c = and_parts ((not m.split || k.split) && (not m.atoms || k.atoms)) low b.0 in
    let d = and_parts (not m.split || k.split) (not m.atoms || k.atoms) c.0 in
    record {
      split = leads m.split k.split d.0;
      atoms = leads m.atoms k.atoms d.1;
      least = leb-true k.least m.least c.1;
      most = leb-true m.most k.most b.1;
      solid = leads m.solid k.solid a.1;
    }

-- a length within bounds is within wider ones
between-within : (m k : May) (t : Tree) → Within m k → IsBetween m.least m.most t → IsBetween k.least k.most t
between-within m k t w f = record {
  least = λ h. let a = w.least in let b = f.least h in omega arith;
  most = λ s h. let a = w.most in let c : m.most < greatest = omega arith in let b = f.most c h in omega arith;
}

-- what fits fits what may do more
fits-within : (m k : May) (t : Tree) → Within m k → Fits m t → Fits k t
fits-within m k t w f = record {
  atoms = λ h. w.atoms (f.atoms h);
  long = between-within m k t w f.long;
  solid = λ h. w.solid (f.solid h);
}

-- no bounds hold of each term
between-all : (t : Tree) → IsBetween 0 greatest t
between-all t = record { least = λ h. omega arith; most = λ s h. absurd (omega arith) }

-- each term fits where all may be matched
fits-anything : (t : Tree) → Fits anything t
fits-anything t = record { atoms = λ h. refl; long = between-all t; solid = λ h. refl }

-- atoms fit where these may be matched
fits-atoms : (t : Tree) → is_list t ≡ false → Fits atoms t
fits-atoms t f = record {
  atoms = λ h. refl;
  long = record { least = λ h. absurd (both_ways (is_list t) f h); most = λ s h. absurd (both_ways (is_list t) f h) };
  solid = λ h. refl;
}

-- atoms fit each built-in name
kind-atom : (k : Kind) (t : Tree) → is_list t ≡ false → Fits (kind_may k) t
kind-atom Any t f = fits-anything t
kind-atom Number t f = fits-atoms t f
kind-atom Natural t f = fits-atoms t f
kind-atom Integer t f = fits-atoms t f
kind-atom Real t f = fits-atoms t f
kind-atom Text t f = fits-atoms t f
kind-atom Boolean t f = fits-atoms t f
kind-atom Variable t f = fits-atoms t f
kind-atom Unmentioned t f = fits-atoms t f

-- only one stands for lists
kind-list : (L : Language) (k : Kind) (m : Option ℕ) (ts : Trees) → is_of_kind L k (list m ts) ≡ true → Fits (kind_may k) (list m ts)
kind-list L Any m ts h = fits-anything (list m ts)
kind-list L Number m ts h = absurd cc
kind-list L Natural m ts h = absurd cc
kind-list L Integer m ts h = absurd cc
kind-list L Real m ts h = absurd cc
kind-list L Text m ts h = absurd cc
kind-list L Boolean m ts h = absurd cc
kind-list L Variable m ts h = absurd cc
kind-list L Unmentioned m ts h = absurd cc

-- what a built-in name stands for fits
kind-fits : (L : Language) (k : Kind) (t : Tree) → is_of_kind L k t ≡ true → Fits (kind_may k) t
kind-fits L k the_hole h = kind-atom k the_hole refl
kind-fits L k (integer z) h = kind-atom k (integer z) refl
kind-fits L k (truth b) h = kind-atom k (truth b) refl
kind-fits L k (text s) h = kind-atom k (text s) refl
kind-fits L k (symbol s) h = kind-atom k (symbol s) refl
kind-fits L k (list m ts) h = kind-list L k m ts h

-- marks don't make lists
bare-list : (t : Tree) → is_list (bare t) ≡ is_list t
bare-list the_hole = refl
bare-list (integer z) = refl
bare-list (truth b) = refl
bare-list (text s) = refl
bare-list (symbol s) = refl
bare-list (list m ts) = refl

-- what a test that is true picks
picks : {A : Type 0} (b : Bool) (x y : A) → b ≡ true → (if b then x else y) ≡ x
picks true x y h = refl
picks false x y h = absurd cc

-- what a literal matches fits
literal-fits : (u t : Tree) → bare t ≡ bare u → Fits (literal u) t
literal-fits u t e =
    let l : is_list t ≡ is_list u = sym (bare-list t) ∙ ap is_list e ∙ bare-list u in
    let c : item_count t ≡ item_count u = item_count-same_bare t u e in
    record {
      atoms = λ h. ap not (sym l ∙ h);
      long = record {
        least = λ h. let p = picks (is_list u) (item_count u) greatest (sym l ∙ h) in omega arith;
        most = λ s h. omega arith;
      };
      solid = λ h. ap (λ n. nat_eq n 0) (sym (tree_holes-same_bare t u e) ∙ h);
    }

-- what the left part splits is as long as is said of the whole
filled-between : (l r : May) (t : Tree) → l.split ≡ true → IsBetween l.least l.most t → IsBetween (filled l r).least (filled l r).most t
filled-between l r t s f =
    let low = picks l.split l.least greatest s in
    let high = picks l.split l.most 0 s in
    record {
      least = λ h. let a = f.least h in omega arith;
      most = λ m h. let a = f.most (omega arith) h in omega arith;
    }

-- what is filled fits, where the part does: in a term without a hole it has none, and in what is no list it is all
filled-fits : (l r : May) (t u : Tree) → l.split ≡ true → IsBetween l.least l.most t → (tree_holes t ≡ 0 → tree_holes u ≡ 0) → (is_list t ≡ false → u ≡ t)
    → Fits r u → Fits (filled l r) t
filled-fits l r t u s long solid same f = record {
  atoms = λ h. and_from l.split r.atoms s (f.atoms (ap is_list (same h) ∙ h));
  long = filled-between l r t s long;
  solid = λ h. and_from l.split r.solid s (f.solid (solid h));
}

-- ---- items

module _ (E : Ref → May) where
  -- more items take no split away
  split-stays : (ps : Items) (m : May) → m.split ≡ true → (items_may E m ps).split ≡ true
  split-stays nil m h = h
  split-stays (one p ps) m h = split-stays ps (with_one m (may_of E p)) (or_left m.split (may_of E p).split h)
  split-stays (many p n ps) m h =
      split-stays ps (with_many m (may_of E p) (is_some n)) (or_left m.split (may_of E p).split h)

  -- ---- names

  -- both are false where either is not
  neither : (a b : Bool) → (a || b) ≡ false → (a ≡ false) × (b ≡ false)
  neither true b h = absurd cc
  neither false b h = (refl, h)

  -- what is not counted has no length name
  no_length : (n : Option (List ℕ)) → is_some n ≡ false → with_length_name n [] ≡ []
  no_length None h = refl
  no_length (Some x) h = absurd cc

  mutual
    -- what may bind nothing has no names
    pub bind-sound : (p : Pattern) → (may_of E p).bind ≡ false → names p ≡ []
    bind-sound wild h = refl
    bind-sound (of_kind k) h = refl
    bind-sound (except rs) h = refl
    bind-sound (prefix r) h = refl
    bind-sound hole h = refl
    bind-sound (lit u) h = refl
    bind-sound (nt x) h = refl
    bind-sound (named x q) h = absurd cc
    bind-sound (differ x q) h = absurd cc
    bind-sound (in_hole q r) h =
        let k = neither (may_of E q).bind (may_of E r).bind h in (λ i. add_names (bind-sound q k.0 i) (bind-sound r k.1 i))
    bind-sound (hide_hole q) h = bind-sound q h
    bind-sound (closed q) h = refl
    bind-sound (seq ps) h = (items-bind ps empty h).1

    -- nor have items that add none
    items-bind : (ps : Items) (m : May) → (items_may E m ps).bind ≡ false → (m.bind ≡ false) × (item_names ps ≡ [])
    items-bind nil m h = (h, refl)
    items-bind (one p ps) m h =
        let k = items-bind ps (with_one m (may_of E p)) h in
        let j = neither m.bind (may_of E p).bind k.0 in
        (j.0, λ i. add_names (bind-sound p j.1 i) (k.1 i))
    items-bind (many p n ps) m h =
        let k = items-bind ps (with_many m (may_of E p) (is_some n)) h in
        let j = neither m.bind ((may_of E p).bind || is_some n) k.0 in
        let g = neither (may_of E p).bind (is_some n) j.1 in
        (j.0, λ i. add_names ((ap (with_length_name n) (bind-sound p g.0) ∙ no_length n g.1) i) (k.1 i))

-- ---- how many items

-- m says of a list of so many items that it may be matched
record Counts (m : May) (n : ℕ) : Type 0 where
  pub least : m.least ≤ n
  pub most : m.most < greatest → n ≤ m.most

-- it says so of one more where it may do one item more
counts-one : (m k : May) (n : ℕ) → Counts m n → Counts (with_one m k) (n + 1)
counts-one m k n c =
    let a = c.least in record { least = omega arith; most = λ s. let b = c.most (omega arith) in omega arith }

-- of any number more where there is no bound
counts-more : (m : May) (n : ℕ) → greatest ≤ m.most → Counts m n → Counts m (n + 1)
counts-more m n g c = let a = c.least in record { least = omega arith; most = λ s. absurd (omega arith) }

module _ (L : Language) (E : Ref → May) where
  mutual
    -- where that is so of the items before these, it is so of these too
    items-count : {ps : Items} {ts : Trees} {b : Binding} → MatchItems L ps ts b
        → (m : May) (n : ℕ) → Counts m n → Counts (items_may E m ps) (n + trees_count ts)
    items-count match_none m n c = subst (Counts m) (omega arith) c
    items-count (match_one {p = p} {ps = ps} {ts = ts} h g j) m n c =
        subst (Counts (items_may E (with_one m (may_of E p)) ps)) (omega arith)
        (items-count g (with_one m (may_of E p)) (n + 1) (counts-one m (may_of E p) n c))
    items-count (match_many {p = p} {n = x} h r j) m n c =
        let a = c.least in
        run-count h (with_many m (may_of E p) (is_some x)) n (omega arith) (record { least = a; most = λ s. absurd (omega arith) })

    run-count : {p : Pattern} {ps : Items} {ts : Trees} {cs : List Binding} {d : Binding} → MatchRun L p ps ts cs d
        → (m : May) (n : ℕ) → greatest ≤ m.most → Counts m n → Counts (items_may E m ps) (n + trees_count ts)
    run-count (run_end h) m n g c = items-count h m n c
    run-count (run_more {ps = ps} {ts = ts} h r) m n g c =
        subst (Counts (items_may E m ps)) (omega arith) (run-count r m (n + 1) g (counts-more m n g c))

  mutual
    -- nor does it matter whether one of the terms is split
    split_items-count : {ps : Items} {ts : Trees} {k : ℕ} {D s : Tree} {b : Binding} → SplitItems L ps ts k D s b
        → (m : May) (n : ℕ) → Counts m n → Counts (items_may E m ps) (n + trees_count ts)
    split_items-count (split_here {p = p} {ps = ps} {ts = ts} h g j) m n c =
        subst (Counts (items_may E (with_one m (may_of E p)) ps)) (omega arith)
        (items-count g (with_one m (may_of E p)) (n + 1) (counts-one m (may_of E p) n c))
    split_items-count (split_behind {p = p} {ps = ps} {ts = ts} h g j) m n c =
        subst (Counts (items_may E (with_one m (may_of E p)) ps)) (omega arith)
        (split_items-count g (with_one m (may_of E p)) (n + 1) (counts-one m (may_of E p) n c))
    split_items-count (split_many {p = p} {n = x} h r j) m n c =
        let a = c.least in
        split_run-count h (with_many m (may_of E p) (is_some x)) n (omega arith) (record { least = a; most = λ s. absurd (omega arith) })

    split_run-count : {p : Pattern} {ps : Items} {ts : Trees} {k : ℕ} {D s : Tree} {cs : List Binding} {d : Binding} → SplitRun L p ps ts k D s cs d
        → (m : May) (n : ℕ) → greatest ≤ m.most → Counts m n → Counts (items_may E m ps) (n + trees_count ts)
    split_run-count (run_here {ps = ps} {ts = ts} h r) m n g c =
        subst (Counts (items_may E m ps)) (omega arith) (run-count r m (n + 1) g (counts-more m n g c))
    split_run-count (run_there {ps = ps} {ts = ts} h r) m n g c =
        subst (Counts (items_may E m ps)) (omega arith) (split_run-count r m (n + 1) g (counts-more m n g c))
    split_run-count (run_behind h) m n g c = split_items-count h m n c

  -- so it is of all items of a list
  list-between : (ps : Items) (m : Option ℕ) (ts : Trees) → Counts (items_may E empty ps) (0 + trees_count ts)
      → IsBetween (items_may E empty ps).least (items_may E empty ps).most (list m ts)
  list-between ps m ts c = let a = c.least in record { least = λ h. omega arith; most = λ s h. let b = c.most s in omega arith }

  counts-empty : Counts empty 0
  counts-empty = record { least = omega arith; most = λ s. omega arith }

  -- be it matched
  matched-between : {ps : Items} {m : Option ℕ} {ts : Trees} {b : Binding} → MatchItems L ps ts b
      → IsBetween (items_may E empty ps).least (items_may E empty ps).most (list m ts)
  matched-between {ps = ps} {m = m} {ts = ts} h = list-between ps m ts (items-count h empty 0 counts-empty)

  -- or split
  split-between : {ps : Items} {m : Option ℕ} {ts : Trees} {k : ℕ} {D s : Tree} {b : Binding} → SplitItems L ps ts k D s b
      → IsBetween (items_may E empty ps).least (items_may E empty ps).most (list m ts)
  split-between {ps = ps} {m = m} {ts = ts} h = list-between ps m ts (split_items-count h empty 0 counts-empty)

-- ---- derivations

module _ (L : Language) (E : Ref → May) (all : (x : Ref) (p : Pattern) → IsAlternative L x p → is_within (may_of E p) (E x) ≡ true) where
  mutual
    -- what splits a term may split
    pub split-sound : {p : Pattern} {t C s : Tree} {b : Binding} → Split L p t C s b → (may_of E p).split ≡ true
    split-sound split_hole = refl
    split-sound (split_nt {x = x} {p = p} a h) = (within-tests (may_of E p) (E x) (all x p a)).split (split-sound h)
    split-sound (split_named h j) = split-sound h
    split-sound (split_differ h j) = split-sound h
    split-sound (split_in_hole {q = q} {r = r} h g e j) =
        and_from (may_of E q).split (may_of E r).split (split-sound h) (split-sound g)
    split-sound (split_closed h) = split-sound h
    split-sound (split_seq h e) = split_items-sound h empty

    split_items-sound : {ps : Items} {ts : Trees} {k : ℕ} {D s : Tree} {b : Binding} → SplitItems L ps ts k D s b
        → (m : May) → (items_may E m ps).split ≡ true
    split_items-sound (split_here {p = p} {ps = ps} h g j) m =
        split-stays E ps (with_one m (may_of E p)) (or_right m.split (may_of E p).split (split-sound h))
    split_items-sound (split_behind {p = p} {ps = ps} h g j) m = split_items-sound g (with_one m (may_of E p))
    split_items-sound (split_many {p = p} {n = n} {ps = ps} h r j) m =
        split_run-sound h (with_many m (may_of E p) (is_some n)) (λ e. or_right m.split (may_of E p).split e)

    split_run-sound : {p : Pattern} {ps : Items} {ts : Trees} {k : ℕ} {D s : Tree} {cs : List Binding} {d : Binding} → SplitRun L p ps ts k D s cs d
        → (m : May) → ((may_of E p).split ≡ true → m.split ≡ true) → (items_may E m ps).split ≡ true
    split_run-sound (run_here {ps = ps} h r) m f = split-stays E ps m (f (split-sound h))
    split_run-sound (run_there h r) m f = split_run-sound r m f
    split_run-sound (run_behind h) m f = split_items-sound h m

  -- and it is as long as is said
  pub split-long : {p : Pattern} {t C s : Tree} {b : Binding} → Split L p t C s b → IsBetween (may_of E p).least (may_of E p).most t
  split-long (split_hole {t = t}) = between-all t
  split-long (split_nt {x = x} {p = p} {t = t} a h) =
      between-within (may_of E p) (E x) t (within-tests (may_of E p) (E x) (all x p a)) (split-long h)
  split-long (split_named h j) = split-long h
  split-long (split_differ h j) = split-long h
  split-long (split_in_hole {q = q} {r = r} {t = t} h g e j) =
      filled-between (may_of E q) (may_of E r) t (split-sound h) (split-long h)
  split-long (split_closed h) = split-long h
  split-long (split_seq h e) = split-between L E h

  mutual
    -- what is matched may be matched
    pub match-sound : {p : Pattern} {t : Tree} {b : Binding} → Match L p t b → Fits (may_of E p) t
    match-sound (match_wild {t = t}) = fits-anything t
    match-sound (match_kind {k = k} {t = t} h) = kind-fits L k t h
    match-sound (match_except {s = s} h) = fits-atoms (symbol s) refl
    match-sound (match_prefix {s = s} h) = fits-atoms (symbol s) refl
    match-sound match_hole =
        record { atoms = λ h. refl; long = between-all the_hole; solid = λ h. absurd (omega arith) }
    match-sound (match_lit {u = u} {t = t} e) = literal-fits u t e
    match-sound (match_nt {x = x} {p = p} {t = t} a h) =
        fits-within (may_of E p) (E x) t (within-tests (may_of E p) (E x) (all x p a)) (match-sound h)
    match-sound (match_named h j) =
        let f = match-sound h in record { atoms = f.atoms; long = f.long; solid = f.solid }
    match-sound (match_differ h j) =
        let f = match-sound h in record { atoms = f.atoms; long = f.long; solid = f.solid }
    match-sound (match_in_hole {q = q} {r = r} {t = t} {u = u} h g j) =
        filled-fits (may_of E q) (may_of E r) t u (split-sound h) (split-long h) (part-solid h) (part-same h) (match-sound g)
    match-sound (match_hide_hole h) =
        let f = match-sound h in record { atoms = f.atoms; long = f.long; solid = f.solid }
    match-sound (match_closed h) =
        let f = match-sound h in record { atoms = f.atoms; long = f.long; solid = f.solid }
    match-sound (match_seq h) =
        record { atoms = λ e. absurd cc; long = matched-between L E h; solid = λ z. items-sound h empty refl z }

    items-sound : {ps : Items} {ts : Trees} {b : Binding} → MatchItems L ps ts b
        → (m : May) → m.solid ≡ true → trees_holes ts ≡ 0 → (items_may E m ps).solid ≡ true
    items-sound match_none m s z = s
    items-sound (match_one {p = p} {t = t} {ts = ts} h g j) m s z =
        let y : tree_holes t ≡ 0 = omega arith in
        let x : trees_holes ts ≡ 0 = omega arith in
        items-sound g (with_one m (may_of E p)) (and_from m.solid (may_of E p).solid s ((match-sound h).solid y)) x
    items-sound (match_many {p = p} {n = n} h r j) m s z = run-sound h (with_many m (may_of E p) (is_some n)) s z

    run-sound : {p : Pattern} {ps : Items} {ts : Trees} {cs : List Binding} {d : Binding} → MatchRun L p ps ts cs d
        → (m : May) → m.solid ≡ true → trees_holes ts ≡ 0 → (items_may E m ps).solid ≡ true
    run-sound (run_end h) m s z = items-sound h m s z
    run-sound (run_more {t = t} {ts = ts} h r) m s z = let x : trees_holes ts ≡ 0 = omega arith in run-sound r m s x

  -- ---- facts

  -- what a pattern may not do it never does
  pub at_most : (p : Pattern) → IsAtMost L (may_of E p) p
  at_most p = record {
    split = λ f t C s b h. both_ways (may_of E p).split f (split-sound h);
    atoms = λ f t b h. by_list (is_list t) (λ e. both_ways (may_of E p).atoms f ((match-sound h).atoms e));
    least = (λ t b h e. (match-sound h).long.least e, λ t C s b h e. (split-long h).least e);
    most = λ m. (λ t b h e. (match-sound h).long.most m e, λ t C s b h e. (split-long h).most m e);
    solid = λ f t b h z. both_ways (may_of E p).solid f ((match-sound h).solid z);
    bind = λ f. bind-sound E p f;
  }
    where
      by_list : (b : Bool) → (b ≡ false → ⊥) → b ≡ true
      by_list true f = refl
      by_list false f = absurd (f refl)

  -- nor do alternatives
  pub each-known : (ps : List Pattern) (es : List Each) → mays es ≡ map (λ p. may_of E p) ps → AreEach L ps es
  each-known [] [] h = tt
  each-known [] (e ∷ es) h = absurd cc
  each-known (p ∷ ps) [] h = absurd cc
  each-known (p ∷ ps) (e ∷ es) h =
      let f : e.may ≡ may_of E p = cc in
      let g : mays es ≡ map (λ q. may_of E q) ps = cc in
      (subst (λ (m : May). IsAtMost L m p) (sym f) (at_most p), each-known ps es g)

  -- nor do nonterminals
  pub all-known : (ds : List Definition) (ks : List Known) → map flags_of ks ≡ map (λ d. flags_by E d) ds → AreKnown L ds ks
  all-known [] [] h = tt
  all-known [] (k ∷ ks) h = absurd cc
  all-known (d ∷ ds) [] h = absurd cc
  all-known (d ∷ ds) (k ∷ ks) h =
      let e : flags_of k ≡ flags_by E d = cc in
      let g : map flags_of ks ≡ map (λ c. flags_by E c) ds = cc in
      let f : k.may ≡ E d.0 = ap (λ (w : May × List May). w.0) e in (
        record {
          whole = subst (λ (m : May). IsAtMost L m (nt d.0)) (sym f) (at_most (nt d.0));
          each = each-known d.1 k.each.items (ap (λ (w : May × List May). w.1) e);
        },
        all-known ds ks g,
      )

-- ---- what was tested

module _ (E : Ref → May) where
  -- of each of the patterns
  pattern-within : (ps : List Pattern) (k : May) (p : Pattern) → are_within E ps k ≡ true → In p ps → is_within (may_of E p) k ≡ true
  pattern-within [] k p h i = elim i [ ]
  pattern-within (q ∷ ps) k p h (here e) =
      ap (λ (r : Pattern). is_within (may_of E r) k) e ∙ (and_parts (is_within (may_of E q) k) (are_within E ps k) h).0
  pattern-within (q ∷ ps) k p h (there i) =
      pattern-within ps k p (and_parts (is_within (may_of E q) k) (are_within E ps k) h).1 i

  -- of those of each of the definitions
  definition-within : (ds : List Definition) (x : Ref) (ps : List Pattern) → is_closed E ds ≡ true → In (x, ps) ds → are_within E ps (E x) ≡ true
  definition-within [] x ps h i = elim i [ ]
  definition-within (d ∷ ds) x ps h (here e) =
      ap (λ (c : Definition). are_within E c.1 (E c.0)) e ∙ (and_parts (are_within E d.1 (E d.0)) (is_closed E ds) h).0
  definition-within (d ∷ ds) x ps h (there i) =
      definition-within ds x ps (and_parts (are_within E d.1 (E d.0)) (is_closed E ds) h).1 i

  -- of each alternative
  pub closed-within : (L : Language) → is_closed E L.nonterminals ≡ true
      → (x : Ref) (p : Pattern) → IsAlternative L x p → is_within (may_of E p) (E x) ≡ true
  closed-within L h x p a = pattern-within a.all (E x) p (definition-within L.nonterminals x a.all h a.defined) a.among
