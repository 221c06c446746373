-- A language whose alternatives speak of its nonterminals and of any cross nonterminals is well formed once it has what it needs.
use Rattle.std.proofs.Common.{◌≡◌, ℕ, true, List, [], ◌∷◌, ◌++◌, map, refl, subst}
use Rattle.std.specs.Prelude.{◌&&◌, flat_map}
use Rattle.rdx_lang.specs.CrossLaws.{cross_of, IsCompletable}
use Rattle.rdx_lang.specs.Crosses.{Way, ways, item_ways, language_ways}
use Rattle.rdx_lang.specs.Depths.{has_fitting_names}
use Rattle.rdx_lang.specs.Members.{In, here, there}
use Rattle.rdx_lang.specs.Patterns.{Pattern, wild, of_kind, except, prefix, hole, lit, nt, named, differ, in_hole, hide_hole, closed, seq, Items, nil, one, many, Language}
use Rattle.rdx_lang.specs.References.{is_same, is_among, are_distinct}
use Rattle.rdx_lang.specs.Rules.{IsAlternative}
use Rattle.rdx_lang.specs.WellFormed.{has_known_nonterminals, have_known_nonterminals, is_well_formed, all_alternatives, defined}
use Rattle.rdx_lang.specs.declared.pattern.Ref.{Ref}
use Rattle.rdx_lang.specs.declared.pattern.Ref.TheVariants.{Nt, Cross}
use Rattle.rdx_lang.proofs.DefinedNonterminals.{among-head, among-first, among-second}
use Rattle.rdx_lang.proofs.MemberLaws.{append-left, append-right, flat_map-in, map-in}
use Rattle.rdx_lang.proofs.WellFormedCrosses.{alternative-passes, alternatives-pass}
use Rattle.rdx_patterns.proofs.Booleans.{and_true, and_both}
use Rattle.rdx_patterns.proofs.Tests.{or_right}

-- a member of a list is among it
pub in-among : (x : Ref) (xs : List Ref) → In x xs → is_among x xs ≡ true
in-among x [] i = elim i [ ]
in-among x (y ∷ xs) (here e) = subst (λ z. is_among x (z ∷ xs) ≡ true) e (among-head x xs)
in-among x (y ∷ xs) (there i) = or_right (is_same x y) (is_among x xs) (in-among x xs i)

-- ---- a pattern whose plain nonterminals and whose cross nonterminals are known

module _ (xs ys : List Ref) (plain : (z : List ℕ) → is_among (Nt z) xs ≡ true → is_among (Nt z) ys ≡ true) where
  -- each of these ways is one of the nonterminals
  abbrev AreThere : List Way → Type 0
  AreThere ws = (w : Way) → In w ws → is_among (cross_of w) ys ≡ true

  -- those of a pattern before items
  with_rest : (p : Pattern) (ps : Items) → (has_known_nonterminals xs p ≡ true → AreThere (ways p) → has_known_nonterminals ys p ≡ true)
      → (have_known_nonterminals xs ps ≡ true → AreThere (item_ways ps) → have_known_nonterminals ys ps ≡ true)
      → (has_known_nonterminals xs p && have_known_nonterminals xs ps) ≡ true → AreThere (ways p ++ item_ways ps)
      → (has_known_nonterminals ys p && have_known_nonterminals ys ps) ≡ true
  with_rest p ps f g h a =
      let k = and_true (has_known_nonterminals xs p) (have_known_nonterminals xs ps) h in
      and_both (has_known_nonterminals ys p) (have_known_nonterminals ys ps)
      (f k.0 (λ w i. a w (append-left (ways p) (item_ways ps) w i)))
      (g k.1 (λ w i. a w (append-right (ways p) (item_ways ps) w i)))

  mutual
    -- all its nonterminals are
    known-needed : (p : Pattern) → has_known_nonterminals xs p ≡ true → AreThere (ways p) → has_known_nonterminals ys p ≡ true
    known-needed wild h a = refl
    known-needed (of_kind k) h a = refl
    known-needed (except rs) h a = refl
    known-needed (prefix r) h a = refl
    known-needed hole h a = refl
    known-needed (lit u) h a = refl
    known-needed (nt (Nt z)) h a = plain z h
    known-needed (nt (Cross z y)) h a = a (z, y) (here refl)
    known-needed (named x q) h a = known-needed q h a
    known-needed (differ x q) h a = known-needed q h a
    known-needed (in_hole q r) h a =
        let k = and_true (has_known_nonterminals xs q) (has_known_nonterminals xs r) h in
        and_both (has_known_nonterminals ys q) (has_known_nonterminals ys r)
        (known-needed q k.0 (λ w i. a w (append-left (ways q) (ways r) w i)))
        (known-needed r k.1 (λ w i. a w (append-right (ways q) (ways r) w i)))
    known-needed (hide_hole q) h a = known-needed q h a
    known-needed (closed q) h a = known-needed q h a
    known-needed (seq ps) h a = known-needed_items ps h a

    -- and those of items
    known-needed_items : (ps : Items) → have_known_nonterminals xs ps ≡ true → AreThere (item_ways ps) → have_known_nonterminals ys ps ≡ true
    known-needed_items nil h a = refl
    known-needed_items (one p ps) h a = with_rest p ps (known-needed p) (known-needed_items ps) h a
    known-needed_items (many p n ps) h a = with_rest p ps (known-needed p) (known-needed_items ps) h a

-- ---- languages

-- Where a language has those of these nonterminals that are no cross nonterminals, of what speaks of these it lacks the cross nonterminals alone that
-- its alternatives need.
module _ (L : Language) (xs : List Ref) (plain : (z : List ℕ) → is_among (Nt z) xs ≡ true → is_among (Nt z) (defined L) ≡ true) where
  abbrev needed : List Ref
  needed = map cross_of (language_ways L)

  abbrev ys : List Ref
  ys = defined L ++ needed

  there-all : (x : Ref) (p : Pattern) → IsAlternative L x p → (w : Way) → In w (ways p) → is_among (cross_of w) ys ≡ true
  there-all x p a w i =
      let j : In w (flat_map ways a.all) = flat_map-in ways a.all p w a.among i in
      let k : In w (language_ways L) = flat_map-in (λ d. flat_map ways d.1) L.nonterminals (x, a.all) w a.defined j in
      among-second (cross_of w) (defined L) needed (in-among (cross_of w) needed (map-in cross_of (language_ways L) w k))

  each-known : (x : Ref) (p : Pattern) → IsAlternative L x p → has_known_nonterminals xs p ≡ true → has_known_nonterminals ys p ≡ true
  each-known x p a k =
      known-needed xs ys (λ z e. among-first (Nt z) (defined L) needed (plain z e)) p k (there-all x p a)

  -- so it is with its alternatives, if they speak of these
  pub needs-only : all_alternatives (has_known_nonterminals xs) L.nonterminals ≡ true → all_alternatives (has_known_nonterminals ys) L.nonterminals ≡ true
  needs-only h = alternatives-pass (has_known_nonterminals ys) L (λ x p a. each-known x p a (alternative-passes (has_known_nonterminals xs) L x p h a))

  -- and if they are well formed, it is so once it has what it needs
  pub completable : are_distinct (defined L) ≡ true → all_alternatives (is_well_formed xs) L.nonterminals ≡ true → IsCompletable L
  completable d h = record { distinct = d; alternatives = alternatives-pass (is_well_formed ys) L each }
    where
      each : (x : Ref) (p : Pattern) → IsAlternative L x p → is_well_formed ys p ≡ true
      each x p a =
          let k = and_true (has_known_nonterminals xs p) (has_fitting_names p) (alternative-passes (is_well_formed xs) L x p h a) in
          and_both (has_known_nonterminals ys p) (has_fitting_names p) (each-known x p a k.0) k.1
