-- Languages with the cross nonterminals that they need are well formed.
use Rattle.std.proofs.Common.{◌≡◌, ℕ, inl, inr, true, false, List, [], ◌∷◌, ◌++◌, map, refl, sym, subst}
use Rattle.std.specs.Prelude.{flat_map}
use Rattle.std.proofs.lemmas.Bool.{or_cases, both_ways}
use Rattle.rdx_lang.specs.CrossLaws.{crosses_to, known_with, PatternsGetTheirs, cross_of, CompletedWellFormed}
use Rattle.rdx_lang.specs.Crosses.{plain_names, new_cross, new_crosses, with_crosses, with_crosses_to, Way, language_ways, with_way, with_ways, completed}
use Rattle.rdx_lang.specs.Members.{In, here, there}
use Rattle.rdx_lang.specs.Patterns.{Pattern, Definition, Language}
use Rattle.rdx_lang.specs.References.{is_same, is_among, are_distinct}
use Rattle.rdx_lang.specs.Rules.{IsAlternative}
use Rattle.rdx_lang.specs.WellFormed.{is_well_formed, is_well_formed_in, all_alternatives, defined}
use Rattle.rdx_lang.specs.declared.pattern.Ref.{Ref}
use Rattle.rdx_lang.specs.declared.pattern.Ref.TheVariants.{Nt, Cross}
use Rattle.rdx_lang.proofs.CrossesAgain.{crosses_there}
use Rattle.rdx_lang.proofs.DefinedNonterminals.{among-cases, among-first, among-second, defined-more}
use Rattle.rdx_lang.proofs.LookupLaws.{is_same-equal}
use Rattle.rdx_lang.proofs.NewCrosses.{plain_names-among, with_definitions, AreNewCrosses, one-new, all-new, one-defined, cross-defined, one-distinct, all-distinct, plain-before, more-distinct, ways-keep}
use Rattle.rdx_lang.proofs.WellFormedCrosses.{alternative-passes, alternatives-pass, well_formed-more, crosses-alternatives, defined-stays}

-- ---- those to some ends are there in the end

-- each cross nonterminal to y from one of these leads from one of them
to-cases : (x : Ref) (y : List ℕ) (xs : List (List ℕ)) → is_among x (crosses_to xs y) ≡ true → (z : List ℕ) × In z xs × (x ≡ Cross z y)
to-cases x y [] h = absurd cc
to-cases x y (z ∷ xs) h = elim (or_cases (is_same x (Cross z y)) (is_among x (crosses_to xs y)) h) [
  | inl e ↦ (z, here refl, is_same-equal x (Cross z y) e)
  | inr e ↦ let k = to-cases x y xs e in (k.0, there k.1, k.2)
]

-- those from a language's nonterminals are there once they were added
all-there : (L : Language) (ys : List (List ℕ)) (x : Ref) (xs : List (List ℕ)) → ((z : List ℕ) → In z xs → is_among (Nt z) (defined L) ≡ true)
    → is_among x (flat_map (crosses_to xs) ys) ≡ true → is_among x (defined (with_crosses_to L ys)) ≡ true
all-there L [] x xs f h = absurd cc
all-there L (y ∷ ys) x xs f h = elim (among-cases x (crosses_to xs y) (flat_map (crosses_to xs) ys) h) [
  | inl e ↦
      let k = to-cases x y xs e in
      subst (λ z. is_among z (defined (with_crosses_to (with_crosses L y) ys)) ≡ true) (sym k.2) (crosses_there L y ys k.0 (f k.0 k.1))
  | inr e ↦ all-there (with_crosses L y) ys x xs (λ z i. defined-more L.nonterminals (new_crosses L y) (Nt z) (f z i)) e
]

-- the cross nonterminals to these from the nonterminals of a language that are none
abbrev needed : Language → List (List ℕ) → List Ref
needed L ys = flat_map (crosses_to (plain_names L)) ys

-- they are there once they were added
needed-there : (L : Language) (ys : List (List ℕ)) (x : Ref) → is_among x (needed L ys) ≡ true → is_among x (defined (with_crosses_to L ys)) ≡ true
needed-there L ys x h = all-there L ys x (plain_names L) (λ z i. plain_names-among z (defined L) i) h

-- so a pattern that speaks of them beside the language's nonterminals is well formed then
pub patterns_get_theirs : PatternsGetTheirs
patterns_get_theirs L ys p h = well_formed-more (known_with L ys) (defined (with_crosses_to L ys)) there p h
  where
    there : (x : Ref) → is_among x (known_with L ys) ≡ true → is_among x (defined (with_crosses_to L ys)) ≡ true
    there x k = elim (among-cases x (defined L) (needed L ys) k) [
      | inl e ↦ defined-stays L ys x e
      | inr e ↦ needed-there L ys x e
    ]

-- ---- those that some ways are

-- they are there once what the ways need was added
pub ways-there : (L : Language) (ws : List Way) (x : Ref) → is_among x (map cross_of ws) ≡ true → is_among x (defined (with_ways L ws)) ≡ true
ways-there L [] x h = absurd cc
ways-there L (w ∷ ws) x h = elim (or_cases (is_same x (cross_of w)) (is_among x (map cross_of ws)) h) [
  | inl e ↦
      let k : is_among x (defined (with_way L w)) ≡ true =
      subst (λ z. is_among z (defined (with_way L w)) ≡ true) (sym (is_same-equal x (cross_of w) e)) (one-defined (with_crosses L w.1) w) in
      ways-keep (λ M. is_among x (defined M) ≡ true) (λ M y es n. defined-more M.nonterminals es x) (with_way L w) ws k
  | inr e ↦ ways-there (with_way L w) ws x e
]

-- they are cross nonterminals
pub no-plain : (z : List ℕ) (ws : List Way) → is_among (Nt z) (map cross_of ws) ≡ false
no-plain z [] = refl
no-plain z (w ∷ ws) = no-plain z ws

-- ---- while they are added

-- a language is well formed but for cross nonterminals that it lacks
record IsWellBut (lacks : List Ref) (L : Language) : Type 0 where
  distinct : are_distinct (defined L) ≡ true
  alternatives : all_alternatives (is_well_formed (defined L ++ lacks)) L.nonterminals ≡ true

module _ (lacks : List Ref) (only : (z : List ℕ) → is_among (Nt z) lacks ≡ false) where
  -- what is known stays so with more definitions
  pub more-but : (L : Language) (es : List Definition) (x : Ref) → is_among x (defined L ++ lacks) ≡ true
      → is_among x (defined (with_definitions L es) ++ lacks) ≡ true
  more-but L es x h = elim (among-cases x (defined L) lacks h) [
    | inl e ↦ among-first x (defined (with_definitions L es)) lacks (defined-more L.nonterminals es x e)
    | inr e ↦ among-second x (defined (with_definitions L es)) lacks e
  ]

  -- a known nonterminal that is no cross nonterminal is one of the language
  pub plain-but : (L : Language) (z : List ℕ) → is_among (Nt z) (defined L ++ lacks) ≡ true → is_among (Nt z) (defined L) ≡ true
  plain-but L z h = elim (among-cases (Nt z) (defined L) lacks h) [
    | inl e ↦ e
    | inr e ↦ absurd (both_ways (is_among (Nt z) lacks) (only z) e)
  ]

  -- so the language stays well formed but for those that it lacks with new cross nonterminals to y, where it then has all to y
  well-but : (L : Language) (y : List ℕ) (es : List Definition) → AreNewCrosses L y es → are_distinct (map (λ d. d.0) es) ≡ true
      → ((z : List ℕ) → is_among (Nt z) (defined L) ≡ true → is_among (Cross z y) (defined (with_definitions L es)) ≡ true)
      → IsWellBut lacks L → IsWellBut lacks (with_definitions L es)
  well-but L y es new d all w = record {
    distinct = more-distinct L y es new w.distinct d;
    alternatives =
        crosses-alternatives L y es new (defined L ++ lacks) (defined (with_definitions L es) ++ lacks) (more-but L es)
        (λ z h. among-first (Cross z y) (defined (with_definitions L es)) lacks (all z (plain-but L z h))) w.alternatives;
  }

  -- so with all to y
  well-but-crosses : (L : Language) (y : List ℕ) → IsWellBut lacks L → IsWellBut lacks (with_crosses L y)
  well-but-crosses L y w = well-but L y (new_crosses L y) (all-new L y) (all-distinct L y w.distinct) (cross-defined L y) w

  -- with what a way needs
  well-but-way : (L : Language) (w : Way) → IsWellBut lacks L → IsWellBut lacks (with_way L w)
  well-but-way L w b = well-but M w.1 one (one-new M w.1 w.0) (one-distinct M w.1 w.0) all (well-but-crosses L w.1 b)
    where
      M : Language
      M = with_crosses L w.1

      one : List Definition
      one = new_cross M w.1 w.0

      all : (z : List ℕ) → is_among (Nt z) (defined M) ≡ true → is_among (Cross z w.1) (defined (with_definitions M one)) ≡ true
      all z h =
          let k = plain-before L w.1 (new_crosses L w.1) (all-new L w.1) z h in
          defined-more M.nonterminals one (Cross z w.1) (cross-defined L w.1 z k)

  -- with what any ways need
  well-but-ways : (L : Language) (ws : List Way) → IsWellBut lacks L → IsWellBut lacks (with_ways L ws)
  well-but-ways L [] b = b
  well-but-ways L (w ∷ ws) b = well-but-ways (with_way L w) ws (well-but-way L w b)

-- a language that is well formed but for the cross nonterminals that it needs is so once it has them
pub completed_well_formed : CompletedWellFormed
completed_well_formed L c = record { distinct = but.distinct; well_formed = alternatives-pass (is_well_formed_in (completed L)) (completed L) each }
  where
    lacks : List Ref
    lacks = map cross_of (language_ways L)

    but : IsWellBut lacks (completed L)
    but = well-but-ways lacks (λ z. no-plain z (language_ways L)) L (language_ways L)
        (record { distinct = c.distinct; alternatives = c.alternatives })

    there-now : (x : Ref) → is_among x (defined (completed L) ++ lacks) ≡ true → is_among x (defined (completed L)) ≡ true
    there-now x h = elim (among-cases x (defined (completed L)) lacks h) [
      | inl e ↦ e
      | inr e ↦ ways-there L (language_ways L) x e
    ]

    each : (x : Ref) (p : Pattern) → IsAlternative (completed L) x p → is_well_formed_in (completed L) p ≡ true
    each x p a = well_formed-more (defined (completed L) ++ lacks) (defined (completed L)) there-now p
        (alternative-passes (is_well_formed (defined (completed L) ++ lacks)) (completed L) x p but.alternatives a)
