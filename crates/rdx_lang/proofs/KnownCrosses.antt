-- Cross nonterminals speak of what the language has, where its alternatives do.
use Rattle.std.proofs.Common.{◌≡◌, ℕ, ◌⊎◌, inl, inr, true, false, List, [], ◌∷◌, ◌++◌, map, ap}
use Rattle.rdx_lang.specs.CrossLaws.{cross_of}
use Rattle.rdx_lang.specs.Crosses.{unnamed, crossed, new_cross, new_crosses, with_crosses, with_crosses_to, Way, language_ways, with_way, with_ways, completed}
use Rattle.rdx_lang.specs.Members.{In}
use Rattle.rdx_lang.specs.Patterns.{Pattern, hole, Definition, Language}
use Rattle.rdx_lang.specs.References.{is_among}
use Rattle.rdx_lang.specs.Rules.{IsAlternative}
use Rattle.rdx_lang.specs.WellFormed.{has_known_nonterminals, is_well_formed_in, all_alternatives, defined, IsWellFormed}
use Rattle.rdx_lang.specs.declared.pattern.Ref.{Ref}
use Rattle.rdx_lang.specs.declared.pattern.Ref.TheVariants.{Nt, Cross}
use Rattle.rdx_lang.proofs.CompletedLanguages.{more-but, plain-but, ways-there, no-plain}
use Rattle.rdx_lang.proofs.DefinedNonterminals.{among-cases, among-first, defined-more}
use Rattle.rdx_lang.proofs.KnownNonterminals.{known-unnamed, known-more, known-crossed}
use Rattle.rdx_lang.proofs.NewCrosses.{with_definitions, AreNewCrosses, one-new, all-new, cross-defined, alternative-cases, alternative-source, plain-before}
use Rattle.rdx_lang.proofs.WellFormedCrosses.{alternative-passes, alternatives-pass, well_formed-known}

-- each nonterminal of which an alternative speaks is one of the language
abbrev pub KnowsAll : Language → Type 0
KnowsAll L = all_alternatives (has_known_nonterminals (defined L)) L.nonterminals ≡ true

-- so it is in a well-formed language
pub well_formed-knows : (L : Language) → IsWellFormed L → KnowsAll L
well_formed-knows L w =
    alternatives-pass (has_known_nonterminals (defined L)) L (λ x p a. well_formed-known (defined L) p (alternative-passes (is_well_formed_in L) L x p w.well_formed a))

-- Where alternatives speak of the nonterminals xs, and ys has these and the cross nonterminals to y from those of them that are none, the
-- alternatives of the language with new cross nonterminals to y speak of ys.
module _ (L : Language) (y : List ℕ) (es : List Definition) (new : AreNewCrosses L y es) (xs ys : List Ref)
    (more : (x : Ref) → is_among x xs ≡ true → is_among x ys ≡ true)
    (crosses : (z : List ℕ) → is_among (Nt z) xs ≡ true → is_among (Cross z y) ys ≡ true)
    (before : all_alternatives (has_known_nonterminals xs) L.nonterminals ≡ true) where
  -- those that are added
  added-know : (p : Pattern) → (p ≡ hole) ⊎ ((x : List ℕ) × (a : Pattern) × IsAlternative L (Nt x) a × In p (crossed y (unnamed a)))
      → has_known_nonterminals ys p ≡ true
  added-know p (inl e) = ap (has_known_nonterminals ys) e
  added-know p (inr i) =
      known-crossed xs ys more y crosses (unnamed i.1) p
      (known-unnamed xs i.1 (alternative-passes (has_known_nonterminals xs) L (Nt i.0) i.1 before i.2)) i.3

  -- each of them
  each-knows : (x : Ref) (p : Pattern) → IsAlternative (with_definitions L es) x p → has_known_nonterminals ys p ≡ true
  each-knows x p a = elim (alternative-cases L y es new x p a) [
    | inl b ↦ known-more xs ys more p (alternative-passes (has_known_nonterminals xs) L x p before b)
    | inr b ↦ elim (alternative-source L b.from y p b.alternative) [
      | inl e ↦ added-know p (inl e)
      | inr k ↦ added-know p (inr (b.from, k.0, k.1, k.2))
    ]
  ]

  -- all of them
  pub crosses-know : all_alternatives (has_known_nonterminals ys) (with_definitions L es).nonterminals ≡ true
  crosses-know = alternatives-pass (has_known_nonterminals ys) (with_definitions L es) each-knows

-- so a language that knows all does with all cross nonterminals to y
pub crosses-known : (L : Language) (y : List ℕ) → KnowsAll L → KnowsAll (with_crosses L y)
crosses-known L y k =
    crosses-know L y (new_crosses L y) (all-new L y) (defined L) (defined (with_crosses L y)) (defined-more L.nonterminals (new_crosses L y))
    (cross-defined L y) k

-- and to any
pub crosses_known : (L : Language) (ys : List (List ℕ)) → KnowsAll L → KnowsAll (with_crosses_to L ys)
crosses_known L [] k = k
crosses_known L (y ∷ ys) k = crosses_known (with_crosses L y) ys (crosses-known L y k)

-- ---- while those that a language needs are added

module _ (lacks : List Ref) (only : (z : List ℕ) → is_among (Nt z) lacks ≡ false) where
  -- each nonterminal of which an alternative speaks is one of the language, or a cross nonterminal that it lacks
  abbrev KnowsBut : Language → Type 0
  KnowsBut L = all_alternatives (has_known_nonterminals (defined L ++ lacks)) L.nonterminals ≡ true

  -- so it is with new cross nonterminals to y, where the language then has all to y
  knows-but : (L : Language) (y : List ℕ) (es : List Definition) → AreNewCrosses L y es
      → ((z : List ℕ) → is_among (Nt z) (defined L) ≡ true → is_among (Cross z y) (defined (with_definitions L es)) ≡ true)
      → KnowsBut L → KnowsBut (with_definitions L es)
  knows-but L y es new all k =
      crosses-know L y es new (defined L ++ lacks) (defined (with_definitions L es) ++ lacks) (more-but lacks only L es)
      (λ z h. among-first (Cross z y) (defined (with_definitions L es)) lacks (all z (plain-but lacks only L z h))) k

  -- with what a way needs
  knows-but-way : (L : Language) (w : Way) → KnowsBut L → KnowsBut (with_way L w)
  knows-but-way L w k =
      knows-but M w.1 one (one-new M w.1 w.0) all (knows-but L w.1 (new_crosses L w.1) (all-new L w.1) (cross-defined L w.1) k)
    where
      M : Language
      M = with_crosses L w.1

      one : List Definition
      one = new_cross M w.1 w.0

      all : (z : List ℕ) → is_among (Nt z) (defined M) ≡ true → is_among (Cross z w.1) (defined (with_definitions M one)) ≡ true
      all z h =
          let k = plain-before L w.1 (new_crosses L w.1) (all-new L w.1) z h in
          defined-more M.nonterminals one (Cross z w.1) (cross-defined L w.1 z k)

  -- with what any ways need
  knows-but-ways : (L : Language) (ws : List Way) → KnowsBut L → KnowsBut (with_ways L ws)
  knows-but-ways L [] k = k
  knows-but-ways L (w ∷ ws) k = knows-but-ways (with_way L w) ws (knows-but-way L w k)

-- a language that knows all but the cross nonterminals that it needs does so once it has them
pub completed_known : (L : Language) → all_alternatives (has_known_nonterminals (defined L ++ map cross_of (language_ways L))) L.nonterminals ≡ true
    → KnowsAll (completed L)
completed_known L k = alternatives-pass (has_known_nonterminals (defined (completed L))) (completed L) each
  where
    lacks : List Ref
    lacks = map cross_of (language_ways L)

    but : all_alternatives (has_known_nonterminals (defined (completed L) ++ lacks)) (completed L).nonterminals ≡ true
    but = knows-but-ways lacks (λ z. no-plain z (language_ways L)) L (language_ways L) k

    there-now : (x : Ref) → is_among x (defined (completed L) ++ lacks) ≡ true → is_among x (defined (completed L)) ≡ true
    there-now x h = elim (among-cases x (defined (completed L)) lacks h) [
      | inl e ↦ e
      | inr e ↦ ways-there L (language_ways L) x e
    ]

    each : (x : Ref) (p : Pattern) → IsAlternative (completed L) x p → has_known_nonterminals (defined (completed L)) p ≡ true
    each x p a = known-more (defined (completed L) ++ lacks) (defined (completed L)) there-now p
        (alternative-passes (has_known_nonterminals (defined (completed L) ++ lacks)) (completed L) x p but a)
