-- A language stays well formed when it gets cross nonterminals.
use Rattle.std.proofs.Common.{◌≡◌, ℕ, ◌⊎◌, inl, inr, true, List, [], ◌∷◌, refl, ap, ◌∙◌}
use Rattle.std.specs.Prelude.{Bool}
use Rattle.std.proofs.lemmas.Bool.{and_parts, and_from}
use Rattle.rdx_lang.specs.CrossLaws.{CrossesWellFormed, PatternsStay}
use Rattle.rdx_lang.specs.Crosses.{unnamed, crossed, new_crosses, with_crosses, with_crosses_to}
use Rattle.rdx_lang.specs.Depths.{has_fitting_names}
use Rattle.rdx_lang.specs.Members.{In, here, there}
use Rattle.rdx_lang.specs.Patterns.{Pattern, hole, Definition, Language}
use Rattle.rdx_lang.specs.References.{is_among}
use Rattle.rdx_lang.specs.Rules.{IsAlternative}
use Rattle.rdx_lang.specs.WellFormed.{has_known_nonterminals, is_well_formed, all_patterns, all_alternatives, defined, IsWellFormed}
use Rattle.rdx_lang.specs.declared.pattern.Ref.{Ref}
use Rattle.rdx_lang.specs.declared.pattern.Ref.TheVariants.{Nt, Cross}
use Rattle.rdx_lang.proofs.DefinedNonterminals.{defined-more}
use Rattle.rdx_lang.proofs.KnownNonterminals.{known-unnamed, known-more, known-crossed}
use Rattle.rdx_lang.proofs.Nameless.{crossed-fits}
use Rattle.rdx_lang.proofs.NewCrosses.{with_definitions, AreNewCrosses, all-new, cross-defined, all-distinct, more-distinct, alternative-cases, alternative-source}

-- ---- tests of all alternatives, by each of them

-- what all patterns of a list pass, each passes
pattern-passes : (test : Pattern → Bool) (ps : List Pattern) (p : Pattern) → all_patterns test ps ≡ true → In p ps → test p ≡ true
pattern-passes test [] p h i = elim i [ ]
pattern-passes test (q ∷ ps) p h (here e) = ap test e ∙ (and_parts (test q) (all_patterns test ps) h).0
pattern-passes test (q ∷ ps) p h (there i) = pattern-passes test ps p (and_parts (test q) (all_patterns test ps) h).1 i

-- and what each passes, all do
patterns-pass : (test : Pattern → Bool) (ps : List Pattern) → ((p : Pattern) → In p ps → test p ≡ true) → all_patterns test ps ≡ true
patterns-pass test [] f = refl
patterns-pass test (p ∷ ps) f =
    and_from (test p) (all_patterns test ps) (f p (here refl)) (patterns-pass test ps (λ q i. f q (there i)))

-- the patterns of a definition pass where all alternatives do
definition-passes : (test : Pattern → Bool) (ds : List Definition) (d : Definition) → all_alternatives test ds ≡ true → In d ds
    → all_patterns test d.1 ≡ true
definition-passes test [] d h i = elim i [ ]
definition-passes test (c ∷ ds) d h (here e) =
    ap (λ (b : Definition). all_patterns test b.1) e ∙ (and_parts (all_patterns test c.1) (all_alternatives test ds) h).0
definition-passes test (c ∷ ds) d h (there i) = definition-passes test ds d (and_parts (all_patterns test c.1) (all_alternatives test ds) h).1 i

-- and all alternatives do where those of each definition do
definitions-pass : (test : Pattern → Bool) (ds : List Definition) → ((d : Definition) → In d ds → all_patterns test d.1 ≡ true)
    → all_alternatives test ds ≡ true
definitions-pass test [] f = refl
definitions-pass test (d ∷ ds) f =
    and_from (all_patterns test d.1) (all_alternatives test ds) (f d (here refl)) (definitions-pass test ds (λ c i. f c (there i)))

-- each alternative of a language passes what all do
pub alternative-passes : (test : Pattern → Bool) (L : Language) (x : Ref) (p : Pattern) → all_alternatives test L.nonterminals ≡ true
    → IsAlternative L x p → test p ≡ true
alternative-passes test L x p h a = pattern-passes test a.all p (definition-passes test L.nonterminals (x, a.all) h a.defined) a.among

-- and all pass what each does
pub alternatives-pass : (test : Pattern → Bool) (L : Language) → ((x : Ref) (p : Pattern) → IsAlternative L x p → test p ≡ true)
    → all_alternatives test L.nonterminals ≡ true
alternatives-pass test L f = definitions-pass test L.nonterminals each
  where
    each : (d : Definition) → In d L.nonterminals → all_patterns test d.1 ≡ true
    each d i = patterns-pass test d.1 (λ p j. f d.0 p (record { all = d.1; defined = i; among = j }))

-- ---- with new cross nonterminals to y

-- the nonterminals of a well-formed pattern are known
pub well_formed-known : (xs : List Ref) (p : Pattern) → is_well_formed xs p ≡ true → has_known_nonterminals xs p ≡ true
well_formed-known xs p h = (and_parts (has_known_nonterminals xs p) (has_fitting_names p) h).0

-- a well-formed pattern stays so where there are more nonterminals
pub well_formed-more : (xs ys : List Ref) → ((x : Ref) → is_among x xs ≡ true → is_among x ys ≡ true) → (p : Pattern)
    → is_well_formed xs p ≡ true → is_well_formed ys p ≡ true
well_formed-more xs ys more p h =
    let k = and_parts (has_known_nonterminals xs p) (has_fitting_names p) h in
    and_from (has_known_nonterminals ys p) (has_fitting_names p) (known-more xs ys more p k.0) k.1

-- Where alternatives speak of the nonterminals xs, and ys has these and the cross nonterminals to y from those of them that are none, the
-- alternatives of the language with new cross nonterminals to y speak of ys.
module _ (L : Language) (y : List ℕ) (es : List Definition) (new : AreNewCrosses L y es) (xs ys : List Ref)
    (more : (x : Ref) → is_among x xs ≡ true → is_among x ys ≡ true)
    (crosses : (z : List ℕ) → is_among (Nt z) xs ≡ true → is_among (Cross z y) ys ≡ true)
    (before : all_alternatives (is_well_formed xs) L.nonterminals ≡ true) where
  -- those that are added
  added-well_formed : (x : List ℕ) (p : Pattern) → (p ≡ hole) ⊎ ((a : Pattern) × IsAlternative L (Nt x) a × In p (crossed y (unnamed a)))
      → is_well_formed ys p ≡ true
  added-well_formed x p (inl e) = ap (is_well_formed ys) e
  added-well_formed x p (inr k) =
      let a : has_known_nonterminals xs k.0 ≡ true = well_formed-known xs k.0 (alternative-passes (is_well_formed xs) L (Nt x) k.0 before k.1) in
      and_from (has_known_nonterminals ys p) (has_fitting_names p)
      (known-crossed xs ys more y crosses (unnamed k.0) p (known-unnamed xs k.0 a) k.2) (crossed-fits y k.0 p k.2)

  -- each of them
  each-well_formed : (x : Ref) (p : Pattern) → IsAlternative (with_definitions L es) x p → is_well_formed ys p ≡ true
  each-well_formed x p a = elim (alternative-cases L y es new x p a) [
    | inl b ↦ well_formed-more xs ys more p (alternative-passes (is_well_formed xs) L x p before b)
    | inr b ↦ added-well_formed b.from p (alternative-source L b.from y p b.alternative)
  ]

  -- all of them
  pub crosses-alternatives : all_alternatives (is_well_formed ys) (with_definitions L es).nonterminals ≡ true
  crosses-alternatives = alternatives-pass (is_well_formed ys) (with_definitions L es) each-well_formed

-- so a well-formed language stays so
pub crosses-well_formed : (L : Language) (y : List ℕ) → IsWellFormed L → IsWellFormed (with_crosses L y)
crosses-well_formed L y w = record {
  distinct = more-distinct L y (new_crosses L y) (all-new L y) w.distinct (all-distinct L y w.distinct);
  well_formed =
      crosses-alternatives L y (new_crosses L y) (all-new L y) (defined L) (defined (with_crosses L y))
      (defined-more L.nonterminals (new_crosses L y)) (cross-defined L y) w.well_formed;
}

-- ---- with any cross nonterminals

-- a well-formed language stays so
pub crosses_well_formed : CrossesWellFormed
crosses_well_formed L [] w = w
crosses_well_formed L (y ∷ ys) w = crosses_well_formed (with_crosses L y) ys (crosses-well_formed L y w)

-- what is defined stays so
pub defined-stays : (L : Language) (ys : List (List ℕ)) (x : Ref) → is_among x (defined L) ≡ true → is_among x (defined (with_crosses_to L ys)) ≡ true
defined-stays L [] x h = h
defined-stays L (y ∷ ys) x h = defined-stays (with_crosses L y) ys x (defined-more L.nonterminals (new_crosses L y) x h)

-- so a pattern that is well formed stays so
pub patterns_stay : PatternsStay
patterns_stay L ys p h = well_formed-more (defined L) (defined (with_crosses_to L ys)) (defined-stays L ys) p h
