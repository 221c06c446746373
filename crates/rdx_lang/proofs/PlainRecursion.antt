-- Left recursion of a completed language is seen in the nonterminals that are no cross nonterminals.
use Rattle.std.proofs.Common.{◌≡◌, ◌∙◌, ℕ, ◌⊎◌, inl, inr, false, List, [], ◌∷◌, ◌++◌, map, refl, ap, sym, subst, if◌then◌else◌}
use Rattle.std.specs.Prelude.{bytes_eq}
use Rattle.std.proofs.lemmas.Bool.{both_ways}
use Rattle.rdx_lang.specs.CrossLaws.{HasNoCrosses, HasItsCrosses, CompletedHasIts, LeavesNoneOut, CompletedLeavesNoneOut, RecursiveIsPlain, FirstIsPlain, WithoutHasNone}
use Rattle.rdx_lang.specs.Crosses.{unnamed, crossed, crossed_alternatives, cross_alternatives, language_ways, completed, plain_definitions}
use Rattle.rdx_lang.specs.Edges.{Edge, IsRecursive}
use Rattle.rdx_lang.specs.Lookup.{alternatives_among}
use Rattle.rdx_lang.specs.Members.{In, here, there}
use Rattle.rdx_lang.specs.Patterns.{Pattern, hole, nt, Definition, Language}
use Rattle.rdx_lang.specs.References.{is_same, is_among}
use Rattle.rdx_lang.specs.Rules.{IsAlternative}
use Rattle.rdx_lang.specs.WellFormed.{defined}
use Rattle.rdx_lang.specs.declared.pattern.Ref.TheVariants.{Nt, Cross}
use Rattle.rdx_lang.proofs.CrossWays.{recursive-from}
use Rattle.rdx_lang.proofs.DefinedNonterminals.{has-definition, defined-either}
use Rattle.rdx_lang.proofs.LeftEdges.{edge-nt, edge-hole, first-edge}
use Rattle.rdx_lang.proofs.LookupLaws.{is_among-defined}
use Rattle.rdx_lang.proofs.MemberLaws.{in-append, append-left, append-right}
use Rattle.rdx_lang.proofs.NewCrosses.{of_cross-from, of_cross-to, cross-not-plain, with_definitions, IsNewCross, AreNewCrosses, AreCrosses, no-new-plain, alternative-cases, ways-keep, alternative-source}

-- ---- each cross nonterminal has its alternatives

-- among definitions of cross nonterminals nothing is looked up for others
none-added : (x : List ℕ) (es : List Definition) → AreCrosses es → alternatives_among es (Nt x) ≡ []
none-added x [] c = refl
none-added x ((Nt z, ps) ∷ es) c = absurd (c z ps (here refl))
none-added x ((Cross z w, ps) ∷ es) c = none-added x es (λ u qs i. c u qs (there i))

-- so a nonterminal that is none keeps what is looked up for it, where they are put behind
plain-kept : (x : List ℕ) (ds es : List Definition) → AreCrosses es → alternatives_among (ds ++ es) (Nt x) ≡ alternatives_among ds (Nt x)
plain-kept x [] es c = none-added x es c
plain-kept x (d ∷ ds) es c = ap (λ ps. if is_same (Nt x) d.0 then d.1 else ps) (plain-kept x ds es c)

-- so the alternatives that a cross nonterminal should have stay the same
alternatives-stay : (L : Language) (es : List Definition) (x y : List ℕ) → AreCrosses es
    → cross_alternatives (with_definitions L es) x y ≡ cross_alternatives L x y
alternatives-stay L es x y c =
    ap (λ ps. (if bytes_eq x y then hole ∷ [] else []) ++ crossed_alternatives y ps) (plain-kept x L.nonterminals es c)

-- where the cross nonterminals have theirs, they have them with new ones to w
its-kept : (L : Language) (w : List ℕ) (es : List Definition) → AreNewCrosses L w es → HasItsCrosses L → HasItsCrosses (with_definitions L es)
its-kept L w es new h x y q a =
    subst (λ ps. In q ps) (sym (alternatives-stay L es x y (no-new-plain L w es new))) (elim (alternative-cases L w es new (Cross x y) q a) [
      | inl b ↦ h x y q b
      | inr b ↦
          let i : In q (cross_alternatives L x w) = subst (λ z. In q (cross_alternatives L z w)) (of_cross-from (sym b.is)) b.alternative in
          subst (λ z. In q (cross_alternatives L x z)) (of_cross-to (sym b.is)) i
    ])

-- so they have them in a completed language
pub completed_has_its : CompletedHasIts
completed_has_its L n = ways-keep HasItsCrosses its-kept L (language_ways L)
    (λ x y q a. absurd (both_ways (is_among (Cross x y) (defined L)) (n x y) (is_among-defined (Cross x y) a.all L.nonterminals a.defined)))

-- the alternatives of a new cross nonterminal to w are those that it should have
all-added : (L : Language) (w x y : List ℕ) (ps : List Pattern) → IsNewCross L w (Cross x y, ps) → ps ≡ cross_alternatives L x y
all-added L w x y ps b =
    let e : Cross x y ≡ Cross b.from w = ap (λ (d : Definition). d.0) b.is in
    ap (λ (d : Definition). d.1) b.is ∙ (λ i. cross_alternatives L (of_cross-from (sym e) i) (of_cross-to (sym e) i))

-- where none is left out, none is with new ones to w
none-left-out : (L : Language) (w : List ℕ) (es : List Definition) → AreNewCrosses L w es → LeavesNoneOut L → LeavesNoneOut (with_definitions L es)
none-left-out L w es new h x y d q i = elim (defined-either (Cross x y) L.nonterminals es d) [
  | inl e ↦
      let a = h x y e q before in
      record { all = a.all; defined = append-left L.nonterminals es (Cross x y, a.all) a.defined; among = a.among }
  | inr e ↦
      let k = has-definition (Cross x y) es e in
      let b : k.0 ≡ cross_alternatives L x y = all-added L w x y k.0 (new (Cross x y, k.0) k.1) in
      record {
        all = k.0;
        defined = append-right L.nonterminals es (Cross x y, k.0) k.1;
        among = subst (λ ps. In q ps) (sym b) before;
      }
]
  where
    before : In q (cross_alternatives L x y)
    before = subst (λ ps. In q ps) (alternatives-stay L es x y (no-new-plain L w es new)) i

-- so none is in a completed language
pub completed_leaves_none_out : CompletedLeavesNoneOut
completed_leaves_none_out L n = ways-keep LeavesNoneOut none-left-out L (language_ways L)
    (λ x y d q i. absurd (both_ways (is_among (Cross x y) (defined L)) (n x y) d))

-- ---- left recursion

module _ (L : Language) (y : List ℕ) (h : HasItsCrosses L) where
  -- the pattern is the hole
  IsHole : Pattern → Type 0
  IsHole p = p ≡ hole

  -- from which no left edge leads
  hole-stays : (p q : Pattern) → IsHole p → Edge L p q → IsHole q
  unfolding IsHole
  hole-stays p q e d = absurd (edge-hole (subst (λ r. Edge L r q) e d))

  -- an alternative of a cross nonterminal is the hole, or comes from one of the nonterminal that it leads from
  hole-comes : (z : List ℕ) (q : Pattern) → IsAlternative L (Cross z y) q
      → IsHole q ⊎ ((a : Pattern) × IsAlternative L (Nt z) a × In q (crossed y (unnamed a)))
  unfolding IsHole
  hole-comes z q a = alternative-source L z y q (h z y q a)

  -- a cross nonterminal is not the hole
  not-hole : (x : List ℕ) → IsHole (nt (Cross x y)) → ⊥
  unfolding IsHole
  not-hole x e = absurd cc

  -- so it reaches itself only where the nonterminal does that it leads from
  recursive-plain : (x : List ℕ) → IsRecursive L (Cross x y) → IsRecursive L (Nt x)
  recursive-plain x r = recursive-from L L y IsHole hole-stays hole-comes x (not-hole x) r

-- a cross nonterminal is left-recursive only where the nonterminal is that it leads from
pub recursive_is_plain : RecursiveIsPlain
recursive_is_plain L h x y r = recursive-plain L y h x r

-- ---- cross nonterminals stand last

-- a cross nonterminal is followed by cross nonterminals alone
abbrev StandLast : List Definition → Type 0
StandLast ds = (before behind : List Definition) (x y : List ℕ) (ps : List Pattern) → ds ≡ before ++ (Cross x y, ps) ∷ behind → AreCrosses behind

-- the rests of equal lists are equal
tail-of : {A : Type 0} {a b : A} {xs ys : List A} → a ∷ xs ≡ b ∷ ys → xs ≡ ys
tail-of e = cc

-- so are their first members
head-of : {A : Type 0} {a b : A} {xs ys : List A} → a ∷ xs ≡ b ∷ ys → a ≡ b
head-of e = cc

-- so it is where definitions of cross nonterminals alone are put behind
last-append : (ds es : List Definition) → StandLast ds → AreCrosses es → StandLast (ds ++ es)
last-append [] es l c before behind x y ps e =
    λ z qs i. c z qs (subst (λ fs. In (Nt z, qs) fs) (sym e) (append-right before ((Cross x y, ps) ∷ behind) (Nt z, qs) (there i)))
last-append (d ∷ ds) es l c [] behind x y ps e = λ z qs i. elim (in-append ds es (Nt z, qs) (subst (λ fs. In (Nt z, qs) fs) (sym (tail-of e)) i)) [
  | inl j ↦ l [] ds x y ps (λ k. head-of e k ∷ ds) z qs j
  | inr j ↦ c z qs j
]
last-append (d ∷ ds) es l c (b ∷ before) behind x y ps e =
    last-append ds es (λ bs fs u v qs f. l (d ∷ bs) fs u v qs (ap (λ gs. d ∷ gs) f)) c before behind x y ps (tail-of e)

-- where there are none they stand last
last-none : (L : Language) → HasNoCrosses L → StandLast L.nonterminals
last-none L n before behind x y ps e =
    let c : Definition = (Cross x y, ps) in
    let i : In c L.nonterminals = subst (λ ds. In c ds) (sym e) (append-right before (c ∷ behind) c (here refl)) in
    absurd (both_ways (is_among (Cross x y) (defined L)) (n x y) (is_among-defined (Cross x y) ps L.nonterminals i))

-- and in a completed language
last-completed : (L : Language) → HasNoCrosses L → StandLast (completed L).nonterminals
last-completed L n =
    ways-keep (λ M. StandLast M.nonterminals) (λ M y es new l. last-append M.nonterminals es l (no-new-plain M y es new)) L (language_ways L)
    (last-none L n)

-- so the first left-recursive one is no cross nonterminal, since the nonterminal that it leads from stands before it
pub first_is_plain : FirstIsPlain
first_is_plain L n (Nt x) f = (x, refl)
first_is_plain L n (Cross x y) f =
    let p : IsRecursive (completed L) (Nt x) = recursive_is_plain (completed L) (completed_has_its L n) x y f.recursive in
    let a = edge-nt (first-edge p).1 in
    let i : In (Nt x, a.all) (f.before ++ (Cross x y, f.alternatives) ∷ f.behind) = subst (λ ds. In (Nt x, a.all) ds) f.defined a.defined in
    absurd (elim (in-append f.before ((Cross x y, f.alternatives) ∷ f.behind) (Nt x, a.all) i) [
      | inl j ↦ f.first (Nt x, a.all) j p
      | inr j ↦ at_or_behind a.all j
    ])
  where
    at_or_behind : (ps : List Pattern) → In (Nt x, ps) ((Cross x y, f.alternatives) ∷ f.behind) → ⊥
    at_or_behind ps (here e) = cross-not-plain (ap (λ (d : Definition). d.0) e)
    at_or_behind ps (there j) = last-completed L n f.before f.behind x y f.alternatives f.defined x ps j

-- ---- what an extension begins with

-- of the definitions that are kept none is of a cross nonterminal
plain-has-none : (ds : List Definition) (x y : List ℕ) → is_among (Cross x y) (map (λ d. d.0) (plain_definitions ds)) ≡ false
plain-has-none [] x y = refl
plain-has-none ((Nt z, ps) ∷ ds) x y = plain-has-none ds x y
plain-has-none ((Cross z w, ps) ∷ ds) x y = plain-has-none ds x y

-- so the language has none
pub without_has_none : WithoutHasNone
without_has_none L x y = plain-has-none L.nonterminals x y
