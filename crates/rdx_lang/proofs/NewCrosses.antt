-- The cross nonterminals that a language gets: which they are, that they are distinct from all others, and where their alternatives come from.
use Rattle.std.proofs.Common.{◌≡◌, ℕ, ◌⊎◌, inl, inr, true, false, List, [], ◌∷◌, ◌++◌, map, refl, ap, sym, ◌∙◌, subst, if◌then◌else◌}
use Rattle.std.specs.Prelude.{Bool, not, flat_map, bytes_eq}
use Rattle.std.proofs.lemmas.Bool.{and_parts, and_from, or_cases, or_right, cases_Bool, both_ways, not-true}
use Rattle.rdx_lang.specs.Crosses.{unnamed, crossed, crossed_alternatives, cross_alternatives, plain_name, plain_names, new_cross, new_crosses, with_crosses, Way, with_cross, with_way, with_ways}
use Rattle.rdx_lang.specs.Lookup.{alternatives_of}
use Rattle.rdx_lang.specs.Members.{In, here, there}
use Rattle.rdx_lang.specs.Patterns.{Pattern, hole, Definition, Language}
use Rattle.rdx_lang.specs.References.{is_same, is_among, are_distinct}
use Rattle.rdx_lang.specs.Rules.{IsAlternative}
use Rattle.rdx_lang.specs.WellFormed.{defined}
use Rattle.rdx_lang.specs.declared.pattern.Ref.{Ref}
use Rattle.rdx_lang.specs.declared.pattern.Ref.TheVariants.{Nt, Cross}
use Rattle.rdx_lang.proofs.DefinedNonterminals.{among-head, has-definition, defined-more, defined-either, not-so, append-distinct}
use Rattle.rdx_lang.proofs.LookupLaws.{is_same-equal, is_among-defined, looked_up-alternative}
use Rattle.rdx_lang.proofs.MemberLaws.{in-append, append-right, in-flat_map, flat_map-in}

-- ---- the names of nonterminals that are no cross nonterminals

-- equal nonterminals have equal names
pub of_plain : {x z : List ℕ} → Nt x ≡ Nt z → x ≡ z
of_plain e = cc

-- equal cross nonterminals lead from the same nonterminal
pub of_cross-from : {x y z w : List ℕ} → Cross x y ≡ Cross z w → x ≡ z
of_cross-from e = cc

-- and to the same
pub of_cross-to : {x y z w : List ℕ} → Cross x y ≡ Cross z w → y ≡ w
of_cross-to e = cc

-- a cross nonterminal is no other
pub cross-not-plain : {x y z : List ℕ} → Nt z ≡ Cross x y → ⊥
cross-not-plain e = absurd cc

-- a nonterminal that is no cross nonterminal is in the list of these
pub in-plain_names : (x : List ℕ) (xs : List Ref) → is_among (Nt x) xs ≡ true → In x (flat_map plain_name xs)
in-plain_names x [] h = absurd cc
in-plain_names x (Nt z ∷ xs) h = elim (or_cases (is_same (Nt x) (Nt z)) (is_among (Nt x) xs) h) [
  | inl e ↦ here (of_plain (is_same-equal (Nt x) (Nt z) e))
  | inr e ↦ there (in-plain_names x xs e)
]
in-plain_names x (Cross z w ∷ xs) h = in-plain_names x xs h

-- and what is in that list is one
pub plain_names-among : (x : List ℕ) (xs : List Ref) → In x (flat_map plain_name xs) → is_among (Nt x) xs ≡ true
plain_names-among x [] i = elim i [ ]
plain_names-among x (Nt z ∷ xs) (here e) = subst (λ w. is_among (Nt x) (Nt w ∷ xs) ≡ true) e (among-head (Nt x) xs)
plain_names-among x (Nt z ∷ xs) (there i) = or_right (is_same (Nt x) (Nt z)) (is_among (Nt x) xs) (plain_names-among x xs i)
plain_names-among x (Cross z w ∷ xs) i = plain_names-among x xs i

-- no member comes twice
abbrev Once : List (List ℕ) → Type 0
Once [] = Unit {0}
Once (x ∷ xs) = (In x xs → ⊥) × Once xs

-- no name comes twice where no nonterminal does
plain_names-once : (xs : List Ref) → are_distinct xs ≡ true → Once (flat_map plain_name xs)
plain_names-once [] h = tt
plain_names-once (Nt x ∷ xs) h =
    let k = and_parts (not (is_among (Nt x) xs)) (are_distinct xs) h in
    (λ i. both_ways (is_among (Nt x) xs) (not-true (is_among (Nt x) xs) k.0) (plain_names-among x xs i), plain_names-once xs k.1)
plain_names-once (Cross x y ∷ xs) h = plain_names-once xs (and_parts (not (is_among (Cross x y) xs)) (are_distinct xs) h).1

-- ---- the definitions that are added

-- what is there where the test fails alone
unless-there : (b : Bool) (c d : Definition) → In d (if b then [] else c ∷ []) → (b ≡ false) × (d ≡ c)
unless-there true c d i = elim i [ ]
unless-there false c d (here e) = (refl, e)
unless-there false c d (there i) = elim i [ ]

-- and it is there where it fails
there-unless : (b : Bool) (c : Definition) → b ≡ false → In c (if b then [] else c ∷ [])
there-unless true c h = absurd cc
there-unless false c h = here refl

-- the language with these definitions behind its own
abbrev pub with_definitions : Language → List Definition → Language
with_definitions L es = record L { nonterminals = L.nonterminals ++ es }

-- the definition is of a cross nonterminal to y that the language lacks, with the alternatives that it should have
pub record IsNewCross (L : Language) (y : List ℕ) (d : Definition) : Type 0 where
  pub from : List ℕ
  pub absent : is_among (Cross from y) (defined L) ≡ false
  pub is : d ≡ (Cross from y, cross_alternatives L from y)

-- each of these is such a definition
abbrev pub AreNewCrosses : Language → List ℕ → List Definition → Type 0
AreNewCrosses L y es = (d : Definition) → In d es → IsNewCross L y d

-- none of these is a definition of another nonterminal than a cross nonterminal
abbrev pub AreCrosses : List Definition → Type 0
AreCrosses es = (x : List ℕ) (ps : List Pattern) → In (Nt x, ps) es → ⊥

-- what is added for the one from x is such a definition
pub one-new : (L : Language) (y x : List ℕ) → AreNewCrosses L y (new_cross L y x)
one-new L y x d i =
    let e = unless-there (is_among (Cross x y) (defined L)) (Cross x y, cross_alternatives L x y) d i in
    record { from = x; absent = e.0; is = e.1 }

-- and so is each that is added for all of them
pub all-new : (L : Language) (y : List ℕ) → AreNewCrosses L y (new_crosses L y)
all-new L y d i = let k = in-flat_map (new_cross L y) (plain_names L) d i in one-new L y k.0 d k.2

-- the nonterminal of one that is added for some
new-cross-is : (L : Language) (y : List ℕ) (xs : List (List ℕ)) (x : Ref) → is_among x (map (λ d. d.0) (flat_map (new_cross L y) xs)) ≡ true
    → (z : List ℕ) × In z xs × (x ≡ Cross z y)
new-cross-is L y xs x h =
    let d = has-definition x (flat_map (new_cross L y) xs) h in
    let k = in-flat_map (new_cross L y) xs (x, d.0) d.1 in
    let e = unless-there (is_among (Cross k.0 y) (defined L)) (Cross k.0 y, cross_alternatives L k.0 y) (x, d.0) k.2 in
    (k.0, k.1, ap (λ (c : Definition). c.0) e.1)

-- the cross nonterminal from x is there once it was added, whatever was added beside it
added-there : (L : Language) (y x : List ℕ) (es : List Definition) → ((d : Definition) → In d (new_cross L y x) → In d es)
    → is_among (Cross x y) (defined (with_definitions L es)) ≡ true
added-there L y x es f = elim (cases_Bool (is_among (Cross x y) (defined L))) [
  | inl e ↦ defined-more L.nonterminals es (Cross x y) e
  | inr e ↦
      let c : Definition = (Cross x y, cross_alternatives L x y) in
      is_among-defined (Cross x y) (cross_alternatives L x y) (L.nonterminals ++ es)
      (append-right L.nonterminals es c (f c (there-unless (is_among (Cross x y) (defined L)) c e)))
]

-- so it is where it alone was added
pub one-defined : (L : Language) (w : Way) → is_among (Cross w.0 w.1) (defined (with_cross L w)) ≡ true
one-defined L w = added-there L w.1 w.0 (new_cross L w.1 w.0) (λ d i. i)

-- and each nonterminal has its cross nonterminal to y where all were added
pub cross-defined : (L : Language) (y z : List ℕ) → is_among (Nt z) (defined L) ≡ true → is_among (Cross z y) (defined (with_crosses L y)) ≡ true
cross-defined L y z h =
    added-there L y z (new_crosses L y) (λ d i. flat_map-in (new_cross L y) (plain_names L) z d (in-plain_names z (defined L) h) i)

-- ---- no nonterminal comes twice

-- none of the added ones does
added-distinct : (L : Language) (y : List ℕ) (xs : List (List ℕ)) → Once xs → are_distinct (map (λ d. d.0) (flat_map (new_cross L y) xs)) ≡ true
added-distinct L y [] h = refl
added-distinct L y (x ∷ xs) h = by_test (is_among (Cross x y) (defined L)) (added-distinct L y xs h.1)
  where
    rest : List Ref
    rest = map (λ d. d.0) (flat_map (new_cross L y) xs)

    alone : is_among (Cross x y) rest ≡ true → ⊥
    alone e = let k = new-cross-is L y xs (Cross x y) e in h.0 (subst (λ z. In z xs) (sym (of_cross-from k.2)) k.1)

    by_test : (b : Bool) → are_distinct rest ≡ true
        → are_distinct (map (λ (d : Definition). d.0) ((if b then [] else (Cross x y, cross_alternatives L x y) ∷ []) ++ flat_map (new_cross L y) xs)) ≡ true
    by_test true e = e
    by_test false e = and_from (not (is_among (Cross x y) rest)) (are_distinct rest) (not-so (is_among (Cross x y) rest) alone) e

-- so none of those from all nonterminals of a language does
pub all-distinct : (L : Language) (y : List ℕ) → are_distinct (defined L) ≡ true → are_distinct (map (λ d. d.0) (new_crosses L y)) ≡ true
all-distinct L y h = added-distinct L y (plain_names L) (plain_names-once (defined L) h)

-- nor does the one from x
pub one-distinct : (L : Language) (y x : List ℕ) → are_distinct (map (λ d. d.0) (new_cross L y x)) ≡ true
one-distinct L y x = by_test (is_among (Cross x y) (defined L))
  where
    by_test : (b : Bool)
        → are_distinct (map (λ (d : Definition). d.0) (if b then [] else (Cross x y, cross_alternatives L x y) ∷ [])) ≡ true
    by_test true = refl
    by_test false = refl

-- ---- a language that gains new cross nonterminals to y

-- p is an alternative of an added cross nonterminal x
pub record IsAdded (L : Language) (y : List ℕ) (x : Ref) (p : Pattern) : Type 0 where
  pub from : List ℕ
  pub is : x ≡ Cross from y
  pub absent : is_among (Cross from y) (defined L) ≡ false
  pub alternative : In p (cross_alternatives L from y)

module _ (L : Language) (y : List ℕ) (es : List Definition) (new : AreNewCrosses L y es) where
  -- no definition of another nonterminal is added
  pub no-new-plain : AreCrosses es
  no-new-plain x ps i = cross-not-plain (ap (λ (c : Definition). c.0) (new (Nt x, ps) i).is)

  -- a nonterminal that is no cross nonterminal was there before
  pub plain-before : (x : List ℕ) → is_among (Nt x) (defined (with_definitions L es)) ≡ true → is_among (Nt x) (defined L) ≡ true
  plain-before x h = elim (defined-either (Nt x) L.nonterminals es h) [
    | inl i ↦ i
    | inr i ↦ let d = has-definition (Nt x) es i in absurd (no-new-plain x d.0 d.1)
  ]

  -- the nonterminals stay distinct, where no added one comes twice
  pub more-distinct : are_distinct (defined L) ≡ true → are_distinct (map (λ d. d.0) es) ≡ true
      → are_distinct (defined (with_definitions L es)) ≡ true
  more-distinct h k = append-distinct L.nonterminals es h k apart
    where
      apart : (x : Ref) → is_among x (defined L) ≡ true → is_among x (map (λ d. d.0) es) ≡ true → ⊥
      apart x i j =
          let d = has-definition x es j in
          let c = new (x, d.0) d.1 in
          both_ways (is_among x (defined L)) (ap (λ (b : Definition). is_among b.0 (defined L)) c.is ∙ c.absent) i

  -- each alternative in the language with added ones was there, or its nonterminal is an added one
  pub alternative-cases : (x : Ref) (p : Pattern) → IsAlternative (with_definitions L es) x p → IsAlternative L x p ⊎ IsAdded L y x p
  alternative-cases x p a = elim (in-append L.nonterminals es (x, a.all) a.defined) [
    | inl i ↦ inl (record { all = a.all; defined = i; among = a.among })
    | inr i ↦
        let k = new (x, a.all) i in
        inr (record {
          from = k.from;
          is = ap (λ (d : Definition). d.0) k.is;
          absent = k.absent;
          alternative = subst (λ ps. In p ps) (ap (λ (d : Definition). d.1) k.is) a.among;
        })
  ]

-- what stays so with any new cross nonterminals stays so with what any ways need
pub ways-keep : (P : Language → Type 0)
    → ((M : Language) (y : List ℕ) (es : List Definition) → AreNewCrosses M y es → P M → P (with_definitions M es))
    → (L : Language) (ws : List Way) → P L → P (with_ways L ws)
ways-keep P keep L [] p = p
ways-keep P keep L (w ∷ ws) p =
    let M : Language = with_crosses L w.1 in
    let q : P M = keep L w.1 (new_crosses L w.1) (all-new L w.1) p in
    ways-keep P keep (with_way L w) ws (keep M w.1 (new_cross M w.1 w.0) (one-new M w.1 w.0) q)

-- ---- where the alternatives of cross nonterminals come from

-- the changed patterns of alternatives come from one of these
crossed-source : (y : List ℕ) (ps : List Pattern) (q : Pattern) → In q (crossed_alternatives y ps) → (a : Pattern) × In a ps × In q (crossed y (unnamed a))
crossed-source y [] q i = elim i [ ]
crossed-source y (p ∷ ps) q i = elim (in-append (crossed y (unnamed p)) (crossed_alternatives y ps) q i) [
  | inl j ↦ (p, here refl, j)
  | inr j ↦ let k = crossed-source y ps q j in (k.0, there k.1, k.2)
]

-- the alternative that is there where x is y is the hole
hole-source : (b : Bool) (q : Pattern) → In q (if b then hole ∷ [] else []) → q ≡ hole
hole-source true q (here e) = e
hole-source true q (there i) = elim i [ ]
hole-source false q i = elim i [ ]

-- so each alternative of a cross nonterminal is the hole or an alternative of the nonterminal that it leads from, with a place changed
pub alternative-source : (L : Language) (x y : List ℕ) (q : Pattern) → In q (cross_alternatives L x y)
    → (q ≡ hole) ⊎ ((a : Pattern) × IsAlternative L (Nt x) a × In q (crossed y (unnamed a)))
alternative-source L x y q i = elim (in-append (if bytes_eq x y then hole ∷ [] else []) (crossed_alternatives y (alternatives_of L (Nt x))) q i) [
  | inl j ↦ inl (hole-source (bytes_eq x y) q j)
  | inr j ↦
      let k = crossed-source y (alternatives_of L (Nt x)) q j in
      inr (k.0, looked_up-alternative L (Nt x) k.0 k.1, k.2)
]
