-- Readings in a language that has the cross nonterminals for which what is read asks.
use Rattle.std.proofs.Common.{◌≡◌, ℕ, Bool, true, false, inl, inr, List, [], ◌∷◌, None, refl, sym, ap, ◌∙◌, subst, if◌then◌else◌}
use Rattle.std.specs.Prelude.{flat_map}
use Rattle.rdx_base.specs.declared.place.Span.{Span}
use Rattle.rdx_sexp.specs.Sexp.{Sexp, Sexps, list, cons}
use Rattle.rdx_lang.specs.Crosses.{plain_name, with_crosses, with_crosses_to}
use Rattle.rdx_lang.specs.Depths.{has_fitting_names}
use Rattle.rdx_lang.specs.Members.{In, here, there}
use Rattle.rdx_lang.specs.Patterns.{Language}
use Rattle.rdx_lang.specs.References.{is_among as is_defined_among}
use Rattle.rdx_lang.specs.WellFormed.{has_known_nonterminals, have_known_nonterminals, is_well_formed_in, defined}
use Rattle.rdx_lang.specs.declared.pattern.Ref.{Ref}
use Rattle.rdx_lang.specs.declared.pattern.Ref.TheVariants.{Nt, Cross}
use Rattle.rdx_lang.proofs.CrossesAgain.{crosses_there, plain_names_stay}
use Rattle.rdx_lang.proofs.MemberLaws.{in-append, append-left, append-right}
use Rattle.rdx_lang.proofs.WellFormedCrosses.{defined-stays}
use Rattle.rdx_patterns.specs.Ends.{end_of, ends_in, ends_among, known_ends, crossed_for}
use Rattle.rdx_patterns.specs.Heads.{patterns}
use Rattle.rdx_patterns.specs.Among.{AreAmong}
use Rattle.rdx_patterns.specs.Kinds.{is_among}
use Rattle.rdx_patterns.specs.Nonterminals.{ref_names, names_of}
use Rattle.rdx_patterns.specs.Occurrences.{occurrences, occurrences_among}
use Rattle.rdx_patterns.specs.PatternChecks.{bad_occurrences}
use Rattle.rdx_patterns.specs.PatternRefusal.{keyword_at, bad_binder_at, bad_occurrence_at, pattern_refusal}
use Rattle.rdx_patterns.specs.Readable.{IsReadable}
use Rattle.rdx_patterns.specs.Reading.{reading, items_among}
use Rattle.rdx_patterns.specs.Refusal.{unnamed}
use Rattle.rdx_patterns.specs.declared.patterns.position.Position.TheVariants.{Query}
use Rattle.rdx_patterns.specs.declared.shape.fault.DefKind.TheVariants.{BadPattern}
use Rattle.rdx_patterns.proofs.Among.{is_among-names}
use Rattle.rdx_patterns.proofs.Booleans.{and_both}
use Rattle.rdx_patterns.proofs.Firsts.{nothing, none_or}
use Rattle.rdx_patterns.proofs.FittingNames.{fitting-pattern}
use Rattle.rdx_patterns.proofs.WellRead.{reading_known, items_known}

-- ---- what is asked for

-- in the items of a list, where it is in the list
pub items-among : (ds : Sexps) (s : Span) (es : List (List ℕ)) → AreAmong (ends_in (list ds s)) es → AreAmong (ends_among ds) es
items-among ds s es h = λ y i. h y (append-right (end_of ds) (ends_among ds) y i)

-- in the first of several data
pub first-among : (d : Sexp) (ds : Sexps) (es : List (List ℕ)) → AreAmong (ends_among (cons d ds)) es → AreAmong (ends_in d) es
first-among d ds es h = λ y i. h y (append-left (ends_in d) (ends_among ds) y i)

-- in those behind it
pub rest-among : (d : Sexp) (ds : Sexps) (es : List (List ℕ)) → AreAmong (ends_among (cons d ds)) es → AreAmong (ends_among ds) es
rest-among d ds es h = λ y i. h y (append-right (ends_in d) (ends_among ds) y i)

-- in all of them
pub all-among : (d : Sexp) (ds : Sexps) (es : List (List ℕ)) → AreAmong (ends_in d) es → AreAmong (ends_among ds) es
    → AreAmong (ends_among (cons d ds)) es
all-among d ds es h k = λ y i. elim (in-append (ends_in d) (ends_among ds) y i) [
  | inl j ↦ h y j
  | inr j ↦ k y j
]

-- ---- what is known of it

-- what comes where a test holds, before others
in-tested : (b : Bool) (y z : List ℕ) (zs : List (List ℕ)) → In y zs → In y (if b then z ∷ zs else zs)
in-tested true y z zs i = there i
in-tested false y z zs i = i

first-tested : (b : Bool) (y z : List ℕ) (zs : List (List ℕ)) → b ≡ true → y ≡ z → In y (if b then z ∷ zs else zs)
first-tested true y z zs h e = here e
first-tested false y z zs h e = absurd cc

-- a name that is asked for and known is among the known ones
pub in-known_ends : (ns ys : List (List ℕ)) (y : List ℕ) → is_among ns y ≡ true → In y ys → In y (known_ends ns ys)
in-known_ends ns [] y h i = elim i [ ]
in-known_ends ns (z ∷ zs) y h (here e) =
    first-tested (is_among ns z) y z (known_ends ns zs) (subst (λ (x : List ℕ). is_among ns x ≡ true) e h) e
in-known_ends ns (z ∷ zs) y h (there i) = in-tested (is_among ns z) y z (known_ends ns zs) (in-known_ends ns zs y h i)

-- a language with all cross nonterminals to some ends has each of them
pub cross-there : (L : Language) (es : List (List ℕ)) (x y : List ℕ) → is_defined_among (Nt x) (defined L) ≡ true → In y es
    → is_defined_among (Cross x y) (defined (with_crosses_to L es)) ≡ true
cross-there L [] x y h i = elim i [ ]
cross-there L (z ∷ es) x y h (here e) =
    ap (λ (w : List ℕ). is_defined_among (Cross x w) (defined (with_crosses_to (with_crosses L z) es))) e ∙ crosses_there L z es x h
cross-there L (z ∷ es) x y h (there i) = cross-there (with_crosses L z) es x y (defined-stays L (z ∷ []) (Nt x) h) i

-- ---- what is read over a language's nonterminals

module _ (L : Language) (es : List (List ℕ)) where
  -- a name is a nonterminal
  named : (x : List ℕ) → is_among (names_of L) x ≡ true → is_defined_among (Nt x) (defined L) ≡ true
  named x e = sym (is_among-names x (defined L)) ∙ e

  -- which is there
  plain_there : (x : List ℕ) → is_among (names_of L) x ≡ true → is_defined_among (Nt x) (defined (crossed_for es L)) ≡ true
  plain_there x e = defined-stays L (known_ends (names_of L) es) (Nt x) (named x e)

  -- and so is the cross nonterminal from it to itself, where it is asked for
  self_there : (x : List ℕ) → is_among (names_of L) x ≡ true → In x es → is_defined_among (Cross x x) (defined (crossed_for es L)) ≡ true
  self_there x e i = cross-there L (known_ends (names_of L) es) x x (named x e) (in-known_ends (names_of L) es x e i)

  -- what is read of a datum that asks for these alone, and in which no check refuses a pattern, has no nonterminals but those of the language
  -- with what is asked for
  pub pattern_known : (d : Sexp) → bad_occurrences (names_of L) (occurrences 0 d) ≡ [] → AreAmong (ends_in d) es
      → has_known_nonterminals (defined (crossed_for es L)) (reading (names_of L) Query d) ≡ true
  pattern_known d b i =
      reading_known (names_of L) Query (defined (crossed_for es L)) (λ x. In x es) plain_there self_there 0 d i b

  -- nor have the items of a list pattern
  pub items_known_to : (ds : Sexps) → bad_occurrences (names_of L) (occurrences_among 0 patterns ds) ≡ [] → AreAmong (ends_among ds) es
      → have_known_nonterminals (defined (crossed_for es L)) (items_among (names_of L) Query patterns ds) ≡ true
  items_known_to ds b i =
      items_known (names_of L) Query (defined (crossed_for es L)) (λ x. In x es) plain_there self_there 0 patterns ds i b

  -- so what is read of a datum that the checks of patterns pass is well formed there
  pub pattern_well_formed : (d : Sexp) → IsReadable d → AreAmong (ends_in d) es → pattern_refusal (names_of L) d ≡ None
      → is_well_formed_in (crossed_for es L) (reading (names_of L) Query d) ≡ true
  pattern_well_formed d r i e =
      let os = occurrences 0 d in
      let p = reading (names_of L) Query d in
      let k = none_or (keyword_at os) _ e in
      let l = none_or (bad_binder_at os) _ k.1 in
      let m = none_or (bad_occurrence_at (names_of L) os) _ l.1 in
      and_both (has_known_nonterminals (defined (crossed_for es L)) p) (has_fitting_names p)
      (pattern_known d (nothing (unnamed BadPattern) (bad_occurrences (names_of L) os) m.0) i) (fitting-pattern (names_of L) d r e)

-- ---- names

-- the names of a language's nonterminals are those of its plain ones
names-plain : (xs : List Ref) → flat_map ref_names xs ≡ flat_map plain_name xs
names-plain [] = refl
names-plain (Nt x ∷ xs) = ap (λ (ys : List (List ℕ)). x ∷ ys) (names-plain xs)
names-plain (Cross x y ∷ xs) = names-plain xs

-- so they stay the same with any cross nonterminals
pub names_of-crosses : (L : Language) (es : List (List ℕ)) → names_of (with_crosses_to L es) ≡ names_of L
names_of-crosses L es = names-plain (defined (with_crosses_to L es)) ∙ plain_names_stay L es ∙ sym (names-plain (defined L))
