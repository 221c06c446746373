-- The patterns of a language that extends another pass the tests that those of the base and the new ones pass.
use Rattle.std.proofs.Common.{◌≡◌, ◌++◌, ℕ, Bool, true, false, List, [], ◌∷◌, Option, Some, None, map, refl, if◌then◌else◌}
use Rattle.std.specs.Prelude.{codes}
use Rattle.rdx_sexp.specs.Sexp.{Sexp}
use Rattle.rdx_lang.specs.Depths.{has_fitting_names}
use Rattle.rdx_lang.specs.Lookup.{alternatives_of, alternatives_among}
use Rattle.rdx_lang.specs.Patterns.{Pattern, wild, of_kind, except, prefix, hole, lit, nt, named, differ, in_hole, hide_hole, closed, seq, Items, nil, one, many, Language}
use Rattle.rdx_lang.specs.Patterns as model
use Rattle.rdx_lang.specs.References.{is_same, is_among}
use Rattle.rdx_lang.specs.WellFormed.{is_well_formed, has_known_nonterminals, have_known_nonterminals, all_patterns, all_alternatives}
use Rattle.rdx_lang.specs.declared.pattern.Ref.{Ref}
use Rattle.rdx_lang.specs.declared.pattern.Ref.TheVariants.{Nt}
use Rattle.rdx_grammar.specs.Extension.{redefined, added}
use Rattle.rdx_patterns.specs.Found.{heads}
use Rattle.rdx_grammar.specs.Languages.{alternatives, defined_by, definitions_of}
use Rattle.rdx_patterns.specs.Parts.{text_of, is_word}
use Rattle.rdx_grammar.specs.Definitions.{Definition, definition_in}
use Rattle.rdx_patterns.specs.Reading.{reading}
use Rattle.rdx_patterns.specs.declared.patterns.position.Position.TheVariants.{Grammar as InGrammar}
use Rattle.rdx_patterns.proofs.Booleans.{and_true, and_both}
use Rattle.rdx_grammar.proofs.ExtendedNames.{Within}

-- ---- patterns over more nonterminals

mutual
  -- a pattern whose nonterminals are known
  pub has_known_nonterminals-within : (xs ys : List Ref) → Within xs ys → (p : Pattern) → has_known_nonterminals xs p ≡ true → has_known_nonterminals ys p ≡ true
  has_known_nonterminals-within xs ys w wild e = refl
  has_known_nonterminals-within xs ys w (of_kind k) e = refl
  has_known_nonterminals-within xs ys w (except rs) e = refl
  has_known_nonterminals-within xs ys w (prefix r) e = refl
  has_known_nonterminals-within xs ys w hole e = refl
  has_known_nonterminals-within xs ys w (lit u) e = refl
  has_known_nonterminals-within xs ys w (nt x) e = w x e
  has_known_nonterminals-within xs ys w (named x q) e = has_known_nonterminals-within xs ys w q e
  has_known_nonterminals-within xs ys w (differ x q) e = has_known_nonterminals-within xs ys w q e
  has_known_nonterminals-within xs ys w (in_hole q r) e =
      let k = and_true (has_known_nonterminals xs q) (has_known_nonterminals xs r) e in
      and_both (has_known_nonterminals ys q) (has_known_nonterminals ys r) (has_known_nonterminals-within xs ys w q k.0) (has_known_nonterminals-within xs ys w r k.1)
  has_known_nonterminals-within xs ys w (hide_hole q) e = has_known_nonterminals-within xs ys w q e
  has_known_nonterminals-within xs ys w (closed q) e = has_known_nonterminals-within xs ys w q e
  has_known_nonterminals-within xs ys w (seq ps) e = have_known_nonterminals-within xs ys w ps e

  -- items
  have_known_nonterminals-within : (xs ys : List Ref) → Within xs ys → (ps : Items) → have_known_nonterminals xs ps ≡ true → have_known_nonterminals ys ps ≡ true
  have_known_nonterminals-within xs ys w nil e = refl
  have_known_nonterminals-within xs ys w (one p ps) e =
      let k = and_true (has_known_nonterminals xs p) (have_known_nonterminals xs ps) e in
      and_both (has_known_nonterminals ys p) (have_known_nonterminals ys ps) (has_known_nonterminals-within xs ys w p k.0) (have_known_nonterminals-within xs ys w ps k.1)
  have_known_nonterminals-within xs ys w (many p n ps) e =
      let k = and_true (has_known_nonterminals xs p) (have_known_nonterminals xs ps) e in
      and_both (has_known_nonterminals ys p) (have_known_nonterminals ys ps) (has_known_nonterminals-within xs ys w p k.0) (have_known_nonterminals-within xs ys w ps k.1)

-- a pattern whose names fit
is_well_formed-within : (xs ys : List Ref) → Within xs ys → (p : Pattern) → is_well_formed xs p ≡ true → is_well_formed ys p ≡ true
is_well_formed-within xs ys w p e =
    let k = and_true (has_known_nonterminals xs p) (has_fitting_names p) e in
    and_both (has_known_nonterminals ys p) (has_fitting_names p) (has_known_nonterminals-within xs ys w p k.0) k.1

-- alternatives
all_patterns-within : (xs ys : List Ref) → Within xs ys → (ps : List Pattern) → all_patterns (is_well_formed xs) ps ≡ true → all_patterns (is_well_formed ys) ps ≡ true
all_patterns-within xs ys w [] e = refl
all_patterns-within xs ys w (p ∷ ps) e =
    let k = and_true (is_well_formed xs p) (all_patterns (is_well_formed xs) ps) e in
    and_both (is_well_formed ys p) (all_patterns (is_well_formed ys) ps) (is_well_formed-within xs ys w p k.0) (all_patterns-within xs ys w ps k.1)

-- those of several definitions
pub all_alternatives-within : (xs ys : List Ref) → Within xs ys → (ds : List model.Definition) → all_alternatives (is_well_formed xs) ds ≡ true → all_alternatives (is_well_formed ys) ds ≡ true
all_alternatives-within xs ys w [] e = refl
all_alternatives-within xs ys w (d ∷ ds) e =
    let k = and_true (all_patterns (is_well_formed xs) d.1) (all_alternatives (is_well_formed xs) ds) e in
    and_both (all_patterns (is_well_formed ys) d.1) (all_alternatives (is_well_formed ys) ds) (all_patterns-within xs ys w d.1 k.0) (all_alternatives-within xs ys w ds k.1)

-- ---- lists of patterns, and of definitions

module _ (test : Pattern → Bool) where
  -- patterns, one list behind the other
  all_patterns-append : (ps qs : List Pattern) → all_patterns test ps ≡ true → all_patterns test qs ≡ true → all_patterns test (ps ++ qs) ≡ true
  all_patterns-append [] qs e f = f
  all_patterns-append (p ∷ ps) qs e f =
      let k = and_true (test p) (all_patterns test ps) e in
      and_both (test p) (all_patterns test (ps ++ qs)) k.0 (all_patterns-append ps qs k.1 f)

  -- definitions, one list behind the other
  all_alternatives-append : (ds es : List model.Definition) → all_alternatives test ds ≡ true → all_alternatives test es ≡ true → all_alternatives test (ds ++ es) ≡ true
  all_alternatives-append [] es e f = f
  all_alternatives-append (d ∷ ds) es e f =
      let k = and_true (all_patterns test d.1) (all_alternatives test ds) e in
      and_both (all_patterns test d.1) (all_alternatives test (ds ++ es)) k.0 (all_alternatives-append ds es k.1 f)

  -- one list or the other
  found_by : (b : Bool) (ps qs : List Pattern) → all_patterns test ps ≡ true → all_patterns test qs ≡ true → all_patterns test (if b then ps else qs) ≡ true
  found_by true ps qs e f = e
  found_by false ps qs e f = f

  -- the alternatives of a nonterminal
  pub all_patterns-among : (ds : List model.Definition) (x : Ref) → all_alternatives test ds ≡ true → all_patterns test (alternatives_among ds x) ≡ true
  all_patterns-among [] x e = refl
  all_patterns-among (d ∷ ds) x e =
      let k = and_true (all_patterns test d.1) (all_alternatives test ds) e in
      found_by (is_same x d.0) d.1 (alternatives_among ds x) k.0 (all_patterns-among ds x k.1)

  -- ---- what is read

  -- the alternatives that are written pass
  abbrev pub AreReadWell : List (List ℕ) → List Sexp → Type 0
  AreReadWell ns [] = Unit {0}
  AreReadWell ns (d ∷ ds) = (is_word (codes "....") d ≡ false → test (reading ns InGrammar d) ≡ true) × AreReadWell ns ds

  -- those of a definition do, where there is one
  abbrev pub IsReadWell : List (List ℕ) → Option Definition → Type 0
  IsReadWell ns None = Unit {0}
  IsReadWell ns (Some def) = AreReadWell ns def.alternatives

  -- those of all definitions do
  abbrev pub AreAllReadWell : List (List ℕ) → List Sexp → Type 0
  AreAllReadWell ns [] = Unit {0}
  AreAllReadWell ns (d ∷ ds) = IsReadWell ns (definition_in d) × AreAllReadWell ns ds

  module _ (base : Language) (ns : List (List ℕ)) (old : all_alternatives test base.nonterminals ≡ true) where
    -- one alternative, or those that are inherited
    written : (x : Ref) (d : Sexp) → (is_word (codes "....") d ≡ false → test (reading ns InGrammar d) ≡ true) → all_patterns test (if is_word (codes "....") d then alternatives_of base x else reading ns InGrammar d ∷ []) ≡ true
    written x d h = by_word (is_word (codes "....") d) h
      where
        by_word : (b : Bool) → (b ≡ false → test (reading ns InGrammar d) ≡ true) → all_patterns test (if b then alternatives_of base x else reading ns InGrammar d ∷ []) ≡ true
        by_word true f = all_patterns-among base.nonterminals x old
        by_word false f = and_both (test (reading ns InGrammar d)) true (f refl) refl

    -- all alternatives
    all_patterns-alternatives : (x : Ref) (ds : List Sexp) → AreReadWell ns ds → all_patterns test (alternatives base ns x ds) ≡ true
    all_patterns-alternatives x [] h = refl
    all_patterns-alternatives x (d ∷ ds) h =
        all_patterns-append (if is_word (codes "....") d then alternatives_of base x else reading ns InGrammar d ∷ []) (alternatives base ns x ds)
        (written x d h.0) (all_patterns-alternatives x ds h.1)

    -- those of several names
    of_names : (es ds : List Sexp) → AreReadWell ns ds → all_alternatives test (map (λ e. (Nt (text_of e), alternatives base ns (Nt (text_of e)) ds)) es) ≡ true
    of_names [] ds h = refl
    of_names (e ∷ es) ds h =
        and_both (all_patterns test (alternatives base ns (Nt (text_of e)) ds)) (all_alternatives test (map (λ f. (Nt (text_of f), alternatives base ns (Nt (text_of f)) ds)) es))
        (all_patterns-alternatives (Nt (text_of e)) ds h) (of_names es ds h)

    -- those of a definition
    of_definition : (o : Option Definition) → IsReadWell ns o → all_alternatives test (defined_by base ns o) ≡ true
    of_definition None h = refl
    of_definition (Some def) h = of_names def.names def.alternatives h

    -- those of all definitions
    pub all_alternatives-definitions : (ds : List Sexp) → AreAllReadWell ns ds → all_alternatives test (definitions_of base ns ds) ≡ true
    all_alternatives-definitions [] h = refl
    all_alternatives-definitions (d ∷ ds) h =
        all_alternatives-append (defined_by base ns (definition_in d)) (definitions_of base ns ds) (of_definition (definition_in d) h.0) (all_alternatives-definitions ds h.1)

  -- ---- the extension

  module _ (old new : List model.Definition) (e : all_alternatives test old ≡ true) (f : all_alternatives test new ≡ true) where
    -- a definition of the base, with the new alternatives where it has some
    redefined_by : (b : Bool) (d : model.Definition) → all_patterns test d.1 ≡ true → all_patterns test (if b then (d.0, alternatives_among new d.0) else d).1 ≡ true
    redefined_by true d k = all_patterns-among new d.0 f
    redefined_by false d k = k

    -- all of the base
    all_redefined : (ds : List model.Definition) → all_alternatives test ds ≡ true → all_alternatives test (map (redefined new) ds) ≡ true
    all_redefined [] k = refl
    all_redefined (d ∷ ds) k =
        let l = and_true (all_patterns test d.1) (all_alternatives test ds) k in
        and_both (all_patterns test (redefined new d).1) (all_alternatives test (map (redefined new) ds)) (redefined_by (is_among d.0 (heads new)) d l.0) (all_redefined ds l.1)

    -- a new definition, unless the base has it
    added_by : (b : Bool) (d : model.Definition) → all_patterns test d.1 ≡ true → all_alternatives test (if b then [] else d ∷ []) ≡ true
    added_by true d k = refl
    added_by false d k = and_both (all_patterns test d.1) true k refl

    -- all that are added
    all_added : (ds : List model.Definition) → all_alternatives test ds ≡ true → all_alternatives test (added old ds) ≡ true
    all_added [] k = refl
    all_added (d ∷ ds) k =
        let l = and_true (all_patterns test d.1) (all_alternatives test ds) k in
        all_alternatives-append (if is_among d.0 (heads old) then [] else d ∷ []) (added old ds) (added_by (is_among d.0 (heads old)) d l.0) (all_added ds l.1)

    -- all
    pub all_alternatives-extended : all_alternatives test (map (redefined new) old ++ added old new) ≡ true
    all_alternatives-extended = all_alternatives-append (map (redefined new) old) (added old new) (all_redefined old e) (all_added new f)
