-- The alternatives that are written in a form which the checks pass have names that fit together.
use Rattle.std.proofs.Common.{◌≡◌, ◌++◌, ◌<◌, ℕ, zero, suc, length, get_or, Bool, true, false, List, [], ◌∷◌, Option, Some, None, map, refl, sym, ◌∙◌, subst, if◌then◌else◌, arith}
use Rattle.std.specs.Prelude.{◌||◌, codes}
use Rattle.std.proofs.lemmas.Grind.{flat_map-append}
use Rattle.rdx_sexp.specs.Sexp.{Sexp, leaf, list, sexps}
use Rattle.rdx_sexp.specs.Size.{sexp_depth, IsSpelledSexp, AreSpelled}
use Rattle.rdx_lang.specs.Depths.{has_fitting_names}
use Rattle.rdx_lang.specs.Members.{In, here, there}
use Rattle.rdx_lang.specs.Patterns.{Pattern, Language}
use Rattle.rdx_grammar.specs.Checks.{bad_name, bad_names, bad_pattern, bad_patterns, depth_clash, all_depth_clashes}
use Rattle.rdx_grammar.specs.Definitions.{Definition, definition_in, definition_among}
use Rattle.rdx_grammar.specs.Forms.{GrammarForm}
use Rattle.rdx_grammar.specs.Inside.BoundView.{BindsNames, BindNames}
use Rattle.rdx_grammar.specs.Inside.CheckedForms.{AreSpelledIn, AreShallow, AreShallowIn}
use Rattle.rdx_patterns.specs.Occurrences.{occurrences}
use Rattle.rdx_patterns.specs.Parts.{listed, is_word}
use Rattle.rdx_patterns.specs.PatternChecks.{bad_occurrences, all_bound}
use Rattle.rdx_patterns.specs.Reading.{reading}
use Rattle.rdx_grammar.specs.Stands.{Stand, defined, nonterminal, alternative, inherited, alternative_stand, alternatives_stand, definition_stands, definitions_stand, form_stands}
use Rattle.rdx_patterns.specs.declared.patterns.position.Position.TheVariants.{Grammar as InGrammar}
use Rattle.rdx_grammar.proofs.DefinitionItems.{AreItems, definition_among-items}
use Rattle.rdx_grammar.proofs.DefinitionSpelled.{sexps-listed}
use Rattle.rdx_patterns.proofs.FittingNames.{fitting-reading}
use Rattle.rdx_grammar.proofs.ExtendedPatterns.{AreReadWell, IsReadWell, AreAllReadWell}
use Rattle.rdx_patterns.proofs.Firsts.{none_both}
use Rattle.rdx_patterns.proofs.PassedPatterns.{pattern-written, bound-are-names, AreNames-bound}
use Rattle.rdx_grammar.proofs.ShallowData.{listed-shallow}

-- ---- data that are read

-- the symbols in each of these are spelled as those of terms, and each nests less than 2^32 deep
abbrev pub AreReadable : List Sexp → Type 0
AreReadable ds = (d : Sexp) → In d ds → IsSpelledSexp d × (sexp_depth d < 4294967296)

-- a datum among spelled ones is spelled
spelled-in : (ds : List Sexp) (d : Sexp) → AreSpelled (sexps ds) → In d ds → IsSpelledSexp d
spelled-in [] d h i = elim i [ ]
spelled-in (e ∷ ds) d h (here f) = subst IsSpelledSexp (sym f) h.0
spelled-in (e ∷ ds) d h (there i) = spelled-in ds d h.1 i

-- data that are spelled and shallow
pub are-readable : (ds : List Sexp) → AreSpelled (sexps ds) → AreShallow ds → AreReadable ds
are-readable ds h k d i = (spelled-in ds d h i, k d i)

-- the alternatives of the definition that a datum is, where it is one
abbrev pub AreReadableBy : Option Definition → Type 0
AreReadableBy None = Unit {0}
AreReadableBy (Some def) = AreReadable def.alternatives

-- they are items
items-readable : (o : Option Definition) (ds : List Sexp) → AreItems o ds → AreReadable ds → AreReadableBy o
items-readable None ds f h = tt
items-readable (Some def) ds f h = λ d i. h d (f d i)

-- so each is read
definition-readable : (d : Sexp) → IsSpelledSexp d → sexp_depth d < 4294967296 → AreReadableBy (definition_in d)
definition-readable (leaf a s) h l = tt
definition-readable (list ds s) h l =
    items-readable (definition_among (listed ds)) (listed ds) (definition_among-items (listed ds)) (are-readable (listed ds) (subst AreSpelled (sym (sexps-listed ds)) h) (listed-shallow ds l))

-- ---- what an alternative binds

module _ (ns : List (List ℕ)) where
  -- one alternative
  alternative-names : (names : List Sexp) (again : Bool) (d : Sexp) → IsSpelledSexp d → sexp_depth d < 4294967296
      → bad_name (alternative_stand names again d) ≡ [] → BindsNames ns (alternative_stand names again d)
  alternative-names names again d h l e = by_word (is_word (codes "....") d) e
    where
      by_word : (b : Bool) → bad_name (if b then inherited d names again else alternative (occurrences 0 d)) ≡ []
          → BindsNames ns (if b then inherited d names again else alternative (occurrences 0 d))
      by_word true f = tt
      by_word false f = let os = occurrences 0 d in AreNames-bound 4294967296 (all_bound ns InGrammar os) (bound-are-names ns InGrammar 4294967296 os (pattern-written d l h) f)

  -- those of several names
  alternatives-names : (names : List Sexp) (again : Bool) (ds : List Sexp) → AreReadable ds
      → bad_names (alternatives_stand names again ds) ≡ [] → BindNames ns (alternatives_stand names again ds)
  alternatives-names names again [] h e = tt
  alternatives-names names again (d ∷ ds) h e =
      let later = again || is_word (codes "....") d in
      let k = none_both (bad_name (alternative_stand names again d)) (bad_names (alternatives_stand names later ds)) e in
      let r = h d (here refl) in
      (alternative-names names again d r.0 r.1 k.0, alternatives-names names later ds (λ c i. h c (there i)) k.1)

  -- behind the names of a definition
  names-behind : (es : List Sexp) (ss : List Stand) → BindNames ns ss → BindNames ns (map (λ e. nonterminal e) es ++ ss)
  names-behind [] ss h = h
  names-behind (e ∷ es) ss h = (tt, names-behind es ss h)

  -- what stands in two parts of a form
  both-names : (ss rs : List Stand) → BindNames ns ss → BindNames ns rs → BindNames ns (ss ++ rs)
  both-names [] rs h k = k
  both-names (s ∷ ss) rs h k = (h.0, both-names ss rs h.1 k)

  -- a definition
  definition-names : (d : Sexp) (o : Option Definition) → AreReadableBy o → bad_names (definition_stands d o) ≡ []
      → BindNames ns (definition_stands d o)
  definition-names d None h e = (tt, tt)
  definition-names d (Some def) h e =
      let ss = alternatives_stand def.names false def.alternatives in
      let f = none_both (bad_names (map (λ e. nonterminal e) def.names)) (bad_names ss) (sym (flat_map-append bad_name (map (λ e. nonterminal e) def.names) ss) ∙ e) in
      names-behind def.names ss (alternatives-names def.names false def.alternatives h f.1)

  -- several
  definitions-names : (ds : List Sexp) → AreReadable ds → bad_names (definitions_stand ds) ≡ [] → BindNames ns (definitions_stand ds)
  definitions-names [] h e = tt
  definitions-names (d ∷ ds) h e =
      let ss = definition_stands d (definition_in d) in
      let f = none_both (bad_names ss) (bad_names (definitions_stand ds)) (sym (flat_map-append bad_name ss (definitions_stand ds)) ∙ e) in
      let r = h d (here refl) in
      both-names ss (definitions_stand ds) (definition-names d (definition_in d) (definition-readable d r.0 r.1) f.0) (definitions-names ds (λ c i. h c (there i)) f.1)

  -- a form of which no name may not be defined or bound
  pub form-names : (d : Sexp) (g : Option GrammarForm) → AreSpelledIn g → AreShallowIn g → bad_names (form_stands d g) ≡ []
      → BindNames ns (form_stands d g)
  form-names d None h k e = (tt, tt)
  form-names d (Some g) h k e =
      let f = none_both (bad_name (defined g.name)) (bad_names (definitions_stand g.definitions)) e in
      (tt, definitions-names g.definitions (are-readable g.definitions h.definitions k) f.1)

-- one of several things that stand in a form
pub names-at : {C : Type 0} (ns : List (List ℕ)) (v : C → Stand) (xs : List C) (i : ℕ) (x : C) → i < length xs → x ≡ get_or xs i x
    → BindNames ns (map v xs) → BindsNames ns (v x)
names-at ns v [] i x h e b = absurd (omega arith)
names-at ns v (y ∷ xs) zero x h e b = subst (λ z. BindsNames ns (v z)) (sym e) b.0
names-at ns v (y ∷ xs) (suc i) x h e b = names-at ns v xs i x (omega arith) e b.1

-- ---- the patterns of alternatives

module _ (base : Language) (ns : List (List ℕ)) where
  -- no check refuses these for a name, a pattern or a depth
  abbrev pub ArePassedStands : List Stand → Type 0
  ArePassedStands ss = (bad_names ss ≡ []) × ((bad_patterns base ns ss ≡ []) × (all_depth_clashes ns ss ≡ []))

  -- nor those in two parts of a form
  passed-both : (ss rs : List Stand) → ArePassedStands (ss ++ rs) → ArePassedStands ss × ArePassedStands rs
  passed-both ss rs h =
      let k = none_both (bad_names ss) (bad_names rs) (sym (flat_map-append bad_name ss rs) ∙ h.0) in
      let l = none_both (bad_patterns base ns ss) (bad_patterns base ns rs) (sym (flat_map-append (bad_pattern base ns) ss rs) ∙ h.1.0) in
      let m = none_both (all_depth_clashes ns ss) (all_depth_clashes ns rs) (sym (flat_map-append (depth_clash ns) ss rs) ∙ h.1.1) in
      ((k.0, (l.0, m.0)), (k.1, (l.1, m.1)))

module _ (base : Language) (ns : List (List ℕ)) (test : Pattern → Bool) (enough : (d : Sexp) → bad_occurrences ns (occurrences 0 d) ≡ [] → has_fitting_names (reading ns InGrammar d) ≡ true → test (reading ns InGrammar d) ≡ true) where
  -- one alternative
  alternative-well : (names : List Sexp) (again : Bool) (d : Sexp) → IsSpelledSexp d → sexp_depth d < 4294967296
      → bad_name (alternative_stand names again d) ≡ [] → bad_pattern base ns (alternative_stand names again d) ≡ []
      → depth_clash ns (alternative_stand names again d) ≡ [] → is_word (codes "....") d ≡ false → test (reading ns InGrammar d) ≡ true
  alternative-well names again d h l e f g = by_word (is_word (codes "....") d) e f g
    where
      by_word : (b : Bool) → bad_name (if b then inherited d names again else alternative (occurrences 0 d)) ≡ []
          → bad_pattern base ns (if b then inherited d names again else alternative (occurrences 0 d)) ≡ []
          → depth_clash ns (if b then inherited d names again else alternative (occurrences 0 d)) ≡ [] → b ≡ false
          → test (reading ns InGrammar d) ≡ true
      by_word true i j k w = absurd cc
      by_word false i j k w = enough d j (fitting-reading ns InGrammar d l h i j k)

  -- those of several names
  alternatives-well : (names : List Sexp) (again : Bool) (ds : List Sexp) → AreReadable ds
      → ArePassedStands base ns (alternatives_stand names again ds) → AreReadWell test ns ds
  alternatives-well names again [] h p = tt
  alternatives-well names again (d ∷ ds) h p =
      let s = alternative_stand names again d in
      let later = again || is_word (codes "....") d in
      let ss = alternatives_stand names later ds in
      let k = none_both (bad_name s) (bad_names ss) p.0 in
      let l = none_both (bad_pattern base ns s) (bad_patterns base ns ss) p.1.0 in
      let m = none_both (depth_clash ns s) (all_depth_clashes ns ss) p.1.1 in
      let r = h d (here refl) in
      (alternative-well names again d r.0 r.1 k.0 l.0 m.0, alternatives-well names later ds (λ c i. h c (there i)) (k.1, (l.1, m.1)))

  -- those of a definition
  definition-well : (d : Sexp) (o : Option Definition) → AreReadableBy o → ArePassedStands base ns (definition_stands d o)
      → IsReadWell test ns o
  definition-well d None h p = tt
  definition-well d (Some def) h p =
      alternatives-well def.names false def.alternatives h (passed-both base ns (map (λ e. nonterminal e) def.names) (alternatives_stand def.names false def.alternatives) p).1

  -- those of all definitions
  pub definitions-well : (ds : List Sexp) → AreReadable ds → ArePassedStands base ns (definitions_stand ds) → AreAllReadWell test ns ds
  definitions-well [] h p = tt
  definitions-well (d ∷ ds) h p =
      let k = passed-both base ns (definition_stands d (definition_in d)) (definitions_stand ds) p in
      let r = h d (here refl) in
      (definition-well d (definition_in d) (definition-readable d r.0 r.1) k.0, definitions-well ds (λ c i. h c (there i)) k.1)
