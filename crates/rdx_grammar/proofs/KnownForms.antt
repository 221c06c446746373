-- The language of a form speaks of nonterminals that it has, where its base does and no check refuses a pattern. Of the depths of names nothing is
-- asked, so data of any size may be read.
use Rattle.std.proofs.Common.{◌≡◌, ◌++◌, ℕ, Bool, true, false, List, [], ◌∷◌, Option, Some, None, map, refl, sym, ap, ◌∙◌}
use Rattle.std.specs.Prelude.{◌||◌, codes, if◌then◌else◌}
use Rattle.std.proofs.lemmas.Grind.{flat_map-append}
use Rattle.rdx_sexp.specs.Sexp.{Sexp}
use Rattle.rdx_lang.specs.Crosses.{plain_definitions}
use Rattle.rdx_lang.specs.Patterns.{Pattern, Language}
use Rattle.rdx_lang.specs.Patterns as model
use Rattle.rdx_lang.specs.References.{is_among as is_defined_among}
use Rattle.rdx_lang.specs.WellFormed.{has_known_nonterminals, all_patterns, all_alternatives, defined}
use Rattle.rdx_lang.specs.declared.pattern.Ref.{Ref}
use Rattle.rdx_lang.specs.declared.pattern.Ref.TheVariants.{Nt, Cross}
use Rattle.rdx_lang.proofs.KnownCrosses.{KnowsAll, completed_known}
use Rattle.rdx_grammar.specs.Checks.{bad_pattern, bad_patterns}
use Rattle.rdx_grammar.specs.Definitions.{Definition, definition_in}
use Rattle.rdx_grammar.specs.Extension.{redefined, added}
use Rattle.rdx_patterns.specs.Found.{heads}
use Rattle.rdx_grammar.specs.Forms.{GrammarForm}
use Rattle.rdx_grammar.specs.Languages.{definitions_of, written_over, language_over}
use Rattle.rdx_grammar.specs.Nonterminals.{names_in, all_names}
use Rattle.rdx_patterns.specs.Occurrences.{occurrences}
use Rattle.rdx_patterns.specs.Parts.{is_word}
use Rattle.rdx_patterns.specs.PatternChecks.{bad_occurrences}
use Rattle.rdx_patterns.specs.Reading.{reading}
use Rattle.rdx_grammar.specs.Stands.{nonterminal, alternative, inherited, alternative_stand, alternatives_stand, definition_stands, definitions_stand}
use Rattle.rdx_patterns.specs.declared.patterns.position.Position.TheVariants.{Grammar as InGrammar}
use Rattle.rdx_patterns.proofs.Booleans.{or_true, and_true, and_both, not_either_way}
use Rattle.rdx_grammar.proofs.ExtendedNames.{Within, Within-front, Within-back, is_among-append, Within-old, Within-new}
use Rattle.rdx_grammar.proofs.ExtendedPatterns.{has_known_nonterminals-within, AreReadWell, IsReadWell, AreAllReadWell, all_alternatives-definitions, all_alternatives-extended}
use Rattle.rdx_patterns.proofs.Firsts.{none_both}
use Rattle.rdx_grammar.proofs.NeededCrosses.{needs-only}
use Rattle.rdx_grammar.proofs.PlainDefinitions.{all_alternatives-plain}
use Rattle.rdx_patterns.proofs.PlainDefinitions.{is_among-plain}
use Rattle.rdx_grammar.proofs.WellFormedForms.{refs, heads-definitions_of, named-among, selves, self-among, no-self, Within-both}
use Rattle.rdx_patterns.proofs.WellRead.{reading_known}

-- ---- over more nonterminals

-- the alternatives of a definition
patterns-within : (xs ys : List Ref) → Within xs ys → (ps : List Pattern) → all_patterns (has_known_nonterminals xs) ps ≡ true → all_patterns (has_known_nonterminals ys) ps ≡ true
patterns-within xs ys w [] e = refl
patterns-within xs ys w (p ∷ ps) e =
    let k = and_true (has_known_nonterminals xs p) (all_patterns (has_known_nonterminals xs) ps) e in
    and_both (has_known_nonterminals ys p) (all_patterns (has_known_nonterminals ys) ps) (has_known_nonterminals-within xs ys w p k.0) (patterns-within xs ys w ps k.1)

-- those of several
alternatives-within : (xs ys : List Ref) → Within xs ys → (ds : List model.Definition) → all_alternatives (has_known_nonterminals xs) ds ≡ true → all_alternatives (has_known_nonterminals ys) ds ≡ true
alternatives-within xs ys w [] e = refl
alternatives-within xs ys w (d ∷ ds) e =
    let k = and_true (all_patterns (has_known_nonterminals xs) d.1) (all_alternatives (has_known_nonterminals xs) ds) e in
    and_both (all_patterns (has_known_nonterminals ys) d.1) (all_alternatives (has_known_nonterminals ys) ds) (patterns-within xs ys w d.1 k.0) (alternatives-within xs ys w ds k.1)

-- ---- what is read, where no check refuses it

module _ (base : Language) (ns : List (List ℕ)) (test : Pattern → Bool)
    (enough : (d : Sexp) → bad_occurrences ns (occurrences 0 d) ≡ [] → test (reading ns InGrammar d) ≡ true) where
  -- one alternative
  alternative-read : (names : List Sexp) (again : Bool) (d : Sexp) → bad_pattern base ns (alternative_stand names again d) ≡ []
      → is_word (codes "....") d ≡ false → test (reading ns InGrammar d) ≡ true
  alternative-read names again d e = by_word (is_word (codes "....") d) e
    where
      by_word : (b : Bool) → bad_pattern base ns (if b then inherited d names again else alternative (occurrences 0 d)) ≡ [] → b ≡ false
          → test (reading ns InGrammar d) ≡ true
      by_word true f w = absurd cc
      by_word false f w = enough d f

  -- those of several names
  alternatives-read : (names : List Sexp) (again : Bool) (ds : List Sexp) → bad_patterns base ns (alternatives_stand names again ds) ≡ []
      → AreReadWell test ns ds
  alternatives-read names again [] e = tt
  alternatives-read names again (d ∷ ds) e =
      let later = again || is_word (codes "....") d in
      let k = none_both (bad_pattern base ns (alternative_stand names again d)) (bad_patterns base ns (alternatives_stand names later ds)) e in
      (alternative-read names again d k.0, alternatives-read names later ds k.1)

  -- those of a definition
  definition-read : (d : Sexp) (o : Option Definition) → bad_patterns base ns (definition_stands d o) ≡ [] → IsReadWell test ns o
  definition-read d None e = tt
  definition-read d (Some def) e =
      let ss = map (λ e. nonterminal e) def.names in
      let rs = alternatives_stand def.names false def.alternatives in
      alternatives-read def.names false def.alternatives
      (none_both (bad_patterns base ns ss) (bad_patterns base ns rs) (sym (flat_map-append (bad_pattern base ns) ss rs) ∙ e)).1

  -- those of all definitions
  definitions-read : (ds : List Sexp) → bad_patterns base ns (definitions_stand ds) ≡ [] → AreAllReadWell test ns ds
  definitions-read [] e = tt
  definitions-read (d ∷ ds) e =
      let ss = definition_stands d (definition_in d) in
      let rs = definitions_stand ds in
      let k = none_both (bad_patterns base ns ss) (bad_patterns base ns rs) (sym (flat_map-append (bad_pattern base ns) ss rs) ∙ e) in
      (definition-read d (definition_in d) k.0, definitions-read ds k.1)

-- ---- languages

-- the language of a form speaks of its own nonterminals alone
pub knows-language_over : (base : Language) (g : GrammarForm) → KnowsAll base
    → bad_patterns base (all_names base g.definitions) (definitions_stand g.definitions) ≡ [] → KnowsAll (language_over base g)
knows-language_over base g k e =
    let ns = all_names base g.definitions in
    let old = plain_definitions base.nonterminals in
    let new = definitions_of base ns g.definitions in
    let h : heads new ≡ refs (names_in g.definitions) = heads-definitions_of base ns g.definitions in
    let zs = heads (map (redefined new) old ++ added old new) in
    let known = defined base ++ zs in
    let xs = known ++ selves ns in
    let test = has_known_nonterminals xs in
    let old_there : Within (defined base) xs = λ x l. Within-front known (selves ns) x (Within-front (defined base) zs x l) in
    let new_there : Within (refs (names_in g.definitions)) xs =
    λ x l. Within-front known (selves ns) x (Within-back (defined base) zs x (Within-new old new x (ap (is_defined_among x) h ∙ l))) in
    let both : Within (defined base ++ refs (names_in g.definitions)) xs = Within-both (defined base) (refs (names_in g.definitions)) xs old_there new_there in
    let o : all_alternatives test base.nonterminals ≡ true = alternatives-within (defined base) xs old_there base.nonterminals k in
    let each : (d : Sexp) → bad_occurrences ns (occurrences 0 d) ≡ [] → test (reading ns InGrammar d) ≡ true =
    λ d b. reading_known ns InGrammar xs (λ x. Unit {0}) (λ x l. both (Nt x) (named-among base g.definitions x l))
    (λ x l u. Within-back known (selves ns) (Cross x x) (self-among ns x l)) 0 d (λ x i. tt) b in
    let n : all_alternatives test new ≡ true = all_alternatives-definitions test base ns o g.definitions (definitions-read base ns test each g.definitions e) in
    let plain : (z : List ℕ) → is_defined_among (Nt z) xs ≡ true → is_defined_among (Nt z) zs ≡ true =
    λ z l. or_true (is_defined_among (Nt z) known) (is_defined_among (Nt z) (selves ns)) (is_defined_among (Nt z) zs ≡ true) (sym (is_among-append (Nt z) known (selves ns)) ∙ l)
    (λ m. or_true (is_defined_among (Nt z) (defined base)) (is_defined_among (Nt z) zs) (is_defined_among (Nt z) zs ≡ true) (sym (is_among-append (Nt z) (defined base) zs) ∙ m)
    (λ q. Within-old old new (Nt z) (is_among-plain base.nonterminals z ∙ q)) (λ q. q))
    (λ m. absurd (not_either_way (is_defined_among (Nt z) (selves ns)) m (no-self ns z))) in
    completed_known (written_over base g)
    (needs-only (written_over base g) xs plain (all_alternatives-extended test old new (all_alternatives-plain test base.nonterminals o) n))
