-- The language of a form that passes the checks is well formed.
use Rattle.std.proofs.Common.{◌≡◌, ◌++◌, ℕ, true, false, List, [], ◌∷◌, Option, Some, None, map, refl, sym, ap, ◌∙◌}
use Rattle.std.specs.Prelude.{◌&&◌, bytes_eq, flat_map}
use Rattle.std.proofs.lemmas.Grind.{flat_map-append}
use Rattle.rdx_sexp.specs.Sexp.{Sexp}
use Rattle.rdx_lang.proofs.CompletedLanguages.{completed_well_formed}
use Rattle.rdx_lang.specs.CrossLaws.{IsCompletable}
use Rattle.rdx_lang.specs.Crosses.{plain_definitions}
use Rattle.rdx_lang.specs.Depths.{has_fitting_names}
use Rattle.rdx_lang.specs.Patterns.{Language}
use Rattle.rdx_lang.specs.References.{is_among as is_defined_among, are_distinct}
use Rattle.rdx_lang.specs.WellFormed.{is_well_formed, has_known_nonterminals, all_alternatives, defined, IsWellFormed}
use Rattle.rdx_lang.specs.declared.pattern.Ref.{Ref}
use Rattle.rdx_lang.specs.declared.pattern.Ref.TheVariants.{Nt, Cross}
use Rattle.rdx_grammar.specs.Checks.{bad_name, bad_names, bad_patterns, all_depth_clashes}
use Rattle.rdx_grammar.specs.Forms.{GrammarForm}
use Rattle.rdx_grammar.specs.Inside.CheckedForms.{AreSpelledIn, AreShallowIn}
use Rattle.rdx_grammar.specs.Stands.{defined as defined_stand, definitions_stand, form_stands}
use Rattle.rdx_patterns.specs.Kinds.{is_among}
use Rattle.rdx_patterns.specs.Occurrences.{occurrences}
use Rattle.rdx_patterns.specs.PatternChecks.{bad_occurrences}
use Rattle.rdx_grammar.specs.Nonterminals.{names_by, names_in, all_names}
use Rattle.rdx_patterns.specs.Nonterminals.{ref_names, names_of}
use Rattle.rdx_grammar.specs.Languages.{alternatives, defined_by, definitions_of, written_over, language_over}
use Rattle.rdx_grammar.specs.Extension.{redefined, added}
use Rattle.rdx_patterns.specs.Found.{heads}
use Rattle.rdx_patterns.specs.Parts.{text_of}
use Rattle.rdx_grammar.specs.Definitions.{Definition, definition_in}
use Rattle.rdx_patterns.specs.Reading.{reading}
use Rattle.rdx_patterns.specs.Refusal.{unnamed, named}
use Rattle.rdx_grammar.specs.Refused.{refusal_over, shape_at, duplicate_at, bad_name_at, bad_pattern_at, depth_clash_at}
use Rattle.rdx_patterns.specs.declared.patterns.position.Position.TheVariants.{Grammar as InGrammar}
use Rattle.rdx_patterns.specs.declared.shape.fault.DefKind.TheVariants.{BadName, BadPattern, EllipsisDepth}
use Rattle.rdx_patterns.proofs.Among.{bytes_eq-sym, is_among-names}
use Rattle.rdx_patterns.proofs.Booleans.{or_true, and_both, not_either_way}
use Rattle.rdx_patterns.proofs.Tests.{or_left, or_right}
use Rattle.rdx_grammar.proofs.ExtendedNames.{Within, Within-front, Within-back, is_among-append, heads-append, Within-old, Within-new, are_distinct-extended}
use Rattle.rdx_grammar.proofs.ExtendedPatterns.{all_alternatives-within, AreAllReadWell, all_alternatives-definitions, all_alternatives-extended}
use Rattle.rdx_patterns.proofs.Firsts.{nothing, none_both, none_or}
use Rattle.rdx_grammar.proofs.FormNonterminals.{nonterminals_in-definitions}
use Rattle.rdx_grammar.proofs.FormsRead.{are-readable, ArePassedStands, definitions-well}
use Rattle.rdx_grammar.proofs.NeededCrosses.{completable}
use Rattle.rdx_grammar.proofs.PlainDefinitions.{are_distinct-plain, all_alternatives-plain}
use Rattle.rdx_patterns.proofs.PlainDefinitions.{is_among-plain}
use Rattle.rdx_grammar.proofs.Repeated.{are_distinct-nonterminals}
use Rattle.rdx_patterns.proofs.WellRead.{reading_known}

-- ---- the heads of definitions

-- the nonterminals of these names
abbrev pub refs : List (List ℕ) → List Ref
refs xs = map (λ x. Nt x) xs

-- of two lists of names
refs-append : (xs ys : List (List ℕ)) → refs (xs ++ ys) ≡ refs xs ++ refs ys
refs-append [] ys = refl
refs-append (x ∷ xs) ys = ap (λ (z : List Ref). Nt x ∷ z) (refs-append xs ys)

-- of the definitions of several names
heads_of_names : (base : Language) (ns : List (List ℕ)) (es ds : List Sexp) → heads (map (λ e. (Nt (text_of e), alternatives base ns (Nt (text_of e)) ds)) es) ≡ refs (map text_of es)
heads_of_names base ns [] ds = refl
heads_of_names base ns (e ∷ es) ds = ap (λ (x : List Ref). Nt (text_of e) ∷ x) (heads_of_names base ns es ds)

-- of those of a definition
heads-defined_by : (base : Language) (ns : List (List ℕ)) (o : Option Definition) → heads (defined_by base ns o) ≡ refs (names_by o)
heads-defined_by base ns None = refl
heads-defined_by base ns (Some def) = heads_of_names base ns def.names def.alternatives

-- they are the nonterminals that are defined
pub heads-definitions_of : (base : Language) (ns : List (List ℕ)) (ds : List Sexp) → heads (definitions_of base ns ds) ≡ refs (names_in ds)
heads-definitions_of base ns [] = refl
heads-definitions_of base ns (d ∷ ds) =
    heads-append (defined_by base ns (definition_in d)) (definitions_of base ns ds)
    ∙ ap (λ (x : List Ref). x ++ heads (definitions_of base ns ds)) (heads-defined_by base ns (definition_in d))
    ∙ ap (λ (x : List Ref). refs (names_by (definition_in d)) ++ x) (heads-definitions_of base ns ds)
    ∙ sym (refs-append (names_by (definition_in d)) (names_in ds))

-- ---- the names that patterns may have

-- of nonterminals of these names
names-refs : (xs : List (List ℕ)) → flat_map ref_names (refs xs) ≡ xs
names-refs [] = refl
names-refs (x ∷ xs) = ap (λ (z : List (List ℕ)). x ∷ z) (names-refs xs)

-- of all nonterminals of a form
pub all_names-refs : (base : Language) (ds : List Sexp) → flat_map ref_names (defined base ++ refs (names_in ds)) ≡ all_names base ds
all_names-refs base ds = flat_map-append ref_names (defined base) (refs (names_in ds)) ∙ ap (λ (z : List (List ℕ)). names_of base ++ z) (names-refs (names_in ds))

-- a name of a form is one of its nonterminals
pub named-among : (base : Language) (ds : List Sexp) (x : List ℕ) → is_among (all_names base ds) x ≡ true
    → is_defined_among (Nt x) (defined base ++ refs (names_in ds)) ≡ true
named-among base ds x e =
    sym (is_among-names x (defined base ++ refs (names_in ds))) ∙ ap (λ (ns : List (List ℕ)). is_among ns x) (all_names-refs base ds) ∙ e

-- what is read in a grammar is well formed where its nonterminals are there, and the cross nonterminals from each to itself, if its names fit together
reading_within : (ns : List (List ℕ)) (ys : List Ref) → ((x : List ℕ) → is_among ns x ≡ true → is_defined_among (Nt x) ys ≡ true)
    → ((x : List ℕ) → is_among ns x ≡ true → is_defined_among (Cross x x) ys ≡ true) → (d : Sexp) → bad_occurrences ns (occurrences 0 d) ≡ []
    → has_fitting_names (reading ns InGrammar d) ≡ true → is_well_formed ys (reading ns InGrammar d) ≡ true
reading_within ns ys plain cross d b e =
    let p = reading ns InGrammar d in
    and_both (has_known_nonterminals ys p) (has_fitting_names p) (reading_known ns InGrammar ys (λ x. Unit {0}) plain (λ x k u. cross x k) 0 d (λ x i. tt) b) e

-- the cross nonterminals from each of these to itself
abbrev pub selves : List (List ℕ) → List Ref
selves xs = map (λ x. Cross x x) xs

-- that of one of them is among them
pub self-among : (xs : List (List ℕ)) (x : List ℕ) → is_among xs x ≡ true → is_defined_among (Cross x x) (selves xs) ≡ true
self-among [] x e = absurd cc
self-among (y ∷ xs) x e = or_true (bytes_eq y x) (is_among xs x) (is_defined_among (Cross x x) (selves (y ∷ xs)) ≡ true) e
    (λ h. let k : bytes_eq x y ≡ true = bytes_eq-sym x y ∙ h in
    or_left (bytes_eq x y && bytes_eq x y) (is_defined_among (Cross x x) (selves xs)) (and_both (bytes_eq x y) (bytes_eq x y) k k))
    (λ h. or_right (bytes_eq x y && bytes_eq x y) (is_defined_among (Cross x x) (selves xs)) (self-among xs x h))

-- none of them is a plain nonterminal
pub no-self : (xs : List (List ℕ)) (z : List ℕ) → is_defined_among (Nt z) (selves xs) ≡ false
no-self [] z = refl
no-self (x ∷ xs) z = no-self xs z

-- those of two lists are among others if those of each are
pub Within-both : (xs ys zs : List Ref) → Within xs zs → Within ys zs → Within (xs ++ ys) zs
Within-both xs ys zs f g x e = or_true (is_defined_among x xs) (is_defined_among x ys) (is_defined_among x zs ≡ true) (sym (is_among-append x xs ys) ∙ e) (f x) (g x)

-- ---- what the checks pass

-- the names that the form defines are distinct
are_distinct-names : (base : Language) (d : Sexp) (g : GrammarForm) → refusal_over base d (Some g) ≡ None → are_distinct (refs (names_in g.definitions)) ≡ true
are_distinct-names base d g e =
    let ss = form_stands d (Some g) in
    let h = (none_or (shape_at ss) _ e).1 in
    let k : duplicate_at ss ≡ None = (none_or (duplicate_at ss) _ h).0 in
    ap (λ (xs : List (List ℕ)). are_distinct (refs xs)) (sym (nonterminals_in-definitions g.definitions)) ∙ are_distinct-nonterminals ss k

-- the checks of names, patterns and depths pass its definitions
passed-definitions : (base : Language) (d : Sexp) (g : GrammarForm) → refusal_over base d (Some g) ≡ None → ArePassedStands base (all_names base g.definitions) (definitions_stand g.definitions)
passed-definitions base d g e =
    let ns = all_names base g.definitions in
    let ss = form_stands d (Some g) in
    let rs = definitions_stand g.definitions in
    let h = (none_or (shape_at ss) _ e).1 in
    let k = none_or (duplicate_at ss) _ h in
    let l = none_or (bad_name_at ss) _ k.1 in
    let m = none_or (bad_pattern_at base ns ss) _ l.1 in
    let n = none_or (depth_clash_at ns ss) None m.1 in
    let names = nothing (named BadName) (bad_names ss) l.0 in
    ((none_both (bad_name (defined_stand g.name)) (bad_names rs) names).1, (nothing (unnamed BadPattern) (bad_patterns base ns ss) m.0, nothing (named EllipsisDepth) (all_depth_clashes ns ss) n.0))

-- what is written in a form that the checks pass wants nothing but the cross nonterminals that it speaks of
IsCompletable-written_over : (base : Language) (d : Sexp) (g : GrammarForm) → IsWellFormed base → AreSpelledIn (Some g) → AreShallowIn (Some g)
    → refusal_over base d (Some g) ≡ None → IsCompletable (written_over base g)
IsCompletable-written_over base d g w spelled shallow e =
    let ns = all_names base g.definitions in
    let old = plain_definitions base.nonterminals in
    let new = definitions_of base ns g.definitions in
    let h : heads new ≡ refs (names_in g.definitions) = heads-definitions_of base ns g.definitions in
    let zs = heads (map (redefined new) old ++ added old new) in
    let known = defined base ++ zs in
    let xs = known ++ selves ns in
    let test = is_well_formed xs in
    let old_there : Within (defined base) xs = λ x k. Within-front known (selves ns) x (Within-front (defined base) zs x k) in
    let new_there : Within (refs (names_in g.definitions)) xs =
    λ x k. Within-front known (selves ns) x (Within-back (defined base) zs x (Within-new old new x (ap (is_defined_among x) h ∙ k))) in
    let both : Within (defined base ++ refs (names_in g.definitions)) xs = Within-both (defined base) (refs (names_in g.definitions)) xs old_there new_there in
    let o : all_alternatives test base.nonterminals ≡ true = all_alternatives-within (defined base) xs old_there base.nonterminals w.well_formed in
    let r : AreAllReadWell test ns g.definitions =
    definitions-well base ns test
    (reading_within ns xs (λ x k. both (Nt x) (named-among base g.definitions x k)) (λ x k. Within-back known (selves ns) (Cross x x) (self-among ns x k)))
    g.definitions (are-readable g.definitions spelled.definitions shallow) (passed-definitions base d g e) in
    let n : all_alternatives test new ≡ true = all_alternatives-definitions test base ns o g.definitions r in
    let plain : (z : List ℕ) → is_defined_among (Nt z) xs ≡ true → is_defined_among (Nt z) zs ≡ true =
    λ z k. or_true (is_defined_among (Nt z) known) (is_defined_among (Nt z) (selves ns)) (is_defined_among (Nt z) zs ≡ true) (sym (is_among-append (Nt z) known (selves ns)) ∙ k)
    (λ l. or_true (is_defined_among (Nt z) (defined base)) (is_defined_among (Nt z) zs) (is_defined_among (Nt z) zs ≡ true) (sym (is_among-append (Nt z) (defined base) zs) ∙ l)
    (λ m. Within-old old new (Nt z) (is_among-plain base.nonterminals z ∙ m)) (λ m. m))
    (λ l. absurd (not_either_way (is_defined_among (Nt z) (selves ns)) l (no-self ns z))) in
    completable (written_over base g) xs plain
    (are_distinct-extended old new (are_distinct-plain base.nonterminals w.distinct) (ap are_distinct h ∙ are_distinct-names base d g e))
    (all_alternatives-extended test old new (all_alternatives-plain test base.nonterminals o) n)

-- so the language of such a form is well formed
pub IsWellFormed-language_over : (base : Language) (d : Sexp) (g : GrammarForm) → IsWellFormed base → AreSpelledIn (Some g) → AreShallowIn (Some g) → refusal_over base d (Some g) ≡ None → IsWellFormed (language_over base g)
IsWellFormed-language_over base d g w spelled shallow e = completed_well_formed (written_over base g) (IsCompletable-written_over base d g w spelled shallow e)
