-- Which check refuses a form that defines a relation as a closure of another one, and what it defines else.
use Rattle.std.proofs.Common.{◌≡◌, ℕ, Bool, true, false, List, [], ◌∷◌, Option, Some, None, Result, Ok, Err, refl, sym, ◌∙◌, ap, subst, arith, if◌then◌else◌}
use Rattle.std.specs.Bool.{then_some}
use Rattle.std.specs.Cmp.Lexicographic.{bytes_decides}
use Rattle.std.specs.Prelude.{bytes_eq, option_map}
use Rattle.rdx_sexp.specs.Sexp.{Sexp}
use Rattle.rdx_lang.specs.Checked.{pattern_in}
use Rattle.rdx_lang.specs.Closures.{context_closure, compatible_closure, has_well_formed_patterns}
use Rattle.rdx_lang.specs.Members.{In, here}
use Rattle.rdx_lang.specs.Patterns.{Language}
use Rattle.rdx_lang.specs.Programs as model
use Rattle.rdx_lang.specs.Programs.{language_named}
use Rattle.rdx_lang.specs.ProgramView.{relation_of}
use Rattle.rdx_lang.specs.References as references
use Rattle.rdx_lang.specs.WellFormed.{defined}
use Rattle.rdx_lang.specs.declared.checked.CheckedPat.{CheckedPat}
use Rattle.rdx_lang.specs.declared.pattern.Ref.TheVariants.{Nt, Cross}
use Rattle.rdx_lang.specs.declared.program.Relation.{Relation}
use Rattle.rdx_patterns.specs.Answers.{ReadsPattern}
use Rattle.rdx_patterns.specs.Kinds.{is_among}
use Rattle.rdx_patterns.specs.Names.{is_bad_name}
use Rattle.rdx_patterns.specs.Nonterminals.{names_of}
use Rattle.rdx_patterns.specs.Parts.{is_symbol, text_of}
use Rattle.rdx_patterns.specs.PatternRefusal.{pattern_refusal}
use Rattle.rdx_patterns.specs.Reading.{reading}
use Rattle.rdx_patterns.specs.Readable.{IsReadable}
use Rattle.rdx_patterns.specs.Refusal.{Refusal, refusal_of, unnamed, named, or_else, first_refusal}
use Rattle.rdx_patterns.specs.declared.shape.fault.DefFault.{DefFault}
use Rattle.rdx_patterns.specs.declared.shape.fault.DefKind.TheVariants.{UnknownLanguage, BadPattern}
use Rattle.rdx_patterns.specs.declared.shape.fault.DefRefusal.{DefRefusal}
use Rattle.rdx_patterns.specs.declared.patterns.position.Position.TheVariants as position
use Rattle.rdx_forms.specs.ClosureForms.{closed_relation, closure_names, other_language_by, closure_language_at, unknown_closed_at, no_nonterminal_at, context_refusal_by, context_relation_by, compatible_refusal_by, compatible_relation_by}
use Rattle.rdx_forms.specs.DefineForms.{define_refusal, define_refusal_by, defined_relation, relation_by}
use Rattle.rdx_forms.specs.DefineParts.{by_contexts, by_crosses, ClosureParts, define_parts, closure_parts, with_symbol}
use Rattle.rdx_forms.specs.FormKinds as kind
use Rattle.rdx_forms.specs.FormKinds.{defines, form_kind}
use Rattle.rdx_forms.specs.Ends.{closure_ends, kind_ends}
use Rattle.rdx_forms.specs.Known.{Known, or_empty}
use Rattle.rdx_forms.specs.LanguageForms.{unknown_at, name_taken_at}
use Rattle.rdx_forms.specs.RelationForms.{bad_relation_at}
use Rattle.rdx_forms.specs.Inside.Closing.{ClosesByContexts, ClosesByCrosses, contexts_refusal, contexts_relation, crosses_refusal, crosses_relation, context_parts_refusal, compatible_parts_refusal}
use Rattle.rdx_forms.specs.Inside.Defining.{AnswersBy}
use Rattle.rdx_forms.specs.Answers.{RelatesBy}
use Rattle.rdx_forms.specs.Reported.{earlier}
use Rattle.rdx_forms.specs.Inside.Earlier.{IsFirstFault}
use Rattle.rdx_forms.specs.Faults.{IsFaultAt}
use Rattle.rdx_patterns.specs.Ends.{ends_in}
use Rattle.rdx_patterns.specs.Among.{AreAmong}
use Rattle.rdx_forms.specs.Fitting.{IsFitting, IsRelationOf}
use Rattle.rdx_term.specs.Spelling.{is_name}
use Rattle.rdx_patterns.proofs.Among.{is_among-names}
use Rattle.rdx_patterns.proofs.Firsts.{none_or}
use Rattle.rdx_forms.proofs.GainingNothing.{parts-ask}
use Rattle.rdx_forms.proofs.CheckNumbers.{HasNumber, Checks, AreChecks, refused, merged, named-number, none-at}
use Rattle.rdx_forms.proofs.DefineChecks.{bad-number, good_name, sole_parts, relates-by}
use Rattle.rdx_forms.proofs.FormParts.{closure-items, parts-readable}
use Rattle.rdx_forms.proofs.FoundByName.{HasValue, language-found, relation-found, language-among, relation-among}
use Rattle.rdx_forms.proofs.LanguageChecks.{unknown-number, taken-number}
use Rattle.rdx_forms.proofs.QueryChecks.{pattern_checks, pattern-checks, pattern-refusal, pattern-refused}
use Rattle.rdx_forms.proofs.StepChecks as steps

-- ---- numbers

-- of the check of a language that is not the relation's
other_by-number : (b : Bool) (l : Sexp) → HasNumber 2 (if b then None else Some (named UnknownLanguage l))
other_by-number true l r e = absurd cc
other_by-number false l r e = named-number UnknownLanguage (Some l) r e

other-number : (o : Option model.Relation) (l : Sexp) → HasNumber 2 (other_language_by o l)
other-number None l r e = absurd cc
other-number (Some R) l r e = other_by-number (bytes_eq R.language (text_of l)) l r e

-- of two checks by one number
both-number : (n : ℕ) (o p : Option Refusal) → HasNumber n o → HasNumber n p → HasNumber n (or_else o p)
both-number n None p f g r e = g r e
both-number n (Some q) p f g r e = f r e

-- ---- the checks of the parts but for the pattern

abbrev part_checks : Known → Sexp → ClosureParts → Checks
part_checks K x c = (2, closure_language_at K c) ∷ (3, name_taken_at K x) ∷ (4, bad_relation_at x) ∷ (8, unknown_closed_at K c) ∷ []

part-checks : (K : Known) (x : Sexp) (c : ClosureParts) → AreChecks 0 (part_checks K x c)
part-checks K x c = (
  omega arith,
  (
    both-number 2 (unknown_at K (Some c.language)) (other_language_by (closed_relation K c) c.language) (unknown-number K (Some c.language)) (other-number (closed_relation K c) c.language),
    (
      omega arith,
      (
        taken-number K x,
        (
          omega arith,
          (bad-number (is_bad_name (text_of x)) x, (omega arith, (steps.unknown-number (closed_relation K c) c.relation, tt))),
        ),
      ),
    ),
  ),
)

-- what is refused behind three other checks
pub behind-three : (a b c p : Option Refusal) → or_else (first_refusal (a ∷ b ∷ c ∷ [])) p ≡ or_else a (or_else b (or_else c p))
behind-three None None None p = refl
behind-three None None (Some r) p = refl
behind-three None (Some r) c p = refl
behind-three (Some r) b c p = refl

-- ---- a form with these parts, behind which nothing stands, by contexts

module _ (K : Known) (d x body : Sexp) (e : define_parts d ≡ Some (sole_parts by_contexts x body)) where
  -- its refusal by the parts of the list
  contexts_by-parts : (o : Option ClosureParts) → context_refusal_by K d (sole_parts by_contexts x body) o ≡ contexts_refusal K x body o
  contexts_by-parts None = refl
  contexts_by-parts (Some c) =
      let ns = closure_names K c in
      merged 0 (part_checks K x c) (pattern_checks ns c.by) (part-checks K x c) (pattern-checks ns c.by)
      ∙ ap (earlier (refused (part_checks K x c))) (sym (pattern-refusal ns c.by))

  contexts-refusal : define_refusal K d ≡ contexts_refusal K x body (closure_parts body)
  contexts-refusal = ap (define_refusal_by K d) e ∙ contexts_by-parts (closure_parts body)

  -- the relation that it defines
  contexts_by-closed : (o : Option ClosureParts) → context_relation_by K (sole_parts by_contexts x body) o ≡ contexts_relation K x o
  contexts_by-closed None = refl
  contexts_by-closed (Some c) = refl

  contexts-relation : defined_relation K d ≡ contexts_relation K x (closure_parts body)
  contexts-relation = ap (relation_by K) e ∙ contexts_by-closed (closure_parts body)

  -- what is said of its parts is said of the form
  pub relates-contexts : (y : Result Relation DefFault) → form_kind d ≡ defines kind.relation → ClosesByContexts K x body y → RelatesBy K d y
  relates-contexts y f a =
      relates-by K d (contexts_refusal K x body (closure_parts body)) (contexts_relation K x (closure_parts body)) y f contexts-refusal contexts-relation a

-- ---- by those of a nonterminal in itself

module _ (K : Known) (d x body : Sexp) (e : define_parts d ≡ Some (sole_parts by_crosses x body)) where
  -- its refusal by the parts of the list
  crosses_by-parts : (o : Option ClosureParts) → compatible_refusal_by K d (sole_parts by_crosses x body) o ≡ crosses_refusal K x body o
  crosses_by-parts None = refl
  crosses_by-parts (Some c) = refl

  crosses-refusal : define_refusal K d ≡ crosses_refusal K x body (with_symbol (closure_parts body))
  crosses-refusal = ap (define_refusal_by K d) e ∙ crosses_by-parts (with_symbol (closure_parts body))

  -- the relation that it defines
  crosses_by-closed : (o : Option ClosureParts) → compatible_relation_by K (sole_parts by_crosses x body) o ≡ crosses_relation K x o
  crosses_by-closed None = refl
  crosses_by-closed (Some c) = refl

  crosses-relation : defined_relation K d ≡ crosses_relation K x (with_symbol (closure_parts body))
  crosses-relation = ap (relation_by K) e ∙ crosses_by-closed (with_symbol (closure_parts body))

  -- what is said of its parts is said of the form
  pub relates-crosses : (y : Result Relation DefFault) → form_kind d ≡ defines kind.relation → ClosesByCrosses K x body y → RelatesBy K d y
  relates-crosses y f a =
      relates-by K d (crosses_refusal K x body (with_symbol (closure_parts body))) (crosses_relation K x (with_symbol (closure_parts body))) y f crosses-refusal
      crosses-relation a

-- ---- the parts of a list

-- the pattern can be read
pub by-readable : (body : Sexp) (c : ClosureParts) → closure_parts body ≡ Some c → IsReadable body → IsReadable c.by
by-readable body c e z =
    let i = closure-items body c e in
    (parts-readable body (i.head ∷ c.relation ∷ c.language ∷ c.by ∷ []) i.are z).1.1.1.0

-- it asks for some of what the list does
pub by-asks : (zs : List (List ℕ)) (body : Sexp) (c : ClosureParts) → closure_parts body ≡ Some c → AreAmong (ends_in body) zs → AreAmong (ends_in c.by) zs
by-asks zs body c e a =
    let i = closure-items body c e in
    (parts-ask zs body (i.head ∷ c.relation ∷ c.language ∷ c.by ∷ []) i.are a).1.1.1.0

-- ---- what is known where no name is refused

module _ (K : Known) (c : ClosureParts) (e : closure_language_at K c ≡ None) where
  -- the language
  pub language-known : HasValue Language (language_named K.program (text_of c.language))
  language-known =
      language-found (language_named K.program (text_of c.language)) c.language
      (none_or (unknown_at K (Some c.language)) (other_language_by (closed_relation K c) c.language) e).0

  -- it is that of the relation
  pub same-language : (R : model.Relation) → closed_relation K c ≡ Some R → R.language ≡ text_of c.language
  same-language R f =
      by_test (bytes_eq R.language (text_of c.language)) refl
      (ap (λ (o : Option model.Relation). other_language_by o c.language) (sym f) ∙ (none_or (unknown_at K (Some c.language)) (other_language_by (closed_relation K c) c.language) e).1)
    where
      by_test : (b : Bool) → bytes_eq R.language (text_of c.language) ≡ b → (let o : Option Refusal = if b then None else Some (named UnknownLanguage c.language) in o) ≡ None → R.language ≡ text_of c.language
      by_test true g h = (bytes_decides R.language (text_of c.language)).0 g
      by_test false g h = absurd cc

  module _ (L : Language) (k : language_named K.program (text_of c.language) ≡ Some L) (R : model.Relation) (f : closed_relation K c ≡ Some R) where
    -- the patterns of the relation are well formed in the language
    pub closed-formed : IsFitting K → has_well_formed_patterns L R ≡ true
    closed-formed z =
        let i = z.relations R (relation-among K.program.relations (text_of c.relation) R f) in
        let g : (let o : Option Language = Some i.language in o) ≡ Some L = sym i.named ∙ ap (language_named K.program) (same-language R f) ∙ k in
        let h : i.language ≡ L = cc in
        subst (λ (M : Language). has_well_formed_patterns M R ≡ true) h i.formed

    -- a relation over the same language whose patterns are well formed there
    pub closure-fits : (S : model.Relation) → S.language ≡ R.language → has_well_formed_patterns L S ≡ true → IsRelationOf K.program S
    closure-fits S g h = record { language = L; named = ap (language_named K.program) (g ∙ same-language R f) ∙ k; formed = h }

-- no relation is unknown
pub relation-there : (K : Known) (c : ClosureParts) → unknown_closed_at K c ≡ None → closed_relation K c ≡ None → ⊥
relation-there K c e n = let f = (relation-found (closed_relation K c) c.relation e).is in absurd cc

-- ---- what is answered to the parts, by contexts

module _ (K : Known) (x body : Sexp) (c : ClosureParts) (p : closure_parts body ≡ Some c) where
  -- the nonterminals of the language
  abbrev names : List (List ℕ)
  names = closure_names K c

  -- what is refused of the parts but for the pattern, check by check
  abbrev name_refusals : List (Option Refusal)
  name_refusals = closure_language_at K c ∷ name_taken_at K x ∷ bad_relation_at x ∷ unknown_closed_at K c ∷ []

  -- what is answered to these parts is answered to the list
  contexts-shown : (y : Result Relation DefFault) → AnswersBy (context_parts_refusal K x c) (contexts_relation K x (Some c)) y → ClosesByContexts K x body y
  contexts-shown y a = subst (λ (o : Option ClosureParts). AnswersBy (contexts_refusal K x body o) (contexts_relation K x o) y) (sym p) a

  -- one of them is refused
  pub names-fault : (r : DefRefusal) (q : Result CheckedPat DefFault) (w : DefFault) → (let o : Option Refusal = Some (refusal_of r) in o) ≡ first_refusal name_refusals → ReadsPattern names c.by q
      → IsFirstFault r q w → ClosesByContexts K x body (Err w)
  names-fault r q w e a g =
      contexts-shown (Err w)
      (subst (λ (o : Option Refusal). IsFaultAt (earlier o (pattern_refusal names c.by)) w) e (g (pattern_refusal names c.by) (pattern-refused names c.by q a)))

  -- where none of them is refused, the language is not
  pub contexts-language : first_refusal name_refusals ≡ None → closure_language_at K c ≡ None
  contexts-language e = none-at 0 name_refusals e

  -- nor is the relation
  pub contexts-closed : first_refusal name_refusals ≡ None → unknown_closed_at K c ≡ None
  contexts-closed e = none-at 3 name_refusals e

  -- nothing is refused
  pub contexts-answered : (q : CheckedPat) (y : List ℕ) (R : model.Relation) (r : Relation) → first_refusal name_refusals ≡ None → ReadsPattern names c.by (Ok q)
      → (is_bad_name (text_of x) ≡ false → y ≡ text_of x) → closed_relation K c ≡ Some R → relation_of r ≡ context_closure (pattern_in q) y R → ClosesByContexts K x body (Ok r)
  contexts-answered q y R r e a f k s =
      let good : is_bad_name (text_of x) ≡ false = good_name (is_bad_name (text_of x)) x (none-at 2 name_refusals e) in
      contexts-shown (Ok r) (
        λ i. earlier (e i) (a.0 i),
        ap (option_map (context_closure (reading names position.Query c.by) (text_of x))) k
            ∙ (λ i. Some (context_closure (sym a.1 i) (sym (f good) i) R))
            ∙ ap Some (sym s),
      )

-- ---- by the contexts of a nonterminal in itself

-- a name that is found is the one that is looked for
pub found-name : (b : Bool) (x y : List ℕ) → (let o : Option (List ℕ) = Some x in o) ≡ then_some b y → x ≡ y
found-name true x y e = cc
found-name false x y e = absurd cc

-- the parts, where the last is a symbol
with-symbol : (c : ClosureParts) → is_symbol c.by ≡ true → with_symbol (Some c) ≡ Some c
with-symbol c s = λ i. if s i then Some c else None

module _ (K : Known) (x body : Sexp) (c : ClosureParts) (p : closure_parts body ≡ Some c) (t : is_symbol c.by ≡ true) where
  -- what is refused of the parts, check by check
  abbrev part_refusals : List (Option Refusal)
  part_refusals = closure_language_at K c ∷ name_taken_at K x ∷ bad_relation_at x ∷ no_nonterminal_at (closure_names K c) c.by ∷ unknown_closed_at K c ∷ []

  -- the parts of the list
  crosses-parts : with_symbol (closure_parts body) ≡ Some c
  crosses-parts = ap with_symbol p ∙ with-symbol c t

  -- what is answered to these parts is answered to the list
  crosses-shown : (y : Result Relation DefFault) → AnswersBy (compatible_parts_refusal K x c) (crosses_relation K x (Some c)) y → ClosesByCrosses K x body y
  crosses-shown y a = subst (λ (o : Option ClosureParts). AnswersBy (crosses_refusal K x body o) (crosses_relation K x o) y) (sym crosses-parts) a

  -- where none of them is refused, the language is not
  pub crosses-language : compatible_parts_refusal K x c ≡ None → closure_language_at K c ≡ None
  crosses-language e = none-at 0 part_refusals e

  -- nor is the nonterminal
  crosses-nonterminal : compatible_parts_refusal K x c ≡ None → is_among (closure_names K c) (text_of c.by) ≡ true
  crosses-nonterminal e = by_test (is_among (closure_names K c) (text_of c.by)) (none-at 3 part_refusals e)
    where
      by_test : (b : Bool) → (let o : Option Refusal = if b then None else Some (unnamed BadPattern c.by) in o) ≡ None → b ≡ true
      by_test true f = refl
      by_test false f = absurd cc

  -- or the relation
  pub crosses-closed : compatible_parts_refusal K x c ≡ None → unknown_closed_at K c ≡ None
  crosses-closed e = none-at 4 part_refusals e

  -- nothing is refused
  pub crosses-answered : (z y : List ℕ) (R : model.Relation) (r : Relation) → compatible_parts_refusal K x c ≡ None → z ≡ text_of c.by
      → (is_bad_name (text_of x) ≡ false → y ≡ text_of x) → closed_relation K c ≡ Some R → relation_of r ≡ compatible_closure z y R → ClosesByCrosses K x body (Ok r)
  crosses-answered z y R r e g f k s =
      let good : is_bad_name (text_of x) ≡ false = good_name (is_bad_name (text_of x)) x (none-at 2 part_refusals e) in
      crosses-shown (Ok r) (
        e,
        ap (option_map (compatible_closure (text_of c.by) (text_of x))) k ∙ (λ i. Some (compatible_closure (sym g i) (sym (f good) i) R)) ∙ ap Some (sym s),
      )

  -- the language has the nonterminal
  pub nonterminal-known : (L : Language) → language_named K.program (text_of c.language) ≡ Some L → compatible_parts_refusal K x c ≡ None → is_among (names_of L) (text_of c.by) ≡ true
  nonterminal-known L k e = ap (λ (o : Option Language). is_among (names_of (or_empty o)) (text_of c.by)) (sym k) ∙ crosses-nonterminal e

  -- so it is found
  pub nonterminal-there : (L : Language) → language_named K.program (text_of c.language) ≡ Some L → compatible_parts_refusal K x c ≡ None
      → then_some (is_among (names_of L) (text_of c.by)) (text_of c.by) ≡ None → ⊥
  nonterminal-there L k e n =
      let f : then_some true (text_of c.by) ≡ None = ap (λ (b : Bool). then_some b (text_of c.by)) (sym (nonterminal-known L k e)) ∙ n in
      absurd cc

  -- the language has the cross nonterminal that the closure takes
  pub crossed-there : (L : Language) → language_named K.program (text_of c.language) ≡ Some L → IsFitting K → AreAmong (kind_ends by_crosses body) K.ends
      → compatible_parts_refusal K x c ≡ None → is_name (text_of c.by) ≡ true → references.is_among (Cross (text_of c.by) (text_of c.by)) (defined L) ≡ true
  crossed-there L k z a e i =
      let y : List ℕ = text_of c.by in
      let asked : In y (kind_ends by_crosses body) = subst (λ (o : Option ClosureParts). In y (closure_ends o)) (sym crosses-parts) (subst (λ (b : Bool). In y (if b then y ∷ [] else [])) (sym i) (here refl)) in
      let plain : references.is_among (Nt y) (defined L) ≡ true = sym (is_among-names y (defined L)) ∙ nonterminal-known L k e in
      z.crossed L (language-among K.program.languages (text_of c.language) L k) y (a y asked) plain y plain
