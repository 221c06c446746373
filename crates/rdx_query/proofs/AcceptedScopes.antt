-- The scope of a file that is accepted is what its program may call.
use Rattle.std.proofs.Common.{◌≡◌, ◌++◌, ◌∙◌, ℕ, Bool, true, false, List, [], ◌∷◌, Option, Some, None, map, IsTrue, refl, sym, ap, subst, if◌then◌else◌}
use Rattle.std.proofs.lemmas.List.{append_assoc, append-nil, map-append}
use Rattle.std.specs.Cmp.Lexicographic.{bytes_decides}
use Rattle.std.specs.List.{list_all, list_any}
use Rattle.std.specs.Prelude.{◌&&◌, ◌||◌, is_some, option_map, bytes_eq, codes, flat_map}
use Rattle.std.specs.Str.{chars}
use Rattle.rdx_sexp.specs.Sexp.{integer, truth, text, symbol, keyword, Sexp, leaf, list}
use Rattle.rdx_term.specs.Spelling.{is_name}
use Rattle.rdx_lang.specs.Programs.{Mode, Metafunction, Judgement, Program, metafunction_among, judgement_among}
use Rattle.rdx_lang.specs.Valid.{callable_in}
use Rattle.rdx_patterns.proofs.Booleans.{and_both, not_either_way}
use Rattle.rdx_patterns.proofs.Firsts.{none_both}
use Rattle.rdx_patterns.specs.PatternChecks as patterns
use Rattle.rdx_patterns.specs.Parts.{parts, is_symbol, text_of}
use Rattle.rdx_patterns.specs.Readable.{IsReadable}
use Rattle.rdx_patterns.specs.Reading.{name_in}
use Rattle.rdx_parts.specs.ExtraForms.{of_clause}
use Rattle.rdx_defs.specs.JudgementForms.{judgement_form}
use Rattle.rdx_defs.specs.MetafunctionForms as forms
use Rattle.rdx_defs.specs.MetafunctionForms.{ClauseForm, clause_form, MetafunctionForm, metafunction_form, function_in}
use Rattle.rdx_defs.specs.MetafunctionReading.{text_in}
use Rattle.rdx_defs.specs.MetafunctionStands.{bound_by_arguments, bound_by_clause, clause_stands, clauses_stand, contract_stands, function_stands}
use Rattle.rdx_templates.specs.Scope.{Scope, has_metafunction, mode_among, mode_of, callable}
use Rattle.rdx_defs.specs.Scopes.{are_conditions, is_clause_of, function_of_all, metafunction_name, judgement_moded, defined_functions, defined_judgements, language_text, defined_languages, languages_in, scope_in}
use Rattle.rdx_parts.specs.StandChecks.{bad_name, bad_names}
use Rattle.rdx_parts.specs.Stands.{Stand, misshaped, function, pattern, template, argument_occurrences, names_bound, extras_stand}
use Rattle.rdx_parts.specs.StandRefusal.{stands_refusal}
use Rattle.rdx_relations.proofs.FormRefusals.{ArePassed, stands-passed}
use Rattle.rdx_relations.proofs.PartsOfForms.{Each}
use Rattle.rdx_defs.proofs.PassedForms.{has-function, metafunction-valid}
use Rattle.rdx_relations.proofs.PassedStands.{passed-both, pattern-first, template-first}
use Rattle.rdx_defs.proofs.ScopeForms.{not_misshaped, conditions-shaped, in-scope}
use Rattle.rdx_forms.specs.BindingParts.{grammar_part}
use Rattle.rdx_forms.specs.DefineForms.{defined_relation}
use Rattle.rdx_forms.specs.Definitions.{Defined, language, metafunction, judgement, relation}
use Rattle.rdx_query.specs.File.{Accepts, accepts_none, accepts_definition, accepts_query, accepts_passed, IsFile}
use Rattle.rdx_forms.specs.Before.{known_before}
use Rattle.rdx_forms.specs.FormKinds as kind
use Rattle.rdx_forms.specs.FormKinds.{FormKind, defines, asks, passes, heads, kind_in, kind_by_head, kind_among, form_kind}
use Rattle.rdx_forms.specs.Forms.{refusal_by_kind, definition_by_kind, query_by_kind, is_passed_kind}
use Rattle.rdx_forms.specs.JudgementForms.{defined_judgement}
use Rattle.rdx_forms.specs.Known.{Known, with_definition, paired_with}
use Rattle.rdx_forms.specs.LanguageForms.{named_base, plain_language, extended_language}
use Rattle.rdx_forms.specs.MetafunctionForms.{function_names, defined_function}
use Rattle.rdx_answer.specs.Queries.{Query}
use Rattle.rdx_query.proofs.AcceptedForms.{function-parts, judgement-parts}
use Rattle.rdx_query.proofs.DefinedJudgements.{mapped-some, begins_with, no-judgement}

-- ---- forms by their heads

-- forms with this head are of some kind
module _ (t : FormKind → Bool) (w : List ℕ) (own : t (kind_in heads w) ≡ true) where
  -- a form with the head is of that kind
  head-kind : (h : Sexp) (ds : List Sexp) → begins_with w (Some (h ∷ ds)) ≡ true → t (kind_by_head h) ≡ true
  head-kind (leaf (integer n) s) ds e = absurd cc
  head-kind (leaf (truth b) s) ds e = absurd cc
  head-kind (leaf (text x) s) ds e = absurd cc
  head-kind (leaf (symbol x) s) ds e = subst (λ (y : List ℕ). t (kind_in heads y) ≡ true) (sym ((bytes_decides x w).0 e)) own
  head-kind (leaf (keyword k) s) ds e = absurd cc
  head-kind (list es s) ds e = absurd cc

  items-kind : (o : Option (List Sexp)) → begins_with w o ≡ true → t (kind_among o) ≡ true
  items-kind None e = absurd cc
  items-kind (Some []) e = absurd cc
  items-kind (Some (h ∷ ds)) e = head-kind h ds e

  -- and one of another kind has not
  other-begins : (d : Sexp) → t (form_kind d) ≡ false → begins_with w (parts d) ≡ false
  other-begins d e = by_test (begins_with w (parts d)) refl
    where
      by_test : (b : Bool) → begins_with w (parts d) ≡ b → b ≡ false
      by_test true f = absurd (not_either_way (t (form_kind d)) (items-kind (parts d) f) e)
      by_test false f = refl

-- forms of metafunctions
abbrev of_functions : FormKind → Bool
of_functions (defines kind.language) = false
of_functions (defines kind.extension) = false
of_functions (defines kind.metafunction) = true
of_functions (defines kind.judgement) = false
of_functions (defines kind.relation) = false
of_functions (asks k) = false
of_functions (passes k) = false

-- forms of judgements
abbrev of_judgements : FormKind → Bool
of_judgements (defines kind.language) = false
of_judgements (defines kind.extension) = false
of_judgements (defines kind.metafunction) = false
of_judgements (defines kind.judgement) = true
of_judgements (defines kind.relation) = false
of_judgements (asks k) = false
of_judgements (passes k) = false

-- the head of each
functions-own : of_functions (kind_in heads (codes "define-metafunction")) ≡ true
unfolding chars
functions-own = refl

judgements-own : of_judgements (kind_in heads (codes "define-judgment-form")) ≡ true
unfolding chars
judgements-own = refl

-- ---- the shape of clauses that pass

module _ (S : Scope) (ns : List (List ℕ)) where
  -- a clause
  clause-shaped : (x : List ℕ) (d : Sexp) (o : Option ClauseForm) → ArePassed S ns (clause_stands S ns x d o) → is_clause_of x o ≡ true
  clause-shaped x d None h = absurd (not_misshaped S ns d h)
  clause-shaped x d (Some c) h = by_name (bytes_eq (text_of c.function) x) h
    where
      bs : List patterns.Bound
      bs = bound_by_arguments ns c

      rest : List Stand
      rest = extras_stand of_clause S ns bs true c.extras

      by_name : (b : Bool)
          → ArePassed S ns
          (if b
          then pattern [] (argument_occurrences c.arguments) ∷ template (names_bound (bound_by_clause S ns c)) c.result ∷ rest
          else misshaped d ∷ [])
          → (b && are_conditions of_clause c.extras) ≡ true
      by_name false k = absurd (not_misshaped S ns d k)
      by_name true k =
          let a = pattern-first S ns [] (argument_occurrences c.arguments) (template (names_bound (bound_by_clause S ns c)) c.result ∷ rest) k in
          conditions-shaped S ns of_clause bs c.extras (template-first S ns (bound_by_clause S ns c) c.result rest a.1).1

  -- all clauses
  clauses-shaped : (x : List ℕ) (ds : List Sexp) → ArePassed S ns (clauses_stand S ns x ds) → list_all (λ d. is_clause_of x (clause_form d)) ds ≡ true
  clauses-shaped x [] h = refl
  clauses-shaped x (d ∷ ds) h =
      let p = passed-both S ns (clause_stands S ns x d (clause_form d)) (clauses_stand S ns x ds) h in
      and_both (is_clause_of x (clause_form d)) (list_all (λ y. is_clause_of x (clause_form y)) ds) (clause-shaped x d (clause_form d) p.0) (clauses-shaped x ds p.1)

  -- those of a metafunction
  own-clauses : (m : MetafunctionForm) (f : Sexp) → ArePassed S ns (function_stands S ns m (Some f))
      → list_all (λ d. is_clause_of (text_of f) (clause_form d)) m.clauses ≡ true
  own-clauses m f k =
      let cs = clauses_stand S ns (text_of f) m.clauses in
      let b = none_both (bad_name (function f)) (bad_names (contract_stands m.contract ++ cs)) k.names in
      let p = passed-both S ns (contract_stands m.contract) cs
      (record { shapes = k.shapes; made = k.made; names = b.1; places = k.places; depths = k.depths; known = k.known; driving = k.driving; modes = k.modes }) in
      clauses-shaped (text_of f) m.clauses p.1

-- ---- what an accepted form defines in the scope

-- the names of metafunctions among what is defined
abbrev functions_in : Defined → List (List ℕ)
functions_in (language L) = []
functions_in (metafunction F) = F.name ∷ []
functions_in (judgement J) = []
functions_in (relation R) = []

-- those of judgements, with the names of their languages
abbrev paired_in : Defined → List (List ℕ × List ℕ)
paired_in (language L) = []
paired_in (metafunction F) = []
paired_in (judgement J) = (J.name, J.language) ∷ []
paired_in (relation R) = []

-- and with their modes
abbrev moded_in : Defined → List (List ℕ × Mode)
moded_in (language L) = []
moded_in (metafunction F) = []
moded_in (judgement J) = (J.name, J.mode) ∷ []
moded_in (relation R) = []

-- without the head it has not the parts of a metafunction
no-function : (o : Option (List Sexp)) → begins_with (codes "define-metafunction") o ≡ false → forms.metafunction_among o ≡ None
no-function None e = refl
no-function (Some []) e = refl
no-function (Some (h ∷ [])) e = refl
no-function (Some (h ∷ l ∷ ds)) e = ap (λ (b : Bool). if b && is_symbol l then forms.metafunction_over l ds else None) e

-- a form with another head defines no metafunction
no-functions : (d : Sexp) → of_functions (form_kind d) ≡ false → defined_functions d ≡ []
no-functions d e = ap metafunction_name (no-function (parts d) (other-begins of_functions (codes "define-metafunction") functions-own d e))

-- nor a judgement
no-judgements : (d : Sexp) → of_judgements (form_kind d) ≡ false → defined_judgements d ≡ []
no-judgements d e = ap judgement_moded (no-judgement (parts d) (other-begins of_judgements (codes "define-judgment-form") judgements-own d e))

-- the metafunction of a form that is accepted
function-defined : (K : Known) (d : Sexp) (F : Metafunction) → IsReadable d → form_kind d ≡ defines kind.metafunction
    → refusal_by_kind K d (defines kind.metafunction) ≡ None → defined_function K d ≡ Some F → defined_functions d ≡ F.name ∷ []
function-defined K d F z k r m =
    let p = function-parts K d (metafunction_form d) F refl r m in
    ap metafunction_name p.is_form
    ∙ by_name p.parts p.is_form p.passes (function_in p.parts) refl
    ∙ ap (λ (G : Metafunction). G.name ∷ []) p.means
  where
    by_name : (m : MetafunctionForm) → metafunction_form d ≡ Some m
        → stands_refusal K.scope (function_names K (Some m)) (function_stands K.scope (function_names K (Some m)) m (function_in m)) ≡ None
        → (o : Option Sexp) → function_in m ≡ o → function_of_all (function_in m) m.clauses ≡ text_in (function_in m) ∷ []
    by_name m f g None e = absurd (has-function K.scope (function_names K (Some m)) d m z f g e)
    by_name m f g (Some x) e =
        let S = K.scope in
        let ns = function_names K (Some m) in
        let n : IsTrue (is_name (text_of x)) = (metafunction-valid S (named_base K (Some m.language)) d m x z f e g).named in
        let a : ArePassed S ns (function_stands S ns m (Some x)) =
        subst (λ (o : Option Sexp). ArePassed S ns (function_stands S ns m o)) e (stands-passed S ns (function_stands S ns m (function_in m)) g) in
        ap (λ (o : Option Sexp). function_of_all o m.clauses) e
        ∙ ap (λ b. if b then name_in x else []) (own-clauses S ns m x a)
        ∙ ap (λ b. if b then text_of x ∷ [] else []) n
        ∙ ap (λ (o : Option Sexp). text_in o ∷ []) (sym e)

-- and the judgement
judgement-defined : (K : Known) (d : Sexp) (J : Judgement) → IsReadable d → form_kind d ≡ defines kind.judgement
    → refusal_by_kind K d (defines kind.judgement) ≡ None → defined_judgement K d ≡ Some J
    → (defined_judgements d ≡ (J.name, J.mode) ∷ []) × (defined_languages d ≡ (J.name, J.language) ∷ [])
judgement-defined K d J z k r m =
    let p = judgement-parts K d (judgement_form d) J refl r m in
    let s : defined_judgements d ≡ (J.name, J.mode) ∷ [] =
    in-scope K.scope _ d p.parts z p.is_form p.passes ∙ ap (λ (I : Judgement). (I.name, I.mode) ∷ []) p.means in
    let l : language_text (judgement_form d) ≡ J.language = ap language_text p.is_form ∙ ap (λ (I : Judgement). I.language) p.means in
    (s, λ i. map (λ j. (j.0, l i)) (s i))

-- a form has in the scope what it defines
record IsScopeOf (d : Sexp) (x : Defined) : Type 0 where
  functions : defined_functions d ≡ functions_in x
  judgements : defined_judgements d ≡ moded_in x
  languages : defined_languages d ≡ paired_in x

-- where a form has no judgement there, it has no language of one
no-languages : (d : Sexp) → defined_judgements d ≡ [] → defined_languages d ≡ []
no-languages d e = ap (map (λ j. (j.0, language_text (judgement_form d)))) e

-- what is no metafunction and no judgement has nothing there
other-scope : (d : Sexp) (x : Defined) → of_functions (form_kind d) ≡ false → of_judgements (form_kind d) ≡ false → functions_in x ≡ []
    → moded_in x ≡ []
    → paired_in x ≡ [] → IsScopeOf d x
other-scope d x e f a b c = record {
  functions = no-functions d e ∙ sym a;
  judgements = no-judgements d f ∙ sym b;
  languages = no-languages d (no-judgements d f) ∙ sym c;
}

-- so it is with each kind of form
by_kind : (K : Known) (d : Sexp) (k : FormKind) (x : Defined) → IsReadable d → form_kind d ≡ k → refusal_by_kind K d k ≡ None
    → definition_by_kind K d k ≡ Some x → IsScopeOf d x
by_kind K d (asks k) x z e r m = absurd cc
by_kind K d (passes k) x z e r m = absurd cc
by_kind K d (defines kind.language) x z e r m =
    mapped-some language (plain_language (grammar_part d)) x m (IsScopeOf d)
    (λ L f. other-scope d (language L) (ap of_functions e) (ap of_judgements e) refl refl refl)
by_kind K d (defines kind.extension) x z e r m =
    mapped-some language (extended_language K (grammar_part d)) x m (IsScopeOf d)
    (λ L f. other-scope d (language L) (ap of_functions e) (ap of_judgements e) refl refl refl)
by_kind K d (defines kind.metafunction) x z e r m =
    mapped-some metafunction (defined_function K d) x m (IsScopeOf d)
    (λ F f.
    let n = no-judgements d (ap of_judgements e) in
    record { functions = function-defined K d F z e r f; judgements = n; languages = no-languages d n })
by_kind K d (defines kind.judgement) x z e r m =
    mapped-some judgement (defined_judgement K d) x m (IsScopeOf d)
    (λ J f.
    let n = judgement-defined K d J z e r f in
    record { functions = no-functions d (ap of_functions e); judgements = n.0; languages = n.1 })
by_kind K d (defines kind.relation) x z e r m =
    mapped-some relation (defined_relation K d) x m (IsScopeOf d)
    (λ R f. other-scope d (relation R) (ap of_functions e) (ap of_judgements e) refl refl refl)

-- a form that defines nothing has nothing there
record IsNoScope (d : Sexp) : Type 0 where
  functions : defined_functions d ≡ []
  judgements : defined_judgements d ≡ []
  languages : defined_languages d ≡ []

-- by its kind
none-in-scope : (d : Sexp) → of_functions (form_kind d) ≡ false → of_judgements (form_kind d) ≡ false → IsNoScope d
none-in-scope d e f =
    let n = no-judgements d f in
    record { functions = no-functions d e; judgements = n; languages = no-languages d n }

-- a form that asks something
by_asking : (K : Known) (d : Sexp) (k : FormKind) (q : Query) → form_kind d ≡ k → query_by_kind K d k ≡ Some q → IsNoScope d
by_asking K d (defines k) q e m = absurd cc
by_asking K d (asks k) q e m = none-in-scope d (ap of_functions e) (ap of_judgements e)
by_asking K d (passes k) q e m = absurd cc

-- and one that is passed over
by_passing : (d : Sexp) (k : FormKind) → form_kind d ≡ k → is_passed_kind k ≡ true → IsNoScope d
by_passing d (defines k) e m = absurd cc
by_passing d (asks k) e m = absurd cc
by_passing d (passes k) e m = none-in-scope d (ap of_functions e) (ap of_judgements e)

-- ---- all forms

-- the names of the metafunctions of a program
abbrev function_names_of : Program → List (List ℕ)
function_names_of P = map (λ M. M.name) P.metafunctions

-- of its judgements, with their modes
abbrev modes_of : Program → List (List ℕ × Mode)
modes_of P = map (λ J. (J.name, J.mode)) P.judgements

-- and with the names of their languages
abbrev languages_of : Program → List (List ℕ × List ℕ)
languages_of P = map (λ J. (J.name, J.language)) P.judgements

-- with one definition more
functions-more : (K : Known) (x : Defined) → function_names_of (with_definition K x).program ≡ function_names_of K.program ++ functions_in x
functions-more K (language L) = sym (append-nil (function_names_of K.program))
functions-more K (metafunction F) = map-append (λ (M : Metafunction). M.name) K.program.metafunctions (F ∷ [])
functions-more K (judgement J) = sym (append-nil (function_names_of K.program))
functions-more K (relation R) = sym (append-nil (function_names_of K.program))

-- the modes
modes-more : (K : Known) (x : Defined) → modes_of (with_definition K x).program ≡ modes_of K.program ++ moded_in x
modes-more K (language L) = sym (append-nil (modes_of K.program))
modes-more K (metafunction F) = sym (append-nil (modes_of K.program))
modes-more K (judgement J) = map-append (λ (I : Judgement). (I.name, I.mode)) K.program.judgements (J ∷ [])
modes-more K (relation R) = sym (append-nil (modes_of K.program))

-- and the languages
languages-more : (K : Known) (x : Defined) → languages_of (with_definition K x).program ≡ languages_of K.program ++ paired_in x
languages-more K (language L) = sym (append-nil (languages_of K.program))
languages-more K (metafunction F) = sym (append-nil (languages_of K.program))
languages-more K (judgement J) = map-append (λ (I : Judgement). (I.name, I.language)) K.program.judgements (J ∷ [])
languages-more K (relation R) = sym (append-nil (languages_of K.program))

-- what forms have in the scope is what they define
record AreScopeOf (K : Known) (ds : List Sexp) (J : Known) : Type 0 where
  functions : function_names_of J.program ≡ function_names_of K.program ++ flat_map defined_functions ds
  judgements : modes_of J.program ≡ modes_of K.program ++ flat_map defined_judgements ds
  languages : languages_of J.program ≡ languages_of K.program ++ flat_map defined_languages ds

-- a form that defines nothing, before others
nothing-more : (K : Known) (d : Sexp) (ds : List Sexp) (J : Known) → IsNoScope d → AreScopeOf K ds J → AreScopeOf K (d ∷ ds) J
nothing-more K d ds J n s = record {
  functions = s.functions ∙ ap (λ (xs : List (List ℕ)). function_names_of K.program ++ (xs ++ flat_map defined_functions ds)) (sym n.functions);
  judgements = s.judgements ∙ ap (λ (xs : List (List ℕ × Mode)). modes_of K.program ++ (xs ++ flat_map defined_judgements ds)) (sym n.judgements);
  languages = s.languages ∙ ap (λ (xs : List (List ℕ × List ℕ)). languages_of K.program ++ (xs ++ flat_map defined_languages ds)) (sym n.languages);
}

-- all forms, one after the other
scope-of : (K : Known) (ds : List Sexp) (J : Known) (qs : List Query) → Each IsReadable ds → Accepts K ds J qs → AreScopeOf K ds J
scope-of K [] J qs z accepts_none = record {
  functions = sym (append-nil (function_names_of K.program));
  judgements = sym (append-nil (modes_of K.program));
  languages = sym (append-nil (languages_of K.program));
}
scope-of K (d ∷ ds) J qs z (accepts_definition {x} a more) =
    let s = scope-of (with_definition K x) ds J qs z.1 more in
    let n = by_kind K d (form_kind d) x z.0 refl a.passes a.means in
    record {
      functions = s.functions ∙ ap (λ (xs : List (List ℕ)). xs ++ flat_map defined_functions ds) (functions-more K x)
          ∙ append_assoc (function_names_of K.program) (functions_in x) (flat_map defined_functions ds)
          ∙ ap (λ (xs : List (List ℕ)). function_names_of K.program ++ (xs ++ flat_map defined_functions ds)) (sym n.functions);
      judgements = s.judgements ∙ ap (λ (xs : List (List ℕ × Mode)). xs ++ flat_map defined_judgements ds) (modes-more K x)
          ∙ append_assoc (modes_of K.program) (moded_in x) (flat_map defined_judgements ds)
          ∙ ap (λ (xs : List (List ℕ × Mode)). modes_of K.program ++ (xs ++ flat_map defined_judgements ds)) (sym n.judgements);
      languages = s.languages ∙ ap (λ (xs : List (List ℕ × List ℕ)). xs ++ flat_map defined_languages ds) (languages-more K x)
          ∙ append_assoc (languages_of K.program) (paired_in x) (flat_map defined_languages ds)
          ∙ ap (λ (xs : List (List ℕ × List ℕ)). languages_of K.program ++ (xs ++ flat_map defined_languages ds)) (sym n.languages);
    }
scope-of K (d ∷ ds) J qs z (accepts_query {q} {qs = rs} a more) = nothing-more K d ds J (by_asking K d (form_kind d) q refl a.means) (scope-of K ds J rs z.1 more)
scope-of K (d ∷ ds) J qs z (accepts_passed a more) = nothing-more K d ds J (by_passing d (form_kind d) refl a.means) (scope-of K ds J qs z.1 more)

-- ---- what may be called

-- a metafunction is found by its name
function-found : (Ms : List Metafunction) (x : List ℕ) → list_any (λ f. bytes_eq f x) (map (λ M. M.name) Ms) ≡ is_some (metafunction_among Ms x)
function-found [] x = refl
function-found (M ∷ Ms) x = by_test (bytes_eq M.name x) (function-found Ms x)
  where
    by_test : (b : Bool) → list_any (λ f. bytes_eq f x) (map (λ M. M.name) Ms) ≡ is_some (metafunction_among Ms x)
        → (b || list_any (λ f. bytes_eq f x) (map (λ M. M.name) Ms)) ≡ is_some (if b then Some M else metafunction_among Ms x)
    by_test true e = refl
    by_test false e = e

-- and a judgement with its mode
mode-found : (Js : List Judgement) (x : List ℕ) → mode_among (map (λ J. (J.name, J.mode)) Js) x ≡ option_map (λ J. J.mode) (judgement_among Js x)
mode-found [] x = refl
mode-found (J ∷ Js) x = by_test (bytes_eq J.name x) (mode-found Js x)
  where
    by_test : (b : Bool) → mode_among (map (λ J. (J.name, J.mode)) Js) x ≡ option_map (λ J. J.mode) (judgement_among Js x)
        → (if b then Some J.mode else mode_among (map (λ J. (J.name, J.mode)) Js) x) ≡ option_map (λ J. J.mode) (if b then Some J else judgement_among Js x)
    by_test true e = refl
    by_test false e = e

-- or with the name of its language
language-found : (Js : List Judgement) (x : List ℕ)
    → paired_with (map (λ J. (J.name, J.language)) Js) x ≡ option_map (λ J. J.language) (judgement_among Js x)
language-found [] x = refl
language-found (J ∷ Js) x = by_test (bytes_eq J.name x) (language-found Js x)
  where
    by_test : (b : Bool) → paired_with (map (λ J. (J.name, J.language)) Js) x ≡ option_map (λ J. J.language) (judgement_among Js x)
        → (if b then Some J.language else paired_with (map (λ J. (J.name, J.language)) Js) x) ≡ option_map (λ J. J.language) (if b then Some J else judgement_among Js x)
    by_test true e = refl
    by_test false e = e

-- what the whole file may call is what its program may, and the languages of its judgements are those of the program's
pub record IsScopeIn (ds : List Sexp) (P : Program) : Type 0 where
  pub functions : (x : List ℕ) → has_metafunction (scope_in ds) x ≡ is_some (metafunction_among P.metafunctions x)
  pub modes : (x : List ℕ) → mode_of (scope_in ds) x ≡ option_map (λ J. J.mode) (judgement_among P.judgements x)
  pub languages : (x : List ℕ) → paired_with (languages_in ds) x ≡ option_map (λ J. J.language) (judgement_among P.judgements x)

-- so it is with each file that is accepted
pub accepted-scope : (ds : List Sexp) (P : Program) (qs : List Query) → Each IsReadable ds → IsFile ds P qs → IsScopeIn ds P
accepted-scope ds P qs z a =
    let s = scope-of (known_before ds) ds (record (known_before ds) { program = P }) qs z a in
    record {
      functions = λ x. ap (list_any (λ f. bytes_eq f x)) (sym s.functions) ∙ function-found P.metafunctions x;
      modes = λ x. ap (λ (js : List (List ℕ × Mode)). mode_among js x) (sym s.judgements) ∙ mode-found P.judgements x;
      languages = λ x. ap (λ (js : List (List ℕ × List ℕ)). paired_with js x) (sym s.languages) ∙ language-found P.judgements x;
    }

-- so both may call the same
pub scope-callable : (ds : List Sexp) (P : Program) → IsScopeIn ds P → callable (scope_in ds) ≡ callable_in P
scope-callable ds P s = λ i. record { functions = λ x. s.functions x i; modes = λ x. s.modes x i }
