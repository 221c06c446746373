-- Which check refuses a form that defines a relation by cases.
use Rattle.std.proofs.Common.{◌≡◌, ℕ, Bool, true, false, List, [], ◌∷◌, Option, Some, None, Result, Ok, Err, IfOk, refl, sym, ◌∙◌, ap, subst, arith, if◌then◌else◌}
use Rattle.std.proofs.lemmas.Bool.{and_parts, and_from}
use Rattle.std.specs.List.{list_all}
use Rattle.std.specs.Prelude.{◌&&◌, bytes_eq, codes, option_map, is_some}
use Rattle.rdx_sexp.specs.Sexp.{integer, truth, text, symbol, keyword, Sexp, leaf, list}
use Rattle.rdx_lang.specs.Closures.{has_well_formed_patterns}
use Rattle.rdx_lang.specs.Depths.{uses}
use Rattle.rdx_lang.specs.Fitting.{fits}
use Rattle.rdx_lang.specs.Modes.{Callable}
use Rattle.rdx_lang.specs.Patterns.{Language}
use Rattle.rdx_lang.specs.Programs as model
use Rattle.rdx_lang.specs.Programs.{Rule, language_named}
use Rattle.rdx_lang.specs.ProgramView.{relation_of}
use Rattle.rdx_lang.specs.Scopes.{bound_by, case_uses}
use Rattle.rdx_lang.specs.Valid.{are_valid_extras, is_valid_rule, is_valid_domain, is_valid_over}
use Rattle.rdx_lang.specs.WellFormed.{is_well_formed_in}
use Rattle.rdx_lang.specs.declared.program.Relation.{Relation}
use Rattle.rdx_patterns.specs.Names.{is_bad_name}
use Rattle.rdx_patterns.specs.Nonterminals.{names_of}
use Rattle.rdx_patterns.specs.Parts.{parts, is_symbol, is_word, text_of}
use Rattle.rdx_patterns.specs.Refusal.{Refusal, refusal_of, or_else, first_refusal}
use Rattle.rdx_patterns.specs.declared.shape.fault.DefFault.{DefFault}
use Rattle.rdx_patterns.specs.declared.shape.fault.DefFault.TheVariants.{Refused, NoMemory}
use Rattle.rdx_patterns.specs.declared.shape.fault.DefRefusal.{DefRefusal}
use Rattle.rdx_relations.specs.Answers.{ReadsRelation}
use Rattle.rdx_relations.specs.LanguageRefusal.{unnamable_language_at, refusal_over}
use Rattle.rdx_relations.specs.RelationForms.{RelationForm, is_keyword, relation_among, relation_over, relation_form}
use Rattle.rdx_relations.specs.RelationReading.{relation_reading}
use Rattle.rdx_relations.specs.RelationRefusal.{relation_refusal}
use Rattle.rdx_relations.specs.RelationStands.{relation_stands}
use Rattle.rdx_templates.specs.Scope.{Scope}
use Rattle.rdx_parts.specs.StandChecks.{shape_at, repeated_name_at, bad_name_at, bad_place_at, depth_fault_at, unknown_name_at, undriven_at, escape_at, mode_fault_at}
use Rattle.rdx_parts.specs.Stands.{Stand}
use Rattle.rdx_forms.specs.DefineForms.{define_refusal, define_refusal_by, defined_relation, relation_by}
use Rattle.rdx_forms.specs.DefineParts.{DefineKind, by_cases, by_contexts, by_crosses, kind_by_head, kind_among, DefineParts, define_by, define_among, define_parts}
use Rattle.rdx_forms.specs.FormKinds as kind
use Rattle.rdx_forms.specs.FormKinds.{defines, form_kind}
use Rattle.rdx_forms.specs.Known.{Known}
use Rattle.rdx_forms.specs.LanguageForms.{named_base, unknown_at, name_taken_at}
use Rattle.rdx_forms.specs.RelationForms.{bad_relation_at}
use Rattle.rdx_forms.specs.Inside.Defining.{parts_refusal, parts_relation, RelatesOver}
use Rattle.rdx_forms.specs.Answers.{RelatesBy}
use Rattle.rdx_forms.specs.Reported.{earlier}
use Rattle.rdx_forms.specs.Inside.Earlier.{IsUnless}
use Rattle.rdx_forms.specs.Faults.{IsFaultAt, IsRefusedBy}
use Rattle.rdx_forms.specs.Fitting.{IsRelationOf, language_at}
use Rattle.rdx_forms.specs.Inside.PartViews.{second_among, symbol_item, language_item}
use Rattle.rdx_patterns.proofs.Booleans.{and_true}
use Rattle.rdx_patterns.proofs.Firsts.{none_of}
use Rattle.rdx_forms.proofs.CheckNumbers.{Checks, AreChecks, refused, merge, merged}
use Rattle.rdx_forms.proofs.DefineChecks.{bad-number, good_name, sole_parts, relates-by}
use Rattle.rdx_forms.proofs.FoundByName.{language-found}
use Rattle.rdx_forms.proofs.LanguageChecks.{unknown-number, taken-number}
use Rattle.rdx_forms.proofs.StandNumbers.{stand_checks, over_checks, over-checks, over-refusal, unknown-unnamable, absorbed}

-- ---- the language's name

-- the name, as a function
abbrev language_of : RelationForm → Sexp
language_of r = r.language

-- it stands behind the head, whatever stands behind it
over-language : (l : Sexp) (ds : List Sexp) → (relation_over l ds).language ≡ l
over-language l [] = refl
over-language l (k ∷ []) = refl
over-language l (k ∷ p ∷ cs) = by_test (is_keyword (codes "domain") k)
  where
    by_test : (b : Bool) → language_of (if b then record { language = l; domain = Some p; cases = cs } else record { language = l; domain = None; cases = k ∷ p ∷ cs }) ≡ l
    by_test true = refl
    by_test false = refl

-- the word at the head of cases
head-cases : (h : Sexp) → kind_by_head h ≡ Some by_cases → is_word (codes "reduction-relation") h ≡ true
head-cases (leaf (integer n) s) e = absurd cc
head-cases (leaf (truth b) s) e = absurd cc
head-cases (leaf (text x) s) e = absurd cc
head-cases (leaf (symbol x) s) e = by_test (bytes_eq x (codes "reduction-relation")) (bytes_eq x (codes "context-closure")) (bytes_eq x (codes "compatible-closure")) e
  where
    by_test : (b k m : Bool) → (if b then Some by_cases else if k then Some by_contexts else if m then Some by_crosses else None) ≡ Some by_cases → b ≡ true
    by_test true k m f = refl
    by_test false true m f = absurd cc
    by_test false false true f = absurd cc
    by_test false false false f = absurd cc
head-cases (leaf (keyword k) s) e = absurd cc
head-cases (list ds s) e = absurd cc

-- among items behind that word
language-among : (o : Option (List Sexp)) → kind_among o ≡ Some by_cases → option_map (λ (r : RelationForm). r.language) (relation_among o) ≡ symbol_item (second_among o)
language-among None e = absurd cc
language-among (Some []) e = absurd cc
language-among (Some (h ∷ [])) e = refl
language-among (Some (h ∷ l ∷ ds)) e =
    ap (λ (b : Bool). option_map (λ (r : RelationForm). r.language) (if b && is_symbol l then Some (relation_over l ds) else None)) (head-cases h e)
    ∙ by_test (is_symbol l)
  where
    by_test : (b : Bool) → option_map (λ (r : RelationForm). r.language) (if b then Some (relation_over l ds) else None) ≡ (if b then Some l else None)
    by_test true = ap Some (over-language l ds)
    by_test false = refl

-- of a list that gives cases
language-item : (d : Sexp) → kind_among (parts d) ≡ Some by_cases → option_map (λ (r : RelationForm). r.language) (relation_form d) ≡ language_item d
language-item d e = language-among (parts d) e

-- of one that has the parts of a relation
item-among : (o : Option (List Sexp)) (r : RelationForm) → relation_among o ≡ Some r → symbol_item (second_among o) ≡ Some r.language
item-among None r e = absurd cc
item-among (Some []) r e = absurd cc
item-among (Some (h ∷ [])) r e = absurd cc
item-among (Some (h ∷ l ∷ ds)) r e = by_test (is_word (codes "reduction-relation") h && is_symbol l) refl e
  where
    by_test : (b : Bool) → (is_word (codes "reduction-relation") h && is_symbol l) ≡ b → (if b then Some (relation_over l ds) else None) ≡ Some r
        → (if is_symbol l then Some l else None) ≡ Some r.language
    by_test true k g =
        let i : relation_over l ds ≡ r = cc in
        ap (λ (b : Bool). if b then Some l else None) (and_true (is_word (codes "reduction-relation") h) (is_symbol l) k).1
        ∙ ap Some (sym (over-language l ds) ∙ ap language_of i)
    by_test false k g = absurd cc

form-item : (d : Sexp) (r : RelationForm) → relation_form d ≡ Some r → language_item d ≡ Some r.language
form-item d r e = item-among (parts d) r e

-- the list of a form that defines a relation by cases gives cases
among-cases : (o : Option (List Sexp)) (q : DefineParts) → define_among o ≡ Some q → kind_among (parts q.body) ≡ Some q.kind
among-cases None q e = absurd cc
among-cases (Some []) q e = absurd cc
among-cases (Some (h ∷ [])) q e = absurd cc
among-cases (Some (h ∷ x ∷ [])) q e = absurd cc
among-cases (Some (h ∷ x ∷ body ∷ ds)) q e = by_test (is_symbol x) e
  where
    by_kind : (k : Option DefineKind) → kind_among (parts body) ≡ k → define_by k x body ds ≡ Some q → kind_among (parts q.body) ≡ Some q.kind
    by_kind None f g = absurd cc
    by_kind (Some k) f g =
        let i : record { kind = k; name = x; body = body; rest = ds } ≡ q = cc in
        subst (λ (p : DefineParts). kind_among (parts p.body) ≡ Some p.kind) i f

    by_test : (b : Bool) → (if b then define_by (kind_among (parts body)) x body ds else None) ≡ Some q → kind_among (parts q.body) ≡ Some q.kind
    by_test true f = by_kind (kind_among (parts body)) refl f
    by_test false f = absurd cc

gives-cases : (d : Sexp) (q : DefineParts) → define_parts d ≡ Some q → kind_among (parts q.body) ≡ Some q.kind
gives-cases d q e = among-cases (parts d) q e

-- ---- the checks of the names

abbrev name_checks : Known → Option Sexp → Sexp → Checks
name_checks K o x = (2, unknown_at K o) ∷ (3, name_taken_at K x) ∷ (4, bad_relation_at x) ∷ []

name-checks : (K : Known) (o : Option Sexp) (x : Sexp) → AreChecks 0 (name_checks K o x)
name-checks K o x =
    (omega arith, (unknown-number K o, (omega arith, (taken-number K x, (omega arith, (bad-number (is_bad_name (text_of x)) x, tt))))))

-- ---- what is read of the parts

-- what is read of the list is refused so
relation-refused : (S : Scope) (ns : List (List ℕ)) (y : List ℕ) (body : Sexp) (x : Result Relation DefFault) → ReadsRelation S ns y body x → IsRefusedBy (relation_refusal S ns body) x
relation-refused S ns y body (Ok r) a = a.passes
relation-refused S ns y body (Err (Refused r)) a = a
relation-refused S ns y body (Err NoMemory) a = tt

module _ (K : Known) (x body : Sexp) where
  -- what is refused of the names
  abbrev names_refusal : Option Refusal
  names_refusal = first_refusal (unknown_at K (language_item body) ∷ name_taken_at K x ∷ bad_relation_at x ∷ [])

  -- the nonterminals of the language
  abbrev language_names : List (List ℕ)
  language_names = names_of (named_base K (language_item body))

  -- no name is refused
  as_read : (y : List ℕ) (r : Result Relation DefFault) → names_refusal ≡ None → (is_bad_name (text_of x) ≡ false → y ≡ text_of x) → ReadsRelation K.scope language_names y body r → RelatesOver K x body r
  as_read y (Ok r) e f a =
      let late = (none_of (name_taken_at K x) (bad_relation_at x ∷ []) (none_of (unknown_at K (language_item body)) (name_taken_at K x ∷ bad_relation_at x ∷ []) e).1).1 in
      let name : y ≡ text_of x = f (good_name (is_bad_name (text_of x)) x (none_of (bad_relation_at x) [] late).0) in (
        λ i. earlier (e i) (a.passes i),
        ap (λ z. option_map (relation_reading K.scope language_names z) (relation_form body)) (sym name) ∙ ap (option_map (relation_reading K.scope language_names y)) a.is_form ∙ ap Some (sym a.is_read),
      )
  as_read y (Err (Refused r)) e f a = ap (λ (o : Option Refusal). earlier o (relation_refusal K.scope language_names body)) e ∙ a
  as_read y (Err NoMemory) e f a = tt

  -- the answer, by what is said of the names
  pub relates-over : (o : Option Sexp) (y : List ℕ) (t : Option DefRefusal) (r z : Result Relation DefFault) → o ≡ language_item body
      → option_map refusal_of t ≡ first_refusal (unknown_at K o ∷ name_taken_at K x ∷ bad_relation_at x ∷ []) → (is_bad_name (text_of x) ≡ false → y ≡ text_of x)
      → ReadsRelation K.scope (names_of (named_base K o)) y body r → IsUnless t r z → RelatesOver K x body z
  relates-over o y t r z e f g a k =
      by_names t z
      (f ∙ ap (λ (l : Option Sexp). first_refusal (unknown_at K l ∷ name_taken_at K x ∷ bad_relation_at x ∷ [])) e)
      (subst (λ (l : Option Sexp). ReadsRelation K.scope (names_of (named_base K l)) y body r) e a) k
    where
      by_names : (t : Option DefRefusal) (z : Result Relation DefFault) → option_map refusal_of t ≡ names_refusal → ReadsRelation K.scope language_names y body r → IsUnless t r z → RelatesOver K x body z
      by_names None z f a k = subst (RelatesOver K x body) (sym k) (as_read y r (sym f) g a)
      by_names (Some q) (Ok v) f a k = absurd k
      by_names (Some q) (Err e) f a k =
          subst (λ (o : Option Refusal). IsFaultAt (earlier o (relation_refusal K.scope language_names body)) e) f
          (k (relation_refusal K.scope language_names body) (relation-refused K.scope language_names y body r a))

-- ---- a form with these parts, behind which nothing stands

module _ (K : Known) (h : is_some (language_named K.program (codes "hole")) ≡ false) (d x body : Sexp) (e : define_parts d ≡ Some (sole_parts by_cases x body)) where
  k : kind_among (parts body) ≡ Some by_cases
  k = gives-cases d (sole_parts by_cases x body) e

  -- the nonterminals of its language
  abbrev names : List (List ℕ)
  names = names_of (named_base K (language_item body))

  -- what stands in the list
  abbrev stands : List Stand
  stands = relation_stands K.scope names body (relation_form body)

  -- the list is refused by its checks
  body-refusal : relation_refusal K.scope names body ≡ refused (over_checks K.scope names (language_item body) stands)
  body-refusal =
      (λ i. refusal_over K.scope names (language-item body k i) stands)
      ∙ over-refusal K.scope names (language_item body) stands

  -- the form is refused by those of the names and of the list
  chain : define_refusal K d ≡ refused (merge (name_checks K (language_item body) x) (over_checks K.scope names (language_item body) stands))
  chain =
      let l = language_item body in
      let last =
      first_refusal
      (name_taken_at K x ∷ repeated_name_at stands ∷ bad_relation_at x ∷ bad_name_at stands ∷ bad_place_at K.scope names stands ∷ depth_fault_at K.scope names stands
      ∷ unknown_name_at K.scope stands ∷ undriven_at K.scope stands ∷ escape_at K.scope stands ∷ mode_fault_at stands ∷ [])
      in
      ap (define_refusal_by K d) e
      ∙ (λ i. refused (merge (name_checks K (language-item body k i) x)
      (stand_checks K.scope (names_of (named_base K (language-item body k i))) (relation_stands K.scope (names_of (named_base K (language-item body k i))) body (relation_form body)))))
      ∙ ap (or_else (shape_at stands)) (absorbed (unknown_at K l) (unnamable_language_at l) last (unknown-unnamable K h l))

  -- so the parts are
  define-refusal : define_refusal K d ≡ parts_refusal K x body
  define-refusal =
      chain
      ∙ merged 0 (name_checks K (language_item body) x) (over_checks K.scope names (language_item body) stands) (name-checks K (language_item body) x)
      (over-checks K.scope names (language_item body) stands)
      ∙ ap (earlier (refused (name_checks K (language_item body) x))) (sym body-refusal)

  -- the relation that the form defines
  define-relation : defined_relation K d ≡ parts_relation K x body
  define-relation =
      ap (relation_by K) e
      ∙ λ i. option_map (relation_reading K.scope (names_of (named_base K (language-item body k i))) (text_of x)) (relation_form body)

  -- what is said of its parts is said of the form
  pub relates-cases : (y : Result Relation DefFault) → form_kind d ≡ defines kind.relation → RelatesOver K x body y → RelatesBy K d y
  relates-cases y f a = relates-by K d (parts_refusal K x body) (parts_relation K x body) y f define-refusal define-relation a

-- ---- the relation's patterns

-- the pattern of each rule is well formed, where the rules are valid
rules-formed : (C : Callable) (L : Language) (rs : List Rule) → list_all (is_valid_rule C L) rs ≡ true → list_all (λ r. is_well_formed_in L r.pattern) rs ≡ true
rules-formed C L [] e = refl
rules-formed C L (r ∷ rs) e =
    let p = and_parts (is_valid_rule C L r) (list_all (is_valid_rule C L) rs) e in
    and_from (is_well_formed_in L r.pattern) (list_all (λ q. is_well_formed_in L q.pattern) rs)
    (and_parts (is_well_formed_in L r.pattern) (are_valid_extras C L (uses 0 r.pattern) r.extras && fits C.functions (bound_by (case_uses r.pattern r.extras)) 0 r.result) p.0).0
    (rules-formed C L rs p.1)

-- so are those of a valid relation
pub valid-formed : (C : Callable) (L : Language) (R : model.Relation) → is_valid_over C (Some L) R ≡ true → has_well_formed_patterns L R ≡ true
valid-formed C L R e = rules-formed C L R.rules (and_parts (is_valid_domain L R.domain) (list_all (is_valid_rule C L) R.rules) e).1

-- a list that is read
read-fits : (K : Known) (o : Option Sexp) (ns : List (List ℕ)) (y : List ℕ) (body : Sexp) (q : Relation) → o ≡ language_item body → unknown_at K o ≡ None → ReadsRelation K.scope ns y body (Ok q)
    → ((L : Language) → language_at K o ≡ Some L → has_well_formed_patterns L (relation_of q) ≡ true) → IsRelationOf K.program (relation_of q)
read-fits K o ns y body q e u a f =
    let l : Sexp = a.parts.language in
    let is : o ≡ Some l = e ∙ form-item body a.parts a.is_form in
    let h = language-found (language_named K.program (text_of l)) l (ap (unknown_at K) (sym is) ∙ u) in
    record {
      language = h.value;
      named = ap (λ (R : model.Relation). language_named K.program R.language) a.is_read ∙ h.is;
      formed = f h.value (ap (language_at K) is ∙ h.is);
    }

-- the relation that is answered has a language that is known, in which its patterns are well formed
pub fits-over : (K : Known) (o : Option Sexp) (ns : List (List ℕ)) (x : Sexp) (y : List ℕ) (body : Sexp) (t : Option DefRefusal) (r z : Result Relation DefFault) → o ≡ language_item body
    → option_map refusal_of t ≡ first_refusal (unknown_at K o ∷ name_taken_at K x ∷ bad_relation_at x ∷ []) → ReadsRelation K.scope ns y body r
    → IfOk r (λ q. (L : Language) → language_at K o ≡ Some L → has_well_formed_patterns L (relation_of q) ≡ true) → IsUnless t r z
    → IfOk z (λ q. IsRelationOf K.program (relation_of q))
fits-over K o ns x y body (Some q) r (Ok v) e g a f u = absurd u
fits-over K o ns x y body t r (Err w) e g a f u = tt
fits-over K o ns x y body None (Err w) (Ok v) e g a f u = absurd cc
fits-over K o ns x y body None (Ok q) (Ok v) e g a f u =
    let same : q ≡ v = cc in
    subst (λ (p : Relation). IsRelationOf K.program (relation_of p)) same
    (read-fits K o ns y body q e (none_of (unknown_at K o) (name_taken_at K x ∷ bad_relation_at x ∷ []) (sym g)).0 a f)
