-- What an accepted form of a file defines is valid, where what is known is.
use Rattle.std.proofs.Common.{◌≡◌, ◌++◌, ◌∙◌, ◌+◌, ◌*◌, ◌<◌, ◌≤◌, ◌^◌, ℕ, suc, Bool, true, false, List, [], ◌∷◌, Option, Some, None, length, map, IsTrue, refl, sym, ap, subst, arith, if◌then◌else◌}
use Rattle.std.proofs.lemmas.List.{length-append}
use Rattle.std.specs.Prelude.{is_some, IsSome, option_map}
use Rattle.rdx_sexp.specs.Sexp.{integer, truth, text, symbol, keyword, Sexp, Sexps, leaf, list, nil, cons, sexp_nodes, sexps_nodes}
use Rattle.rdx_sexp.specs.Size.{sexp_depth, IsSpelledSexp}
use Rattle.rdx_lang.specs.Closures.{rule_names, closed_rule, context_closure}
use Rattle.rdx_lang.specs.Members.{In, here, there}
use Rattle.rdx_lang.specs.Patterns.{Pattern, Language, nt}
use Rattle.rdx_lang.specs.Programs.{Metafunction, Judgement, Relation, Rule, language_named}
use Rattle.rdx_lang.specs.References as references
use Rattle.rdx_lang.specs.Valid.{are_distinct, defined_names, is_valid_metafunction, is_valid_judgement, is_valid_over}
use Rattle.rdx_lang.specs.WellFormed.{defined, is_well_formed_in}
use Rattle.rdx_lang.specs.declared.pattern.Ref.TheVariants.{Nt, Cross}
use Rattle.rdx_lang.proofs.ClosedRules.{nonterminal-well_formed}
use Rattle.rdx_lang.proofs.MemberLaws.{append-left, append-right}
use Rattle.rdx_term.specs.Spelling.{is_name}
use Rattle.rdx_patterns.proofs.Among.{is_among-names}
use Rattle.rdx_patterns.proofs.Firsts.{none_or}
use Rattle.rdx_patterns.proofs.KnownReadings.{pattern_well_formed}
use Rattle.rdx_grammar.proofs.NamedForms.{AreNamedIn-passed}
use Rattle.rdx_grammar.proofs.SpelledParts.{AreSpelledIn-language, AreSpelledIn-extension}
use Rattle.rdx_patterns.specs.Ends.{ends_in, crossed_for}
use Rattle.rdx_grammar.specs.Forms.{GrammarForm, language_form, extension_form}
use Rattle.rdx_patterns.specs.Among.{AreAmong}
use Rattle.rdx_grammar.specs.Inside.CheckedForms.{AreSpelledIn}
use Rattle.rdx_patterns.specs.Kinds.{is_among}
use Rattle.rdx_grammar.specs.Languages.{empty_language}
use Rattle.rdx_patterns.specs.Nonterminals.{names_of}
use Rattle.rdx_patterns.specs.Occurrences.{occurrences}
use Rattle.rdx_patterns.specs.Parts.{listed, parts, text_of}
use Rattle.rdx_patterns.specs.PatternRefusal.{keyword_at, bad_binder_at, bad_occurrence_at, depth_clash_at, pattern_refusal}
use Rattle.rdx_patterns.specs.Readable.{IsReadable}
use Rattle.rdx_patterns.specs.Reading.{reading}
use Rattle.rdx_patterns.specs.Refusal.{Refusal, or_else, unnamed}
use Rattle.rdx_patterns.specs.declared.patterns.position.Position.TheVariants as position
use Rattle.rdx_patterns.specs.declared.shape.fault.DefKind.TheVariants.{BadPattern}
use Rattle.rdx_relations.specs.Expansion.{expanded_form}
use Rattle.rdx_parts.specs.Headed.{Headed}
use Rattle.rdx_relations.specs.Inside.FormOutlines.{domain_patterns}
use Rattle.rdx_defs.specs.JudgementForms.{judgement_form, judgement_in, mode_form, mode_given}
use Rattle.rdx_defs.specs.MetafunctionForms.{metafunction_form, function_in}
use Rattle.rdx_defs.specs.MetafunctionReading.{text_in}
use Rattle.rdx_relations.specs.RelationEnds.{expanded_ends, ends_by}
use Rattle.rdx_relations.specs.RelationForms.{RelationForm}
use Rattle.rdx_relations.specs.RelationReading.{rules_reading}
use Rattle.rdx_relations.specs.RelationStands.{relation_stands}
use Rattle.rdx_templates.specs.Scope.{Scope, callable}
use Rattle.rdx_relations.specs.Shorthand.{behind_with}
use Rattle.rdx_parts.specs.StandRefusal.{stands_refusal}
use Rattle.rdx_relations.proofs.AskingParts.{AsksWithin, TakenWithin, within-inherited, BindsWithin, binds-within}
use Rattle.rdx_relations.proofs.BareForms.{bare-relation}
use Rattle.rdx_parts.proofs.BareChecks.{bad_names-bare}
use Rattle.rdx_relations.proofs.BoundParts.{relation-binds}
use Rattle.rdx_relations.proofs.FormRefusals.{stands-passed}
use Rattle.rdx_relations.proofs.InheritedParts.{relation_outline-has}
use Rattle.rdx_relations.proofs.PartsOfForms.{Each, RelationHas}
use Rattle.rdx_relations.proofs.PassedForms.{relation-valid}
use Rattle.rdx_defs.proofs.PassedForms.{has-function, metafunction-valid, judgement-valid}
use Rattle.rdx_relations.proofs.RelationAsks.{relation-asks}
use Rattle.rdx_relations.specs.Inside.BareForms as bare_stands
use Rattle.rdx_relations.specs.RelationStands.{expanded_stands, shortcuts_stand}
use Rattle.rdx_parts.specs.StandChecks.{bad_names}
use Rattle.rdx_reduce.proofs.ClosedValid.{closure_is_valid}
use Rattle.rdx_reduce.proofs.FreeContexts.{few_leave_names, closures_bind_one_more}
use Rattle.rdx_reduce.specs.ValidClosures.{BindsFew, BindFew}
use Rattle.rdx_forms.specs.BindingParts.{binding_refusal, grammar_part}
use Rattle.rdx_forms.specs.ClosureForms.{closed_relation, closure_names, closure_language_at, unknown_closed_at, closure_shape_at, no_nonterminal_at, context_refusal_by, context_relation_by, compatible_refusal_by, compatible_relation_by}
use Rattle.rdx_forms.specs.DefineForms.{define_refusal_by, defined_relation, kind_refusal, kind_relation, relation_by}
use Rattle.rdx_forms.specs.DefineParts.{DefineKind, by_cases, by_contexts, by_crosses, DefineParts, ClosureParts, define_parts, closure_parts, with_symbol}
use Rattle.rdx_forms.specs.Definitions.{Defined, language, metafunction, judgement, relation}
use Rattle.rdx_forms.specs.Ends.{closure_ends, kind_ends, define_ends, form_ends}
use Rattle.rdx_forms.specs.OneForm.{Defines}
use Rattle.rdx_forms.specs.FormKinds as kind
use Rattle.rdx_forms.specs.FormKinds.{FormKind, defines, asks, passes, form_kind}
use Rattle.rdx_forms.specs.Forms.{refusal_by_kind, definition_by_kind}
use Rattle.rdx_forms.specs.Fitting.{AreCrossed}
use Rattle.rdx_forms.specs.JudgementForms.{defined_judgement}
use Rattle.rdx_forms.specs.Known.{Known, is_taken, or_empty}
use Rattle.rdx_forms.specs.LanguageForms.{base_name, named_base, unknown_at, name_taken_at, plain_refusal, plain_language, extension_refusal, extended_language}
use Rattle.rdx_forms.specs.MetafunctionForms.{function_names, function_taken_at, defined_function}
use Rattle.rdx_forms.specs.RelationForms.{bad_relation_at, relation_language}
use Rattle.rdx_query.proofs.AcceptedForms.{image-of, IsLanguageOf, language-parts, IsFunctionOf, function-parts, IsJudgementOf, judgement-parts, cases-parts}
use Rattle.rdx_query.proofs.BoundTexts.{NamesHave, RulesBind, rules-bind}
use Rattle.rdx_forms.proofs.ClosureChecks.{by-readable, by-asks, language-known, same-language}
use Rattle.rdx_query.proofs.DefinedJudgements.{mapped-some}
use Rattle.rdx_query.proofs.DistinctDefinitions.{over-name, defined_name, free-name}
use Rattle.rdx_forms.proofs.FormParts.{define-items}
use Rattle.rdx_forms.proofs.FoundByName.{language-found, language-among, relation-among}
use Rattle.rdx_forms.proofs.GainingNothing.{crossed-same, data-asked, define-asked, body-asks}
use Rattle.rdx_forms.proofs.GrammarParts.{part-readable}
use Rattle.rdx_query.proofs.NamedNonterminals.{HasNames, HaveNames, over-names, base-names}
use Rattle.rdx_query.proofs.Reported.{none-reported}
use Rattle.rdx_query.proofs.SmallData.{SymbolsHave, AllSymbolsHave, IsSmall, SmallIn, small-parts, small-readable, limit, relation-small}

-- ---- what is known

-- a relation is valid beside what is known, and each rule of it binds n names at most
pub record IsValidRelation (n : ℕ) (K : Known) (R : Relation) : Type 0 where
  pub valid : is_valid_over (callable K.scope) (language_named K.program R.language) R ≡ true
  pub few : BindFew n R.rules

-- so is what is defined, where a language needs nonterminals with names alone
abbrev pub IsValidAs : ℕ → Known → Defined → Type 0
IsValidAs n K (language L) = HasNames L
IsValidAs n K (metafunction F) = is_valid_metafunction (callable K.scope) (language_named K.program F.language) F ≡ true
IsValidAs n K (judgement J) = is_valid_judgement (callable K.scope) (language_named K.program J.language) J ≡ true
IsValidAs n K (relation R) = IsValidRelation n K R

-- and its name was not taken
pub record IsValidDefinition (n : ℕ) (K : Known) (x : Defined) : Type 0 where
  pub free : is_taken K (defined_name x) ≡ false
  pub valid : IsValidAs n K x

-- all that is known is valid
pub record AreValidSoFar (n : ℕ) (K : Known) : Type 0 where
  pub distinct : are_distinct (defined_names K.program) ≡ true
  pub crossed : AreCrossed K.program.languages K.ends
  pub named : HaveNames K.program.languages
  pub metafunctions : (F : Metafunction) → In F K.program.metafunctions
      → is_valid_metafunction (callable K.scope) (language_named K.program F.language) F ≡ true
  pub judgements : (J : Judgement) → In J K.program.judgements → is_valid_judgement (callable K.scope) (language_named K.program J.language) J ≡ true
  pub relations : (R : Relation) → In R K.program.relations → IsValidRelation n K R

-- ---- the texts of a datum

-- those of its symbols
abbrev mutual
  pub texts_in : Sexp → List (List ℕ)
  texts_in (leaf (integer n) s) = []
  texts_in (leaf (truth b) s) = []
  texts_in (leaf (text t) s) = []
  texts_in (leaf (symbol x) s) = x ∷ []
  texts_in (leaf (keyword k) s) = []
  texts_in (list ds s) = texts_among ds

  -- those of several data
  pub texts_among : Sexps → List (List ℕ)
  texts_among nil = []
  texts_among (cons d ds) = texts_in d ++ texts_among ds

-- no more than there are data
mutual
  few-texts : (d : Sexp) → length (texts_in d) ≤ sexp_nodes d
  few-texts (leaf (integer n) s) = omega arith
  few-texts (leaf (truth b) s) = omega arith
  few-texts (leaf (text t) s) = omega arith
  few-texts (leaf (symbol x) s) = omega arith
  few-texts (leaf (keyword k) s) = omega arith
  few-texts (list ds s) = let k = few-among ds in omega (arith, k)

  few-among : (ds : Sexps) → length (texts_among ds) ≤ sexps_nodes ds
  few-among nil = omega arith
  few-among (cons d ds) =
      let e = length-append (texts_in d) (texts_among ds) in
      let a = few-texts d in
      let b = few-among ds in
      omega (arith, e, a, b)

-- each symbol has one of them
mutual
  own-texts : (d : Sexp) (ws : List (List ℕ)) → AreAmong (texts_in d) ws → SymbolsHave (λ x. In x ws) d
  own-texts (leaf (integer n) s) ws a = tt
  own-texts (leaf (truth b) s) ws a = tt
  own-texts (leaf (text t) s) ws a = tt
  own-texts (leaf (symbol x) s) ws a = a x (here refl)
  own-texts (leaf (keyword k) s) ws a = tt
  own-texts (list ds s) ws a = own-among ds ws a

  own-among : (ds : Sexps) (ws : List (List ℕ)) → AreAmong (texts_among ds) ws → AllSymbolsHave (λ x. In x ws) ds
  own-among nil ws a = tt
  own-among (cons d ds) ws a =
      (own-texts d ws (λ x i. a x (append-left (texts_in d) (texts_among ds) x i)), own-among ds ws (λ x i. a x (append-right (texts_in d) (texts_among ds) x i)))

-- and the empty text, for what is no symbol
abbrev pub some_texts : Sexp → List (List ℕ)
some_texts d = [] ∷ texts_in d

-- a text is one of them
abbrev IsOwn : Sexp → List ℕ → Type 0
IsOwn d x = In x (some_texts d)

-- so it is small
own-small : (d : Sexp) → sexp_depth d ≤ 500 → IsSpelledSexp d → IsSmall (IsOwn d) 500 d
own-small d l s = record { depth = l; spelled = s; symbols = own-texts d (some_texts d) (λ x i. there i) }

-- names that are among those are few
names-among : (d : Sexp) (ns : List (List ℕ)) → NamesHave (IsOwn d) (here refl) ns → AreAmong ns (some_texts d)
names-among d [] h = λ y i. elim i [ ]
names-among d (x ∷ ns) h = λ y i. elim i [
  | here e ↦ subst (IsOwn d) (sym e) h.0
  | there j ↦ names-among d ns h.1 y j
]

-- so each rule binds few
few-rules : (d : Sexp) (n : ℕ) (rs : List Rule) → suc (sexp_nodes d) ≤ n → RulesBind (IsOwn d) (here refl) rs → BindFew n rs
few-rules d n [] l h r i = elim i [ ]
few-rules d n (q ∷ rs) l h r (here e) =
    let k = few-texts d in
    subst (BindsFew n) (sym e) (record { texts = some_texts d; few = omega (arith, k, l); among = names-among d (rule_names q) h.0 })
few-rules d n (q ∷ rs) l h r (there i) = few-rules d n rs l h.1 r i

-- the same where more are allowed
pub few-more : (m n : ℕ) (rs : List Rule) → m ≤ n → BindFew m rs → BindFew n rs
few-more m n rs l h r i = let b = h r i in let k = b.few in record { texts = b.texts; few = omega (arith, k, l); among = b.among }

-- no datum has more nodes than the data among which it stands
nodes-listed : (ds : Sexps) → Each (λ e. sexp_nodes e ≤ sexps_nodes ds) (listed ds)
nodes-listed nil = tt
nodes-listed (cons d ds) = (omega arith, wider (listed ds) (nodes-listed ds))
  where
    wider : (es : List Sexp) → Each (λ e. sexp_nodes e ≤ sexps_nodes ds) es → Each (λ e. sexp_nodes e ≤ sexp_nodes d + sexps_nodes ds) es
    wider [] h = tt
    wider (e ∷ es) h = (let k = h.0 in omega (arith, k), wider es h.1)

-- nor has the list in a form that defines a relation
body-nodes : (d h x b : Sexp) (es : List Sexp) → parts d ≡ Some (h ∷ x ∷ b ∷ es) → sexp_nodes b ≤ sexp_nodes d
body-nodes (leaf a s) h x b es e = absurd cc
body-nodes (list ds s) h x b es e =
    let f : listed ds ≡ h ∷ x ∷ b ∷ es = cc in
    let k = (subst (Each (λ y. sexp_nodes y ≤ sexps_nodes ds)) f (nodes-listed ds)).1.1.0 in
    omega (arith, k)

-- ---- languages that are known

-- the language of a name gains nothing by data that ask for what the file does
gains-nothing : (K : Known) → AreCrossed K.program.languages K.ends → (x : List ℕ) (L : Language) (ys : List (List ℕ))
    → language_named K.program x ≡ Some L
    → AreAmong ys K.ends → crossed_for ys L ≡ L
gains-nothing K c x L ys e a = crossed-same L ys K.ends (c L (language-among K.program.languages x L e)) a

-- so it is the one over which a form is read
pub read-in : (K : Known) → AreCrossed K.program.languages K.ends → (x : List ℕ) (ys : List (List ℕ)) → IsSome (language_named K.program x)
    → AreAmong ys K.ends
    → language_named K.program x ≡ Some (crossed_for ys (or_empty (language_named K.program x)))
read-in K c x ys e a = by_language (language_named K.program x) refl e
  where
    by_language : (o : Option Language) → language_named K.program x ≡ o → IsSome o → o ≡ Some (crossed_for ys (or_empty o))
    by_language None f s = absurd cc
    by_language (Some L) f s = ap Some (sym (gains-nothing K c x L ys f a))

-- the same where the name is that of a datum
pub read-over : (K : Known) → AreCrossed K.program.languages K.ends → (l : Sexp) (ys : List (List ℕ)) → unknown_at K (Some l) ≡ None
    → AreAmong ys K.ends
    → language_named K.program (text_of l) ≡ Some (crossed_for ys (named_base K (Some l)))
read-over K c l ys u a =
    read-in K c (text_of l) ys (ap is_some (language-found (language_named K.program (text_of l)) l u).is) a

-- ---- a form

module _ (n : ℕ) (K : Known) (V : AreValidSoFar n K) (d : Sexp) (depth : sexp_depth d ≤ 500) (spelled : IsSpelledSexp d) (nodes : sexp_nodes d ≤ 2_097_152)
    (asked : AreAmong (form_ends d) K.ends) where
  -- how many names a rule may bind behind it
  abbrev more : ℕ
  more = n + 2 * sexp_nodes d

  -- the form is one datum at least
  node-some : (e : Sexp) → 1 ≤ sexp_nodes e
  node-some (leaf a s) = omega arith
  node-some (list ds s) = omega arith

  -- it is small
  small : IsSmall (IsOwn d) 500 d
  small = own-small d depth spelled

  -- so it can be read
  readable : IsReadable d
  readable = small-readable (IsOwn d) 500 d (omega arith) small

  -- and so can its part without binding forms
  part : IsReadable (grammar_part d)
  part = part-readable d readable

  -- ---- metafunctions

  -- one that is accepted
  function-valid : (F : Metafunction) → refusal_by_kind K d (defines kind.metafunction) ≡ None → defined_function K d ≡ Some F
      → IsValidDefinition more K (metafunction F)
  function-valid F r m = by_name (function_in p.parts) refl
    where
      p : IsFunctionOf K d F
      p = function-parts K d (metafunction_form d) F refl r m

      S : Scope
      S = K.scope

      by_name : (o : Option Sexp) → function_in p.parts ≡ o → IsValidDefinition more K (metafunction F)
      by_name None e = absurd (has-function S (function_names K (Some p.parts)) d p.parts readable p.is_form p.passes e)
      by_name (Some f) e =
          let l = p.parts.language in
          let w = metafunction-valid S (named_base K (Some l)) d p.parts f readable p.is_form e p.passes in
          let over = read-over K V.crossed l (ends_in d) p.known (data-asked K.ends d asked) in
          let same : language_named K.program F.language ≡ Some (crossed_for (ends_in d) (named_base K (Some l))) =
          ap (λ (G : Metafunction). language_named K.program G.language) (sym p.means) ∙ over in
          let name : F.name ≡ text_of f = ap (λ (G : Metafunction). G.name) (sym p.means) ∙ ap text_in e in
          record {
            free = ap (is_taken K) name ∙ free-name K f (ap (function_taken_at K) (sym e) ∙ p.free);
            valid = (λ i. is_valid_metafunction (callable S) (same i) (sym p.means i)) ∙ w.valid;
          }

  -- ---- judgements

  -- one that has a mode has a name
  has-name : (o : Option Headed) → IsSome (mode_given o) → option_map (λ h. h.head) o ≡ None → ⊥
  has-name None s e = absurd cc
  has-name (Some h) s e = absurd cc

  -- one that is accepted
  judgement-made : (J : Judgement) → refusal_by_kind K d (defines kind.judgement) ≡ None → defined_judgement K d ≡ Some J
      → IsValidDefinition more K (judgement J)
  judgement-made J r m = by_name (judgement_in p.parts) refl
    where
      p : IsJudgementOf K d J
      p = judgement-parts K d (judgement_form d) J refl r m

      S : Scope
      S = K.scope

      by_name : (o : Option Sexp) → judgement_in p.parts ≡ o → IsValidDefinition more K (judgement J)
      by_name None e = absurd (has-name (mode_form p.parts) (judgement-valid S (named_base K (Some p.parts.language)) d p.parts readable p.is_form p.passes).moded e)
      by_name (Some f) e =
          let l = p.parts.language in
          let w = judgement-valid S (named_base K (Some l)) d p.parts readable p.is_form p.passes in
          let over = read-over K V.crossed l (ends_in d) p.known (data-asked K.ends d asked) in
          let same : language_named K.program J.language ≡ Some (crossed_for (ends_in d) (named_base K (Some l))) =
          ap (λ (I : Judgement). language_named K.program I.language) (sym p.means) ∙ over in
          let name : J.name ≡ text_of f = ap (λ (I : Judgement). I.name) (sym p.means) ∙ ap text_in e in
          record {
            free = ap (is_taken K) name ∙ free-name K f (ap (function_taken_at K) (sym e) ∙ p.free);
            valid = (λ i. is_valid_judgement (callable S) (same i) (sym p.means i)) ∙ w.valid;
          }

  -- ---- languages

  -- one that is accepted, where its form has this part without binding forms
  language-made : (c : Sexp) (base : Language) (o : Option GrammarForm) (L : Language) → HasNames base → AreSpelledIn o → IsLanguageOf K base c o L
      → IsValidDefinition more K (language L)
  language-made c base o L b s p =
      let g = p.parts in
      let w = AreNamedIn-passed c (Some g) (subst AreSpelledIn p.is_form s) p.names in
      record {
        free = ap (is_taken K) (ap (λ (M : Language). M.name) (sym p.means) ∙ over-name base g) ∙ free-name K g.name p.free;
        valid = subst HasNames p.means (over-names base g b w.nonterminals);
      }

  -- ---- relations

  module _ (q : DefineParts) (is_form : define_parts d ≡ Some q) where
    -- the list in the form is small
    body-small : IsSmall (IsOwn d) 500 q.body
    body-small =
        let i = define-items d q is_form in
        (subst (SmallIn (IsOwn d) 500) i.are (small-parts (IsOwn d) 500 d small)).1.1.0

    -- it has no more nodes than a file
    few-nodes : sexp_nodes q.body ≤ 2_097_152
    few-nodes = let i = define-items d q is_form in let k = body-nodes d i.head q.name q.body q.rest i.are in omega (arith, k, nodes)

    -- so it can be read
    body-readable : IsReadable q.body
    body-readable = small-readable (IsOwn d) 500 q.body (omega arith) body-small

    -- what the form asks for is known
    ends-asked : (k : DefineKind) → q.kind ≡ k → AreAmong (kind_ends k q.body) K.ends
    ends-asked k e =
        subst (λ (j : DefineKind). AreAmong (kind_ends j q.body) K.ends) e
        (subst (λ (o : Option DefineParts). AreAmong (define_ends o) K.ends) is_form (define-asked K.ends d asked))

    -- by cases
    cases-made : (R : Relation) → q.kind ≡ by_cases → kind_refusal K d q by_cases ≡ None → kind_relation K q by_cases ≡ Some R
        → IsValidDefinition more K (relation R)
    cases-made R k r m =
        let p = cases-parts K d q R r m in
        let S = K.scope in
        let B = named_base K (relation_language q) in
        let ns = names_of B in
        let x = text_of q.name in
        let f = expanded_form p.parts in
        let ds = behind_with p.parts.cases in
        let ys = expanded_ends f in
        let small = relation-small (IsOwn d) q.body p.parts body-small few-nodes p.is_form in
        let h : RelationHas IsReadable f =
        record { domain = each-readable (domain_patterns f.domain) small.domain; cases = each-readable f.cases small.cases; language = small.language } in
        let e : stands_refusal S ns (expanded_stands S ns f ++ shortcuts_stand [] ds) ≡ None = ap (λ (o : Option RelationForm). stands_refusal S ns (relation_stands S ns q.body o)) (sym p.is_form) ∙ p.passes in
        let w = relation-valid S B f ds x h e in
        let named : relation_language q ≡ Some p.parts.language = ap (option_map (λ (y : RelationForm). y.language)) p.is_form in
        let u : unknown_at K (Some p.parts.language) ≡ None = ap (unknown_at K) (sym named) ∙ p.known in
        let a : AreAmong ys K.ends = subst (λ (o : Option RelationForm). AreAmong (ends_by o) K.ends) p.is_form (ends-asked by_cases k) in
        let over : language_named K.program R.language ≡ Some (crossed_for ys B) =
        ap (λ (T : Relation). language_named K.program T.language) (sym p.means) ∙ read-over K V.crossed p.parts.language ys u a
        ∙ ap (λ (o : Option Sexp). Some (crossed_for ys (named_base K o))) (sym named) in
        let passed = stands-passed S ns (expanded_stands S ns f ++ shortcuts_stand [] ds) e in
        let bare : bad_names (bare_stands.relation_stands S f ds) ≡ [] =
        ap bad_names (sym (bare-relation S ns f ds)) ∙ bad_names-bare (expanded_stands S ns f ++ shortcuts_stand [] ds) ∙ passed.names in
        let outline = relation_outline-has (AsksWithin ys) (TakenWithin ys) (within-inherited ys) S f (relation-asks f h) in
        let binds = rules-bind (IsOwn d) (here refl) S B ys limit (omega arith) f ds
        (relation-binds S (TakenWithin ys) (BindsWithin ys ns) (binds-within ys ns) f ds bare outline) passed small in
        let some = node-some d in
        let name : R.name ≡ x = ap (λ (T : Relation). T.name) (sym p.means) in
        record {
          free = ap (is_taken K) name ∙ free-name K q.name p.free;
          valid = record {
            valid = (λ i. is_valid_over (callable S) (over i) (sym p.means i)) ∙ w.1;
            few = subst (λ (T : Relation). BindFew more T.rules) p.means (few-rules d more (rules_reading S ns f.cases) (omega (arith, some)) binds);
          };
        }
      where
        each-readable : (es : List Sexp) → Each (IsSmall (IsOwn d) limit) es → Each IsReadable es
        each-readable [] h = tt
        each-readable (e ∷ es) h = (small-readable (IsOwn d) limit e (omega arith) h.0, each-readable es h.1)

    -- a closure of a relation that is known
    closed-made : (c : ClosureParts) (p : Pattern) (R : Relation) → n < 10 ^ 64 → closure_language_at K c ≡ None → name_taken_at K q.name ≡ None
        → ((L : Language) → language_named K.program (text_of c.language) ≡ Some L → is_well_formed_in L p ≡ true)
        → option_map (context_closure p (text_of q.name)) (closed_relation K c) ≡ Some R → IsValidDefinition more K (relation R)
    closed-made c p R room k t w m =
        let v = image-of (context_closure p (text_of q.name)) (closed_relation K c) R m in
        let T = v.value in
        let C = callable K.scope in
        let old = V.relations T (relation-among K.program.relations (text_of c.relation) T v.is) in
        let l = language-known K c k in
        let named : language_named K.program T.language ≡ Some l.value = ap (language_named K.program) (same-language K c k T v.is) ∙ l.is in
        let valid = closure_is_valid C l.value p (text_of q.name) T (w l.value l.is) (few_leave_names n T.rules room old.few)
        (ap (λ (o : Option Language). is_valid_over C o T) (sym named) ∙ old.valid) in
        let some = node-some d in
        record {
          free = ap (is_taken K) (ap (λ (U : Relation). U.name) (sym v.gives)) ∙ free-name K q.name t;
          valid = subst (IsValidRelation more K) v.gives
              (record {
                valid = ap (λ (o : Option Language). is_valid_over C o (context_closure p (text_of q.name) T)) named ∙ valid;
                few = few-more (suc n) more (map (closed_rule p) T.rules) (omega (arith, some)) (closures_bind_one_more n p (text_of q.name) T old.few);
              });
        }

    -- by contexts that a pattern matches
    contexts-made : (o : Option ClosureParts) (R : Relation) → n < 10 ^ 64 → closure_parts q.body ≡ o → context_refusal_by K d q o ≡ None
        → context_relation_by K q o ≡ Some R
        → IsValidDefinition more K (relation R)
    contexts-made None R room e r m = absurd cc
    contexts-made (Some c) R room e r m =
        let ns = closure_names K c in
        let os = occurrences 0 c.by in
        let b = none_or (closure_shape_at d q.body q.rest (Some c)) _ r in
        let f = none_or (keyword_at os) _ b.1 in
        let g = none_or (closure_language_at K c) _ f.1 in
        let h = none_or (name_taken_at K q.name) _ g.1 in
        let i = none_or (bad_relation_at q.name) _ h.1 in
        let j = none_or (bad_binder_at os) _ i.1 in
        let k = none_or (bad_occurrence_at ns os) _ j.1 in
        let l = none_or (depth_clash_at ns os) _ k.1 in
        let s = none_or (unknown_closed_at K c) _ l.1 in
        let passed : pattern_refusal ns c.by ≡ None = λ y. or_else (f.0 y) (or_else (j.0 y) (or_else (k.0 y) (or_else (l.0 y) (s.1 y)))) in
        let es = ends_in c.by in
        let among : AreAmong es K.ends = by-asks K.ends q.body c e (body-asks K.ends d q is_form asked) in
        closed-made c (reading ns position.Query c.by) R room g.0 h.0
        (λ L y.
        subst (λ (M : Language). is_well_formed_in M (reading ns position.Query c.by) ≡ true)
        (ap (λ (o : Option Language). crossed_for es (or_empty o)) y ∙ gains-nothing K V.crossed (text_of c.language) L es y among)
        (pattern_well_formed (named_base K (Some c.language)) es c.by (by-readable q.body c e body-readable) (λ z w. w) passed)) m

    -- by those of a nonterminal in itself
    crosses-made : (o : Option ClosureParts) (R : Relation) → n < 10 ^ 64 → q.kind ≡ by_crosses → with_symbol (closure_parts q.body) ≡ o
        → compatible_refusal_by K d q o ≡ None
        → compatible_relation_by K q o ≡ Some R → IsValidDefinition more K (relation R)
    crosses-made None R room k e r m = absurd cc
    crosses-made (Some c) R room k e r m =
        let ns = closure_names K c in
        let y = text_of c.by in
        let b = none_or (closure_shape_at d q.body q.rest (Some c)) _ r in
        let g = none_or (closure_language_at K c) _ b.1 in
        let h = none_or (name_taken_at K q.name) _ g.1 in
        let i = none_or (bad_relation_at q.name) _ h.1 in
        let j = none_or (no_nonterminal_at ns c.by) _ i.1 in
        let there_is : is_among ns y ≡ true = by_test (is_among ns y) j.0 in
        closed-made c (nt (Cross y y)) R room g.0 h.0
        (λ L z.
        let plain : references.is_among (Nt y) (defined L) ≡ true =
        sym (is_among-names y (defined L)) ∙ ap (λ (o : Option Language). is_among (names_of (or_empty o)) y) (sym z) ∙ there_is in
        let l = language-among K.program.languages (text_of c.language) L z in
        let name : IsTrue (is_name y) = V.named L l y plain in
        let own : In y (kind_ends by_crosses q.body) =
        subst (λ (o : Option ClosureParts). In y (closure_ends o)) (sym e) (subst (λ (b : Bool). In y (if b then y ∷ [] else [])) (sym name) (here refl)) in
        nonterminal-well_formed L (Cross y y) (V.crossed L l y (ends-asked by_crosses k y own) plain y plain)) m
      where
        by_test : (b : Bool) → (let o : Option Refusal = if b then None else Some (unnamed BadPattern c.by) in o) ≡ None → b ≡ true
        by_test true f = refl
        by_test false f = absurd cc

    -- by what the list says
    kind-made : (k : DefineKind) (R : Relation) → n < 10 ^ 64 → q.kind ≡ k → kind_refusal K d q k ≡ None → kind_relation K q k ≡ Some R
        → IsValidDefinition more K (relation R)
    kind-made by_cases R room e r m = cases-made R e r m
    kind-made by_contexts R room e r m = contexts-made (closure_parts q.body) R room refl r m
    kind-made by_crosses R room e r m = crosses-made (with_symbol (closure_parts q.body)) R room e refl r m

  -- by the parts of the form
  relation-made : (o : Option DefineParts) (R : Relation) → n < 10 ^ 64 → define_parts d ≡ o → define_refusal_by K d o ≡ None
      → relation_by K o ≡ Some R → IsValidDefinition more K (relation R)
  relation-made None R room e r m = absurd cc
  relation-made (Some q) R room e r m = kind-made q e q.kind R room refl r m

  -- ---- all forms

  -- by what the form does
  by_kind : (k : FormKind) (x : Defined) → n < 10 ^ 64 → refusal_by_kind K d k ≡ None → definition_by_kind K d k ≡ Some x → IsValidDefinition more K x
  by_kind (asks k) x room r m = absurd cc
  by_kind (passes k) x room r m = absurd cc
  by_kind (defines kind.language) x room r m =
      let c = grammar_part d in
      let q = (none-reported (plain_refusal K c) (binding_refusal d) r).0 in
      mapped-some language (plain_language c) x m (IsValidDefinition more K)
      (λ L e.
      language-made c empty_language (language_form c) L (λ y h. absurd cc) (AreSpelledIn-language c part.spelled)
      (language-parts K empty_language None c (language_form c) L q e))
  by_kind (defines kind.extension) x room r m =
      let c = grammar_part d in
      let q = (none-reported (extension_refusal K c) (binding_refusal d) r).0 in
      mapped-some language (extended_language K c) x m (IsValidDefinition more K)
      (λ L e.
      language-made c (named_base K (base_name c)) (extension_form c) L (base-names K (base_name c) V.named) (AreSpelledIn-extension c part.spelled)
      (language-parts K (named_base K (base_name c)) (base_name c) c (extension_form c) L q e))
  by_kind (defines kind.metafunction) x room r m =
      mapped-some metafunction (defined_function K d) x m (IsValidDefinition more K) (λ F e. function-valid F r e)
  by_kind (defines kind.judgement) x room r m =
      mapped-some judgement (defined_judgement K d) x m (IsValidDefinition more K) (λ J e. judgement-made J r e)
  by_kind (defines kind.relation) x room r m =
      mapped-some relation (defined_relation K d) x m (IsValidDefinition more K) (λ R e. relation-made (define_parts d) R room refl r e)

  -- what is defined is valid
  pub definition-valid : (x : Defined) → n < 10 ^ 64 → Defines K d x → IsValidDefinition more K x
  definition-valid x room a = by_kind (form_kind d) x room a.passes a.means
