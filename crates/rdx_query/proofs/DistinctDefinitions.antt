-- What is defined has distinct names, where no form defines a name that is taken.
use Rattle.std.proofs.Common.{◌≡◌, ◌++◌, ◌∙◌, ℕ, Bool, true, false, not, List, [], ◌∷◌, Option, Some, None, map, refl, sym, ap, if◌then◌else◌}
use Rattle.std.proofs.lemmas.List.{append_assoc, append-nil, map-append}
use Rattle.std.specs.Prelude.{◌||◌, is_some, bytes_eq}
use Rattle.rdx_sexp.specs.Sexp.{Sexp}
use Rattle.rdx_lang.specs.Crosses.{Way, with_crosses, with_crosses_to, with_way, with_ways, language_ways}
use Rattle.rdx_lang.specs.Patterns.{Language}
use Rattle.rdx_lang.specs.Programs.{Metafunction, Judgement, Relation, language_among, metafunction_among, judgement_among, relation_among, language_named, metafunction_named, judgement_named, relation_named}
use Rattle.rdx_lang.specs.Valid.{is_new, are_distinct, defined_names}
use Rattle.rdx_patterns.proofs.Among.{bytes_eq-sym}
use Rattle.rdx_patterns.proofs.Booleans.{and_both, and_true, not_true, or_false}
use Rattle.rdx_patterns.specs.Ends.{known_ends, crossed_for}
use Rattle.rdx_grammar.specs.Forms.{GrammarForm}
use Rattle.rdx_grammar.specs.Languages.{written_over, language_over}
use Rattle.rdx_patterns.specs.Nonterminals.{names_of}
use Rattle.rdx_patterns.specs.Parts.{text_of}
use Rattle.rdx_patterns.specs.Refusal.{Refusal, named}
use Rattle.rdx_patterns.specs.declared.shape.fault.DefKind.TheVariants.{Duplicate}
use Rattle.rdx_forms.specs.Definitions.{Defined, language, metafunction, judgement, relation}
use Rattle.rdx_forms.specs.Known.{Known, with_definition, is_taken}
use Rattle.rdx_forms.specs.LanguageForms.{name_taken_at}

-- ---- the names of languages

-- cross nonterminals change none
pub crosses-name : (L : Language) (ys : List (List ℕ)) → (with_crosses_to L ys).name ≡ L.name
crosses-name L [] = refl
crosses-name L (y ∷ ys) = crosses-name (with_crosses L y) ys

-- nor do those that it needs
ways-name : (L : Language) (ws : List Way) → (with_ways L ws).name ≡ L.name
ways-name L [] = refl
ways-name L (w ∷ ws) = ways-name (with_way L w) ws

-- the language of a form has its name
pub over-name : (base : Language) (g : GrammarForm) → (language_over base g).name ≡ text_of g.name
over-name base g = ways-name (written_over base g) (language_ways (written_over base g))

-- ---- one name more

-- a name that is none of these and not this one
new-with : (y x : List ℕ) (us bs : List (List ℕ)) → is_new y (us ++ bs) ≡ true → bytes_eq y x ≡ false → is_new y (us ++ x ∷ bs) ≡ true
new-with y x [] bs n e = and_both (not (bytes_eq y x)) (is_new y bs) (ap not e) n
new-with y x (a ∷ us) bs n e =
    let k = and_true (not (bytes_eq y a)) (is_new y (us ++ bs)) n in
    and_both (not (bytes_eq y a)) (is_new y (us ++ x ∷ bs)) k.0 (new-with y x us bs k.1 e)

-- distinct names stay so with one that is none of them, wherever it comes
distinct-with : (x : List ℕ) (us bs : List (List ℕ)) → are_distinct (us ++ bs) ≡ true → is_new x (us ++ bs) ≡ true
    → are_distinct (us ++ x ∷ bs) ≡ true
distinct-with x [] bs d n = and_both (is_new x bs) (are_distinct bs) n d
distinct-with x (a ∷ us) bs d n =
    let k = and_true (is_new a (us ++ bs)) (are_distinct (us ++ bs)) d in
    let l = and_true (not (bytes_eq x a)) (is_new x (us ++ bs)) n in
    and_both (is_new a (us ++ x ∷ bs)) (are_distinct (us ++ x ∷ bs)) (new-with a x us bs k.0 (bytes_eq-sym a x ∙ not_true (bytes_eq x a) l.0))
    (distinct-with x us bs k.1 l.1)

-- what is new among both is so
new-both : (x : List ℕ) (us bs : List (List ℕ)) → is_new x us ≡ true → is_new x bs ≡ true → is_new x (us ++ bs) ≡ true
new-both x [] bs h k = k
new-both x (a ∷ us) bs h k =
    let l = and_true (not (bytes_eq x a)) (is_new x us) h in
    and_both (not (bytes_eq x a)) (is_new x (us ++ bs)) l.0 (new-both x us bs l.1 k)

-- ---- a name by which nothing is found

-- neither the first nor one behind it
none-first : {A : Type 0} (b : Bool) (y : A) (o : Option A) → is_some (if b then Some y else o) ≡ false → (b ≡ false) × (is_some o ≡ false)
none-first true y o e = absurd cc
none-first false y o e = (refl, e)

-- is new before others
new-first : (x y : List ℕ) (ys : List (List ℕ)) → bytes_eq y x ≡ false → is_new x ys ≡ true → is_new x (y ∷ ys) ≡ true
new-first x y ys e n = and_both (not (bytes_eq x y)) (is_new x ys) (ap not (bytes_eq-sym x y ∙ e)) n

-- of a language
new-language : (Ls : List Language) (x : List ℕ) → is_some (language_among Ls x) ≡ false → is_new x (map (λ L. L.name) Ls) ≡ true
new-language [] x e = refl
new-language (L ∷ Ls) x e =
    let k = none-first (bytes_eq L.name x) L (language_among Ls x) e in
    new-first x L.name (map (λ L. L.name) Ls) k.0 (new-language Ls x k.1)

-- of a metafunction
new-metafunction : (Ms : List Metafunction) (x : List ℕ) → is_some (metafunction_among Ms x) ≡ false → is_new x (map (λ M. M.name) Ms) ≡ true
new-metafunction [] x e = refl
new-metafunction (M ∷ Ms) x e =
    let k = none-first (bytes_eq M.name x) M (metafunction_among Ms x) e in
    new-first x M.name (map (λ M. M.name) Ms) k.0 (new-metafunction Ms x k.1)

-- of a judgement
new-judgement : (Js : List Judgement) (x : List ℕ) → is_some (judgement_among Js x) ≡ false → is_new x (map (λ J. J.name) Js) ≡ true
new-judgement [] x e = refl
new-judgement (J ∷ Js) x e =
    let k = none-first (bytes_eq J.name x) J (judgement_among Js x) e in
    new-first x J.name (map (λ J. J.name) Js) k.0 (new-judgement Js x k.1)

-- of a relation
new-relation : (Rs : List Relation) (x : List ℕ) → is_some (relation_among Rs x) ≡ false → is_new x (map (λ R. R.name) Rs) ≡ true
new-relation [] x e = refl
new-relation (R ∷ Rs) x e =
    let k = none-first (bytes_eq R.name x) R (relation_among Rs x) e in
    new-first x R.name (map (λ R. R.name) Rs) k.0 (new-relation Rs x k.1)

-- so is one that is not taken
not_taken : (K : Known) (x : List ℕ) → is_taken K x ≡ false → is_new x (defined_names K.program) ≡ true
not_taken K x e =
    let P = K.program in
    let a = or_false (is_some (language_named P x) || is_some (metafunction_named P x) || is_some (judgement_named P x)) (is_some (relation_named P x)) e in
    let b = or_false (is_some (language_named P x) || is_some (metafunction_named P x)) (is_some (judgement_named P x)) a.0 in
    let c = or_false (is_some (language_named P x)) (is_some (metafunction_named P x)) b.0 in
    let l = map (λ (L : Language). L.name) P.languages in
    let m = map (λ (M : Metafunction). M.name) P.metafunctions in
    let j = map (λ (J : Judgement). J.name) P.judgements in
    let r = map (λ (R : Relation). R.name) P.relations in
    new-both x (l ++ m ++ j) r
    (new-both x (l ++ m) j (new-both x l m (new-language P.languages x c.0) (new-metafunction P.metafunctions x c.1)) (new-judgement P.judgements x b.1))
    (new-relation P.relations x a.1)

-- ---- one definition more

-- the name of what is defined
abbrev pub defined_name : Defined → List ℕ
defined_name (language L) = L.name
defined_name (metafunction F) = F.name
defined_name (judgement J) = J.name
defined_name (relation R) = R.name

-- a name of which no form says that it is taken is not
pub free-name : (K : Known) (x : Sexp) → name_taken_at K x ≡ None → is_taken K (text_of x) ≡ false
free-name K x e = by_test (is_taken K (text_of x)) e
  where
    by_test : (b : Bool) → (let o : Option Refusal = if b then Some (named Duplicate x) else None in o) ≡ None → b ≡ false
    by_test true f = absurd cc
    by_test false f = refl

-- one more of a kind, behind the others of this kind
last-with : (x : List ℕ) (us bs cs : List (List ℕ)) → are_distinct (us ++ bs ++ cs) ≡ true → is_new x (us ++ bs ++ cs) ≡ true
    → are_distinct (us ++ (bs ++ x ∷ []) ++ cs) ≡ true
last-with x us bs cs d n =
    ap (λ (ys : List (List ℕ)). are_distinct (ys ++ cs)) (sym (append_assoc us bs (x ∷ []))) ∙ ap are_distinct (append_assoc (us ++ bs) (x ∷ []) cs)
    ∙ distinct-with x (us ++ bs) cs d n

-- where its name was not taken, all names stay distinct
pub distinct-more : (K : Known) (x : Defined) → are_distinct (defined_names K.program) ≡ true → is_taken K (defined_name x) ≡ false
    → are_distinct (defined_names (with_definition K x).program) ≡ true
distinct-more K (language N) d t =
    let P = K.program in
    let l = map (λ (L : Language). L.name) P.languages in
    let m = map (λ (M : Metafunction). M.name) P.metafunctions in
    let j = map (λ (J : Judgement). J.name) P.judgements in
    let r = map (λ (R : Relation). R.name) P.relations in
    let same : l ++ m ++ j ++ r ≡ l ++ (m ++ j ++ r) = ap (λ (ys : List (List ℕ)). ys ++ r) (append_assoc l m j) ∙ append_assoc l (m ++ j) r in
    let x = N.name in
    let names : map (λ (L : Language). L.name) (P.languages ++ crossed_for K.ends N ∷ []) ≡ l ++ x ∷ [] =
    map-append (λ (L : Language). L.name) P.languages (crossed_for K.ends N ∷ []) ∙ ap (λ (y : List ℕ). l ++ y ∷ []) (crosses-name N (known_ends (names_of N) K.ends)) in
    ap (λ (ys : List (List ℕ)). are_distinct (ys ++ m ++ j ++ r)) names
    ∙ ap (λ (ys : List (List ℕ)). are_distinct (ys ++ r)) (append_assoc (l ++ x ∷ []) m j)
    ∙ ap are_distinct (append_assoc (l ++ x ∷ []) (m ++ j) r)
    ∙ ap are_distinct (append_assoc l (x ∷ []) (m ++ j ++ r))
    ∙ distinct-with x l (m ++ j ++ r) (ap are_distinct (sym same) ∙ d) (ap (is_new x) (sym same) ∙ not_taken K x t)
distinct-more K (metafunction F) d t =
    let P = K.program in
    let l = map (λ (L : Language). L.name) P.languages in
    let m = map (λ (M : Metafunction). M.name) P.metafunctions in
    let j = map (λ (J : Judgement). J.name) P.judgements in
    let r = map (λ (R : Relation). R.name) P.relations in
    let x = F.name in
    let same : l ++ m ++ j ++ r ≡ l ++ m ++ (j ++ r) = append_assoc (l ++ m) j r in
    ap (λ (ys : List (List ℕ)). are_distinct (l ++ ys ++ j ++ r)) (map-append (λ (M : Metafunction). M.name) P.metafunctions (F ∷ []))
    ∙ ap are_distinct (append_assoc (l ++ (m ++ x ∷ [])) j r)
    ∙ last-with x l m (j ++ r) (ap are_distinct (sym same) ∙ d) (ap (is_new x) (sym same) ∙ not_taken K x t)
distinct-more K (judgement J) d t =
    let P = K.program in
    let l = map (λ (L : Language). L.name) P.languages in
    let m = map (λ (M : Metafunction). M.name) P.metafunctions in
    let j = map (λ (J : Judgement). J.name) P.judgements in
    let r = map (λ (R : Relation). R.name) P.relations in
    let x = J.name in
    ap (λ (ys : List (List ℕ)). are_distinct (l ++ m ++ ys ++ r)) (map-append (λ (I : Judgement). I.name) P.judgements (J ∷ []))
    ∙ last-with x (l ++ m) j r d (not_taken K x t)
distinct-more K (relation R) d t =
    let P = K.program in
    let l = map (λ (L : Language). L.name) P.languages in
    let m = map (λ (M : Metafunction). M.name) P.metafunctions in
    let j = map (λ (J : Judgement). J.name) P.judgements in
    let r = map (λ (S : Relation). S.name) P.relations in
    let x = R.name in
    ap (λ (ys : List (List ℕ)). are_distinct (l ++ m ++ j ++ ys)) (map-append (λ (S : Relation). S.name) P.relations (R ∷ []))
    ∙ ap are_distinct (sym (append_assoc (l ++ m ++ j) r (x ∷ [])))
    ∙ distinct-with x (l ++ m ++ j ++ r) [] (ap are_distinct (append-nil (l ++ m ++ j ++ r)) ∙ d)
    (ap (is_new x) (append-nil (l ++ m ++ j ++ r)) ∙ not_taken K x t)
