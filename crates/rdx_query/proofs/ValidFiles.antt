-- The program of a file that is accepted is valid, and so are its queries.
use Rattle.std.proofs.Common.{◌≡◌, ◌∙◌, ◌+◌, ◌*◌, ◌≤◌, ◌++◌, ℕ, inl, inr, Bool, true, false, List, [], ◌∷◌, Option, Some, None, IsTrue, refl, sym, ap, subst, arith, if◌then◌else◌}
use Rattle.std.specs.List.{list_all}
use Rattle.std.specs.Prelude.{◌&&◌, nat_lt, flat_map, is_some, option_map, bytes_eq}
use Rattle.rdx_sexp.specs.Sexp.{Sexp, sexps, sexp_nodes, sexps_nodes}
use Rattle.rdx_sexp.specs.Size.{sexps_depth, AreSpelled, AreFileData}
use Rattle.rdx_lang.proofs.Collecting.{only}
use Rattle.rdx_lang.proofs.MemberLaws.{in-append, append-left, append-right}
use Rattle.rdx_lang.specs.Members.{In, here, there}
use Rattle.rdx_lang.specs.Modes.{Callable}
use Rattle.rdx_lang.specs.Patterns.{Pattern, Language}
use Rattle.rdx_lang.specs.Programs.{Metafunction, Judgement, Relation, Rule, Premise, Program, judgement_among, relation_among, language_named, relation_named}
use Rattle.rdx_lang.specs.Valid.{is_valid_metafunction, is_valid_judgement, is_valid_over, callable_in, is_valid_beside, is_valid_metafunction_of, is_valid_judgement_of, are_distinct, defined_names, is_valid}
use Rattle.rdx_patterns.proofs.Booleans.{and_both, and_true}
use Rattle.rdx_patterns.specs.Ends.{crossed_for}
use Rattle.rdx_patterns.specs.Among.{AreAmong}
use Rattle.rdx_patterns.specs.Readable.{IsReadable}
use Rattle.rdx_relations.proofs.PartsOfForms.{Each}
use Rattle.rdx_templates.specs.Scope.{mode_of, callable}
use Rattle.rdx_defs.specs.Scopes.{scope_in}
use Rattle.rdx_reduce.proofs.FreeContexts.{few_leave_names}
use Rattle.rdx_reduce.specs.ClosureLaws.{LeavesAName}
use Rattle.rdx_forms.specs.Definitions.{Defined, language, metafunction, judgement, relation}
use Rattle.rdx_forms.specs.Ends.{form_ends, file_ends}
use Rattle.rdx_query.specs.File.{Accepts, accepts_none, accepts_definition, accepts_query, accepts_passed, IsFile}
use Rattle.rdx_forms.specs.Before.{known_before}
use Rattle.rdx_forms.specs.Fitting.{IsCrossedTo}
use Rattle.rdx_forms.specs.Known.{Known, with_definition, judgement_language}
use Rattle.rdx_answer.specs.Queries.{Query, matches, whether, splits, value, holds, reducts, tagged, stepper, generate, check, alike, substituted, test_equal, test_step, test_run, test_match, test_holds, test_results}
use Rattle.rdx_query.specs.ValidQueries.{Askable, is_valid_host, is_valid_pattern, is_valid_premise, fits_behind, fits_where, is_valid_query, judged_language, askable_in, are_valid_queries}
use Rattle.rdx_query.proofs.AcceptedScopes.{IsScopeIn, accepted-scope, scope-callable}
use Rattle.rdx_query.proofs.DistinctDefinitions.{distinct-more}
use Rattle.rdx_query.proofs.FittingKnown.{is_crossed}
use Rattle.rdx_forms.proofs.FoundByName.{language-stays}
use Rattle.rdx_forms.proofs.GainingNothing.{data-asked}
use Rattle.rdx_query.proofs.NamedNonterminals.{HasNames, crossed-names}
use Rattle.rdx_query.proofs.ValidAsked.{named_language, askable, query-is_valid}
use Rattle.rdx_query.proofs.ValidDefinitions.{IsValidRelation, IsValidDefinition, AreValidSoFar, few-more, definition-valid}

-- ---- with one definition more

-- a language that is found stays found
languages-stay : (K : Known) (x : Defined) (y : List ℕ) (N : Language) → language_named K.program y ≡ Some N
    → language_named (with_definition K x).program y ≡ Some N
languages-stay K (language L) y N e = language-stays K.program.languages (crossed_for K.ends L) N y e
languages-stay K (metafunction F) y N e = e
languages-stay K (judgement J) y N e = e
languages-stay K (relation R) y N e = e

-- what holds over some language stays so
some-stays : (T : Option Language → Bool) (o p : Option Language) → T None ≡ false → ((N : Language) → o ≡ Some N → p ≡ Some N) → T o ≡ true
    → T p ≡ true
some-stays T None p n f e = absurd cc
some-stays T (Some N) p n f e = subst (λ (q : Option Language). T q ≡ true) (sym (f N refl)) e

module _ (m n : ℕ) (l : m ≤ n) (K : Known) (x : Defined) (V : AreValidSoFar m K) where
  -- a metafunction
  function-stays : (F : Metafunction) → is_valid_metafunction (callable K.scope) (language_named K.program F.language) F ≡ true
      → is_valid_metafunction (callable K.scope) (language_named (with_definition K x).program F.language) F ≡ true
  function-stays F v =
      some-stays (λ o. is_valid_metafunction (callable K.scope) o F) (language_named K.program F.language) (language_named (with_definition K x).program F.language) refl
      (languages-stay K x F.language) v

  -- a judgement
  judgement-stays : (J : Judgement) → is_valid_judgement (callable K.scope) (language_named K.program J.language) J ≡ true
      → is_valid_judgement (callable K.scope) (language_named (with_definition K x).program J.language) J ≡ true
  judgement-stays J v =
      some-stays (λ o. is_valid_judgement (callable K.scope) o J) (language_named K.program J.language) (language_named (with_definition K x).program J.language) refl
      (languages-stay K x J.language) v

  -- a relation, which may bind more names
  relation-stays : (k : ℕ) → k ≤ n → (R : Relation) → IsValidRelation k K R → IsValidRelation n (with_definition K x) R
  relation-stays k h R v = record {
    valid = some-stays (λ o. is_valid_over (callable K.scope) o R) (language_named K.program R.language) (language_named (with_definition K x).program R.language) refl
        (languages-stay K x R.language) v.valid;
    few = few-more k n R.rules h v.few;
  }

-- all stays valid, and what is new is
valid-more : (m n : ℕ) → m ≤ n → (K : Known) (x : Defined) → AreValidSoFar m K → IsValidDefinition n K x → AreValidSoFar n (with_definition K x)
valid-more m n l K (language L) V D =
    let x = language L in
    let M = crossed_for K.ends L in
    record {
      distinct = distinct-more K x V.distinct D.free;
      crossed = λ N i y j. elim (in-append K.program.languages (M ∷ []) N i) [
        | inl k ↦ V.crossed N k y j
        | inr k ↦ subst (λ (I : Language). IsCrossedTo I y) (sym (only k)) (is_crossed K.ends L y j)
      ];
      named = λ N i. elim (in-append K.program.languages (M ∷ []) N i) [
        | inl k ↦ V.named N k
        | inr k ↦ subst HasNames (sym (only k)) (crossed-names L K.ends D.valid)
      ];
      metafunctions = λ F i. function-stays m n l K x V F (V.metafunctions F i);
      judgements = λ J i. judgement-stays m n l K x V J (V.judgements J i);
      relations = λ R i. relation-stays m n l K x V m l R (V.relations R i);
    }
valid-more m n l K (metafunction G) V D =
    let x = metafunction G in record {
      distinct = distinct-more K x V.distinct D.free;
      crossed = V.crossed;
      named = V.named;
      metafunctions = λ F i. elim (in-append K.program.metafunctions (G ∷ []) F i) [
        | inl k ↦ V.metafunctions F k
        | inr k ↦ subst (λ (I : Metafunction). is_valid_metafunction (callable K.scope) (language_named K.program I.language) I ≡ true) (sym (only k)) D.valid
      ];
      judgements = V.judgements;
      relations = λ R i. relation-stays m n l K x V m l R (V.relations R i);
    }
valid-more m n l K (judgement G) V D =
    let x = judgement G in record {
      distinct = distinct-more K x V.distinct D.free;
      crossed = V.crossed;
      named = V.named;
      metafunctions = V.metafunctions;
      judgements = λ J i. elim (in-append K.program.judgements (G ∷ []) J i) [
        | inl k ↦ V.judgements J k
        | inr k ↦ subst (λ (I : Judgement). is_valid_judgement (callable K.scope) (language_named K.program I.language) I ≡ true) (sym (only k)) D.valid
      ];
      relations = λ R i. relation-stays m n l K x V m l R (V.relations R i);
    }
valid-more m n l K (relation G) V D =
    let x = relation G in record {
      distinct = distinct-more K x V.distinct D.free;
      crossed = V.crossed;
      named = V.named;
      metafunctions = V.metafunctions;
      judgements = V.judgements;
      relations = λ R i. elim (in-append K.program.relations (G ∷ []) R i) [
        | inl k ↦ relation-stays m n l K x V m l R (V.relations R k)
        | inr k ↦ subst (IsValidRelation n (with_definition K x)) (sym (only k)) (relation-stays m n l K x V n (omega arith) G D.valid)
      ];
    }

-- ---- queries

-- Where more languages and relations are found, queries stay valid.
module _ (C : Callable) (f g : List ℕ → Option Language) (r : List ℕ → Bool) (f' g' : List ℕ → Option Language) (r' : List ℕ → Bool)
    (languages : (x : List ℕ) (N : Language) → f x ≡ Some N → f' x ≡ Some N) (judged : (x : List ℕ) (N : Language) → g x ≡ Some N → g' x ≡ Some N)
    (relations : (x : List ℕ) → r x ≡ true → r' x ≡ true) where
  -- what is found before
  abbrev before : Askable
  before = record { callable = C; languages = f; judged = g; relations = r }

  -- and behind it
  abbrev behind : Askable
  behind = record { callable = C; languages = f'; judged = g'; relations = r' }

  -- a pattern and what stands beside it
  pattern-stays : (x : List ℕ) (p : Pattern) (b : Bool) → (is_valid_pattern (f x) p && b) ≡ true → (is_valid_pattern (f' x) p && b) ≡ true
  pattern-stays x p b v =
      let k = and_true (is_valid_pattern (f x) p) b v in
      and_both (is_valid_pattern (f' x) p) b (some-stays (λ o. is_valid_pattern o p) (f x) (f' x) refl (languages x) k.0) k.1

  -- a relation
  named-stays : (x : List ℕ) (b : Bool) → (r x && b) ≡ true → (r' x && b) ≡ true
  named-stays x b v = let k = and_true (r x) b v in and_both (r' x) b (relations x k.0) k.1

  -- a premise
  premise-stays : (q : Premise) → is_valid_premise C (g q.judgement) q ≡ true → is_valid_premise C (g' q.judgement) q ≡ true
  premise-stays q v = some-stays (λ o. is_valid_premise C o q) (g q.judgement) (g' q.judgement) refl (judged q.judgement) v

  -- a query
  query-stays : (q : Query) → is_valid_query before q ≡ true → is_valid_query behind q ≡ true
  query-stays (matches x p h) v = pattern-stays x p (is_valid_host C h) v
  query-stays (whether x p h) v = pattern-stays x p (is_valid_host C h) v
  query-stays (splits x p h) v = pattern-stays x p (is_valid_host C h) v
  query-stays (value h) v = v
  query-stays (holds q t) v =
      let k = and_true (is_valid_premise C (g q.judgement) q) (fits_behind C q t) v in
      and_both (is_valid_premise C (g' q.judgement) q) (fits_behind C q t) (premise-stays q k.0) k.1
  query-stays (reducts x h) v = named-stays x (is_valid_host C h) v
  query-stays (tagged x h) v = named-stays x (is_valid_host C h) v
  query-stays (stepper x h) v = named-stays x (is_valid_host C h) v
  query-stays (generate x p size seed) v = pattern-stays x p (nat_lt size 31 && nat_lt seed 18_446_744_073_709_551_616) v
  query-stays (check x p h attempts seed) v =
      pattern-stays x p
      (fits_where C p h && (nat_lt 0 attempts && (nat_lt attempts 100_001 && nat_lt seed 18_446_744_073_709_551_616))) v
  query-stays (alike fs h k) v = v
  query-stays (substituted fs h k l) v = v
  query-stays (test_equal h k) v = v
  query-stays (test_step x h ks) v = named-stays x (is_valid_host C h && list_all (is_valid_host C) ks) v
  query-stays (test_run x h ks) v = named-stays x (is_valid_host C h && list_all (is_valid_host C) ks) v
  query-stays (test_match x p h wanted) v = pattern-stays x p (is_valid_host C h) v
  query-stays (test_holds q) v = premise-stays q v
  query-stays test_results v = refl

-- a relation stays behind one more
relation-more : (Rs : List Relation) (R : Relation) (x : List ℕ) → is_some (relation_among Rs x) ≡ true
    → is_some (relation_among (Rs ++ R ∷ []) x) ≡ true
relation-more [] R x e = absurd cc
relation-more (S ∷ Rs) R x e = by_test (bytes_eq S.name x) e (relation-more Rs R x)
  where
    by_test : (b : Bool) → is_some (if b then Some S else relation_among Rs x) ≡ true
        → (is_some (relation_among Rs x) ≡ true → is_some (relation_among (Rs ++ R ∷ []) x) ≡ true)
        → is_some (if b then Some S else relation_among (Rs ++ R ∷ []) x) ≡ true
    by_test true f rest = refl
    by_test false f rest = rest f

-- behind whatever is defined
relations-stay : (K : Known) (x : Defined) (y : List ℕ) → is_some (relation_named K.program y) ≡ true
    → is_some (relation_named (with_definition K x).program y) ≡ true
relations-stay K (language L) y e = e
relations-stay K (metafunction F) y e = e
relations-stay K (judgement J) y e = e
relations-stay K (relation R) y e = relation-more K.program.relations R y e

-- so does the language of a judgement
judged-stay : (K : Known) (x : Defined) (o : Option (List ℕ)) (N : Language) → named_language K o ≡ Some N
    → named_language (with_definition K x) o ≡ Some N
judged-stay K x None N e = absurd cc
judged-stay K x (Some l) N e = languages-stay K x l N e

-- a query behind one definition
asked-more : (K : Known) (x : Defined) (q : Query) → is_valid_query (askable K) q ≡ true → is_valid_query (askable (with_definition K x)) q ≡ true
asked-more K x q v =
    let J = with_definition K x in
    query-stays (callable K.scope) (language_named K.program) (λ y. named_language K (judgement_language K y)) (λ y. is_some (relation_named K.program y))
    (language_named J.program) (λ y. named_language J (judgement_language K y)) (λ y. is_some (relation_named J.program y)) (languages-stay K x)
    (λ y N e. judged-stay K x (judgement_language K y) N e) (relations-stay K x) q v

-- behind all forms
asked-behind : (K : Known) (ds : List Sexp) (J : Known) (qs : List Query) → Accepts K ds J qs → (q : Query) → is_valid_query (askable K) q ≡ true
    → is_valid_query (askable J) q ≡ true
asked-behind K [] J qs accepts_none q v = v
asked-behind K (d ∷ ds) J qs (accepts_definition {x} a more) q v = asked-behind (with_definition K x) ds J qs more q (asked-more K x q v)
asked-behind K (d ∷ ds) J qs (accepts_query {qs = rs} a more) q v = asked-behind K ds J rs more q v
asked-behind K (d ∷ ds) J qs (accepts_passed a more) q v = asked-behind K ds J qs more q v

-- ---- all forms

-- before the first form
valid-before : (ds : List Sexp) → AreValidSoFar 0 (known_before ds)
valid-before ds = record {
  distinct = refl;
  crossed = λ L i. elim i [ ];
  named = λ L i. elim i [ ];
  metafunctions = λ F i. elim i [ ];
  judgements = λ J i. elim i [ ];
  relations = λ R i. elim i [ ];
}

-- the file has a language for each judgement that has a mode
abbrev IsPaired : Known → Type 0
IsPaired K = (x : List ℕ) → judgement_language K x ≡ None → mode_of K.scope x ≡ None

-- what is known is valid, however many names rules bind, and so are queries
record AreValid (K : Known) (qs : List Query) : Type 0 where
  bound : ℕ
  small : bound ≤ 4_194_304
  valid : AreValidSoFar bound K
  asked : list_all (is_valid_query (askable K)) qs ≡ true

-- behind the last form it is
valid-behind : (n : ℕ) (K : Known) (ds : List Sexp) (J : Known) (qs : List Query) → Accepts K ds J qs → IsPaired K → sexps_depth (sexps ds) ≤ 500
    → AreSpelled (sexps ds) → n + 2 * sexps_nodes (sexps ds) ≤ 4_194_304 → AreAmong (file_ends ds) K.ends → AreValidSoFar n K → AreValid J qs
valid-behind n K [] J qs accepts_none p h s l a V = record { bound = n; small = omega (arith, l); valid = V; asked = refl }
valid-behind n K (d ∷ ds) J qs (accepts_definition {x} b more) p h s l a V =
    let asked : AreAmong (form_ends d) K.ends = λ y i. a y (append-left (form_ends d) (flat_map form_ends ds) y i) in
    let D = definition-valid n K V d (omega (arith, h)) s.0 (omega (arith, l)) asked x (omega (arith, l)) b in
    let k = n + 2 * sexp_nodes d in
    valid-behind k (with_definition K x) ds J qs more p (omega (arith, h)) s.1 (omega (arith, l)) (λ y i. a y (append-right (form_ends d) (flat_map form_ends ds) y i))
    (valid-more n k (omega arith) K x V D)
valid-behind n K (d ∷ ds) J qs (accepts_query {q} {qs = rs} b more) p h s l a V =
    let asked : AreAmong (form_ends d) K.ends = λ y i. a y (append-left (form_ends d) (flat_map form_ends ds) y i) in
    let readable : IsReadable d = record { nested = omega (arith, h); spelled = s.0 } in
    let v = query-is_valid K V.crossed p d readable (data-asked K.ends d asked) q b in
    let rest = valid-behind n K ds J rs more p (omega (arith, h)) s.1 (omega (arith, l)) (λ y i. a y (append-right (form_ends d) (flat_map form_ends ds) y i)) V in
    record {
      bound = rest.bound;
      small = rest.small;
      valid = rest.valid;
      asked = and_both (is_valid_query (askable J) q) (list_all (is_valid_query (askable J)) rs) (asked-behind K ds J rs more q v) rest.asked;
    }
valid-behind n K (d ∷ ds) J qs (accepts_passed b more) p h s l a V =
    valid-behind n K ds J qs more p (omega (arith, h)) s.1 (omega (arith, l)) (λ y i. a y (append-right (form_ends d) (flat_map form_ends ds) y i)) V

-- ---- files

-- the data of a file can be read
each-readable : (ds : List Sexp) → sexps_depth (sexps ds) ≤ 500 → AreSpelled (sexps ds) → Each IsReadable ds
each-readable [] h s = tt
each-readable (d ∷ ds) h s = (record { nested = omega (arith, h); spelled = s.0 }, each-readable ds (omega (arith, h)) s.1)

-- what holds of each holds of all
all-of : {A : Type 0} (f : A → Bool) (xs : List A) → ((x : A) → In x xs → f x ≡ true) → list_all f xs ≡ true
all-of f [] h = refl
all-of f (x ∷ xs) h = and_both (f x) (list_all f xs) (h x (here refl)) (all-of f xs (λ y i. h y (there i)))

-- what is known in the whole file is known of its program
scope-paired : (ds : List Sexp) (P : Program) → IsScopeIn ds P → IsPaired (known_before ds)
scope-paired ds P s x e = s.modes x ∙ by_judgement (judgement_among P.judgements x) (sym (s.languages x) ∙ e)
  where
    by_judgement : (o : Option Judgement) → option_map (λ J. J.language) o ≡ None → option_map (λ J. J.mode) o ≡ None
    by_judgement None f = refl
    by_judgement (Some J) f = absurd cc

-- what may be asked behind the last form is what may be asked of the program
asked-of : (ds : List Sexp) (P : Program) → IsScopeIn ds P → askable (record (known_before ds) { program = P }) ≡ askable_in P
asked-of ds P s =
    let J : Known = record (known_before ds) { program = P } in
    let l : (x : List ℕ) → named_language J (judgement_language J x) ≡ judged_language P (judgement_among P.judgements x) =
    λ x. ap (named_language J) (s.languages x) ∙ by_judgement (judgement_among P.judgements x) in
    let c = scope-callable ds P s in
    λ i. record {
      callable = c i;
      languages = language_named P;
      judged = λ x. l x i;
      relations = λ x. is_some (relation_named P x);
    }
  where
    by_judgement : (o : Option Judgement) → named_language (record (known_before ds) { program = P }) (option_map (λ J. J.language) o) ≡ judged_language P o
    by_judgement None = refl
    by_judgement (Some I) = refl

-- both are valid, and each rule of a relation leaves the name of a context free
record IsAcceptedValid (P : Program) (qs : List Query) : Type 0 where
  program : IsTrue (is_valid P)
  queries : IsTrue (are_valid_queries P qs)
  contexts : (R : Relation) (r : Rule) → In R P.relations → In r R.rules → LeavesAName r

-- of each file
both-valid : (ds : List Sexp) (P : Program) (qs : List Query) → AreFileData ds → IsFile ds P qs → IsAcceptedValid P qs
both-valid ds P qs z a =
    let nodes = z.nodes in
    let J : Known = record (known_before ds) { program = P } in
    let s = accepted-scope ds P qs (each-readable ds z.depth z.spelled) a in
    let w = valid-behind 0 (known_before ds) ds J qs a (scope-paired ds P s) z.depth z.spelled (omega (arith, nodes)) (λ y i. i) (valid-before ds) in
    let V = w.valid in
    let c : callable (scope_in ds) ≡ callable_in P = scope-callable ds P s in
    let functions = list_all (is_valid_metafunction_of P) P.metafunctions in
    let forms = list_all (is_valid_judgement_of P) P.judgements in
    let relations = list_all (is_valid_beside P) P.relations in
    record {
      program = and_both (are_distinct (defined_names P)) (functions && (forms && relations)) V.distinct
          (and_both functions (forms && relations)
          (all-of (is_valid_metafunction_of P) P.metafunctions
          (λ F i. ap (λ (C : Callable). is_valid_metafunction C (language_named P F.language) F) (sym c) ∙ V.metafunctions F i))
          (and_both forms relations
          (all-of (is_valid_judgement_of P) P.judgements
          (λ J i. ap (λ (C : Callable). is_valid_judgement C (language_named P J.language) J) (sym c) ∙ V.judgements J i))
          (all-of (is_valid_beside P) P.relations
          (λ R i. ap (λ (C : Callable). is_valid_over C (language_named P R.language) R) (sym c) ∙ (V.relations R i).valid))));
      queries = ap (λ (A : Askable). list_all (is_valid_query A) qs) (sym (asked-of ds P s)) ∙ w.asked;
      contexts = λ R r i k.
          let small = w.small in
          few_leave_names w.bound R.rules (omega (arith, small)) (V.relations R i).few r k;
    }

-- the program is valid
pub accepted-valid : (ds : List Sexp) (P : Program) (qs : List Query) → AreFileData ds → IsFile ds P qs → IsTrue (is_valid P)
accepted-valid ds P qs z a = (both-valid ds P qs z a).program

-- and so are the queries
pub accepted_queries-valid : (ds : List Sexp) (P : Program) (qs : List Query) → AreFileData ds → IsFile ds P qs → IsTrue (are_valid_queries P qs)
accepted_queries-valid ds P qs z a = (both-valid ds P qs z a).queries

-- and its rules leave the name of a context free
pub accepted-contexts : (ds : List Sexp) (P : Program) (qs : List Query) (R : Relation) (r : Rule) → AreFileData ds → IsFile ds P qs
    → In R P.relations → In r R.rules → LeavesAName r
accepted-contexts ds P qs R r z a i k = (both-valid ds P qs z a).contexts R r i k
