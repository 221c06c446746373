-- What is found has derivations.
use Rattle.std.proofs.Common.{◌≡◌, ◌++◌, ◌∙◌, true, false, Bool, ℕ, List, [], ◌∷◌, Option, Some, sym, ap, subst}
use Rattle.std.proofs.lemmas.Bool.{and_parts}
use Rattle.std.specs.List.{list_all}
use Rattle.std.specs.Prelude.{◌&&◌, bytes_eq, if◌then◌else◌}
use Rattle.rdx_term.specs.Tree.{Tree}
use Rattle.rdx_lang.specs.Bindings.{Binding, visible}
use Rattle.rdx_lang.specs.Depths.{Use, uses, has_fitting_names}
use Rattle.rdx_lang.specs.Fitting.{fits}
use Rattle.rdx_lang.specs.Listing.{IsSeen}
use Rattle.rdx_lang.specs.Members.{In, here, there}
use Rattle.rdx_lang.specs.Modes.{Callable, fits_mode, rule_fits_mode}
use Rattle.rdx_lang.specs.Patterns.{Pattern, Language}
use Rattle.rdx_lang.specs.Programs.{Extra, such_as, provided, holds, fresh, Judgement, Premise, Program, judgement_among, language_named}
use Rattle.rdx_lang.specs.Rules.{Match, Split}
use Rattle.rdx_lang.specs.Scopes.{bound_by, case_uses, extra_uses}
use Rattle.rdx_lang.specs.Valid.{are_distinct, are_valid_extras, callable_in, defined_names, is_valid, is_valid_beside, is_valid_extra, is_valid_judgement, is_valid_judgement_contract, is_valid_judgement_of, is_valid_judgement_rule, is_valid_metafunction_of}
use Rattle.rdx_lang.specs.WellFormed.{has_known_nonterminals, defined, is_well_formed_in}
use Rattle.rdx_lang.proofs.Passing.{member_passes}
use Rattle.rdx_deriv.specs.Derivations.{matched, split, judged}
use Rattle.rdx_deriv.specs.Judged.{Judged}
use Rattle.rdx_deriv.specs.Laws.{HasDerivation}
use Rattle.rdx_deriv.proofs.Complete.{what_follows_has_derivation}
use Rattle.rdx_deriv.proofs.JudgedOutputs.{outputs_are_judged}
use Rattle.rdx_why.specs.Explaining.{HasKnownRules, IsKnownExtra, seen}
use Rattle.rdx_answer.specs.Inside.Explaining.{HasExplanation, IsAsked, IsLawful, IsShowable}

-- ---- the rules of judgements

-- the first judgement of a name is among them
judgement_in : (js : List Judgement) (x : List ℕ) (J : Judgement) → judgement_among js x ≡ Some J → In J js
judgement_in [] x J e = absurd cc
judgement_in (K ∷ js) x J e = by_test (bytes_eq K.name x) e (judgement_in js x J)
  where
    by_test : (b : Bool) → (if b then Some K else judgement_among js x) ≡ Some J → (judgement_among js x ≡ Some J → In J js) → In J (K ∷ js)
    by_test true d f = here (cc)
    by_test false d f = there (f d)

-- a pattern that is well formed speaks of what the language has
pattern_known : (L : Language) (p : Pattern) → is_well_formed_in L p ≡ true → has_known_nonterminals (defined L) p ≡ true
pattern_known L p v = (and_parts (has_known_nonterminals (defined L) p) (has_fitting_names p) v).0

-- so does that of an extra
extra_known : (C : Callable) (L : Language) (us : List Use) (x : Extra) → is_valid_extra C L us x ≡ true → IsKnownExtra L x
extra_known C L us (such_as p m) k = pattern_known L p (and_parts (is_well_formed_in L p) (fits C.functions (bound_by us) 0 m) k).0
extra_known C L us (provided h) k = tt
extra_known C L us (holds q) k =
    let inputs = list_all (fits C.functions (bound_by us) 0) q.inputs in
    let known = and_parts (fits_mode (C.modes q.judgement) q) (inputs && is_well_formed_in L q.outputs) k in
    pattern_known L q.outputs (and_parts inputs (is_well_formed_in L q.outputs) known.1).1
extra_known C L us (fresh x) k = tt

extras_known : (C : Callable) (L : Language) (us : List Use) (es : List Extra) → are_valid_extras C L us es ≡ true
    → (e : Extra) → In e es → IsKnownExtra L e
extras_known C L us [] k e i = elim i [ ]
extras_known C L us (x ∷ es) k e (here q) =
    subst (IsKnownExtra L) (sym q)
    (extra_known C L us x (and_parts (is_valid_extra C L us x) (are_valid_extras C L (us ++ extra_uses x) es) k).0)
extras_known C L us (x ∷ es) k e (there i) =
    extras_known C L (us ++ extra_uses x) es (and_parts (is_valid_extra C L us x) (are_valid_extras C L (us ++ extra_uses x) es) k).1 e i

-- in a valid program each judgement is valid
judgements_valid : (P : Program) → is_valid P ≡ true → list_all (is_valid_judgement_of P) P.judgements ≡ true
judgements_valid P v =
    let others = list_all (is_valid_judgement_of P) P.judgements && list_all (is_valid_beside P) P.relations in
    let all = list_all (is_valid_metafunction_of P) P.metafunctions && others in
    (and_parts (list_all (is_valid_judgement_of P) P.judgements) (list_all (is_valid_beside P) P.relations)
    (and_parts (list_all (is_valid_metafunction_of P) P.metafunctions) others (and_parts (are_distinct (defined_names P)) all v).1).1).0

-- so its rules speak of what their languages have
pub known_rules : (P : Program) → is_valid P ≡ true → HasKnownRules P
known_rules P v j J L e k r i =
    let C : Callable = callable_in P in
    let valid : is_valid_judgement C (language_named P J.language) J ≡ true =
    member_passes (is_valid_judgement_of P) J P.judgements (judgements_valid P v) (judgement_in P.judgements j J e) in
    let over : is_valid_judgement C (Some L) J ≡ true = subst (λ (m : Option Language). is_valid_judgement C m J ≡ true) k valid in
    let rule : is_valid_judgement_rule C L J.mode r ≡ true =
    member_passes (is_valid_judgement_rule C L J.mode) r J.rules
    (and_parts (is_valid_judgement_contract L J.mode J.contract) (list_all (is_valid_judgement_rule C L J.mode) J.rules) over).1 i in
    let outputs = list_all (fits C.functions (bound_by (case_uses r.inputs r.extras)) 0) r.outputs in
    let extras = are_valid_extras C L (uses 0 r.inputs) r.extras in
    let rest = and_parts (is_well_formed_in L r.inputs) (extras && outputs)
    (and_parts (rule_fits_mode J.mode r) (is_well_formed_in L r.inputs && (extras && outputs)) rule).1 in
    record {
      inputs = pattern_known L r.inputs rest.0;
      extras = extras_known C L (uses 0 r.inputs) r.extras (and_parts extras outputs rest.1).0;
    }

-- ---- what is found

-- the language is that of the name, and has each nonterminal of the pattern
known_in : (P : Program) (name : List ℕ) (p : Pattern) (L : Language) → IsShowable P name p → language_named P name ≡ Some L
    → has_known_nonterminals (defined L) p ≡ true
known_in P name p L s e =
    let same : s.spoken.language ≡ L = let f = s.spoken.named in cc in
    subst (λ (K : Language). has_known_nonterminals (defined K) p ≡ true) same s.spoken.known

-- what is seen of a binding is seen of itself
seen_again : (b c : Binding) → b ≡ visible c → visible c ≡ visible b
seen_again b c e = sym (ap visible e)

pub match_explained : (P : Program) (name : List ℕ) (p : Pattern) (t : Tree) (b : Binding) (L : Language) → IsShowable P name p
    → language_named P name ≡ Some L → IsSeen (Match L p t) b → HasExplanation P (matched name p t b)
match_explained P name p t b L s e m =
    let d : HasDerivation P (matched name p t m.whole) =
    what_follows_has_derivation P (matched name p t m.whole) s.lawful.languages s.lawful.valid
    (record { language = L; named = e; known = known_in P name p L s e; here = m.holds }) in
    record {
      asked = s.spoken;
      derivation = d.derivation;
      explains = record {
        holds = d.holds;
        of_goal = ap seen d.of_goal ∙ ap (λ (c : Binding). matched name p t c) (seen_again b m.whole m.seen);
      };
    }

pub split_explained : (P : Program) (name : List ℕ) (p : Pattern) (t C u : Tree) (b : Binding) (L : Language) → IsShowable P name p
    → language_named P name ≡ Some L → IsSeen (Split L p t C u) b → HasExplanation P (split name p t C u b)
split_explained P name p t C u b L s e m =
    let d : HasDerivation P (split name p t C u m.whole) =
    what_follows_has_derivation P (split name p t C u m.whole) s.lawful.languages s.lawful.valid
    (record { language = L; named = e; known = known_in P name p L s e; here = m.holds }) in
    record {
      asked = s.spoken;
      derivation = d.derivation;
      explains = record {
        holds = d.holds;
        of_goal = ap seen d.of_goal ∙ ap (λ (c : Binding). split name p t C u c) (seen_again b m.whole m.seen);
      };
    }

pub judged_explained : (P : Program) (q : Premise) (L : Language) (a : Tree) (os : List Tree) (o : Tree) → IsLawful P → IsAsked P q L a os
    → In o os → HasExplanation P (judged q.judgement a o)
judged_explained P q L a os o l s i =
    let j : Judged P q.judgement a o = (outputs_are_judged P q.judgement a os s.outputs).sound o i in
    let d : HasDerivation P (judged q.judgement a o) = what_follows_has_derivation P (judged q.judgement a o) l.languages l.valid j in
    record {
      asked = (known_rules P l.valid, record { outputs = os; answered = s.outputs });
      derivation = d.derivation;
      explains = record { holds = d.holds; of_goal = ap seen d.of_goal };
    }
