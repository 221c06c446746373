-- What readable forms have where no check refuses them.
use Rattle.std.proofs.Common.{◌≡◌, ◌++◌, ◌∙◌, ℕ, true, List, [], IsTrue, sym, ap, subst}
use Rattle.std.specs.Prelude.{Option, Some, None, option_map}
use Rattle.std.specs.List.{list_all}
use Rattle.rdx_sexp.specs.Sexp.{Sexp}
use Rattle.rdx_term.specs.Spelling.{is_name}
use Rattle.rdx_lang.specs.Patterns.{Language}
use Rattle.rdx_lang.specs.Valid.{is_valid_clause, is_valid_contract, is_valid_metafunction}
use Rattle.rdx_patterns.specs.Ends.{ends_in, crossed_for}
use Rattle.rdx_patterns.specs.Nonterminals.{names_of}
use Rattle.rdx_patterns.specs.Parts.{text_of}
use Rattle.rdx_patterns.specs.Readable.{IsReadable}
use Rattle.rdx_patterns.proofs.Booleans.{and_both}
use Rattle.rdx_patterns.proofs.Firsts.{none_first}
use Rattle.rdx_defs.specs.Inside.BareForms as bare_stands
use Rattle.rdx_defs.specs.Inside.FormOutlines.{clause_branches, metafunction_outline, judgement_outline, question_outline}
use Rattle.rdx_defs.specs.Inside.BranchReadings.{branch_metafunction}
use Rattle.rdx_parts.specs.FormRefusals.{early_refusal}
use Rattle.rdx_parts.specs.PartsHave.{IsReadableIn, IsReadableTaken, CanBind, OutlineHas, can_bind}
use Rattle.rdx_defs.specs.JudgementForms.{JudgementForm, judgement_form}
use Rattle.rdx_defs.specs.JudgementRefusal.{lone_premise_stands, premise_refusal}
use Rattle.rdx_defs.specs.JudgementStands.{judgement_stands}
use Rattle.rdx_defs.specs.MetafunctionForms.{MetafunctionForm, metafunction_form, function_in}
use Rattle.rdx_defs.specs.MetafunctionReading.{contract_reading, clauses_reading, text_in, metafunction_reading}
use Rattle.rdx_defs.specs.MetafunctionStands.{contract_stands, clauses_stand, function_stands}
use Rattle.rdx_templates.specs.Scope.{Scope, callable}
use Rattle.rdx_parts.specs.StandChecks.{is_bad_function, bad_names}
use Rattle.rdx_parts.specs.StandRefusal.{stands_refusal}
use Rattle.rdx_parts.specs.Stands.{Stand}
use Rattle.rdx_defs.proofs.BareForms.{bare-function, bare-judgement, bare-question}
use Rattle.rdx_parts.proofs.BareChecks.{bad_names-bare}
use Rattle.rdx_relations.proofs.AskingParts.{AsksWithin, asks-within, TakenWithin, within-inherited, BindsWithin, binds-within}
use Rattle.rdx_relations.proofs.BoundParts.{can-bind}
use Rattle.rdx_defs.proofs.BoundParts.{metafunction-binds, judgement-binds, question-binds}
use Rattle.rdx_relations.proofs.FormRefusals.{ArePassed, early-names, stands-passed}
use Rattle.rdx_defs.proofs.FormRefusals.{no-contract, question-passed, some-function}
use Rattle.rdx_defs.proofs.InheritedParts.{metafunction-has, metafunction_outline-has, function-named, function-name, judgement-has, mode-has, judgement_outline-has, question_outline-has}
use Rattle.rdx_relations.proofs.PartsOfForms.{IsNamed}
use Rattle.rdx_defs.proofs.PartsOfForms.{IsNamedIn}
use Rattle.rdx_relations.proofs.ReadableParts.{readable-inherited}
use Rattle.rdx_defs.proofs.ValidForms.{IsGoodMetafunction, metafunction-good}
use Rattle.rdx_defs.proofs.ValidJudgements.{IsValidJudgement, judgement-good, IsValidQuestion, question-good}

-- the language over which the parts of a form are read
abbrev pub gained : Language → Sexp → Language
gained L d = crossed_for (ends_in d) L

-- ---- metafunctions

-- where the early checks refuse nothing
pub metafunction-early : (S : Scope) (ns : List (List ℕ)) (d : Sexp) (m : MetafunctionForm) (ss : List Stand) → IsReadable d → metafunction_form d ≡ Some m
    → ss ≡ bare_stands.function_stands S m (function_in m) → early_refusal ns ss ≡ None → OutlineHas S (can_bind ns) (metafunction_outline m (function_in m))
metafunction-early S ns d m ss h f q e =
    metafunction-binds S IsReadableTaken (CanBind ns) (can-bind ns) m (function_in m) (no-contract m) (early-names ns (bare_stands.function_stands S m (function_in m)) (ap (early_refusal ns) (sym q) ∙ e))
    (metafunction_outline-has IsReadable IsReadableTaken readable-inherited S m (function_in m) (metafunction-has IsReadable IsReadableTaken readable-inherited d m h f))

-- where no check refuses what stands in it, it has a name
pub has-function : (S : Scope) (ns : List (List ℕ)) (d : Sexp) (m : MetafunctionForm) → IsReadable d → metafunction_form d ≡ Some m
    → stands_refusal S ns (function_stands S ns m (function_in m)) ≡ None → function_in m ≡ None → ⊥
has-function S ns d m h f e g =
    let k = stands-passed S ns (function_stands S ns m (function_in m)) e in
    some-function S ns m (metafunction-has IsReadable IsReadableTaken readable-inherited d m h f).some g (subst (λ (o : Option Sexp). ArePassed S ns (function_stands S ns m o)) g k).shapes

-- which is a name
named-first : (S : Scope) (ns : List (List ℕ)) (m : MetafunctionForm) (f : Sexp) → IsNamed f → ArePassed S ns (function_stands S ns m (Some f)) → IsTrue (is_name (text_of f))
named-first S ns m f h k =
    function-name f h (none_first (is_bad_function (text_of f)) f (bad_names (contract_stands m.contract ++ clauses_stand S ns (text_of f) m.clauses)) k.names).0

-- what a metafunction of this name has: well-formed patterns, a name, and that it is valid
pub record IsValidForm (S : Scope) (L : Language) (d : Sexp) (m : MetafunctionForm) (f : Sexp) : Type 0 where
  pub good : IsGoodMetafunction S L (ends_in d) m f
  pub named : IsTrue (is_name (text_of f))
  pub reading : branch_metafunction S (names_of L) m f (clause_branches (text_of f) m.clauses) ≡ metafunction_reading S (names_of L) m
  pub valid : is_valid_metafunction (callable S) (Some (gained L d)) (metafunction_reading S (names_of L) m) ≡ true

pub metafunction-valid : (S : Scope) (L : Language) (d : Sexp) (m : MetafunctionForm) (f : Sexp) → IsReadable d → metafunction_form d ≡ Some m → function_in m ≡ Some f
    → stands_refusal S (names_of L) (function_stands S (names_of L) m (function_in m)) ≡ None → IsValidForm S L d m f
metafunction-valid S L d m f h g n e =
    let ns = names_of L in
    let ys = ends_in d in
    let parts = metafunction-has (AsksWithin ys) (TakenWithin ys) (within-inherited ys) d m (asks-within d h) g in
    let k : ArePassed S ns (function_stands S ns m (Some f)) = subst (λ (o : Option Sexp). ArePassed S ns (function_stands S ns m o)) n (stands-passed S ns (function_stands S ns m (function_in m)) e) in
    let b : bad_names (bare_stands.function_stands S m (Some f)) ≡ [] = ap bad_names (sym (bare-function S ns m (Some f))) ∙ bad_names-bare (function_stands S ns m (Some f)) ∙ k.names in
    let o = metafunction-binds S (TakenWithin ys) (BindsWithin ys ns) (binds-within ys ns) m (Some f) (λ q. absurd cc) b
    (metafunction_outline-has (AsksWithin ys) (TakenWithin ys) (within-inherited ys) S m (Some f) parts) in
    let good = metafunction-good S L ys m f o k in
    record {
      good = good;
      named = named-first S ns m f (subst IsNamedIn n (function-named (AsksWithin ys) (TakenWithin ys) (within-inherited ys) m parts)) k;
      reading = λ i. record {
        name = text_in (sym n i);
        language = text_of m.language;
        contract = option_map (contract_reading ns) m.contract;
        clauses = sym good.reading i;
      };
      valid =
          and_both (is_valid_contract (gained L d) (option_map (contract_reading ns) m.contract)) (list_all (is_valid_clause (callable S) (gained L d)) (clauses_reading S ns m.clauses)) good.valid_contract
          good.valid_clauses;
    }

-- ---- judgements

-- where the early checks refuse nothing
pub judgement-early : (S : Scope) (ns : List (List ℕ)) (d : Sexp) (f : JudgementForm) (ss : List Stand) → IsReadable d → judgement_form d ≡ Some f
    → ss ≡ bare_stands.judgement_stands S d f → early_refusal ns ss ≡ None → OutlineHas S (can_bind ns) (judgement_outline f)
judgement-early S ns d f ss h g q e =
    judgement-binds S IsReadableTaken (CanBind ns) (can-bind ns) d f (early-names ns (bare_stands.judgement_stands S d f) (ap (early_refusal ns) (sym q) ∙ e)) (judgement_outline-has IsReadable IsReadableTaken readable-inherited S f (judgement-has IsReadable IsReadableTaken readable-inherited d f h g))

-- where no check refuses
pub judgement-valid : (S : Scope) (L : Language) (d : Sexp) (f : JudgementForm) → IsReadable d → judgement_form d ≡ Some f
    → stands_refusal S (names_of L) (judgement_stands S (names_of L) d (Some f)) ≡ None → IsValidJudgement S L (ends_in d) f
judgement-valid S L d f h g e =
    let ns = names_of L in
    let ys = ends_in d in
    let parts = judgement-has (AsksWithin ys) (TakenWithin ys) (within-inherited ys) d f (asks-within d h) g in
    let k = stands-passed S ns (judgement_stands S ns d (Some f)) e in
    let b : bad_names (bare_stands.judgement_stands S d f) ≡ [] = ap bad_names (sym (bare-judgement S ns d f)) ∙ bad_names-bare (judgement_stands S ns d (Some f)) ∙ k.names in
    judgement-good S L ys d f (mode-has IsReadable IsReadableTaken readable-inherited f (judgement-has IsReadable IsReadableTaken readable-inherited d f h g))
    (judgement-binds S (TakenWithin ys) (BindsWithin ys ns) (binds-within ys ns) d f b (judgement_outline-has (AsksWithin ys) (TakenWithin ys) (within-inherited ys) S f parts)) k

-- ---- premises by themselves

-- where the early checks refuse nothing
pub question-early : (S : Scope) (ns : List (List ℕ)) (d : Sexp) (t : Option Sexp) (ss : List Stand) → IsReadable d → IsReadableIn t
    → ss ≡ bare_stands.question_stands S d t → early_refusal ns ss ≡ None → OutlineHas S (can_bind ns) (question_outline d t)
question-early S ns d t ss h r q e =
    question-binds S IsReadableTaken (CanBind ns) (can-bind ns) d t (early-names ns (bare_stands.question_stands S d t) (ap (early_refusal ns) (sym q) ∙ e)) (question_outline-has IsReadable IsReadableTaken readable-inherited S d t h r)

-- where no check refuses
pub question-valid : (S : Scope) (L : Language) (d : Sexp) (t : Option Sexp) → IsReadable d → IsReadableIn t → premise_refusal S (names_of L) d t ≡ None
    → IsValidQuestion S L (ends_in d) d t
question-valid S L d t h r e =
    let ns = names_of L in
    let ys = ends_in d in
    let k = question-passed S ns d t e in
    let b : bad_names (bare_stands.question_stands S d t) ≡ [] = ap bad_names (sym (bare-question S ns d t)) ∙ bad_names-bare (lone_premise_stands S ns d t) ∙ k.names in
    question-good S L ys d t
    (question-binds S (TakenWithin ys) (BindsWithin ys ns) (binds-within ys ns) d t b
    (question_outline-has (AsksWithin ys) (TakenWithin ys) (within-inherited ys) S d t (asks-within d h) r)) k
