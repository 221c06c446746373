-- The refusals of metafunctions, judgements and premises, by two groups of checks.
use Rattle.std.proofs.Common.{◌≡◌, ◌++◌, ◌∙◌, ℕ, false, List, [], ◌∷◌, Option, Some, None, refl, sym, ap}
use Rattle.std.specs.Prelude.{codes, option_map}
use Rattle.rdx_sexp.specs.Sexp.{Sexp}
use Rattle.rdx_patterns.specs.Parts.{is_word}
use Rattle.rdx_patterns.specs.Refusal.{unnamed}
use Rattle.rdx_patterns.specs.declared.shape.fault.DefKind.TheVariants.{Shape}
use Rattle.rdx_defs.specs.Inside.BareForms as bare_stands
use Rattle.rdx_defs.specs.Inside.FormOutlines.{metafunction_outline, judgement_outline, question_outline}
use Rattle.rdx_parts.specs.FormRefusals.{form_refusal}
use Rattle.rdx_defs.specs.JudgementForms.{JudgementForm, judgement_form}
use Rattle.rdx_defs.specs.JudgementRefusal.{judgement_refusal_by, judgement_refusal, lone_premise_stands, premise_refusal}
use Rattle.rdx_defs.specs.JudgementStands.{judgement_stands}
use Rattle.rdx_defs.specs.MetafunctionForms.{ClauseForm, clause_form, ContractForm, MetafunctionForm, metafunction_form, function_or, function_by, clauses_function, function_in}
use Rattle.rdx_defs.specs.MetafunctionRefusal.{metafunction_refusal_by, metafunction_refusal}
use Rattle.rdx_defs.specs.MetafunctionStands.{clause_stands, clauses_stand, function_stands, metafunction_stands}
use Rattle.rdx_relations.specs.LanguageRefusal.{unnamable_language_at, refusal_over}
use Rattle.rdx_templates.specs.Scope.{Scope}
use Rattle.rdx_parts.specs.StandChecks.{shape_faults}
use Rattle.rdx_parts.specs.StandRefusal.{stands_refusal}
use Rattle.rdx_parts.specs.Stands.{Stand}
use Rattle.rdx_defs.proofs.BareForms.{bare-function, bare-judgement, bare-question}
use Rattle.rdx_defs.proofs.TrackedNames.{function-again, judgement-again, question-again}
use Rattle.rdx_defs.proofs.FormFaults.{function-faults, judgement-faults, question-faults}
use Rattle.rdx_relations.proofs.FormRefusals.{form-refused, ArePassed, stands-passed}
use Rattle.rdx_relations.proofs.LanguageRefusals.{nameable-word, none-over}

-- ---- metafunctions

-- where no clause has its shape there is no contract
pub no-contract : (m : MetafunctionForm) → function_in m ≡ None → m.contract ≡ None
no-contract m e = by_contract m.contract e
  where
    by_contract : (o : Option ContractForm) → function_by o m.clauses ≡ None → o ≡ None
    by_contract None f = refl
    by_contract (Some c) f = absurd cc

-- by the language and by what stands in the form
pub metafunction-refused : (S : Scope) (ns : List (List ℕ)) (d : Sexp) (m : MetafunctionForm) → metafunction_form d ≡ Some m
    → metafunction_refusal S ns d ≡ refusal_over S ns (Some m.language) (function_stands S ns m (function_in m))
metafunction-refused S ns d m e = λ i. refusal_over S ns (option_map (λ (f : MetafunctionForm). f.language) (e i)) (metafunction_stands S ns d (e i))

-- by what stands in it
pub function-refused : (S : Scope) (ns : List (List ℕ)) (m : MetafunctionForm)
    → stands_refusal S ns (function_stands S ns m (function_in m)) ≡ form_refusal S ns (bare_stands.function_stands S m (function_in m)) (metafunction_outline m (function_in m))
function-refused S ns m =
    let f = function_in m in
    form-refused S ns (function_stands S ns m f) (bare_stands.function_stands S m f) (metafunction_outline m f) (bare-function S ns m f) (function-again S ns m f)
    (λ k. function-faults k S ns m f (no-contract m))

-- without the parts of a metafunction
pub no-metafunction : (S : Scope) (ns : List (List ℕ)) (d : Sexp) → metafunction_form d ≡ None → metafunction_refusal S ns d ≡ Some (unnamed Shape d)
no-metafunction S ns d e i = metafunction_refusal_by S ns d (e i)

-- ---- judgements

-- by the language and by what stands in the form
pub judgement-refused : (S : Scope) (ns : List (List ℕ)) (d : Sexp) (f : JudgementForm) → judgement_form d ≡ Some f
    → judgement_refusal S ns d ≡ refusal_over S ns (Some f.language) (judgement_stands S ns d (Some f))
judgement-refused S ns d f e = λ i. refusal_over S ns (option_map (λ (g : JudgementForm). g.language) (e i)) (judgement_stands S ns d (e i))

-- by what stands in it
pub rules-refused : (S : Scope) (ns : List (List ℕ)) (d : Sexp) (f : JudgementForm)
    → stands_refusal S ns (judgement_stands S ns d (Some f)) ≡ form_refusal S ns (bare_stands.judgement_stands S d f) (judgement_outline f)
rules-refused S ns d f =
    form-refused S ns (judgement_stands S ns d (Some f)) (bare_stands.judgement_stands S d f) (judgement_outline f) (bare-judgement S ns d f) (judgement-again S ns d f)
    (λ k. judgement-faults k S ns d f)

-- without the parts of a judgement
pub no-judgement : (S : Scope) (ns : List (List ℕ)) (d : Sexp) → judgement_form d ≡ None → judgement_refusal S ns d ≡ Some (unnamed Shape d)
no-judgement S ns d e i = judgement_refusal_by S ns d (e i)

-- a premise by itself, and a template behind it
pub question-refused : (S : Scope) (ns : List (List ℕ)) (d : Sexp) (t : Option Sexp)
    → premise_refusal S ns d t ≡ form_refusal S ns (bare_stands.question_stands S d t) (question_outline d t)
question-refused S ns d t =
    form-refused S ns (lone_premise_stands S ns d t) (bare_stands.question_stands S d t) (question_outline d t) (bare-question S ns d t) (question-again S ns d t)
    (λ k. question-faults k S ns d t)

-- ---- what is not refused

-- of a metafunction neither the language nor what stands in it
pub metafunction-none : (S : Scope) (ns : List (List ℕ)) (d : Sexp) (m : MetafunctionForm) → metafunction_form d ≡ Some m → metafunction_refusal S ns d ≡ None
    → (unnamable_language_at (Some m.language) ≡ None) × (stands_refusal S ns (function_stands S ns m (function_in m)) ≡ None)
metafunction-none S ns d m e f =
    let ss = function_stands S ns m (function_in m) in
    none-over S ns (Some m.language) ss (ap (metafunction_refusal_by S ns d) (sym e) ∙ f)

-- its language is another than `hole`
pub metafunction-nameable : (S : Scope) (ns : List (List ℕ)) (d : Sexp) (m : MetafunctionForm) → metafunction_form d ≡ Some m → metafunction_refusal S ns d ≡ None
    → is_word (codes "hole") m.language ≡ false
metafunction-nameable S ns d m e f = nameable-word m.language (metafunction-none S ns d m e f).0

-- of a judgement neither the language nor what stands in it
pub judgement-none : (S : Scope) (ns : List (List ℕ)) (d : Sexp) (f : JudgementForm) → judgement_form d ≡ Some f → judgement_refusal S ns d ≡ None
    → (unnamable_language_at (Some f.language) ≡ None) × (stands_refusal S ns (judgement_stands S ns d (Some f)) ≡ None)
judgement-none S ns d f e g =
    let ss = judgement_stands S ns d (Some f) in
    none-over S ns (Some f.language) ss (ap (judgement_refusal_by S ns d) (sym e) ∙ g)

-- its language is another than `hole`
pub judgement-nameable : (S : Scope) (ns : List (List ℕ)) (d : Sexp) (f : JudgementForm) → judgement_form d ≡ Some f → judgement_refusal S ns d ≡ None
    → is_word (codes "hole") f.language ≡ false
judgement-nameable S ns d f e g = nameable-word f.language (judgement-none S ns d f e g).0

-- a premise by itself, and a template behind it
pub question-passed : (S : Scope) (ns : List (List ℕ)) (d : Sexp) (t : Option Sexp) → premise_refusal S ns d t ≡ None
    → ArePassed S ns (lone_premise_stands S ns d t)
question-passed S ns d t e = stands-passed S ns (lone_premise_stands S ns d t) e

-- a metafunction without a name is refused
first-misshaped : (S : Scope) (ns : List (List ℕ)) (x : List ℕ) (d : Sexp) (o : Option ClauseForm) (f : Option Sexp) (ss : List Stand) → function_or o f ≡ None → shape_faults (clause_stands S ns x d o ++ ss) ≡ [] → ⊥
first-misshaped S ns x d None f ss e h = absurd cc
first-misshaped S ns x d (Some c) f ss e h = absurd cc

pub some-function : (S : Scope) (ns : List (List ℕ)) (m : MetafunctionForm) → (m.clauses ≡ [] → ⊥) → function_in m ≡ None → shape_faults (function_stands S ns m None) ≡ [] → ⊥
some-function S ns m n e h = by_clauses m.clauses n (by_contract m.contract e) h
  where
    by_contract : (o : Option ContractForm) → function_by o m.clauses ≡ None → clauses_function m.clauses ≡ None
    by_contract None f = f
    by_contract (Some c) f = absurd cc

    by_clauses : (ds : List Sexp) → (ds ≡ [] → ⊥) → clauses_function ds ≡ None → shape_faults (clauses_stand S ns [] ds) ≡ [] → ⊥
    by_clauses [] n f g = n refl
    by_clauses (d ∷ ds) n f g = first-misshaped S ns [] d (clause_form d) (clauses_function ds) (clauses_stand S ns [] ds) f g
