-- What the readers of forms answer.
use Rattle.std.specs.Prelude.{◌≡◌, ℕ, [], List, Option, Some, None, option_map, Result, Ok, Err, IsTrue, IfSome}
use Rattle.rdx_sexp.specs.Sexp.{Sexp}
use Rattle.rdx_lang.specs.Depths.{uses}
use Rattle.rdx_lang.specs.Fitting.{fits}
use Rattle.rdx_lang.specs.Modes.{Callable}
use Rattle.rdx_lang.specs.Patterns.{Language}
use Rattle.rdx_lang.specs.Programs.{holds}
use Rattle.rdx_lang.specs.Scopes.{bound_by}
use Rattle.rdx_lang.specs.Valid.{is_valid_extra}
use Rattle.rdx_lang.specs.ProgramView.{metafunction_of, judgement_of, premise_of}
use Rattle.rdx_lang.specs.TemplateView.{template_of}
use Rattle.rdx_lang.specs.declared.program.Judgement.{Judgement}
use Rattle.rdx_lang.specs.declared.program.Metafunction.{Metafunction}
use Rattle.rdx_patterns.specs.Refusal.{refusal_of}
use Rattle.rdx_patterns.specs.declared.shape.fault.DefFault.{DefFault}
use Rattle.rdx_patterns.specs.declared.shape.fault.DefFault.TheVariants.{Refused, NoMemory}
use Rattle.rdx_parts.specs.ExtraReading.{premise_reading}
use Rattle.rdx_parts.specs.Headed.{Headed, headed}
use Rattle.rdx_defs.specs.JudgementForms.{JudgementForm, judgement_form}
use Rattle.rdx_defs.specs.JudgementReading.{judgement_reading}
use Rattle.rdx_defs.specs.JudgementRefusal.{judgement_refusal, premise_refusal}
use Rattle.rdx_defs.specs.MetafunctionForms.{MetafunctionForm, metafunction_form}
use Rattle.rdx_defs.specs.MetafunctionReading.{metafunction_reading}
use Rattle.rdx_defs.specs.MetafunctionRefusal.{metafunction_refusal}
use Rattle.rdx_templates.specs.Scope.{Scope}
use Rattle.rdx_templates.specs.TemplateReading.{template_reading}
use Rattle.rdx_parts.specs.Stands.{names_bound, bound_by_premise}
use Rattle.rdx_defs.specs.declared.judgements.premises.ReadPremise.{ReadPremise}

-- ---- metafunctions

-- the metafunction is the one that a form with these parts stands for, in this scope, over the nonterminals ns
pub record IsMetafunction (S : Scope) (ns : List (List ℕ)) (d : Sexp) (f : Metafunction) : Type 0 where
  pub passes : metafunction_refusal S ns d ≡ None
  pub parts : MetafunctionForm
  pub is_form : metafunction_form d ≡ Some parts
  pub is_read : metafunction_of f ≡ metafunction_reading S ns parts

-- the datum is refused so as a metafunction, unless memory ran out
abbrev pub IsMetafunctionFault : Scope → List (List ℕ) → Sexp → DefFault → Type 0
IsMetafunctionFault S ns d (Refused r) = metafunction_refusal S ns d ≡ Some (refusal_of r)
IsMetafunctionFault S ns d NoMemory = Unit {0}

-- the datum is this metafunction in this scope, over the nonterminals ns, or it is refused so
abbrev pub ReadsMetafunction : Scope → List (List ℕ) → Sexp → Result Metafunction DefFault → Type 0
ReadsMetafunction S ns d (Ok f) = IsMetafunction S ns d f
ReadsMetafunction S ns d (Err e) = IsMetafunctionFault S ns d e

-- ---- judgements

-- the judgement is the one that a form with these parts stands for, in this scope, over the nonterminals ns
pub record IsJudgement (S : Scope) (ns : List (List ℕ)) (d : Sexp) (j : Judgement) : Type 0 where
  pub passes : judgement_refusal S ns d ≡ None
  pub parts : JudgementForm
  pub is_form : judgement_form d ≡ Some parts
  pub is_read : judgement_of j ≡ judgement_reading S ns parts

-- the datum is refused so as a judgement, unless memory ran out
abbrev pub IsJudgementFault : Scope → List (List ℕ) → Sexp → DefFault → Type 0
IsJudgementFault S ns d (Refused r) = judgement_refusal S ns d ≡ Some (refusal_of r)
IsJudgementFault S ns d NoMemory = Unit {0}

-- the datum is this judgement in this scope, over the nonterminals ns, or it is refused so
abbrev pub ReadsJudgement : Scope → List (List ℕ) → Sexp → Result Judgement DefFault → Type 0
ReadsJudgement S ns d (Ok j) = IsJudgement S ns d j
ReadsJudgement S ns d (Err e) = IsJudgementFault S ns d e

-- ---- premises by themselves

-- the premise is the one that such a list stands for, and the template behind it, where there is one, is read behind its names
pub record IsPremise (S : Scope) (ns : List (List ℕ)) (d : Sexp) (t : Option Sexp) (q : ReadPremise) : Type 0 where
  pub passes : premise_refusal S ns d t ≡ None
  pub parts : Headed
  pub is_form : headed d ≡ Some parts
  pub is_read : premise_of q.premise ≡ premise_reading S ns [] parts
  pub result : option_map template_of q.result ≡ option_map (template_reading S (names_bound (bound_by_premise S ns (headed d)))) t

-- they are refused so, unless memory ran out
abbrev pub IsPremiseFault : Scope → List (List ℕ) → Sexp → Option Sexp → DefFault → Type 0
IsPremiseFault S ns d t (Refused r) = premise_refusal S ns d t ≡ Some (refusal_of r)
IsPremiseFault S ns d t NoMemory = Unit {0}

-- they are this premise and this template in this scope, over the nonterminals ns, or they are refused so
abbrev pub ReadsPremise : Scope → List (List ℕ) → Sexp → Option Sexp → Result ReadPremise DefFault → Type 0
ReadsPremise S ns d t (Ok q) = IsPremise S ns d t q
ReadsPremise S ns d t (Err e) = IsPremiseFault S ns d t e

-- the premise is valid in the language, where no name is bound before it
abbrev pub IsValidPremise : Callable → Language → ReadPremise → Type 0
IsValidPremise C L q = IsTrue (is_valid_extra C L [] (holds (premise_of q.premise)))

-- the template behind it, where there is one, fits the names that it binds
abbrev pub FitsBehind : Callable → ReadPremise → Type 0
FitsBehind C q = IfSome q.result (λ t. IsTrue (fits C.functions (bound_by (uses 0 (premise_of q.premise).outputs)) 0 (template_of t)))
