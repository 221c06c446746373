-- What is answered by the shape of a form that asks something.
use Rattle.std.specs.Prelude.{◌≡◌, true, List, [], ◌∷◌, Option, Some, None, Result, Ok, Err, Vec, map}
use Rattle.std.specs.declared.alloc.Global.{Global}
use Rattle.rdx_sexp.specs.Sexp.{Sexp}
use Rattle.rdx_lang.specs.TemplateView.{host_of}
use Rattle.rdx_lang.specs.declared.template.HostExpr.{HostExpr}
use Rattle.rdx_templates.specs.Scope.{Scope}
use Rattle.rdx_templates.specs.TemplateReading.{host_reading}
use Rattle.rdx_templates.specs.TemplateRefusal.{host_refusal}
use Rattle.rdx_patterns.specs.Parts.{is_symbol}
use Rattle.rdx_patterns.specs.Refusal.{Refusal}
use Rattle.rdx_patterns.specs.declared.shape.fault.DefFault.{DefFault}
use Rattle.rdx_forms.specs.AlphaForms.{AlikeParts, PutParts, alike_parts, put_parts, alike_refusal, put_refusal}
use Rattle.rdx_forms.specs.HoldsForms.{HoldsParts, holds_parts, holds_refusal}
use Rattle.rdx_forms.specs.Known.{Known}
use Rattle.rdx_forms.specs.MatchForms.{QueryParts, query_parts, query_refusal}
use Rattle.rdx_forms.specs.StepForms.{StepParts, step_parts, steps_refusal}
use Rattle.rdx_forms.specs.TestForms.{EqualParts, LeadingParts, equal_parts, leading_parts, equal_refusal, leading_refusal}
use Rattle.rdx_forms.specs.Reported.{earlier}
use Rattle.rdx_forms.specs.Faults.{IsFaultAt}
use Rattle.rdx_forms.specs.Inside.PartViews.{alike_of, equals_of, holds_of, leading_of, parts_of, put_of, steps_of}
use Rattle.rdx_forms.specs.declared.parts.AlikeParts as code_alike
use Rattle.rdx_forms.specs.declared.parts.EqualParts as code_equal
use Rattle.rdx_forms.specs.declared.parts.HoldsParts as code_holds
use Rattle.rdx_forms.specs.declared.parts.LeadingParts as code_leading
use Rattle.rdx_forms.specs.declared.parts.PutParts as code_put
use Rattle.rdx_forms.specs.declared.parts.QueryParts as code_query
use Rattle.rdx_forms.specs.declared.parts.StepParts as code_steps

-- ---- matches and splits

-- the query d has its shape, with these parts
pub record IsFit (d : Sexp) (q : QueryParts) : Type 0 where
  pub parts : query_parts d ≡ Some q
  pub symbol : is_symbol q.language ≡ true

-- the answer of the check of its shape
abbrev pub FitsBy : Sexp → Result code_query.QueryParts DefFault → Type 0
FitsBy d (Ok q) = IsFit d (parts_of q)
FitsBy d (Err e) = (K : Known) → IsFaultAt (query_refusal K d (query_parts d)) e

-- ---- steps

-- the form d that asks for steps has its shape, with these parts
pub record IsStepFit (d : Sexp) (q : StepParts) : Type 0 where
  pub parts : step_parts d ≡ Some q
  pub symbol : is_symbol q.relation ≡ true

-- the answer of the check of its shape
abbrev pub StepFitsBy : Sexp → Result code_steps.StepParts DefFault → Type 0
StepFitsBy d (Ok q) = IsStepFit d (steps_of q)
StepFitsBy d (Err e) = (K : Known) → IsFaultAt (steps_refusal K d (step_parts d)) e

-- ---- premises

-- the form d that asks whether a premise is met has these parts
pub record IsHoldsFit (d : Sexp) (q : HoldsParts) : Type 0 where
  pub parts : holds_parts d ≡ Some q

-- the answer of the check of its shape
abbrev pub HoldsFitsBy : Sexp → Result code_holds.HoldsParts DefFault → Type 0
HoldsFitsBy d (Ok q) = IsHoldsFit d (holds_of q)
HoldsFitsBy d (Err e) = (K : Known) → IsFaultAt (holds_refusal K d (holds_parts d)) e

-- ---- host expressions in their order

-- the refusal of host expressions where no name is bound: by the check with the least number, of the first that it refuses
abbrev pub hosts_refusal : Scope → List Sexp → Option Refusal
hosts_refusal S [] = None
hosts_refusal S (d ∷ ds) = earlier (host_refusal S [] d) (hosts_refusal S ds)

-- these are what the data read as, or they are refused
abbrev pub ReadsHosts : Scope → List Sexp → Result (Vec HostExpr Global) DefFault → Type 0
ReadsHosts S ds (Ok hs) = (hosts_refusal S ds ≡ None) × (map host_of hs.items ≡ map (host_reading S []) ds)
ReadsHosts S ds (Err e) = IsFaultAt (hosts_refusal S ds) e

-- ---- tests of two host expressions

-- the form d has its shape, with these parts
pub record IsEqualFit (d : Sexp) (q : EqualParts) : Type 0 where
  pub parts : equal_parts d ≡ Some q

-- the answer of the check of its shape
abbrev pub EqualFitsBy : Sexp → Result code_equal.EqualParts DefFault → Type 0
EqualFitsBy d (Ok q) = IsEqualFit d (equals_of q)
EqualFitsBy d (Err e) = (K : Known) → IsFaultAt (equal_refusal K d (equal_parts d)) e

-- ---- under binding forms

-- the form d that asks whether terms are alpha equivalent has its shape, with these parts
pub record IsAlikeFit (d : Sexp) (q : AlikeParts) : Type 0 where
  pub parts : alike_parts d ≡ Some q

-- the answer of the check of its shape
abbrev pub AlikeFitsBy : Sexp → Result code_alike.AlikeParts DefFault → Type 0
AlikeFitsBy d (Ok q) = IsAlikeFit d (alike_of q)
AlikeFitsBy d (Err e) = (K : Known) → IsFaultAt (alike_refusal K d (alike_parts d)) e

-- the form d that puts a term for a symbol has its shape, with these parts
pub record IsPutFit (d : Sexp) (q : PutParts) : Type 0 where
  pub parts : put_parts d ≡ Some q

-- the answer of the check of its shape
abbrev pub PutFitsBy : Sexp → Result code_put.PutParts DefFault → Type 0
PutFitsBy d (Ok q) = IsPutFit d (put_of q)
PutFitsBy d (Err e) = (K : Known) → IsFaultAt (put_refusal K d (put_parts d)) e

-- ---- tests of a relation

-- the form d has its shape, with these parts
pub record IsLeadingFit (d : Sexp) (q : LeadingParts) : Type 0 where
  pub parts : leading_parts d ≡ Some q

-- the answer of the check of its shape
abbrev pub LeadingFitsBy : Sexp → Result code_leading.LeadingParts DefFault → Type 0
LeadingFitsBy d (Ok q) = IsLeadingFit d (leading_of q)
LeadingFitsBy d (Err e) = (K : Known) → IsFaultAt (leading_refusal K d (leading_parts d)) e
