-- What one form adds to what a file defines and asks.
use Rattle.std.specs.Prelude.{◌≡◌, List, [], ◌∷◌, ◌++◌, Result, Ok, Err}
use Rattle.rdx_sexp.specs.Sexp.{Sexp}
use Rattle.rdx_patterns.specs.declared.shape.fault.DefFault.{DefFault}
use Rattle.rdx_forms.specs.Definitions.{Defined}
use Rattle.rdx_forms.specs.OneForm.{Defines, Asks, IsPassedOver}
use Rattle.rdx_forms.specs.Known.{Known, with_definition}
use Rattle.rdx_answer.specs.Queries.{Query}
use Rattle.rdx_answer.specs.Views.{query_of}
use Rattle.rdx_forms.specs.Answers.{IsFormFault}
use Rattle.rdx_answer.specs.declared.queries.Query as code_query

-- behind K and the queries qs the form is accepted, and J and rs are those with what it adds
pub data Step (K : Known) (qs : List Query) (d : Sexp) (J : Known) (rs : List Query) : Type 0 where
  step_defines : (x : Defined) → Defines K d x → J ≡ with_definition K x → rs ≡ qs → Step K qs d J rs
  step_asks : (q : Query) → Asks K d q → J ≡ K → rs ≡ qs ++ q ∷ [] → Step K qs d J rs
  step_passes : IsPassedOver K d → J ≡ K → rs ≡ qs → Step K qs d J rs

-- the form adds what it does, or it is refused
abbrev pub StepsBy : {A : Type 0} → Known → List Query → Sexp → Result A DefFault → Known → List Query → Type 0
StepsBy K qs d (Ok x) J rs = Step K qs d J rs
StepsBy K qs d (Err e) J rs = IsFormFault K d e

-- the form defines something, and J is what is known with it
pub record IsAdded (K : Known) (d : Sexp) (J : Known) : Type 0 where
  pub defined : Defined
  pub defines : Defines K d defined
  pub known : J ≡ with_definition K defined

-- the answer to a form that defines something
abbrev pub AddsBy : {A : Type 0} → Known → Sexp → Result A DefFault → Known → Type 0
AddsBy K d (Ok x) J = IsAdded K d J
AddsBy K d (Err e) J = IsFormFault K d e

-- the answer to a form that asks something
abbrev pub AsksQuery : Known → Sexp → Result code_query.Query DefFault → Type 0
AsksQuery K d (Ok q) = Asks K d (query_of K.forms q)
AsksQuery K d (Err e) = IsFormFault K d e

-- the answer to a form that is passed over, whatever is known
abbrev pub PassesBy : {A : Type 0} → Sexp → Result A DefFault → Type 0
PassesBy d (Ok x) = (K : Known) → IsPassedOver K d
PassesBy d (Err e) = (K : Known) → IsFormFault K d e
