-- Steps of a file, as the code takes them.
use Rattle.std.proofs.Common.{◌≡◌, ◌++◌, List, [], ◌∷◌, Result, Ok, Err, map, refl, ◌∙◌, ap}
use Rattle.std.proofs.lemmas.List.{map-append}
use Rattle.std.specs.Prelude.{OnOk}
use Rattle.rdx_sexp.specs.Sexp.{Sexp}
use Rattle.rdx_patterns.specs.declared.shape.fault.DefFault.{DefFault}
use Rattle.rdx_forms.specs.OneForm.{Asks}
use Rattle.rdx_forms.specs.KnownView.{known_of}
use Rattle.rdx_query.specs.Inside.Steps.{Step, step_defines, step_asks, step_passes, StepsBy, IsAdded, AddsBy, PassesBy}
use Rattle.rdx_forms.specs.Known.{Known}
use Rattle.rdx_answer.specs.Queries as model
use Rattle.rdx_answer.specs.Views.{query_of}
use Rattle.rdx_answer.specs.declared.queries.Query.{Query}
use Rattle.rdx_forms.specs.declared.known.Known as code_known

-- what is added is a step
added_step : (K J : Known) (qs : List model.Query) (d : Sexp) → IsAdded K d J → Step K qs d J qs
added_step K J qs d a = step_defines a.defined a.defines a.known refl

-- what is answered to a form that defines something is a step
pub adds_step : {A : Type 0} (K J : Known) (qs : List model.Query) (d : Sexp) (x : Result A DefFault) → AddsBy K d x J → StepsBy K qs d x J qs
adds_step K J qs d (Ok y) a = added_step K J qs d a
adds_step K J qs d (Err e) a = a

-- so is what is answered to one that is passed over
pub passes_step : {A : Type 0} (K : Known) (qs : List model.Query) (d : Sexp) (x : Result A DefFault) → PassesBy d x → StepsBy K qs d x K qs
passes_step K qs d (Ok y) a = step_passes (a K) refl refl
passes_step K qs d (Err e) a = a K

-- a query is added
pub query_step : (p r : code_known.Known) (us vs : List Query) (q : Query) (d : Sexp) → known_of r ≡ known_of p → vs ≡ us ++ q ∷ []
    → Asks (known_of p) d (query_of (known_of p).forms q)
    → Step (known_of p) (map (query_of (known_of p).forms) us) d (known_of r) (map (query_of (known_of p).forms) vs)
query_step p r us vs q d s e a =
    let ask = query_of (known_of p).forms in
    step_asks (ask q) a s (ap (map ask) e ∙ map-append ask us (q ∷ []))

-- ---- the binding forms of languages stay

-- behind a form that defines something
pub adds_forms : {A : Type 0} (K J : Known) (d : Sexp) (x : Result A DefFault) → AddsBy K d x J → OnOk x (J.forms ≡ K.forms)
adds_forms K J d (Ok y) a = ap (λ (I : Known). I.forms) a.known
adds_forms K J d (Err e) a = tt

-- and behind one that is passed over
pub passes_forms : {A : Type 0} (K : Known) (x : Result A DefFault) → OnOk x (K.forms ≡ K.forms)
passes_forms K (Ok y) = refl
passes_forms K (Err e) = tt
