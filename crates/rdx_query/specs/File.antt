-- What a file means, form by form, or the first refusal of its forms.
use Rattle.std.specs.Prelude.{List, [], ◌∷◌}
use Rattle.rdx_sexp.specs.Sexp.{Sexp}
use Rattle.rdx_lang.specs.Programs.{Program}
use Rattle.rdx_patterns.specs.Refusal.{Refusal}
use Rattle.rdx_forms.specs.Definitions.{Defined}
use Rattle.rdx_forms.specs.Known.{Known, with_definition}
use Rattle.rdx_answer.specs.Queries.{Query}
use Rattle.rdx_forms.specs.OneForm.{Defines, Asks, IsPassedOver, IsRefusedForm}
use Rattle.rdx_forms.specs.Before.{known_before}

-- behind forms that define K, all forms are accepted; J is what all define together, and qs are the queries
pub data Accepts : Known → List Sexp → Known → List Query → Type 0 where
  accepts_none : {K : Known} → Accepts K [] K []
  accepts_definition : {K J : Known} {d : Sexp} {ds : List Sexp} {x : Defined} {qs : List Query} →
      Defines K d x → Accepts (with_definition K x) ds J qs → Accepts K (d ∷ ds) J qs
  accepts_query : {K J : Known} {d : Sexp} {ds : List Sexp} {q : Query} {qs : List Query} →
      Asks K d q → Accepts K ds J qs → Accepts K (d ∷ ds) J (q ∷ qs)
  accepts_passed : {K J : Known} {d : Sexp} {ds : List Sexp} {qs : List Query} →
      IsPassedOver K d → Accepts K ds J qs → Accepts K (d ∷ ds) J qs

-- behind such forms, r is the refusal of the first form that is refused
pub data Refuses : Known → List Sexp → Refusal → Type 0 where
  refuses_here : {K : Known} {d : Sexp} {ds : List Sexp} {r : Refusal} → IsRefusedForm K d r → Refuses K (d ∷ ds) r
  refuses_behind_definition : {K : Known} {d : Sexp} {ds : List Sexp} {x : Defined} {r : Refusal} →
      Defines K d x → Refuses (with_definition K x) ds r → Refuses K (d ∷ ds) r
  refuses_behind_query : {K : Known} {d : Sexp} {ds : List Sexp} {q : Query} {r : Refusal} →
      Asks K d q → Refuses K ds r → Refuses K (d ∷ ds) r
  refuses_behind_passed : {K : Known} {d : Sexp} {ds : List Sexp} {r : Refusal} →
      IsPassedOver K d → Refuses K ds r → Refuses K (d ∷ ds) r

-- ---- whole files

-- the data of a file are accepted; they define this program, and ask these queries
abbrev pub IsFile : List Sexp → Program → List Query → Type 0
IsFile ds P qs = Accepts (known_before ds) ds (record (known_before ds) { program = P }) qs

-- r is the refusal of a file with these data
abbrev pub IsFileRefusal : List Sexp → Refusal → Type 0
IsFileRefusal ds r = Refuses (known_before ds) ds r
