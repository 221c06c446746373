-- What is answered to one form that defines something or asks something.
use Rattle.std.specs.Prelude.{◌≡◌, Option, Some, None, option_map, Result, Ok, Err, ℕ, List, map}
use Rattle.rdx_sexp.specs.Sexp.{Sexp}
use Rattle.rdx_lang.specs.Checked.{language_in, pattern_in}
use Rattle.rdx_lang.specs.ProgramView.{judgement_of, metafunction_of, relation_of, premise_of}
use Rattle.rdx_lang.specs.declared.checked.CheckedLang.{CheckedLang}
use Rattle.rdx_lang.specs.declared.program.Judgement.{Judgement}
use Rattle.rdx_lang.specs.declared.program.Metafunction.{Metafunction}
use Rattle.rdx_lang.specs.declared.program.Relation.{Relation}
use Rattle.rdx_patterns.specs.Refusal.{refusal_of}
use Rattle.rdx_patterns.specs.declared.shape.fault.DefFault.{DefFault}
use Rattle.rdx_patterns.specs.declared.shape.fault.DefFault.TheVariants.{Refused, NoMemory}
use Rattle.rdx_forms.specs.Definitions.{language, metafunction, judgement, relation}
use Rattle.rdx_forms.specs.OneForm.{Defines, IsRefusedForm}
use Rattle.rdx_forms.specs.Known.{Known}
use Rattle.rdx_forms.specs.Faults.{IsFaultAt}
use Rattle.rdx_lang.specs.Patterns.{Pattern}
use Rattle.rdx_lang.specs.Programs.{Premise}
use Rattle.rdx_lang.specs.Templates.{Host, Template}
use Rattle.rdx_lang.specs.TemplateView.{host_of, template_of}
use Rattle.rdx_lang.specs.declared.program.Premise as code_premise
use Rattle.rdx_defs.specs.declared.judgements.premises.ReadPremise.{ReadPremise}
use Rattle.rdx_forms.specs.HoldsForms.{holds_parts, lone_parts, holds_refusal, holds_query, holds_test_query}
use Rattle.rdx_forms.specs.MatchForms.{query_parts, query_refusal, match_query}
use Rattle.rdx_forms.specs.GenerateForms.{generate_parts, check_parts, generate_refusal, check_refusal, generate_query, check_query}
use Rattle.rdx_forms.specs.declared.generate_forms.Generating.{Generating}
use Rattle.rdx_forms.specs.declared.generate_forms.Checking.{Checking}
use Rattle.rdx_answer.specs.Bound.{forms_named}
use Rattle.rdx_answer.specs.Queries.{Query, generate, check, alike, substituted, holds, test_equal, test_holds}
use Rattle.rdx_forms.specs.AlphaForms.{alike_parts, put_parts, alike_refusal, put_refusal, alike_query, put_query}
use Rattle.rdx_forms.specs.StepForms.{step_parts, steps_refusal, steps_query}
use Rattle.rdx_forms.specs.TestForms.{equal_parts, leading_parts, equal_refusal, leading_refusal, equal_query, leading_query}
use Rattle.rdx_forms.specs.declared.alpha_forms.Alike.{Alike}
use Rattle.rdx_forms.specs.declared.alpha_forms.Putting.{Putting}
use Rattle.rdx_forms.specs.declared.match_forms.Asked.{Asked}
use Rattle.rdx_forms.specs.declared.step_forms.Stepping.{Stepping}
use Rattle.rdx_forms.specs.declared.test_forms.Leading.{Leading}
use Rattle.rdx_forms.specs.declared.test_forms.Same.{Same}

-- ---- forms that define something

-- the form is refused so, unless memory ran out
abbrev pub IsFormFault : Known → Sexp → DefFault → Type 0
IsFormFault K d (Refused r) = IsRefusedForm K d (refusal_of r)
IsFormFault K d NoMemory = Unit {0}

-- the answer to a form that defines a language
abbrev pub DefinesBy : Known → Sexp → Result CheckedLang DefFault → Type 0
DefinesBy K d (Ok c) = Defines K d (language (language_in c))
DefinesBy K d (Err e) = IsFormFault K d e

-- the answer to a form that defines a metafunction
abbrev pub FunctionsBy : Known → Sexp → Result Metafunction DefFault → Type 0
FunctionsBy K d (Ok f) = Defines K d (metafunction (metafunction_of f))
FunctionsBy K d (Err e) = IsFormFault K d e

-- the answer to a form that defines a judgement
abbrev pub JudgementsBy : Known → Sexp → Result Judgement DefFault → Type 0
JudgementsBy K d (Ok j) = Defines K d (judgement (judgement_of j))
JudgementsBy K d (Err e) = IsFormFault K d e

-- the answer to a form that defines a relation
abbrev pub RelatesBy : Known → Sexp → Result Relation DefFault → Type 0
RelatesBy K d (Ok r) = Defines K d (relation (relation_of r))
RelatesBy K d (Err e) = IsFormFault K d e

-- ---- forms that ask something

-- the query is accepted, and asks for the pattern p and what h makes in the language of this name
pub record IsAsked (K : Known) (d : Sexp) (name : List ℕ) (p : Pattern) (h : Host) : Type 0 where
  pub passes : query_refusal K d (query_parts d) ≡ None
  pub means : (kind : List ℕ → Pattern → Host → Query) → match_query K kind d ≡ Some (kind name p h)

-- the answer to the query
abbrev pub AsksBy : Known → Sexp → Result Asked DefFault → Type 0
AsksBy K d (Ok a) = IsAsked K d a.name (pattern_in a.pat) (host_of a.host)
AsksBy K d (Err e) = IsFaultAt (query_refusal K d (query_parts d)) e

-- the form is accepted, and asks for a term of the pattern p with this size, in the language of this name, from the words of this seed
pub record IsGenerating (K : Known) (d : Sexp) (name : List ℕ) (p : Pattern) (size seed : ℕ) : Type 0 where
  pub passes : generate_refusal K d (generate_parts d) ≡ None
  pub means : generate_query K d ≡ Some (generate name p size seed)

-- the answer to the form
abbrev pub GenerateAskedBy : Known → Sexp → Result Generating DefFault → Type 0
GenerateAskedBy K d (Ok a) = IsGenerating K d a.name (pattern_in a.pat) a.size a.seed
GenerateAskedBy K d (Err e) = IsFaultAt (generate_refusal K d (generate_parts d)) e

-- the form is accepted, and asks whether h makes #f for one of so many terms
pub record IsChecking (K : Known) (d : Sexp) (name : List ℕ) (p : Pattern) (h : Host) (attempts seed : ℕ) : Type 0 where
  pub passes : check_refusal K d (check_parts d) ≡ None
  pub means : check_query K d ≡ Some (check name p h attempts seed)

-- the answer to the form
abbrev pub CheckAskedBy : Known → Sexp → Result Checking DefFault → Type 0
CheckAskedBy K d (Ok a) = IsChecking K d a.name (pattern_in a.pat) (host_of a.host) a.attempts a.seed
CheckAskedBy K d (Err e) = IsFaultAt (check_refusal K d (check_parts d)) e

-- the form is accepted, and asks for steps of the relation of this name from what h makes
pub record IsStepping (K : Known) (d : Sexp) (name : List ℕ) (h : Host) : Type 0 where
  pub passes : steps_refusal K d (step_parts d) ≡ None
  pub means : (kind : List ℕ → Host → Query) → steps_query K kind d ≡ Some (kind name h)

-- the answer to the form
abbrev pub StepsAskedBy : Known → Sexp → Result Stepping DefFault → Type 0
StepsAskedBy K d (Ok a) = IsStepping K d a.relation (host_of a.host)
StepsAskedBy K d (Err e) = IsFaultAt (steps_refusal K d (step_parts d)) e

-- the form is accepted, and asks for this premise, and for this template behind it, where there is one
pub record IsHolding (K : Known) (d : Sexp) (q : Premise) (t : Option Template) : Type 0 where
  pub passes : holds_refusal K d (holds_parts d) ≡ None
  pub means : holds_query K d ≡ Some (holds q t)

-- the answer to the form
abbrev pub HoldsAskedBy : Known → Sexp → Result ReadPremise DefFault → Type 0
HoldsAskedBy K d (Ok q) = IsHolding K d (premise_of q.premise) (option_map template_of q.result)
HoldsAskedBy K d (Err e) = IsFaultAt (holds_refusal K d (holds_parts d)) e

-- the form is accepted, and is the test that this premise is met
pub record IsHoldsTest (K : Known) (d : Sexp) (q : Premise) : Type 0 where
  pub passes : holds_refusal K d (lone_parts d) ≡ None
  pub means : holds_test_query K d ≡ Some (test_holds q)

-- the answer to the form
abbrev pub HoldsTestedBy : Known → Sexp → Result code_premise.Premise DefFault → Type 0
HoldsTestedBy K d (Ok q) = IsHoldsTest K d (premise_of q)
HoldsTestedBy K d (Err e) = IsFaultAt (holds_refusal K d (lone_parts d)) e

-- the form is accepted, and is the test that these make the same
pub record IsSame (K : Known) (d : Sexp) (h k : Host) : Type 0 where
  pub passes : equal_refusal K d (equal_parts d) ≡ None
  pub means : equal_query K d ≡ Some (test_equal h k)

-- the answer to the form
abbrev pub EqualAskedBy : Known → Sexp → Result Same DefFault → Type 0
EqualAskedBy K d (Ok a) = IsSame K d (host_of a.found) (host_of a.wanted)
EqualAskedBy K d (Err e) = IsFaultAt (equal_refusal K d (equal_parts d)) e

-- the form is accepted, and asks whether these make alpha equivalent terms, in the language of this name
pub record IsAlikeAsked (K : Known) (d : Sexp) (name : List ℕ) (h k : Host) : Type 0 where
  pub passes : alike_refusal K d (alike_parts d) ≡ None
  pub means : alike_query K d ≡ Some (alike (forms_named K.forms name) h k)

-- the answer to the form
abbrev pub AlikeAskedBy : Known → Sexp → Result Alike DefFault → Type 0
AlikeAskedBy K d (Ok a) = IsAlikeAsked K d a.name (host_of a.one) (host_of a.other)
AlikeAskedBy K d (Err e) = IsFaultAt (alike_refusal K d (alike_parts d)) e

-- the form is accepted, and asks for what the first makes with what the last makes put for what the other makes, in the language of this name
pub record IsPutAsked (K : Known) (d : Sexp) (name : List ℕ) (h k l : Host) : Type 0 where
  pub passes : put_refusal K d (put_parts d) ≡ None
  pub means : put_query K d ≡ Some (substituted (forms_named K.forms name) h k l)

-- the answer to the form
abbrev pub PutAskedBy : Known → Sexp → Result Putting DefFault → Type 0
PutAskedBy K d (Ok a) = IsPutAsked K d a.name (host_of a.whole) (host_of a.symbol) (host_of a.value)
PutAskedBy K d (Err e) = IsFaultAt (put_refusal K d (put_parts d)) e

-- the form is accepted, and is a test of the relation of this name, from what h makes to what the others make
pub record IsLeading (K : Known) (d : Sexp) (name : List ℕ) (h : Host) (hs : List Host) : Type 0 where
  pub passes : leading_refusal K d (leading_parts d) ≡ None
  pub means : (kind : List ℕ → Host → List Host → Query) → leading_query K kind d ≡ Some (kind name h hs)

-- the answer to the form
abbrev pub LeadingAskedBy : Known → Sexp → Result Leading DefFault → Type 0
LeadingAskedBy K d (Ok a) = IsLeading K d a.relation (host_of a.from) (map host_of a.wanted.items)
LeadingAskedBy K d (Err e) = IsFaultAt (leading_refusal K d (leading_parts d)) e
