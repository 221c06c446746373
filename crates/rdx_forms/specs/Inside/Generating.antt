-- What is answered by the shape of a form that generates a term or checks a property, and what is read of its parts.
use Rattle.std.specs.Prelude.{◌≡◌, ℕ, List, [], ◌∷◌, ◌++◌, Option, Some, None, Result, Ok, Err}
use Rattle.rdx_sexp.specs.Sexp.{Sexp}
use Rattle.rdx_lang.specs.Checked.{pattern_in}
use Rattle.rdx_lang.specs.TemplateView.{host_of}
use Rattle.rdx_lang.specs.declared.checked.CheckedPat.{CheckedPat}
use Rattle.rdx_lang.specs.declared.template.HostExpr.{HostExpr}
use Rattle.rdx_parts.specs.Stands.{bound_in, names_bound}
use Rattle.rdx_patterns.specs.Occurrences.{occurrences}
use Rattle.rdx_patterns.specs.PatternChecks.{bad_binders}
use Rattle.rdx_patterns.specs.PatternRefusal.{pattern_refusal}
use Rattle.rdx_patterns.specs.Reading.{reading}
use Rattle.rdx_patterns.specs.Refusal.{Refusal}
use Rattle.rdx_patterns.specs.declared.patterns.position.Position.TheVariants as position
use Rattle.rdx_patterns.specs.declared.shape.fault.DefFault.{DefFault}
use Rattle.rdx_templates.specs.Bound.{Bound}
use Rattle.rdx_templates.specs.Scope.{Scope}
use Rattle.rdx_templates.specs.TemplateReading.{host_reading}
use Rattle.rdx_templates.specs.TemplateRefusal.{host_refusal}
use Rattle.rdx_forms.specs.Faults.{IsFaultAt}
use Rattle.rdx_forms.specs.GenerateForms.{GenerateParts, generate_refusal, check_refusal, numbers_at, size_faults, generate_options, check_options, usual_attempts, usual_seed}
use Rattle.rdx_forms.specs.Known.{Known}
use Rattle.rdx_forms.specs.Options.{attempts_option, number, number_or, option_faults, option_number, seed_option}
use Rattle.rdx_forms.specs.Reported.{earlier}
use Rattle.rdx_forms.specs.Inside.PartViews.{generate_of}
use Rattle.rdx_forms.specs.declared.parts.GenerateParts as code

-- ---- the shape

-- the fault is that of a form without its shape, of whichever kind it is
pub record IsGenerateFault (d : Sexp) (o : Option GenerateParts) (e : DefFault) : Type 0 where
  pub generate : (K : Known) → IsFaultAt (generate_refusal K d o) e
  pub check : (K : Known) → IsFaultAt (check_refusal K d o) e

-- the answer of the check of the shape of the form d, which has these parts, if it has its shape
abbrev pub GenerateFitsBy : Sexp → Option GenerateParts → Result code.GenerateParts DefFault → Type 0
GenerateFitsBy d o (Ok q) = o ≡ Some (generate_of q)
GenerateFitsBy d o (Err e) = IsGenerateFault d o e

-- ---- numbers

-- what is at fault in the numbers of a form that generates a term
abbrev pub generate_faults : GenerateParts → List Sexp
generate_faults q = size_faults q.third ++ option_faults generate_options q.options

-- and of one that checks a property
abbrev pub check_faults : GenerateParts → List Sexp
check_faults q = option_faults check_options q.options

-- nothing is at fault, or the fault is that of these data
abbrev pub PassesBy : {A : Type 0} → List Sexp → Result A DefFault → Type 0
PassesBy ds (Ok u) = ds ≡ []
PassesBy ds (Err e) = IsFaultAt (numbers_at ds) e

-- the numbers are these two, and nothing is at fault, or they are refused so
abbrev pub ReadsNumbers : List Sexp → ℕ → ℕ → Result (ℕ × ℕ) DefFault → Type 0
ReadsNumbers ds n m (Ok v) = (ds ≡ []) × ((v.0 ≡ n) × (v.1 ≡ m))
ReadsNumbers ds n m (Err e) = IsFaultAt (numbers_at ds) e

-- the size and the seed
abbrev pub GenerateNumbers : GenerateParts → Result (ℕ × ℕ) DefFault → Type 0
GenerateNumbers q r = ReadsNumbers (generate_faults q) (number_or 0 (number q.third)) (number_or usual_seed (option_number seed_option q.options)) r

-- the attempts and the seed
abbrev pub CheckNumbers : GenerateParts → Result (ℕ × ℕ) DefFault → Type 0
CheckNumbers q r =
    ReadsNumbers (check_faults q) (number_or usual_attempts (option_number attempts_option q.options)) (number_or usual_seed (option_number seed_option q.options)) r

-- ---- the pattern and the host expression

-- these names, where no data are at fault
abbrev pub names_unless : List Sexp → Bound → Bound
names_unless [] bs = bs
names_unless (d ∷ ds) bs = []

-- the names with which a host expression is read: those that the pattern binds, where it binds none that may not be
abbrev pub names_to_read : List (List ℕ) → Sexp → Bound
names_to_read ns p = names_unless (bad_binders (occurrences 0 p)) (names_bound (bound_in ns p))

-- the refusal of a pattern and of a host expression in which its names are bound
abbrev pub both_refusal : Scope → List (List ℕ) → Sexp → Sexp → Option Refusal
both_refusal S ns p h = earlier (pattern_refusal ns p) (host_refusal S (names_bound (bound_in ns p)) h)

-- they read as these
pub record AreRead (S : Scope) (ns : List (List ℕ)) (p h : Sexp) (c : CheckedPat) (x : HostExpr) : Type 0 where
  pub passes : both_refusal S ns p h ≡ None
  pub pattern : pattern_in c ≡ reading ns position.Query p
  pub host : host_of x ≡ host_reading S (names_bound (bound_in ns p)) h

-- or they are refused so
abbrev pub ReadsBoth : Scope → List (List ℕ) → Sexp → Sexp → Result (CheckedPat × HostExpr) DefFault → Type 0
ReadsBoth S ns p h (Ok r) = AreRead S ns p h r.0 r.1
ReadsBoth S ns p h (Err e) = IsFaultAt (both_refusal S ns p h) e
