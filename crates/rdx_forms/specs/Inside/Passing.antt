-- What is answered to a form that is passed over.
use Rattle.std.specs.Prelude.{List, [], ◌∷◌, Option, option_map}
use Rattle.rdx_sexp.specs.Sexp.{Sexp}
use Rattle.rdx_patterns.specs.Refusal.{Refusal, unnamed, first, first_refusal}
use Rattle.rdx_patterns.specs.declared.shape.fault.DefKind.TheVariants.{Shape, RacketEscape}
use Rattle.rdx_forms.specs.PassedForms.{unnamed_modules, other_modules}

-- the refusal of wanted modules
abbrev pub modules_refusal : List Sexp → Option Refusal
modules_refusal ds =
    first_refusal
    (option_map (unnamed Shape) (first (unnamed_modules ds)) ∷ option_map (unnamed RacketEscape) (first (other_modules ds)) ∷ [])
