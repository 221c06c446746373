-- The arguments of conclusions and premises. In a conclusion patterns stand at the inputs and templates at the outputs; in a premise it is the other
-- way round. Where the mode is not known, or there are not as many arguments as it has, they are neither.
use Rattle.std.specs.Prelude.{Bool, true, false, not, List, [], ◌∷◌, Option, Some, None, map, option_map, length, nat_eq, if◌then◌else◌}
use Rattle.rdx_sexp.specs.Sexp.{Sexp}
use Rattle.rdx_lang.specs.Programs.{Mode}

-- arguments, and for each, where it is known, whether it is a pattern; else it is a template
pub record Arguments : Type 0 where
  pub flags : Option (List Bool)
  pub items : List Sexp

-- the mode, where it is known and has as many arguments
abbrev pub fitting : Option Mode → List Sexp → Option Mode
fitting None ds = None
fitting (Some m) ds = if nat_eq (length m) (length ds) then Some m else None

-- the mode is known and has another number of arguments
abbrev pub is_misfit : Option Mode → List Sexp → Bool
is_misfit None ds = false
is_misfit (Some m) ds = not (nat_eq (length m) (length ds))

-- the arguments of a conclusion by such a mode
abbrev pub in_conclusion : Option Mode → List Sexp → Arguments
in_conclusion m ds = record { flags = fitting m ds; items = ds }

-- those of a premise
abbrev pub in_premise : Option Mode → List Sexp → Arguments
in_premise m ds = record { flags = option_map (map not) (fitting m ds); items = ds }

-- the data at which a flag is set
abbrev pub data_at : List Bool → List Sexp → List Sexp
data_at [] ds = []
data_at (b ∷ bs) [] = []
data_at (true ∷ bs) (d ∷ ds) = d ∷ data_at bs ds
data_at (false ∷ bs) (d ∷ ds) = data_at bs ds

-- the same where there are flags
abbrev pub data_by : Option (List Bool) → List Sexp → List Sexp
data_by None ds = []
data_by (Some bs) ds = data_at bs ds

-- the patterns among arguments
abbrev pub patterns_in : Arguments → List Sexp
patterns_in a = data_by a.flags a.items

-- and the templates
abbrev pub templates_in : Arguments → List Sexp
templates_in a = data_by (option_map (map not) a.flags) a.items
