-- The checks of binding forms, one by one: each gives the first place at which it refuses.
use Rattle.std.specs.Prelude.{◌≡◌, Bool, false, ◌&&◌, not, List, [], ◌∷◌, ◌++◌, Option, Some, None, option_map, if◌then◌else◌}
use Rattle.rdx_sexp.specs.Sexp.{Sexp}
use Rattle.rdx_patterns.specs.Refusal.{Refusal, refusal_of, unnamed, named, or_else}
use Rattle.rdx_patterns.specs.declared.shape.fault.DefFault.{DefFault}
use Rattle.rdx_patterns.specs.declared.shape.fault.DefFault.TheVariants.{Refused, NoMemory}
use Rattle.rdx_patterns.specs.declared.shape.fault.DefKind.TheVariants.{Shape, Duplicate}
use Rattle.rdx_alpha.specs.Written.{written_forms, WrittenPlace, WrittenForm, written_form, all_references, is_one_of, binders_in, is_bound_right}

-- ---- S1, Shape: a binding form has not its shape

abbrev pub has_shape : Option WrittenForm → Bool
has_shape None = false
has_shape (Some f) = is_bound_right f

-- the first of these that is no binding form
abbrev pub misshapen : List Sexp → Option Sexp
misshapen [] = None
misshapen (d ∷ ds) = if has_shape (written_form d) then misshapen ds else Some d

-- ---- S3, Duplicate: a head comes twice, or a name is bound in two places of one form

-- Of the symbols of a place, behind those that were found, each one to which some refer, but once.
abbrev pub once : List Sexp → List Sexp → List Sexp → List Sexp
once names found [] = found
once names found (d ∷ ds) = once names (if is_one_of names d && not (is_one_of found d) then found ++ d ∷ [] else found) ds

-- the binders of a place to which some refer
abbrev pub names_bound : List Sexp → Sexp → List Sexp
names_bound names d = once names [] (binders_in names d)

-- the first of these that comes among those before
abbrev pub again : List Sexp → List Sexp → Option Sexp
again before [] = None
again before (d ∷ ds) = if is_one_of before d then Some d else again before ds

-- the first name that a place before binds too
abbrev pub repeat_in : List Sexp → List Sexp → List WrittenPlace → Option Sexp
repeat_in names before [] = None
repeat_in names before (p ∷ ps) =
    or_else (again before (names_bound names p.datum)) (repeat_in names (before ++ names_bound names p.datum) ps)

abbrev pub repeat_of : WrittenForm → Option Sexp
repeat_of f = repeat_in (all_references f.places) [] f.places

abbrev pub form_repeat : List Sexp → Option WrittenForm → Option Sexp
form_repeat heads None = None
form_repeat heads (Some f) = or_else (again heads (f.head ∷ [])) (repeat_of f)

abbrev pub with_head : List Sexp → Option WrittenForm → List Sexp
with_head heads None = heads
with_head heads (Some f) = heads ++ f.head ∷ []

-- the first such head or name, where forms before have these heads
abbrev pub duplicate : List Sexp → List Sexp → Option Sexp
duplicate heads [] = None
duplicate heads (d ∷ ds) = or_else (form_repeat heads (written_form d)) (duplicate (with_head heads (written_form d)) ds)

-- ---- the refusal

-- why the binding forms of a form are refused, if they are: the check with the lesser number counts
abbrev pub refusal_at : Sexp → Option Refusal
refusal_at d = or_else (option_map (unnamed Shape) (misshapen (written_forms d))) (option_map (named Duplicate) (duplicate [] (written_forms d)))

-- this is why; want of memory is free
abbrev pub IsRefusedBy : DefFault → Option Refusal → Type 0
IsRefusedBy (Refused r) o = o ≡ Some (refusal_of r)
IsRefusedBy NoMemory o = Unit {0}
