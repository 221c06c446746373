-- What stands in the parts of a form, without what is bound before it.
use Rattle.std.specs.Prelude.{Bool, true, false, [], List, ◌∷◌, ◌++◌, Option, Some, None, map}
use Rattle.rdx_sexp.specs.Sexp.{Sexp}
use Rattle.rdx_patterns.specs.Occurrences.{occurrences}
use Rattle.rdx_patterns.specs.Parts.{text_of}
use Rattle.rdx_templates.specs.Scope.{Scope, mode_of}
use Rattle.rdx_parts.specs.Arguments.{Arguments, is_misfit}
use Rattle.rdx_parts.specs.ExtraForms.{ExtraForm, such_that, provided, confirmed, holding, freshly, name, no_extra, ExtraPlace, form_at}
use Rattle.rdx_parts.specs.Headed.{Headed, headed}
use Rattle.rdx_parts.specs.Outlines.{Branch, taken_occurrences}
use Rattle.rdx_parts.specs.Stands.{Stand, misshaped, asked, pattern, template, condition, fresh, named, plain_argument, premise_arguments, misfits, is_named}

-- a pattern that stands by itself
abbrev pub lone_pattern : Sexp → Stand
lone_pattern p = pattern [] (occurrences 0 p)

-- in arguments with such flags
abbrev pub flagged_stand : List Bool → List Sexp → List Stand
flagged_stand [] ds = []
flagged_stand (f ∷ fs) [] = []
flagged_stand (true ∷ fs) (d ∷ ds) = lone_pattern d ∷ flagged_stand fs ds
flagged_stand (false ∷ fs) (d ∷ ds) = template [] d ∷ flagged_stand fs ds

-- where there are flags
abbrev pub arguments_by : Option (List Bool) → List Sexp → List Stand
arguments_by None ds = map plain_argument ds
arguments_by (Some fs) ds = flagged_stand fs ds

-- in arguments
abbrev pub arguments_stand : Arguments → List Stand
arguments_stand a = arguments_by a.flags a.items

-- in d, which has to be a premise
abbrev pub held_stands : Scope → Sexp → Option Headed → List Stand
held_stands S d None = misshaped d ∷ []
held_stands S d (Some q) =
    asked q.head ∷ misfits (is_misfit (mode_of S (text_of q.head)) q.arguments) d q.head ++ arguments_stand (premise_arguments S q)

-- in names to be made
abbrev pub fresh_stands : List Sexp → List Stand
fresh_stands ds = map (λ d. fresh [] d) ds

-- in the extra d
abbrev pub extra_stands : Scope → Bool → Sexp → ExtraForm → List Stand
extra_stands S again d (such_that p t) = lone_pattern p ∷ template [] t ∷ []
extra_stands S again d (provided h) = condition [] h ∷ []
extra_stands S again d (confirmed t) = template [] t ∷ []
extra_stands S again d (holding e) = held_stands S e (headed e)
extra_stands S again d (freshly ds) = fresh_stands ds
extra_stands S again d name = named again d ∷ []
extra_stands S again d no_extra = misshaped d ∷ []

-- in extras at such a place
abbrev pub extras_stand : ExtraPlace → Scope → Bool → List Sexp → List Stand
extras_stand k S again [] = []
extras_stand k S again (d ∷ ds) = extra_stands S again d (form_at k d) ++ extras_stand k S (is_named again (form_at k d)) ds

-- in a branch
abbrev pub branch_stands : Scope → Bool → Branch → List Stand
branch_stands S again b = pattern [] (taken_occurrences b.takes) ∷ template [] b.result ∷ extras_stand b.place S again b.extras
