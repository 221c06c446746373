-- The search for the sign of a definition.
use Rattle.std.proofs.Common.{◌++◌, List, Option, Some, None}
use Rattle.rdx_sexp.specs.Sexp.{Sexp}

-- what is found, with these before it
abbrev pub behind : List Sexp → Option (List Sexp × List Sexp) → Option (List Sexp × List Sexp)
behind ds None = None
behind ds (Some x) = Some (ds ++ x.0, x.1)
