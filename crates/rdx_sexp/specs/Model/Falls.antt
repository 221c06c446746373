-- Each item of a list has fewer nodes than the list.
use Rattle.std.specs.Prelude.{◌≤◌, ◌+◌, List, [], ◌∷◌}
use Rattle.std.proofs.Common.{arith}
use denote.Param.Weighed.{most}
use Rattle.rdx_base.specs.declared.place.Span.{Span}
use Rattle.rdx_sexp.specs.Sexp.{Sexp, sexps, sexp_nodes, sexps_nodes}
use Rattle.rdx_sexp.specs.declared.datum.Form.{Form}
use Rattle.rdx_sexp.specs.declared.datum.Form.TheVariants.{Int, Bool, Str, Sym, Key, List as ListOf}
use Rattle.rdx_sexp.specs.declared.datum.Datum.TheDeep.{deep-Form}
use Rattle.rdx_sexp.specs.View.{sexp_of}

-- over the items of a list
most_le-nodes : (ds : List Sexp) → most (λ d. sexp_nodes d + 1) ds ≤ sexps_nodes (sexps ds) + 1
most_le-nodes [] = omega arith
most_le-nodes (d ∷ ds) = omega (arith, most_le-nodes ds)

-- over a form
pub deep_le-nodes : (f : Form) (s : Span) → deep-Form f ≤ sexp_nodes (sexp_of f s)
deep_le-nodes (Int n) s = omega arith
deep_le-nodes (Bool b) s = omega arith
deep_le-nodes (Str t) s = omega arith
deep_le-nodes (Sym t) s = omega arith
deep_le-nodes (Key t) s = omega arith
deep_le-nodes (ListOf v) s = omega (arith, most_le-nodes v.items)
