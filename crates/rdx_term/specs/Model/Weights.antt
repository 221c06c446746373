-- A list's items have fewer nodes than the list, in the form that the model of a recursive type needs: the weight of a term is one more
-- than the size of the list in it, and 0 for an atom.
use Rattle.std.specs.Prelude.{◌≤◌, ◌+◌, List, [], ◌∷◌}
use Rattle.std.proofs.Common.{arith}
use denote.Param.Weighed.{most}
use Rattle.rdx_term.specs.Tree.{tree_nodes, trees_nodes}
use Rattle.rdx_term.specs.declared.term.Term.{Term}
use Rattle.rdx_term.specs.declared.term.Term.TheVariants.{Hole, Int, Bool, Str, Sym, List as ListOf}
use Rattle.rdx_term.specs.declared.term.Node.TheDeep.{deep-Term as weight}
use Rattle.rdx_term.specs.View.{tree_of, trees_of}

-- the weight of a term is at most one more than its nodes
weight_le-nodes : (t : Term) → weight t ≤ tree_nodes (tree_of t) + 1
weight_le-nodes Hole = omega arith
weight_le-nodes (Int n) = omega arith
weight_le-nodes (Bool b) = omega arith
weight_le-nodes (Str s) = omega arith
weight_le-nodes (Sym s) = omega arith
weight_le-nodes (ListOf rc) = omega arith

-- so is the greatest weight of several terms, against their nodes together
pub most_weight_le-nodes : (ts : List Term) → most weight ts ≤ trees_nodes (trees_of ts) + 1
most_weight_le-nodes [] = omega arith
most_weight_le-nodes (t ∷ ts) = omega (arith, weight_le-nodes t, most_weight_le-nodes ts)
