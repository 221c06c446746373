use Rattle.std.proofs.Common.{◌≡◌, ◌++◌, drop, map}
use Rattle.rdx_term.specs.View.{tree_of}
use Rattle.rdx_why.proofs.around.shared_terms.Given as goal

abbrev pub invariant-loop-term : goal.invariant-loop-term
invariant-loop-term l = map tree_of l.copies.items ++ map tree_of (drop l.term-index l.terms) ≡ map tree_of l.terms
