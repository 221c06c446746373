use Rattle.std.proofs.Common.{drop, map}
use Rattle.rdx_term.specs.View.{tree_of}
use Rattle.rdx_lang.specs.Members.{In}
use Rattle.rdx_why.proofs.explaining.is_listed.Given as goal

abbrev pub invariant-loop-u : goal.invariant-loop-u
invariant-loop-u l = In (tree_of l.t) (map tree_of l.terms) → In (tree_of l.t) (map tree_of (drop l.u-index l.terms))
