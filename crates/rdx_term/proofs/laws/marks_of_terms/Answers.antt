use Rattle.rdx_term.proofs.Trees.{context-holes, one_hole-context, one_hole-mark}
use Rattle.rdx_term.proofs.laws.marks_of_terms.Goals as goal

pub returns-clause-context : goal.returns-clause-context
returns-clause-context c = context-holes

pub returns-clause-one_hole : goal.returns-clause-one_hole
returns-clause-one_hole c = λ t v e. one_hole-context t v.marked e

pub returns-clause-mark : goal.returns-clause-mark
returns-clause-mark c = λ mark items v e. one_hole-mark mark items v.marked.0 e
