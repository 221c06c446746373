use Rattle.std.proofs.Common.{◌≡◌, [], drop, map}
use Rattle.rdx_term.specs.Order.{tree_cmp}
use Rattle.rdx_term.specs.View.{tree_of}
use Rattle.rdx_answer.proofs.AllInserted.{all_inserted}
use Rattle.rdx_answer.proofs.comparing.ascending.Given as goal

abbrev pub invariant-loop-term : goal.invariant-loop-term
invariant-loop-term l =
    all_inserted tree_cmp (map tree_of l.set.keys) (map tree_of (drop l.term-index l.terms)) ≡ all_inserted tree_cmp [] (map tree_of l.terms)
