use Rattle.std.proofs.Common.{◌≡◌, ◌++◌, drop}
use Rattle.rdx_sexp.specs.Sexp.{sexps}
use Rattle.rdx_patterns.specs.Ends.{end_of, ends_among}
use Rattle.rdx_patterns.proofs.patterns.ends.+ends.Given as goal

abbrev pub invariant-loop-item : goal.invariant-loop-item
invariant-loop-item l =
    l.out.items ++ ends_among (sexps (drop l.item-index l.item-items))
    ≡ l.fn.out.items ++ (end_of (sexps l.item-items) ++ ends_among (sexps l.item-items))
