use Rattle.std.proofs.Common.{◌≡◌, ◌++◌, drop}
use Rattle.rdx_sexp.specs.Sexp.{sexps}
use Rattle.rdx_patterns.specs.HeadView.{roles_view}
use Rattle.rdx_patterns.specs.Reading.{names_among}
use Rattle.rdx_patterns.proofs.patterns.readings.names_among.Given as goal

abbrev pub invariant-loop-item : goal.invariant-loop-item
invariant-loop-item l = l.names.items ++ names_among (roles_view l.left) (sexps (drop l.item-index l.items)) ≡ names_among (roles_view l.fn.roles) (sexps l.items)
