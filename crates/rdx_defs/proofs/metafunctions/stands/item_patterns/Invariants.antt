use Rattle.std.proofs.Common.{◌≡◌, ◌++◌, drop, map}
use Rattle.rdx_sexp.specs.Sexp.{sexps}
use Rattle.rdx_patterns.specs.HeadView.{roles_view}
use Rattle.rdx_patterns.specs.Heads.{patterns}
use Rattle.rdx_defs.specs.Inside.FormOutlines.{patterns_among}
use Rattle.rdx_defs.proofs.metafunctions.stands.item_patterns.Given as goal

abbrev pub invariant-loop-d : goal.invariant-loop-d
invariant-loop-d l = map (λ d. d.now) l.found.items ++ patterns_among (roles_view l.left) (sexps (drop l.d-index l.items)) ≡ patterns_among patterns (sexps l.items)
