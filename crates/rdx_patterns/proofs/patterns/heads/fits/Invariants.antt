use Rattle.std.proofs.Common.{◌≡◌, drop}
use Rattle.rdx_sexp.specs.Sexp.{sexps}
use Rattle.rdx_patterns.specs.Heads.{fits}
use Rattle.rdx_patterns.specs.HeadView.{roles_view}
use Rattle.rdx_patterns.proofs.patterns.heads.fits.Given as goal

abbrev pub invariant-loop-item : goal.invariant-loop-item
invariant-loop-item l = fits (roles_view l.left) (sexps (drop l.item-index l.items)) ≡ fits (roles_view l.fn.roles) (sexps l.items)
