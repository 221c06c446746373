use Rattle.std.proofs.Common.{◌≡◌, drop}
use Rattle.rdx_term.specs.View.{trees_of}
use Rattle.rdx_alpha.specs.Instances.{fits}
use Rattle.rdx_alpha.specs.View.{places_of}
use Rattle.rdx_alpha.proofs.instances.fits.Given as goal

abbrev pub invariant-loop-k : goal.invariant-loop-k
invariant-loop-k l = fits (places_of (drop l.k l.places)) (trees_of (drop l.k l.items)) ≡ fits (places_of l.places) (trees_of l.items)
