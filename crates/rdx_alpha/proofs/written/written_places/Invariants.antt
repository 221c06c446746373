use Rattle.std.proofs.Common.{◌≡◌, ◌++◌, length}
use Rattle.std.specs.Prelude.{option_map}
use Rattle.rdx_alpha.specs.Written.{written_places}
use Rattle.rdx_alpha.specs.Inside.WrittenView.{written_places_of}
use Rattle.rdx_alpha.proofs.written.written_places.Given as goal

abbrev pub invariant-loop-datum : goal.invariant-loop-datum
invariant-loop-datum l = option_map (λ ps. written_places_of l.places.items ++ ps) (written_places l.left) ≡ written_places l.items

abbrev pub decreases-loop-datum : goal.decreases-loop-datum
decreases-loop-datum l = length l.left
