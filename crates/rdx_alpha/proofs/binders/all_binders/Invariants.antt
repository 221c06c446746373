use Rattle.std.proofs.Common.{◌≡◌, ◌++◌, map, drop}
use Rattle.rdx_alpha.specs.Written.{all_binders}
use Rattle.rdx_alpha.specs.Inside.WrittenView.{written_places_of}
use Rattle.rdx_alpha.proofs.binders.all_binders.Given as goal

abbrev pub invariant-loop-place : goal.invariant-loop-place
invariant-loop-place l =
    map (λ n. n.now) l.binders.items ++ all_binders (map (λ n. n.now) l.names) (written_places_of (drop l.place-index l.places))
    ≡ all_binders (map (λ n. n.now) l.names) (written_places_of l.places)
