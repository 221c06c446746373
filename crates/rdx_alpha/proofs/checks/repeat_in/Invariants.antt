use Rattle.std.proofs.Common.{◌≡◌, [], map, drop}
use Rattle.rdx_alpha.specs.Checks.{repeat_in}
use Rattle.rdx_alpha.specs.Inside.WrittenView.{written_places_of}
use Rattle.rdx_alpha.proofs.checks.repeat_in.Given as goal

abbrev pub invariant-loop-place : goal.invariant-loop-place
invariant-loop-place l =
    repeat_in (map (λ n. n.now) l.names) (map (λ n. n.now) l.before.items) (written_places_of (drop l.place-index l.places))
    ≡ repeat_in (map (λ n. n.now) l.names) [] (written_places_of l.places)
