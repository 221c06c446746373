use Rattle.std.proofs.Common.{◌≡◌, map, drop}
use Rattle.std.specs.List.{list_any}
use Rattle.rdx_alpha.specs.Written.{is_bound_body}
use Rattle.rdx_alpha.specs.Inside.WrittenView.{written_places_of}
use Rattle.rdx_alpha.proofs.binders.has_bound_body.Given as goal

abbrev pub invariant-loop-place : goal.invariant-loop-place
invariant-loop-place l =
    list_any (is_bound_body (map (λ n. n.now) l.names)) (written_places_of (drop l.place-index l.places))
    ≡ list_any (is_bound_body (map (λ n. n.now) l.names)) (written_places_of l.places)
