use Rattle.std.proofs.Common.{◌≡◌, ◌++◌, map, drop}
use Rattle.rdx_alpha.specs.Reading.{place_meant}
use Rattle.rdx_alpha.specs.View.{places_of}
use Rattle.rdx_alpha.specs.Inside.WrittenView.{written_places_of}
use Rattle.rdx_alpha.proofs.read.places_meant.Given as goal

abbrev pub invariant-loop-place : goal.invariant-loop-place
invariant-loop-place l =
    places_of l.found.items
    ++ map (λ p. place_meant (written_places_of l.places) (map (λ n. n.now) l.all) p.refers p.datum) (written_places_of (drop l.place-index l.places))
    ≡ map (λ p. place_meant (written_places_of l.places) (map (λ n. n.now) l.all) p.refers p.datum) (written_places_of l.places)
