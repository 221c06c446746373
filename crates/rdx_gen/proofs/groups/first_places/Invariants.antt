use Rattle.std.proofs.Common.{◌≡◌, take, map}
use Rattle.rdx_gen.specs.Inside.Groups.{first_place}
use Rattle.rdx_gen.specs.PlaceView.{place_of}
use Rattle.rdx_gen.proofs.groups.first_places.Given as goal

abbrev pub invariant-loop-place : goal.invariant-loop-place
invariant-loop-place l = l.firsts.items ≡ map (λ u. first_place (place_of u).name (map place_of l.all)) (take l.place-index l.all)
