use Rattle.std.proofs.Common.{◌≡◌, ◌+◌, ℕ, List, drop, length, map}
use Rattle.rdx_gen.specs.Inside.Groups.{number_in, first_place}
use Rattle.rdx_gen.specs.PlaceView.{place_of}
use Rattle.rdx_gen.proofs.groups.index_of.Given as goal

abbrev pub invariant-loop-number : goal.invariant-loop-number
invariant-loop-number l = (x : List ℕ) → number_in l.index (length l.all) x ≡ l.number + first_place x (map place_of (drop l.number l.all))
