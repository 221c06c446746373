use Rattle.std.proofs.Common.{◌≡◌, length, map}
use Rattle.rdx_gen.specs.PlaceView.{place_of}
use Rattle.rdx_gen.proofs.GroupLaws.{AreGathered}
use Rattle.rdx_gen.proofs.groups.gather.Given as goal

abbrev pub invariant-loop-i : goal.invariant-loop-i
invariant-loop-i l = record {
  size : length l.groups.items ≡ length l.all;
  gathered : AreGathered (map place_of l.all) l.i l.groups.items;
}
