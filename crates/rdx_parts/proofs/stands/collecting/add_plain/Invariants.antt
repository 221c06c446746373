use Rattle.std.proofs.Common.{◌≡◌, ◌++◌, drop, map}
use Rattle.rdx_parts.specs.PartViews.{stands_of}
use Rattle.rdx_parts.specs.Stands.{plain_argument}
use Rattle.rdx_parts.proofs.stands.collecting.add_plain.Given as goal

abbrev pub invariant-loop-d : goal.invariant-loop-d
invariant-loop-d l =
    stands_of l.out.items ++ map plain_argument (drop l.d-index l.arguments) ≡ stands_of l.fn.out.items ++ map plain_argument l.arguments
