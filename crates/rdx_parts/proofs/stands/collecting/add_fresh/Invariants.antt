use Rattle.std.proofs.Common.{◌≡◌, ◌++◌, drop}
use Rattle.rdx_parts.specs.BareStands.{fresh_stands}
use Rattle.rdx_parts.specs.PartViews.{stands_of}
use Rattle.rdx_parts.proofs.stands.collecting.add_fresh.Given as goal

abbrev pub invariant-loop-d : goal.invariant-loop-d
invariant-loop-d l = stands_of l.out.items ++ fresh_stands (drop l.d-index l.made) ≡ stands_of l.fn.out.items ++ fresh_stands l.made
