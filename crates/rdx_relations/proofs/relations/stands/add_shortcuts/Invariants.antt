use Rattle.std.proofs.Common.{◌≡◌, ◌++◌, [], drop}
use Rattle.rdx_patterns.specs.Inside.Repeats.{texts_in}
use Rattle.rdx_parts.specs.PartViews.{stands_of}
use Rattle.rdx_relations.specs.RelationStands.{shortcuts_stand}
use Rattle.rdx_relations.proofs.relations.stands.add_shortcuts.Given as goal

abbrev pub invariant-loop-d : goal.invariant-loop-d
invariant-loop-d l =
    stands_of l.out.items ++ shortcuts_stand (texts_in l.seen) (drop l.d-index l.shortcuts) ≡ stands_of l.fn.out.items ++ shortcuts_stand [] l.shortcuts
