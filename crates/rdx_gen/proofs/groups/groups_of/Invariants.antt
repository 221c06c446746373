use Rattle.std.proofs.Common.{◌≡◌, take, map, get_or}
use Rattle.rdx_gen.specs.Inside.Groups.{no_group}
use Rattle.rdx_gen.proofs.groups.groups_of.Given as goal

abbrev pub invariant-loop-first : goal.invariant-loop-first
invariant-loop-first l = l.out.items ≡ map (λ j. get_or l.groups.items j no_group) (take l.first-index l.first-items)
