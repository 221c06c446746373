use Rattle.std.proofs.Common.{◌⊎◌, ◌+◌, ◌*◌, ℕ, List, vec_len}
use Rattle.std.specs.Prelude.{◌↔◌}
use Rattle.rdx_direct.specs.Inside.Paths.{LeadAlike, LeadsIn}
use Rattle.rdx_direct.proofs.paths.+joined.Given as goal

abbrev pub invariant-joined_branches-loop-branch : goal.invariant-joined_branches-loop-branch
invariant-joined_branches-loop-branch l = (w : List ℕ) →
    (LeadsIn l.found.items w ⊎ (LeadsIn l.left.items w ⊎ LeadsIn l.right.items w)) ↔ (LeadsIn l.fn.firsts.items w ⊎ LeadsIn l.fn.others.items w)

abbrev pub decreases-joined_branches-loop-branch : goal.decreases-joined_branches-loop-branch
decreases-joined_branches-loop-branch l = vec_len l.right

abbrev pub invariant-joined_branches-loop-branch-2 : goal.invariant-joined_branches-loop-branch-2
invariant-joined_branches-loop-branch-2 l = LeadAlike l.found.items l.left.items l.fn.firsts.items l.fn.others.items

abbrev pub decreases-joined_branches-loop-branch-2 : goal.decreases-joined_branches-loop-branch-2
decreases-joined_branches-loop-branch-2 l = vec_len l.left

abbrev pub decreases-Paths::joined : goal.decreases-Paths::joined
decreases-Paths::joined l = 2 * l.room.left

abbrev pub decreases-joined_branches : goal.decreases-joined_branches
decreases-joined_branches l = 2 * l.room.left + 1
