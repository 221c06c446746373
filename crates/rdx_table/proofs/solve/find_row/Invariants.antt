use Rattle.std.proofs.Common.{◌≡◌, ◌+◌}
use Rattle.rdx_nodes.specs.Doors.{doors_left}
use Rattle.rdx_nodes.specs.Settings.{language_at, patterns_at_hand, trees_at_hand, Grows, IsReady}
use Rattle.rdx_table.specs.Inside.Frames.{lowest, IsFrame, AreFrames}
use Rattle.rdx_table.specs.Inside.Memos.{IsMemo}
use Rattle.rdx_table.specs.Inside.Remaining.{all_left}
use Rattle.rdx_table.specs.declared.task.Task.TheVariants as task
use Rattle.rdx_table.proofs.solve.find_row.Given as goal

abbrev pub invariant-loop-task : goal.invariant-loop-task
invariant-loop-task l = record {
  ready : IsReady l.setting;
  grown : Grows l.fn.setting l.setting;
  memo : IsMemo (language_at l.setting) (patterns_at_hand l.setting) (trees_at_hand l.setting) l.memo;
  below : AreFrames (language_at l.setting) (patterns_at_hand l.setting) (trees_at_hand l.setting) l.below.items;
  top : IsFrame (language_at l.setting) (patterns_at_hand l.setting) (trees_at_hand l.setting) l.top;
  lowest : lowest l.below.items l.top.task ≡ task.Goal l.fn.goal;
}

abbrev pub decreases-loop-task : goal.decreases-loop-task
decreases-loop-task l = all_left l.below.items l.top + doors_left l.setting
