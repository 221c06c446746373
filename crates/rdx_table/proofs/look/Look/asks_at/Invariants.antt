use Rattle.std.proofs.Common.{◌≡◌, ◌+◌, length}
use Rattle.rdx_table.specs.Inside.Looks.{language_of_look, patterns_of_look, trees_of_look}
use Rattle.rdx_table.specs.Inside.Tasks.{AreTasks}
use Rattle.rdx_table.proofs.look.Look.asks_at.Given as goal

abbrev pub invariant-loop-i : goal.invariant-loop-i
invariant-loop-i l =
    AreTasks (language_of_look l.self) (patterns_of_look l.self) (trees_of_look l.self) l.tasks.items
    × (length l.tasks.items + l.i ≡ l.count)
