use Rattle.std.proofs.Common.{◌≡◌, ℕ, ◌-◌, ◌<◌, List, [], ◌∷◌, ◌++◌, get_or, length, arith, rules}
use Rattle.std.proofs.lemmas.Grind.{common_steps}
use Rattle.rdx_lang.specs.Patterns.{Pattern}
use Rattle.rdx_table.specs.Inside.Looks.{language_of_look, patterns_of_look, trees_of_look}
use Rattle.rdx_table.specs.declared.look.Look.{Look}
use Rattle.rdx_table.specs.declared.task.Goal.{Goal}
use Rattle.rdx_table.specs.declared.task.Task.TheVariants as task
use Rattle.rdx_table.proofs.AskedForms.{tasks-more, below-at}
use Rattle.rdx_table.proofs.look.Look.asks_of.Goals as goal

pub loop-i-preserved : goal.loop-i-preserved
loop-i-preserved c =
    let look : Look = c.args.self.now in
    let ps : List Pattern = patterns_of_look look in
    let ns : List ℕ = c.args.numbers.now in
    let g : Goal = record { number = get_or ns (c.loop-i.i - 1) 0; id = c.args.goal.id; splits = c.args.goal.splits } in
    let e : c.push.new.self.items ≡ c.loop-i.tasks.items ++ task.Goal g ∷ [] = grind (arith, common_steps) in
    let h : c.loop-i.i - 1 < length ns = search rules in (
      tasks-more (language_of_look look) ps (trees_of_look look) c.loop-i.tasks.items c.push.new.self.items (task.Goal g) e c.loop-i.invariant.0
          (record { number = below-at ns (length ps) (c.loop-i.i - 1) c.requires.numbers h; id = c.requires.goal.id }),
      grind (arith, common_steps),
    )
