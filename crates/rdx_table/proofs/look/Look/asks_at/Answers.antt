use Rattle.std.proofs.Common.{◌≡◌, ℕ, ◌-◌, ◌<◌, List, [], ◌∷◌, ◌++◌, length, sym, subst, arith, rules}
use Rattle.std.proofs.lemmas.Grind.{common_steps}
use Rattle.rdx_bind.proofs.TurnRows.{item_in}
use Rattle.rdx_bind.specs.Spots.{spot_of}
use Rattle.rdx_lang.specs.Patterns.{Pattern}
use Rattle.rdx_table.specs.Inside.Looks.{language_of_look, patterns_of_look, trees_of_look}
use Rattle.rdx_table.specs.declared.look.Look.{Look}
use Rattle.rdx_table.specs.declared.task.Goal.{Goal}
use Rattle.rdx_table.specs.declared.task.Task.TheVariants as task
use Rattle.rdx_table.proofs.AskedForms.{tasks-more}
use Rattle.rdx_table.proofs.look.Look.asks_at.Goals as goal

pub goal_of_spot-requires-clause-place : goal.goal_of_spot-requires-clause-place
goal_of_spot-requires-clause-place c =
    let h : c.loop-i.i - 1 < length c.args.spots.now = search rules in
    c.requires.places (spot_of c.index-spots-i.result) (item_in spot_of c.args.spots.now (c.loop-i.i - 1) c.index-spots-i.result h c.index-spots-i.is)

pub loop-i-preserved : goal.loop-i-preserved
loop-i-preserved c =
    let look : Look = c.args.self.now in
    let ps : List Pattern = patterns_of_look look in
    let g : Goal = c.goal_of_spot.result in
    let e : c.push.new.self.items ≡ c.loop-i.tasks.items ++ task.Goal g ∷ [] = grind (arith, common_steps) in
    let n : g.number < length ps = subst (λ (k : ℕ). k < length ps) (sym c.goal_of_spot.ensures.number) c.requires.number in (
      tasks-more (language_of_look look) ps (trees_of_look look) c.loop-i.tasks.items c.push.new.self.items (task.Goal g) e c.loop-i.invariant.0
          (record { number = n; id = c.goal_of_spot.ensures.id }),
      grind (arith, common_steps),
    )
