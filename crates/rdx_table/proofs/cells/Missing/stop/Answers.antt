use Rattle.std.proofs.Common.{◌≡◌, length, sym, subst, arith}
use Rattle.std.proofs.lemmas.Grind.{common_steps}
use Rattle.rdx_table.specs.Inside.Looks.{AreAsked}
use Rattle.rdx_table.proofs.CellGoals.{asked-reverse}
use Rattle.rdx_table.proofs.cells.Missing.stop.Goals as goal

pub returns : goal.returns
returns c = λ s h.
    let n : length c.args.self.tasks.items ≡ 0 → ⊥ = λ e. absurd (grind (arith, common_steps)) in
    subst (AreAsked s) (sym c.reverse.ensures.items) (asked-reverse s c.args.self.tasks.items n h)
