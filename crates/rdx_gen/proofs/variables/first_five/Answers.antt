use Rattle.std.proofs.Common.{arith, ◌≡◌, ◌+◌, ◌-◌, ◌∷◌, true, false}
use Rattle.std.proofs.lemmas.Grind.{common_steps}
use Rattle.rdx_gen.specs.Variables.{is_free, behind_prefix, first_free}
use Rattle.rdx_gen.proofs.FreeSymbols.{free_here, free_further}
use Rattle.rdx_gen.proofs.variables.first_five.Goals as goal
use Rattle.rdx_gen.proofs.variables.first_five.Goals.{in-Some+in_ok-push, in_default}

pub loop-wanted-preserved : goal.loop-wanted-preserved
loop-wanted-preserved c = elim c.match-branch-2.branch [
  | in-Some+in_ok-push w ↦ (let f : is_free c.args.avoided.now (behind_prefix c.args.prefix.now c.loop-wanted.place) ≡ true = grind (arith, common_steps) in
      let k : first_free c.args.prefix.now c.args.avoided.now c.loop-wanted.wanted c.loop-wanted.place c.loop-wanted.left
      ≡ behind_prefix c.args.prefix.now c.loop-wanted.place ∷ first_free c.args.prefix.now c.args.avoided.now (c.loop-wanted.wanted - 1) (c.loop-wanted.place + 1) (c.loop-wanted.left - 1) =
      free_here _ _ _ _ _ (omega arith) (omega arith) f in
      record { ends = omega arith; same = grind (arith, common_steps) })
  | in_default w ↦ (let f : is_free c.args.avoided.now (behind_prefix c.args.prefix.now c.loop-wanted.place) ≡ false = grind (arith, common_steps) in
      let k : first_free c.args.prefix.now c.args.avoided.now c.loop-wanted.wanted c.loop-wanted.place c.loop-wanted.left
      ≡ first_free c.args.prefix.now c.args.avoided.now c.loop-wanted.wanted (c.loop-wanted.place + 1) (c.loop-wanted.left - 1) =
      free_further _ _ _ _ _ (omega arith) (omega arith) f in
      record { ends = omega arith; same = grind (arith, common_steps) })
]
