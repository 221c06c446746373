use Rattle.std.proofs.Common.{◌≡◌, ◌++◌, [], ◌∷◌, arith}
use Rattle.std.proofs.lemmas.Grind.{common_steps}
use Rattle.rdx_direct.proofs.PathLaws.{moves_last}
use Rattle.rdx_direct.proofs.paths.move_later.Goals as goal

pub loop-branches-preserved : goal.loop-branches-preserved
loop-branches-preserved c =
    let e : c.loop-branches.branches.items ≡ c.pop.new.self.items ++ c.in-Some.branch ∷ [] = grind (arith, common_steps) in
    let f : c.push.new.self.items ≡ c.loop-branches.moved.items ++ c.in-Some.branch ∷ [] = grind (arith, common_steps) in
    moves_last c.loop-branches.moved.items c.push.new.self.items c.loop-branches.branches.items c.pop.new.self.items c.args.moved.now.items c.args.branches.now.items
    c.in-Some.branch e f c.loop-branches.invariant
