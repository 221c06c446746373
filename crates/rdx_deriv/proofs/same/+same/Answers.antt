use Rattle.rdx_deriv.proofs.SameLists.{items_lengths}
use Rattle.rdx_deriv.proofs.same.+same.Goals as goal

pub are_alike-returns-then-a-b : goal.are_alike-returns-then-a-b
are_alike-returns-then-a-b t c = items_lengths c.args.a.now c.args.b.now c.if-a-b.true
