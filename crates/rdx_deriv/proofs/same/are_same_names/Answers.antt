use Rattle.rdx_deriv.proofs.SameLists.{names_lengths}
use Rattle.rdx_deriv.proofs.same.are_same_names.Goals as goal

pub returns-then-a-b : goal.returns-then-a-b
returns-then-a-b c = names_lengths c.args.a.now c.args.b.now c.if-a-b.true
