use Rattle.std.proofs.Common.{◌≡◌, ◌++◌}
use Rattle.rdx_lang.specs.ProgramView.{program_of}
use Rattle.rdx_deriv.specs.Inside.Stacks.{pending, stacked, stack_weight}
use Rattle.rdx_deriv.proofs.lines.write_lines.Given as goal

abbrev pub invariant-loop-rest : goal.invariant-loop-rest
invariant-loop-rest l =
    l.out.items ++ pending (program_of l.program) 1 (stacked l.stack.items)
    ≡ l.initial.out.items ++ pending (program_of l.program) 1 (stacked l.initial.stack.items)

abbrev pub decreases-loop-rest : goal.decreases-loop-rest
decreases-loop-rest l = stack_weight (stacked l.stack.items)
