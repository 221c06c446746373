use Rattle.std.proofs.Common.{◌≡◌, ◌++◌}
use Rattle.rdx_deriv.specs.Lines.{indent}
use Rattle.rdx_deriv.proofs.lines.write_indent.Given as goal

abbrev pub invariant-loop : goal.invariant-loop
invariant-loop l = l.out.items ≡ l.initial.out.items ++ indent l.counter
