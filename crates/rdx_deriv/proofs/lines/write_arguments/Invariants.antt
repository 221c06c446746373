use Rattle.std.proofs.Common.{◌≡◌, ◌++◌, drop}
use Rattle.rdx_term.specs.Text.{spaced_text}
use Rattle.rdx_term.specs.View.{trees_of}
use Rattle.rdx_deriv.specs.Lines.{arguments}
use Rattle.rdx_deriv.proofs.lines.write_arguments.Given as goal

abbrev pub invariant-loop-is_input : goal.invariant-loop-is_input
invariant-loop-is_input l =
    l.out.items ++ spaced_text (arguments (drop l.is_input-index l.mode) (trees_of l.ins) (trees_of l.outs))
    ≡ l.initial.out.items ++ spaced_text (arguments l.mode (trees_of l.inputs) (trees_of l.outputs))
