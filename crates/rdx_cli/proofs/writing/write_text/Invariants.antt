use Rattle.std.proofs.Common.{◌-◌, ◌≤◌, length, take}
use Rattle.rdx_base.specs.Putting.{Gains}
use Rattle.rdx_cli.proofs.writing.write_text.Given as goal

abbrev pub invariant-pieces : goal.invariant-pieces
invariant-pieces g l = record {
  gained : Gains (g.K.Sink.written l.fn.sink) (g.K.Sink.written l.sink) (take l.done l.text);
  within : l.done ≤ length l.text;
  later : g.K.Sink.faults l.fn.sink ≤ g.K.Sink.faults l.sink;
}

abbrev pub decreases-pieces : goal.decreases-pieces
decreases-pieces g l = length l.text - l.done
