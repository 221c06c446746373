use Rattle.std.proofs.Common.{◌≡◌, ◌++◌, take, drop, length}
use Rattle.rdx_term.specs.Text.{all_escaped}
use Rattle.rdx_term.proofs.printing.print_all_escaped.Given as goal

abbrev pub invariant-loop-byte : goal.invariant-loop-byte
invariant-loop-byte l = record {
  written : l.out.items ++ all_escaped (drop l.byte-index l.text) ≡ l.initial.out.items ++ all_escaped l.text;
  kept : take (length l.initial.out.items) l.out.items ≡ l.initial.out.items;
}
