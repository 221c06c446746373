use Rattle.std.proofs.Common.{◌≡◌, ◌++◌, take, drop, length}
use Rattle.rdx_term.specs.Text.{spaced_text}
use Rattle.rdx_term.specs.View.{trees_of}
use Rattle.rdx_term.proofs.term.+print.Given as goal

abbrev pub invariant-text::print_items-loop-i : goal.invariant-text::print_items-loop-i
invariant-text::print_items-loop-i l = record {
  written : l.out.items ++ spaced_text (trees_of (drop l.i l.items)) ≡ l.initial.out.items ++ spaced_text (trees_of (drop 1 l.items));
  kept : take (length l.fn.out.items) l.out.items ≡ l.fn.out.items;
}
