use Rattle.std.proofs.Common.{◌≡◌, ◌++◌, take, drop, length}
use Rattle.rdx_sexp.specs.Print.{spaced_text}
use Rattle.rdx_sexp.specs.Sexp.{sexps}
use Rattle.rdx_sexp.proofs.print.+print.Given as goal

abbrev pub invariant-print_items-loop-i : goal.invariant-print_items-loop-i
invariant-print_items-loop-i l = record {
  written : l.out.items ++ spaced_text (sexps (drop l.i l.items)) ≡ l.initial.out.items ++ spaced_text (sexps (drop 1 l.items));
  kept : take (length l.fn.out.items) l.out.items ≡ l.fn.out.items;
}
