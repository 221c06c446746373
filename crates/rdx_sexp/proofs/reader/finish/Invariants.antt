use Rattle.std.proofs.Common.{◌≡◌, length}
use Rattle.rdx_sexp.specs.Inside.Machine.{finish}
use Rattle.rdx_sexp.specs.Inside.Stack.{frames}
use Rattle.rdx_sexp.proofs.reader.finish.Given as goal

abbrev pub invariant-loop-level : goal.invariant-loop-level
invariant-loop-level l = finish l.datum (frames l.stack.items) l.items.items ≡ finish l.initial.datum (frames l.initial.stack.items) l.initial.items.items

abbrev pub decreases-loop-level : goal.decreases-loop-level
decreases-loop-level l = length l.stack.items
