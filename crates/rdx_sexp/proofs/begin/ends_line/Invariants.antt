use Rattle.std.proofs.Common.{◌≡◌, drop}
use Rattle.rdx_sexp.specs.Begin.{ends_line}
use Rattle.rdx_sexp.proofs.begin.ends_line.Given as goal

abbrev pub invariant-loop-c : goal.invariant-loop-c
invariant-loop-c l = ends_line (drop l.c-index l.chars) ≡ ends_line l.chars
