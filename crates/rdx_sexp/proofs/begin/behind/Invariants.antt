use Rattle.std.proofs.Common.{◌≡◌, drop}
use Rattle.rdx_sexp.specs.Begin.{behind}
use Rattle.rdx_sexp.proofs.begin.behind.Given as goal

abbrev pub invariant-loop-byte : goal.invariant-loop-byte
invariant-loop-byte l = behind (drop l.byte-index l.word) l.rest ≡ behind l.word l.chars
