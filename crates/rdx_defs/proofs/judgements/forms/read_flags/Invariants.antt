use Rattle.std.proofs.Common.{◌≡◌, ◌++◌, drop, map}
use Rattle.rdx_defs.specs.Inside.FormOutlines.{is_input}
use Rattle.rdx_defs.proofs.judgements.forms.read_flags.Given as goal

abbrev pub invariant-loop-d : goal.invariant-loop-d
invariant-loop-d l = l.mode.items ++ map is_input (drop l.d-index l.flags) ≡ map is_input l.flags
