use Rattle.std.proofs.Common.{◌≡◌, ◌++◌, drop}
use Rattle.rdx_lang.specs.ProgramView.{extras_of}
use Rattle.rdx_parts.specs.ByNames.{fresh_reading}
use Rattle.rdx_parts.proofs.stands.readings.add_fresh.Given as goal

abbrev pub invariant-loop-d : goal.invariant-loop-d
invariant-loop-d l = extras_of l.out.items ++ fresh_reading (drop l.d-index l.made) ≡ extras_of l.fn.out.items ++ fresh_reading l.made
