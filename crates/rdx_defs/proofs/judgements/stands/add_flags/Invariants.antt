use Rattle.std.proofs.Common.{◌≡◌, ◌++◌, drop}
use Rattle.rdx_parts.specs.PartViews.{stands_of}
use Rattle.rdx_defs.specs.JudgementStands.{flags_stand}
use Rattle.rdx_defs.proofs.judgements.stands.add_flags.Given as goal

abbrev pub invariant-loop-d : goal.invariant-loop-d
invariant-loop-d l = stands_of l.out.items ++ flags_stand l.judgement (drop l.d-index l.flags) ≡ stands_of l.fn.out.items ++ flags_stand l.judgement l.flags
