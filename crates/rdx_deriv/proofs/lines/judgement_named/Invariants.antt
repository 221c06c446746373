use Rattle.std.proofs.Common.{◌≡◌, drop, map}
use Rattle.rdx_lang.specs.Programs as programs
use Rattle.rdx_lang.specs.ProgramView.{judgement_of}
use Rattle.rdx_deriv.proofs.lines.judgement_named.Given as goal

abbrev pub invariant-loop-judgement : goal.invariant-loop-judgement
invariant-loop-judgement l =
    programs.judgement_among (map judgement_of (drop l.judgement-index l.program.judgements.items)) l.name
    ≡ programs.judgement_among (map judgement_of l.program.judgements.items) l.name
