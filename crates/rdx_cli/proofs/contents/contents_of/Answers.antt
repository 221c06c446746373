use Rattle.std.proofs.Common.{subst, arith}
use Rattle.rdx_sexp.specs.Answers.{IsFaultOf}
use Rattle.rdx_cli.specs.Transcript.{at_fault}
use Rattle.rdx_cli.proofs.contents.contents_of.Goals as goal

pub returns-in_ok-read_line-in-Err-Refused : goal.returns-in_ok-read_line-in-Err-Refused
returns-in_ok-read_line-in-Err-Refused c =
    let first = subst (IsFaultOf c.args.bytes.now) c.in-Err-Refused.field-0-is c.in-Err-Refused.ensures.refused in
    at_fault (omega (arith, c.if-bytes-gt-LONGEST.false)) c.in-Err-Refused.refusal first c.in_ok-read_line-in-Err-Refused.ensures
