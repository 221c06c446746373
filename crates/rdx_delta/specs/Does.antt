-- That a function does a host operation.
use Rattle.std.specs.Prelude.{◌≡◌, List, map}
use Rattle.std.specs.Borrow.{Bor}
use Rattle.rdx_term.specs.declared.term.Term.{Term}
use Rattle.rdx_term.specs.View.{tree_of}
use Rattle.rdx_lang.specs.declared.operation.HostOp.{HostOp}
use Rattle.rdx_delta.specs.Delta.{delta}
use Rattle.rdx_delta.specs.View.{reply_of}
use Rattle.rdx_delta.specs.declared.answer.HostAnswer.{HostAnswer}

-- each answer that may be given to a list of terms is that of the operation
abbrev pub Does : HostOp → (Bor (List Term) → HostAnswer → Type 0) → Type 0
Does op gives = (args : Bor (List Term)) (answer : HostAnswer) → gives args answer → reply_of answer ≡ delta op (map tree_of args.now)
