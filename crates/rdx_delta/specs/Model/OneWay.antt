-- That a function does a host operation in one way at most, as the ghost member of an entry asks.
use Rattle.std.specs.Prelude.{List, map}
use Rattle.std.specs.Borrow.{Bor}
use Rattle.std.specs.Coded.{Π_prop}
use Rattle.rdx_term.specs.declared.term.Term.{Term}
use Rattle.rdx_term.specs.View.{tree_of}
use Rattle.rdx_lang.specs.declared.operation.HostOp.{HostOp}
use Rattle.rdx_delta.specs.Delta.{delta}
use Rattle.rdx_delta.specs.Does.{Does}
use Rattle.rdx_delta.specs.Model.ReplyCode.{Reply-set}
use Rattle.rdx_delta.specs.View.{reply_of}
use Rattle.rdx_delta.specs.declared.answer.HostAnswer.{HostAnswer}

-- two proofs that it does are equal, since replies are equal in one way at most
pub Does-prop : (op : HostOp) (gives : Bor (List Term) → HostAnswer → Type 0) → IsProp (Does op gives)
Does-prop op gives = Π_prop (λ args. Π_prop (λ answer. Π_prop (λ met. Reply-set (reply_of answer) (delta op (map tree_of args.now)))))
