-- What the answers of the code stand for.
use Rattle.rdx_term.specs.View.{tree_of}
use Rattle.rdx_delta.specs.Reply.{Reply, value, host_domain, overflow, divide_by_zero}
use Rattle.rdx_delta.specs.declared.answer.HostAnswer.{HostAnswer}
use Rattle.rdx_delta.specs.declared.answer.HostAnswer.TheVariants.{Value, HostDomain, Overflow, DivideByZero}

-- the reply of an answer
abbrev pub reply_of : HostAnswer → Reply
reply_of (Value t) = value (tree_of t)
reply_of HostDomain = host_domain
reply_of Overflow = overflow
reply_of DivideByZero = divide_by_zero
