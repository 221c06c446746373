-- What a host operation replies.
use Rattle.rdx_term.specs.Tree.{Tree}

-- A value; or what is wrong with the call: the number or the kind of its arguments, a partial result outside 128 bits, or a divisor of 0.
pub data Reply : Type 0 where
  value : Tree → Reply
  host_domain : Reply
  overflow : Reply
  divide_by_zero : Reply
