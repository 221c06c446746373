-- What follows from the definitions, stated for the contracts of the module of laws.
use Rattle.std.specs.Prelude.{◌≡◌, ◌↔◌, ℕ, true, false, List, length, Some}
use Rattle.rdx_term.specs.Tree.{Tree}
use Rattle.rdx_lang.specs.declared.operation.HostOp.{HostOp}
use Rattle.rdx_delta.specs.Delta.{delta}
use Rattle.rdx_delta.specs.Operations.{operation_text, operation_named, takes}
use Rattle.rdx_delta.specs.Reply.{value, host_domain}

-- ---- numbers of arguments

-- a list of a length that the operation doesn't take is outside of its domain, whatever stands in it
abbrev pub WrongNumberIsDomain : Type 0
WrongNumberIsDomain = (op : HostOp) (ts : List Tree) → takes op (length ts) ≡ false → delta op ts ≡ host_domain

-- a list of this length to which the operation replies a value
pub record HasValue (op : HostOp) (n : ℕ) : Type 0 where
  pub arguments : List Tree
  pub reply : Tree
  pub as_many : length arguments ≡ n
  pub replied : delta op arguments ≡ value reply

-- there is one for each number of arguments that the operation takes
abbrev pub TakenNumberHasValue : Type 0
TakenNumberHasValue = (op : HostOp) (n : ℕ) → takes op n ≡ true → HasValue op n

-- ---- words

-- the word of each operation names this operation, and no other word does
abbrev pub EachHasOneWord : Type 0
EachHasOneWord = (op : HostOp) (x : List ℕ) → (operation_named x ≡ Some op) ↔ (x ≡ operation_text op)
