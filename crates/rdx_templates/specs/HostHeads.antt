-- Lists by their heads, where a host expression has to stand.
use Rattle.std.specs.Prelude.{ℕ, suc, ◌==◌, Option, Some, None, codes, bytes_eq, List, if◌then◌else◌}
use Rattle.rdx_sexp.specs.Sexp.{symbol, Sexps, leaf, nil, cons}
use Rattle.rdx_lang.specs.declared.operation.HostOp.{HostOp}
use Rattle.rdx_delta.specs.Operations.{operation_named, takes}

-- the kinds of lists
pub data HostHead : Type 0 where
  -- `(term t)`
  quoting : HostHead
  -- an operation, with as many arguments as it takes
  applying : HostOp → HostHead
  -- `(and h ...)`
  all_of : HostHead
  -- `(or h ...)`
  some_of : HostHead
  -- `term` or an operation with another number of arguments
  miscounted : HostHead
  -- every other list, which Racket might understand
  foreign : HostHead

-- how many data there are
abbrev pub count : Sexps → ℕ
count nil = 0
count (cons d ds) = suc (count ds)

-- the kind of a list of an operation, if the head is one, with so many arguments
abbrev pub operation_head : Option HostOp → ℕ → HostHead
operation_head None n = foreign
operation_head (Some op) n = if takes op n then applying op else miscounted

-- the kind of a list that begins with this word, with so many data behind it
abbrev pub host_head_of : List ℕ → ℕ → HostHead
host_head_of x n =
    if bytes_eq x (codes "term") then (if n == 1 then quoting else miscounted)
    else if bytes_eq x (codes "and") then all_of
    else if bytes_eq x (codes "or") then some_of
    else operation_head (operation_named x) n

-- the kind of a list of these data
abbrev pub host_head : Sexps → HostHead
host_head (cons (leaf (symbol x) s) ds) = host_head_of x (count ds)
host_head ds = foreign
