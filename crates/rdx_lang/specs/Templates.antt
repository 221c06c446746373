-- Templates, as plain data: what makes a term of a binding (after the Redex reference manual, "Terms"); and host expressions, which compute
-- with such terms.
use Rattle.std.specs.Prelude.{ℕ, ℤ, Bool, List}
use Rattle.rdx_term.specs.Tree.{Tree}
use Rattle.rdx_lang.specs.declared.operation.HostOp.{HostOp}

mutual
  -- a term as it is, a name with its depth, a context with what fills it, the value of a metafunction for the list of its arguments, what a
  -- host expression makes, or a list
  pub data Template : Type 0 where
    lit : Tree → Template
    var : List ℕ → ℕ → Template
    fill : Template → Template → Template
    call : List ℕ → Items → Template
    host : Host → Template
    seq : Items → Template

  -- the items of a list template: one by its template, or as many as the sequences have that the names in it stand for, an ellipsis behind it
  pub data Items : Type 0 where
    nil : Items
    one : Template → Items → Items
    many : Template → Items → Items

  -- a host expression: `(term t)`, a number, a boolean, an operation with its arguments, `and`, or `or`
  pub data Host : Type 0 where
    term : Template → Host
    number : ℤ → Host
    boolean : Bool → Host
    apply : HostOp → Hosts → Host
    both : Hosts → Host
    either : Hosts → Host

  -- host expressions, one after the other
  pub data Hosts : Type 0 where
    none : Hosts
    more : Host → Hosts → Hosts
