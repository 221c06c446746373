-- What a pattern splits a term into.
use Rattle.rdx_term.specs.Tree.{Tree}
use Rattle.rdx_lang.specs.Bindings.{Binding}

-- a context, the part that stands in its hole, and what the names of the pattern stand for
pub record Decomposition : Type 0 where
  pub context : Tree
  pub part : Tree
  pub binding : Binding
