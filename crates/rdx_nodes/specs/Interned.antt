-- Interned terms.
use Rattle.rdx_term.specs.Tree.{Tree}
use Rattle.rdx_store.specs.Stored.{tree_by_id}
use Rattle.rdx_nodes.specs.declared.interned.Interned.{Interned}

-- the tree of the whole term
abbrev pub tree_in : Interned → Tree
tree_in w = tree_by_id w.store w.id
