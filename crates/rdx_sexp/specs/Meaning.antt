-- The term that a datum stands for.
use Rattle.std.specs.Prelude.{Option, Some, None, option_map, codes, bytes_eq, if◌then◌else◌}
use Rattle.rdx_term.specs.Tree as tree
use Rattle.rdx_term.specs.Tree.{Tree, Trees}
use Rattle.rdx_term.specs.Building.{list_of}
use Rattle.rdx_sexp.specs.Sexp.{Atom, integer, truth, text, symbol, keyword, Sexp, Sexps, leaf, list, nil, cons}

-- the symbol `hole` is the hole, and no keyword is a term
abbrev pub atom_tree : Atom → Option Tree
atom_tree (integer n) = Some (tree.integer n)
atom_tree (truth b) = Some (tree.truth b)
atom_tree (text t) = Some (tree.text t)
atom_tree (symbol t) = if bytes_eq t (codes "hole") then Some tree.hole else Some (tree.symbol t)
atom_tree (keyword t) = None

-- one term more in front, where there are terms
abbrev pub one_more : Option Tree → Option Trees → Option Trees
one_more (Some t) (Some ts) = Some (tree.cons t ts)
one_more (Some t) None = None
one_more None ts = None

-- A datum with a keyword in it stands for no term. A list is marked where its one hole is, as each list of terms.
abbrev mutual
  pub meaning : Sexp → Option Tree
  meaning (leaf a s) = atom_tree a
  meaning (list ds s) = option_map list_of (meanings ds)

  pub meanings : Sexps → Option Trees
  meanings nil = Some tree.nil
  meanings (cons d ds) = one_more (meaning d) (meanings ds)
