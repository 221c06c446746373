-- The entries of a store: the key of each gives its term, and no two have one term.
use Rattle.std.specs.Prelude.{◌≡◌, List, [], ◌∷◌, length, map}
use Rattle.rdx_term.specs.Tree.{Tree, hole, integer, truth, text, symbol, list, trees}
use Rattle.rdx_term.specs.View.{tree_of}
use Rattle.rdx_term.specs.declared.term.Term.{Term}
use Rattle.rdx_store.specs.Model.KeyView.{shape_of}
use Rattle.rdx_store.specs.Model.Shapes.{Shape, hole_shape, integer_shape, truth_shape, text_shape, symbol_shape, list_shape, ids_in}
use Rattle.rdx_store.specs.Stored.{trees_by_ids, AreIds, AreDistinct}
use Rattle.rdx_store.specs.declared.key.Key.{Key}

-- the tree of a shape, where these are the terms
abbrev pub tree_by : List Tree → Shape → Tree
tree_by ts hole_shape = hole
tree_by ts (integer_shape n) = integer n
tree_by ts (truth_shape b) = truth b
tree_by ts (text_shape s) = text s
tree_by ts (symbol_shape s) = symbol s
tree_by ts (list_shape m is) = list m (trees (trees_by_ids ts is))

-- the shape has ids of these terms, and gives the tree
pub record IsShapeOf (ts : List Tree) (s : Shape) (t : Tree) : Type 0 where
  pub ids : AreIds (ids_in s) (length ts)
  pub tree : tree_by ts s ≡ t

-- the trees of entries
abbrev pub entry_trees : List (Key × Term) → List Tree
entry_trees es = map (λ e. tree_of e.1) es

-- the key of each entry gives its term
abbrev pub AreDescribed : List Tree → List (Key × Term) → Type 0
AreDescribed ts [] = Unit {0}
AreDescribed ts (e ∷ es) = IsShapeOf ts (shape_of e.0) (tree_of e.1) × AreDescribed ts es

-- entries are those of a store
pub record AreEntries (es : List (Key × Term)) : Type 0 where
  pub described : AreDescribed (entry_trees es) es
  pub distinct : AreDistinct (entry_trees es)
