-- The laws of terms: of their marks, and of what is left where marks are forgotten. They are proved, as the clauses of `laws`.
use Rattle.std.specs.Prelude.{◌≡◌, ◌≤◌, ℕ, Option, Some, IsTrue}
use Rattle.rdx_term.specs.Tree.{Tree, Trees, list, tree_depth, tree_nodes, tree_holes, trees_holes}
use Rattle.rdx_term.specs.Context.{is_context}
use Rattle.rdx_term.specs.Terms.{IsTerm}
use Rattle.rdx_term.specs.Building.{hole_place}
use Rattle.rdx_term.specs.Bare.{bare}
use Rattle.rdx_term.specs.Text.{tree_text}

-- ---- marks

-- a context has a hole
abbrev pub ContextsHaveHoles : Type 0
ContextsHaveHoles = (t : Tree) → IsTrue (is_context t) → 1 ≤ tree_holes t

-- a term with exactly one hole is a context
abbrev pub OneHoleIsContext : Type 0
OneHoleIsContext = (t : Tree) → IsTerm t → tree_holes t ≡ 1 → IsTrue (is_context t)

-- a list with exactly one hole that is a term is marked at the item that has it
abbrev pub OneHoleIsMarked : Type 0
OneHoleIsMarked =
    (mark : Option ℕ) (items : Trees) → IsTerm (list mark items) → trees_holes items ≡ 1 → mark ≡ Some (hole_place items)

-- ---- marks forgotten

-- nothing is left to forget
abbrev pub ForgottenOnce : Type 0
ForgottenOnce = (t : Tree) → bare (bare t) ≡ bare t

-- a term without a hole has no mark
abbrev pub NoHoleNoMark : Type 0
NoHoleNoMark = (t : Tree) → IsTerm t → tree_holes t ≡ 0 → bare t ≡ t

-- the depth, the nodes, the holes and the printed text do not depend on marks
pub record KeepsAllElse (t : Tree) : Type 0 where
  pub depth : tree_depth (bare t) ≡ tree_depth t
  pub nodes : tree_nodes (bare t) ≡ tree_nodes t
  pub holes : tree_holes (bare t) ≡ tree_holes t
  pub text : tree_text (bare t) ≡ tree_text t
