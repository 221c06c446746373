-- When a tree is not filled, and why.
use Rattle.std.specs.Prelude.{◌≡◌, ℕ, IsTrue}
use Rattle.std.specs.Bool.{IsFalse}
use Rattle.rdx_term.specs.Tree.{Tree, tree_holes}
use Rattle.rdx_term.specs.Context.{is_context}
use Rattle.rdx_term.specs.Terms.{IsTooDeep, IsTooLarge}
use Rattle.rdx_term.specs.Fill.{fill_of}

-- no context, with so many holes
abbrev pub IsNoContext : Tree → ℕ → Type 0
IsNoContext t holes = IsFalse (is_context t) × (holes ≡ tree_holes t)

-- a context that is too deep once it is filled
abbrev pub FillsTooDeep : Tree → Tree → Type 0
FillsTooDeep context part = IsTrue (is_context context) × IsTooDeep (fill_of context part)

-- a context that is too large once it is filled, and not too deep
abbrev pub FillsTooLarge : Tree → Tree → Type 0
FillsTooLarge context part = IsTrue (is_context context) × IsTooLarge (fill_of context part)
