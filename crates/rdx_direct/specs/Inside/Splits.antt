-- What a term is split into at the end of a path by a pattern that binds nothing, or a name for the context alone.
use Rattle.std.specs.Prelude.{◌≡◌, ℕ, List}
use Rattle.rdx_term.specs.AtPaths.{tree_at, context_at}
use Rattle.rdx_term.specs.Tree.{Tree}
use Rattle.rdx_lang.specs.Bindings.{no_names, one, one_name}
use Rattle.rdx_lang.specs.Decompositions.{Decomposition}

-- with no names
abbrev pub plain_split : Tree → List ℕ → Decomposition
plain_split t w = record { context = context_at t w; part = tree_at t w; binding = no_names }

-- with the name x for the context
abbrev pub named_split : List ℕ → Tree → List ℕ → Decomposition
named_split x t w = record { context = context_at t w; part = tree_at t w; binding = one_name x (one (context_at t w)) }

abbrev pub IsPlainSplit : Tree → List ℕ → Decomposition → Type 0
IsPlainSplit t w d = d ≡ plain_split t w

abbrev pub IsNamedSplit : List ℕ → Tree → List ℕ → Decomposition → Type 0
IsNamedSplit x t w d = d ≡ named_split x t w
