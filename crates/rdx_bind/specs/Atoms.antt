-- The terms that `variable-except` and `variable-prefix` match.
use Rattle.std.specs.Prelude.{ℕ, eqb, Bool, false, not, List}
use Rattle.std.specs.List.{starts_with}
use Rattle.rdx_term.specs.Tree.{Tree, symbol}
use Rattle.rdx_lang.specs.Rules.{is_one_of}

-- a symbol other than these
abbrev pub is_other_symbol : List (List ℕ) → Tree → Bool
is_other_symbol rs (symbol s) = not (is_one_of rs s)
is_other_symbol rs t = false

-- a symbol that begins so
abbrev pub has_prefix : List ℕ → Tree → Bool
has_prefix r (symbol s) = starts_with eqb s r
has_prefix r t = false
