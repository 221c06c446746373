-- The names that are bound in a pattern.
use Rattle.std.specs.Prelude.{ℕ, List, map}
use Rattle.rdx_patterns.specs.Parts.{text_of}
use Rattle.rdx_patterns.specs.PatternChecks.{Bound}

-- the names that these bind
abbrev pub bound_names : List Bound → List (List ℕ)
bound_names bs = map (λ b. text_of b.symbol) bs
