-- Lists headed by a symbol, `(J d ...)`: the premises and the conclusions of judgements, their modes and their contracts.
use Rattle.std.specs.Prelude.{List, [], ◌∷◌, Option, Some, None, if◌then◌else◌}
use Rattle.rdx_sexp.specs.Sexp.{Sexp}
use Rattle.rdx_patterns.specs.Parts.{parts, is_symbol}

-- the symbol, and what stands behind it
pub record Headed : Type 0 where
  pub head : Sexp
  pub arguments : List Sexp

-- a list of these parts so
abbrev pub headed_among : Option (List Sexp) → Option Headed
headed_among None = None
headed_among (Some []) = None
headed_among (Some (h ∷ ds)) = if is_symbol h then Some (record { head = h; arguments = ds }) else None

-- a datum so
abbrev pub headed : Sexp → Option Headed
headed d = headed_among (parts d)
