-- Definitions of nonterminals, as they are written.
use Rattle.std.specs.Prelude.{List, [], ◌∷◌, Option, Some, None, option_map, codes, if◌then◌else◌}
use Rattle.rdx_sexp.specs.Sexp.{symbol, Sexp, leaf, list}
use Rattle.rdx_patterns.specs.Parts.{listed, is_symbol, is_word, are_symbols}

-- the names that are defined, and the alternatives that each of them has
pub record Definition : Type 0 where
  pub names : List Sexp
  pub alternatives : List Sexp

-- with one alternative at least
abbrev pub definition : List Sexp → List Sexp → Option Definition
definition names [] = None
definition names (p ∷ ps) = Some (record { names = names; alternatives = p ∷ ps })

-- with one more name in front
abbrev pub further : Sexp → List Sexp × List Sexp → List Sexp × List Sexp
further d x = (d ∷ x.0, x.1)

-- what stands before the first `::=`, where these are symbols, and what stands behind it
abbrev pub at_sign : List Sexp → Option (List Sexp × List Sexp)
at_sign [] = None
at_sign (d ∷ ds) =
    if is_word (codes "::=") d then Some ([], ds)
    else if is_symbol d then option_map (further d) (at_sign ds)
    else None

-- `e p ...`, or `e f ... ::= p ...` where that sign is there
abbrev pub named_by : Sexp → List Sexp → Option (List Sexp × List Sexp) → Option Definition
named_by e ds None = definition (e ∷ []) ds
named_by e ds (Some x) = definition (e ∷ x.0) x.1

-- `(e f ...) p ...`
abbrev pub named_all : List Sexp → List Sexp → Option Definition
named_all [] ds = None
named_all (e ∷ es) ds = if are_symbols (e ∷ es) then definition (e ∷ es) ds else None

-- by the first item
abbrev pub definition_by : Sexp → List Sexp → Option Definition
definition_by (leaf (symbol x) s) ds = named_by (leaf (symbol x) s) ds (at_sign ds)
definition_by (list es s) ds = named_all (listed es) ds
definition_by d ds = None

-- the definition that a list of these data is
abbrev pub definition_among : List Sexp → Option Definition
definition_among [] = None
definition_among (d ∷ ds) = definition_by d ds

-- the definition that a datum is, if it has the shape of one: `(e p ...)`, `((e f ...) p ...)` or `(e f ... ::= p ...)`
abbrev pub definition_in : Sexp → Option Definition
definition_in (leaf a s) = None
definition_in (list ds s) = definition_among (listed ds)
