-- The one printed spelling of a datum.
use Rattle.std.specs.Prelude.{ℕ, List, [], ◌∷◌, ◌++◌, codes}
use Rattle.std.specs.Fmt.{signed_decimal}
use Rattle.rdx_term.specs.Text.{all_escaped, truth_text}
use Rattle.rdx_sexp.specs.Sexp.{Atom, integer, truth, text, symbol, keyword, Sexp, Sexps, leaf, list, nil, cons}

-- integers in decimal, a string in quotation marks with `"`, `\`, LF, TAB and CR as escapes, a symbol as its text, and `#:` before a keyword's
abbrev pub atom_text : Atom → List ℕ
atom_text (integer n) = signed_decimal n
atom_text (truth b) = truth_text b
atom_text (text t) = codes "\"" ++ all_escaped t ++ codes "\""
atom_text (symbol t) = t
atom_text (keyword t) = codes "#:" ++ t

-- a list in round brackets, whatever its own are
abbrev mutual
  pub sexp_text : Sexp → List ℕ
  sexp_text (leaf a s) = atom_text a
  sexp_text (list ds s) = codes "(" ++ sexps_text ds ++ codes ")"

  -- the items with one space between two
  pub sexps_text : Sexps → List ℕ
  sexps_text nil = []
  sexps_text (cons d ds) = sexp_text d ++ spaced_text ds

  -- each with a space before it
  pub spaced_text : Sexps → List ℕ
  spaced_text nil = []
  spaced_text (cons d ds) = codes " " ++ sexp_text d ++ spaced_text ds

-- The canonical text of data: each on a line of its own.
abbrev pub canonical_text : List Sexp → List ℕ
canonical_text [] = []
canonical_text (d ∷ ds) = sexp_text d ++ codes "\n" ++ canonical_text ds
