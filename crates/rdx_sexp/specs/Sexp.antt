-- Data as a file writes them, each with its span.
use Rattle.std.specs.Prelude.{ℕ, ◌+◌, ℤ, Bool, List, [], ◌∷◌}
use Rattle.rdx_base.specs.declared.place.Span.{Span}

-- what is written without brackets; a text, a symbol and a keyword are their bytes in UTF-8
pub data Atom : Type 0 where
  integer : ℤ → Atom
  truth : Bool → Atom
  text : List ℕ → Atom
  symbol : List ℕ → Atom
  keyword : List ℕ → Atom

-- a datum: an atom, or a list, whose span has its brackets in it
mutual
  pub data Sexp : Type 0 where
    leaf : Atom → Span → Sexp
    list : Sexps → Span → Sexp

  pub data Sexps : Type 0 where
    nil : Sexps
    cons : Sexp → Sexps → Sexps

-- the data of a list
abbrev pub sexps : List Sexp → Sexps
sexps [] = nil
sexps (d ∷ ds) = cons d (sexps ds)

-- from the first character of a datum to the place behind its last
abbrev pub span_of : Sexp → Span
span_of (leaf a s) = s
span_of (list ds s) = s

-- how many data a datum is, with all its parts
abbrev mutual
  pub sexp_nodes : Sexp → ℕ
  sexp_nodes (leaf a s) = 1
  sexp_nodes (list ds s) = sexps_nodes ds + 1

  pub sexps_nodes : Sexps → ℕ
  sexps_nodes nil = 0
  sexps_nodes (cons d ds) = sexp_nodes d + sexps_nodes ds
