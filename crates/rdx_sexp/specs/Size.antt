-- How large the data of a file are.
use Rattle.std.specs.Prelude.{ℕ, suc, ◌≤◌, max, List, IsTrue}
use Rattle.rdx_term.specs.Spelling.{is_symbol_spelling}
use Rattle.rdx_sexp.specs.Sexp.{Atom, integer, truth, text, symbol, keyword, Sexp, Sexps, leaf, list, nil, cons, sexps, sexps_nodes}

-- how deep lists nest
abbrev mutual
  pub sexp_depth : Sexp → ℕ
  sexp_depth (leaf a s) = 0
  sexp_depth (list ds s) = suc (sexps_depth ds)

  pub sexps_depth : Sexps → ℕ
  sexps_depth nil = 0
  sexps_depth (cons d ds) = max (sexp_depth d) (sexps_depth ds)

-- a symbol is spelled as the symbols of terms are
abbrev pub IsSpelled : Atom → Type 0
IsSpelled (integer n) = Unit {0}
IsSpelled (truth b) = Unit {0}
IsSpelled (text t) = Unit {0}
IsSpelled (symbol t) = IsTrue (is_symbol_spelling t)
IsSpelled (keyword t) = Unit {0}

-- each symbol in the data is
abbrev mutual
  pub IsSpelledSexp : Sexp → Type 0
  IsSpelledSexp (leaf a s) = IsSpelled a
  IsSpelledSexp (list ds s) = AreSpelled ds

  pub AreSpelled : Sexps → Type 0
  AreSpelled nil = Unit {0}
  AreSpelled (cons d ds) = IsSpelledSexp d × AreSpelled ds

-- the data of a file of at most 1,048,576 bytes: how deep they nest, how many they are with all their parts, and their symbols
pub record AreFileData (ds : List Sexp) : Type 0 where
  pub depth : sexps_depth (sexps ds) ≤ 500
  pub nodes : sexps_nodes (sexps ds) ≤ 2_097_152
  pub spelled : AreSpelled (sexps ds)
