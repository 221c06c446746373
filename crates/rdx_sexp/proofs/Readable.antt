-- What the data of a text have, by which they can be printed and read back.
use Rattle.std.proofs.Common.{◌≡◌, ◌==◌, ℕ, List, length, true, false}
use Rattle.std.specs.List.{list_any}
use Rattle.std.specs.Str.{chars, IsUtf8}
use Rattle.rdx_term.specs.Spelling.{ends_token, is_symbol_quote, is_symbol_spelling}
use Rattle.rdx_sexp.specs.Sexp.{Atom, integer, truth, text, symbol, keyword, Sexp, Sexps, leaf, list, nil, cons}
use Rattle.rdx_sexp.specs.Size.{IsSpelled, IsSpelledSexp, AreSpelled}
use Rattle.rdx_sexp.specs.Token.{fits}

-- what stands behind `#:` in a keyword
pub record IsKeyword (t : List ℕ) : Type 0 where
  pub utf8 : IsUtf8 t
  pub filled : (length t == 0) ≡ false
  pub token : list_any ends_token (chars t) ≡ false
  pub quotes : list_any is_symbol_quote t ≡ false

-- an atom of a text
abbrev pub IsReadable : Atom → Type 0
IsReadable (integer n) = fits n ≡ true
IsReadable (truth b) = Unit {0}
IsReadable (text t) = IsUtf8 t
IsReadable (symbol t) = IsUtf8 t × (is_symbol_spelling t ≡ true)
IsReadable (keyword t) = IsKeyword t

-- each atom in the data is one
abbrev mutual
  pub IsReadableSexp : Sexp → Type 0
  IsReadableSexp (leaf a s) = IsReadable a
  IsReadableSexp (list ds s) = AreReadable ds

  pub AreReadable : Sexps → Type 0
  AreReadable nil = Unit {0}
  AreReadable (cons d ds) = IsReadableSexp d × AreReadable ds

-- so its symbols are spelled as those of terms
IsSpelled-atom : (a : Atom) → IsReadable a → IsSpelled a
IsSpelled-atom (integer n) r = tt
IsSpelled-atom (truth b) r = tt
IsSpelled-atom (text t) r = tt
IsSpelled-atom (symbol t) r = r.1
IsSpelled-atom (keyword t) r = tt

mutual
  pub IsSpelled-readable : (d : Sexp) → IsReadableSexp d → IsSpelledSexp d
  IsSpelled-readable (leaf a s) r = IsSpelled-atom a r
  IsSpelled-readable (list ds s) r = AreSpelled-readable ds r

  pub AreSpelled-readable : (ds : Sexps) → AreReadable ds → AreSpelled ds
  AreSpelled-readable nil r = tt
  AreSpelled-readable (cons d ds) r = (IsSpelled-readable d r.0, AreSpelled-readable ds r.1)
