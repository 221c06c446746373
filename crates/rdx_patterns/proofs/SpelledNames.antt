-- Symbols that are spelled as those of terms are names, but for `hole`.
use Rattle.std.proofs.Common.{◌≡◌, true, ℕ, false, List}
use Rattle.std.specs.Prelude.{IsTrue, ◌||◌, bytes_eq, codes, nat_eq}
use Rattle.rdx_term.specs.Spelling.{is_symbol_spelling, is_name}
use Rattle.rdx_sexp.specs.Sexp.{Sexp, leaf, list, integer, truth, text, symbol, keyword}
use Rattle.rdx_sexp.specs.Size.{IsSpelledSexp}
use Rattle.rdx_patterns.specs.Parts.{text_of, is_symbol}
use Rattle.std.specs.Cmp.Lexicographic.{pointwise}
use Rattle.rdx_patterns.specs.Names.{is_bad_name, begins_with_dots, occurs_in, is_bad_bound}
use Rattle.rdx_patterns.proofs.Booleans.{or_false, and_not_both}

-- a symbol
pub symbol-spelled : (d : Sexp) → is_symbol d ≡ true → IsSpelledSexp d → IsTrue (is_symbol_spelling (text_of d))
symbol-spelled (leaf (symbol x) s) e h = h
symbol-spelled (leaf (integer n) s) e h = absurd cc
symbol-spelled (leaf (truth b) s) e h = absurd cc
symbol-spelled (leaf (text t) s) e h = absurd cc
symbol-spelled (leaf (keyword k) s) e h = absurd cc
symbol-spelled (list ds s) e h = absurd cc

-- a spelling other than `hole` is a name
pub name-spelled : (x : List ℕ) → IsTrue (is_symbol_spelling x) → bytes_eq x (codes "hole") ≡ false → IsTrue (is_name x)
name-spelled x h e = and_not_both (is_symbol_spelling x) (pointwise nat_eq x (codes "hole")) h e

-- what may be bound by this name may be defined by it
pub bound-not_bad : (x : List ℕ) → is_bad_bound x ≡ false → is_bad_name x ≡ false
bound-not_bad x e = (or_false (is_bad_name x) (occurs_in (codes "_!_") x) e).0

-- a name that a language may have, or that may be bound, is no `hole`
pub language-not_hole : (x : List ℕ) → is_bad_name x ≡ false → bytes_eq x (codes "hole") ≡ false
language-not_hole x e = (or_false (bytes_eq x (codes "hole")) (bytes_eq x (codes "_")) (or_false (bytes_eq x (codes "hole") || bytes_eq x (codes "_")) (begins_with_dots x) e).0).0
