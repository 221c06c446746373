-- Data, with more lexemes or more data behind them.
use Rattle.std.proofs.Common.{ℕ, suc, List, [], ◌∷◌, ◌++◌}
use Rattle.rdx_sexp.specs.Grammar.{One, one_leaf, one_list, one_quoted, one_skipped, Many, many_none, many_more, many_skipped}
use Rattle.rdx_sexp.specs.Lexeme.{Lexeme, closing}
use Rattle.rdx_sexp.specs.Sexp.{Sexp}

-- more lexemes may follow
mutual
  pub one_grows : (more : List Lexeme) (n : ℕ) (ls rest : List Lexeme) (d : Sexp) → One n ls d rest → One n (ls ++ more) d (rest ++ more)
  one_grows more n ls rest d one_leaf = one_leaf
  one_grows more n ls rest d (one_list {b} {t} {ds} {ls = inner} lt many is) =
      one_list lt (many_grows more (suc n) inner (closing b t ∷ rest) ds many) is
  one_grows more n ls rest d (one_quoted {e} {ls = inner} lt one is) = one_quoted lt (one_grows more (suc n) inner rest e one) is
  one_grows more n ls rest d (one_skipped {d = x} {ls = inner} {mid} lt one then) =
      one_skipped lt (one_grows more (suc n) inner mid x one) (one_grows more n mid rest d then)

  pub many_grows : (more : List Lexeme) (n : ℕ) (ls rest : List Lexeme) (ds : List Sexp) → Many n ls ds rest → Many n (ls ++ more) ds (rest ++ more)
  many_grows more n ls rest ds many_none = many_none
  many_grows more n ls rest ds (many_more {d} {ds = es} {mid} one many) =
      many_more (one_grows more n ls mid d one) (many_grows more n mid rest es many)
  many_grows more n ls rest ds (many_skipped {d} {ls = inner} {mid} lt one many) =
      many_skipped lt (one_grows more (suc n) inner mid d one) (many_grows more n mid rest ds many)

-- more data may follow
pub many_then : (es : List Sexp) (rest : List Lexeme) (n : ℕ) (ls mid : List Lexeme) (ds : List Sexp)
    → Many n ls ds mid → Many n mid es rest → Many n ls (ds ++ es) rest
many_then es rest n ls mid ds many_none then = then
many_then es rest n ls mid ds (many_more {ds = xs} {mid = m} one many) then = many_more one (many_then es rest n m mid xs many then)
many_then es rest n ls mid ds (many_skipped {mid = m} lt one many) then = many_skipped lt one (many_then es rest n m mid ds many then)

-- data that are dropped may follow
pub many_dropped : (rest : List Lexeme) (n : ℕ) (ls mid : List Lexeme) (ds : List Sexp)
    → Many n ls ds mid → Many n mid [] rest → Many n ls ds rest
many_dropped rest n ls mid ds many_none then = then
many_dropped rest n ls mid ds (many_more {ds = xs} {mid = m} one many) then = many_more one (many_dropped rest n m mid xs many then)
many_dropped rest n ls mid ds (many_skipped {mid = m} lt one many) then = many_skipped lt one (many_dropped rest n m mid ds many then)

-- a datum may follow data that are dropped
pub one_behind : (d : Sexp) (rest : List Lexeme) (n : ℕ) (ls mid : List Lexeme) → Many n ls [] mid → One n mid d rest → One n ls d rest
one_behind d rest n ls mid many_none then = then
one_behind d rest n ls mid (many_skipped {mid = m} lt one many) then = one_skipped lt one (one_behind d rest n m mid many then)
