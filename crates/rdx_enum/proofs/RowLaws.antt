-- Rows by their numbers.
use Rattle.std.proofs.Common.{◌≡◌, ℕ, zero, suc, ◌+◌, ◌<◌, ◌≤◌, [], ◌∷◌, ◌++◌, length, get_or, Vec, refl, sym, ap, arith}
use Rattle.std.specs.declared.alloc.Global.{Global}
use Rattle.rdx_term.specs.declared.term.Term.{Term}
use Rattle.rdx_enum.specs.Inside.Rows.{Rows, row_of, row_at}

-- the row of a number is what stands there
pub row_at-get : (rows : Rows) (k : ℕ) (row : Vec Term Global) → k < length rows → row ≡ get_or rows k row → row_at rows k ≡ row_of row
row_at-get [] k row h e = absurd (omega arith)
row_at-get (r ∷ rows) zero row h e = ap row_of (sym e)
row_at-get (r ∷ rows) (suc k) row h e = row_at-get rows k row (omega arith) e

-- behind the last there is none
pub row_at-none : (rows : Rows) (k : ℕ) → length rows ≤ k → row_at rows k ≡ []
row_at-none [] k h = refl
row_at-none (r ∷ rows) zero h = absurd (omega arith)
row_at-none (r ∷ rows) (suc k) h = row_at-none rows k (omega arith)

-- one row more changes none before it
pub row_at-before : (rows : Rows) (row : Vec Term Global) (k : ℕ) → k < length rows → row_at (rows ++ row ∷ []) k ≡ row_at rows k
row_at-before [] row k h = absurd (omega arith)
row_at-before (r ∷ rows) row zero h = refl
row_at-before (r ∷ rows) row (suc k) h = row_at-before rows row k (omega arith)

-- and stands behind them
pub row_at-last : (rows : Rows) (row : Vec Term Global) (k : ℕ) → k ≡ length rows → row_at (rows ++ row ∷ []) k ≡ row_of row
row_at-last [] row zero h = refl
row_at-last [] row (suc k) h = absurd (omega arith)
row_at-last (r ∷ rows) row zero h = absurd (omega arith)
row_at-last (r ∷ rows) row (suc k) h = row_at-last rows row k (omega arith)

-- one row more is one more
pub length-more : (rows : Rows) (row : Vec Term Global) → length (rows ++ row ∷ []) ≡ length rows + 1
length-more [] row = refl
length-more (r ∷ rows) row = let k : length (rows ++ row ∷ []) ≡ length rows + 1 = length-more rows row in omega arith
