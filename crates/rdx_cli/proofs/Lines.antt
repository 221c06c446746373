-- The last line of a text.
use Rattle.std.proofs.Common.{◌≡◌, ℕ, zero, suc, ◌<◌, ◌≤◌, List, [], ◌∷◌, length, get_or, drop, true, false, not, ◌&&◌, nat_eq, refl, ap, arith}
use Rattle.rdx_cli.specs.Transcript.{is_line, last_line}

-- a text in which a line ends before its end is no line
pub not_line : (bs : List ℕ) (k : ℕ) → suc k < length bs → get_or bs k 0 ≡ 10 → is_line bs ≡ false
not_line [] k h e = absurd (omega arith)
not_line (b ∷ []) k h e = absurd (omega arith)
not_line (b ∷ c ∷ bs) zero h e = ap (λ x. not (nat_eq x 10) && is_line (c ∷ bs)) e
not_line (b ∷ c ∷ bs) (suc k) h e = let l = not_line (c ∷ bs) k (omega arith) e in grind arith

-- a line is its own last line
pub whole_line : (bs : List ℕ) → is_line bs ≡ true → last_line bs ≡ bs
whole_line [] l = refl
whole_line (b ∷ bs) l = grind arith

-- what stands behind a line end, and is a line, is the last line
pub line_behind : (bs : List ℕ) (k : ℕ) → suc k < length bs → get_or bs k 0 ≡ 10 → is_line (drop (suc k) bs) ≡ true → last_line bs ≡ drop (suc k) bs
line_behind [] k h e l = absurd (omega arith)
line_behind (b ∷ bs) zero h e l = let n = not_line (b ∷ bs) zero h e in let w = whole_line bs l in grind arith
line_behind (b ∷ bs) (suc k) h e l = let n = not_line (b ∷ bs) (suc k) h e in let w = line_behind bs k (omega arith) e l in grind arith

-- the last byte of a text is a line, and so is nothing
pub last_byte : (bs : List ℕ) (k : ℕ) → length bs ≤ suc k → is_line (drop k bs) ≡ true
last_byte [] zero h = refl
last_byte [] (suc k) h = refl
last_byte (b ∷ []) zero h = refl
last_byte (b ∷ c ∷ bs) zero h = absurd (omega arith)
last_byte (b ∷ bs) (suc k) h = last_byte bs k (omega arith)
