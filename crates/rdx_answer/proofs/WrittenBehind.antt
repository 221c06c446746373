-- Texts that are written one behind the other.
use Rattle.std.proofs.Common.{◌≡◌, ◌++◌, ◌∙◌, ℕ, List, append_assoc, ap}

-- behind o there stands x, and then y is put
pub written_behind : (o x y : List ℕ) {p q : List ℕ} → p ≡ o ++ x → q ≡ p ++ y → q ≡ o ++ (x ++ y)
written_behind o x y e f = f ∙ ap (λ (z : List ℕ). z ++ y) e ∙ append_assoc o x y
