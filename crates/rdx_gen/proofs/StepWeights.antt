-- What steps leave weighs less.
use Rattle.std.proofs.Common.{◌≡◌, ◌<◌, ◌≤◌, ◌+◌, ◌-◌, ◌*◌, ℕ, suc, ap, ◌∙◌, arith}
use Rattle.std.proofs.Math.Nat.{suc-mul, mul-le-mul_right}

-- the first of n turns, and the others, weigh no more than all that may be
pub turns_less : (w r n : ℕ) → 0 < n → n < 18446744073709551616 → (n - 1) * (w + 1) + r + 1 + w < 18446744073709551616 * (w + 1) + r + 1
turns_less w r n l h =
    let k : n ≡ suc (n - 1) = omega (arith, l) in
    let e : n * (w + 1) ≡ (n - 1) * (w + 1) + (w + 1) = ap (λ (i : ℕ). i * (w + 1)) k ∙ suc-mul (n - 1) (w + 1) in
    let j : n ≤ 18446744073709551616 = omega (arith, h) in
    let d : n * (w + 1) ≤ 18446744073709551616 * (w + 1) = mul-le-mul_right (w + 1) j in
    omega (arith, e, d)

-- the next turn and those behind it weigh less than before
pub turn_less : (w r n : ℕ) → 0 < n → (n - 1) * (w + 1) + r + 1 + w < n * (w + 1) + r + 1
turn_less w r n l =
    let k : n ≡ suc (n - 1) = omega (arith, l) in
    let e : n * (w + 1) ≡ (n - 1) * (w + 1) + (w + 1) = ap (λ (i : ℕ). i * (w + 1)) k ∙ suc-mul (n - 1) (w + 1) in
    omega (arith, e)
