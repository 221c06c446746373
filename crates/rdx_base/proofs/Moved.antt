-- What a copy of the next bytes takes from those that are left.
use Rattle.std.proofs.Common.{◌≡◌, ℕ, ◌+◌, ◌≤◌, List, ◌++◌, length, take, drop, sym, ◌∙◌, ap, arith}
use Rattle.std.proofs.lemmas.List.{take-append-drop, length-take-le}
use Rattle.std.proofs.Math.Seq.{take-append_seam}
use Rattle.std.proofs.lemmas.Grind.{common_steps}

-- dropping some and then some more is dropping all of them at once
pub drop-plus : (at n : ℕ) (xs : List ℕ) → drop (at + n) xs ≡ drop n (drop at xs)
drop-plus at n xs = grind (arith, common_steps)

-- the first n of a list that begins with the first n of another
pub take-copied : (got rest ys : List ℕ) (n : ℕ) → got ≡ take n ys → n ≤ length ys → take n (got ++ rest) ≡ take n ys
take-copied got rest ys n got_is fits =
    let len : length got ≡ n = ap length got_is ∙ length-take-le n ys fits in
    rw (← len) (take-append_seam got rest ∙ got_is ∙ ap (λ k. take k ys) (sym len))

-- what was left is what was copied to the front of the buffer, and then what is left
pub drop-copied : (xs got rest : List ℕ) (at n : ℕ) → got ≡ take n (drop at xs) → n ≤ length (drop at xs) → drop at xs ≡ take n (got ++ rest) ++ drop (at + n) xs
drop-copied xs got rest at n got_is fits =
    sym (take-append-drop n (drop at xs))
    ∙ ap (λ (l : List ℕ). l ++ drop n (drop at xs)) (sym (take-copied got rest (drop at xs) n got_is fits))
    ∙ ap (λ (l : List ℕ). take n (got ++ rest) ++ l) (sym (drop-plus at n xs))
