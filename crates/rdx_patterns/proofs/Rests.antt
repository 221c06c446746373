-- The rest of the data that a loop has before it.
use Rattle.std.proofs.Common.{◌≡◌, ℕ, zero, suc, ◌+◌, ◌<◌, length, drop, get_or, add-one, List, [], ◌∷◌, ap, sym, arith}

-- at the element d the rest begins with d
pub drop-at : {A : Type 0} (ds : List A) (i : ℕ) (d : A) → i < length ds → d ≡ get_or ds i d → drop i ds ≡ d ∷ drop (i + 1) ds
drop-at [] i d h e = absurd (omega arith)
drop-at (c ∷ ds) zero d h e = ap (λ x. x ∷ ds) (sym e)
drop-at (c ∷ ds) (suc i) d h e = let k = drop-at ds i d (omega arith) e in rw add-one (rw add-one at k)
