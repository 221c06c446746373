-- Stores with more terms: what an id gives in one it gives in the other.
use Rattle.std.proofs.Common.{◌≡◌, ℕ, ◌+◌, ◌<◌, ◌≤◌, List, [], ◌∷◌, ◌++◌, length, refl, sym, ◌∙◌, ap, arith}
use Rattle.std.proofs.lemmas.List.{append_assoc, append-nil, length-append}
use Rattle.std.proofs.Math.ListN.{get_or-append}
use Rattle.rdx_term.specs.Tree.{Tree, hole}
use Rattle.rdx_store.specs.Stored.{tree_by_id, trees_by_ids, AreIds, AreDistinct, Extends}

-- a store has its own terms
pub extends-same : {ts : List Tree} → Extends ts ts
extends-same {ts} = record { more = []; kept = sym (append-nil ts) }

-- and what it has after one step and then another
pub extends-then : {ts us vs : List Tree} → Extends ts us → Extends us vs → Extends ts vs
extends-then {ts} a b =
    record { more = a.more ++ b.more; kept = b.kept ∙ ap (λ xs. xs ++ b.more) a.kept ∙ append_assoc ts a.more b.more }

-- a store that has more is as long
pub extends-length : {ts us : List Tree} → Extends ts us → length ts ≤ length us
extends-length {ts} {us} a = let e : length us ≡ length ts + length a.more = ap length a.kept ∙ length-append ts a.more in omega arith

-- ids stay ids
pub ids-more : (is : List ℕ) (n m : ℕ) → n ≤ m → AreIds is n → AreIds is m
ids-more [] n m h a = tt
ids-more (i ∷ is) n m h a = (omega (arith, a.0), ids-more is n m h a.1)

-- an id keeps its term
pub tree_by_id-extends : {ts us : List Tree} (i : ℕ) → Extends ts us → i < length ts → tree_by_id us i ≡ tree_by_id ts i
tree_by_id-extends {ts} i a h = ap (λ xs. tree_by_id xs i) a.kept ∙ get_or-append ts a.more hole i h

-- so do several
pub trees_by_ids-extends : {ts us : List Tree} (is : List ℕ)
    → Extends ts us → AreIds is (length ts) → trees_by_ids us is ≡ trees_by_ids ts is
trees_by_ids-extends [] a h = refl
trees_by_ids-extends (i ∷ is) a h = λ j. tree_by_id-extends i a h.0 j ∷ trees_by_ids-extends is a h.1 j

-- an older id and another are equal where their terms are
pub ids-equal : {ts us : List Tree} (i j : ℕ)
    → Extends ts us → AreDistinct us → i < length ts → j < length us → tree_by_id ts i ≡ tree_by_id us j → i ≡ j
ids-equal {ts} {us} i j a d h k e =
    let n : length ts ≤ length us = extends-length a in
    d i j (omega arith) k (tree_by_id-extends i a h ∙ e)
