-- What marking places changes.
use Rattle.std.proofs.Common.{◌≡◌, ℕ, zero, suc, ◌+◌, ◌<◌, Bool, true, false, List, [], ◌∷◌, ◌++◌, length, set, get_or, replicate, refl, ap, ◌⊎◌, inl, inr, arith, length-append, if◌then◌else◌}
use Rattle.std.proofs.lemmas.List.{length-set}
use Rattle.rdx_lang.proofs.MemberLaws.{in-append, append-left, append-right}
use Rattle.rdx_lang.specs.Members.{In, here, there}
use Rattle.rdx_leftrec.specs.Inside.Marking.{Marking, unmarked, mark, waiting}
use Rattle.rdx_leftrec.specs.Inside.Reach.{IsMarked}

-- a marked place is a place
pub marked-inside : (bs : List Bool) (k : ℕ) → IsMarked bs k → k < length bs
marked-inside [] k h = absurd cc
marked-inside (b ∷ bs) zero h = omega arith
marked-inside (b ∷ bs) (suc k) h = let l = marked-inside bs k h in omega arith

-- among no marks none is marked
pub marked-replicate : (n k : ℕ) → IsMarked (replicate n false) k → ⊥
marked-replicate zero k h = absurd cc
marked-replicate (suc n) zero h = absurd cc
marked-replicate (suc n) (suc k) h = marked-replicate n k h

-- what was marked stays so
marked-set_kept : (bs : List Bool) (j k : ℕ) → IsMarked bs k → IsMarked (set bs j true) k
marked-set_kept [] j k h = absurd cc
marked-set_kept (b ∷ bs) zero zero h = refl
marked-set_kept (b ∷ bs) zero (suc k) h = h
marked-set_kept (b ∷ bs) (suc j) zero h = h
marked-set_kept (b ∷ bs) (suc j) (suc k) h = marked-set_kept bs j k h

-- what is marked is so
marked-set_here : (bs : List Bool) (j : ℕ) → j < length bs → IsMarked (set bs j true) j
marked-set_here [] j h = absurd (omega arith)
marked-set_here (b ∷ bs) zero h = refl
marked-set_here (b ∷ bs) (suc j) h = marked-set_here bs j (omega arith)

-- nothing else is
pub marked-set_only : (bs : List Bool) (j k : ℕ) → IsMarked (set bs j true) k → IsMarked bs k ⊎ (k ≡ j)
marked-set_only [] j k h = absurd cc
marked-set_only (b ∷ bs) zero zero h = inr refl
marked-set_only (b ∷ bs) zero (suc k) h = inl h
marked-set_only (b ∷ bs) (suc j) zero h = inl h
marked-set_only (b ∷ bs) (suc j) (suc k) h = elim (marked-set_only bs j k h) [ inl l ↦ inl l | inr e ↦ inr (ap suc e) ]

-- one place less is unmarked
pub unmarked-set : (bs : List Bool) (j : ℕ) → j < length bs → get_or bs j false ≡ false → unmarked (set bs j true) + 1 ≡ unmarked bs
unmarked-set [] j h e = absurd (omega arith)
unmarked-set (true ∷ bs) zero h e = absurd cc
unmarked-set (false ∷ bs) zero h e = refl
unmarked-set (true ∷ bs) (suc j) h e = unmarked-set bs j (omega arith) e
unmarked-set (false ∷ bs) (suc j) h e = let k = unmarked-set bs j (omega arith) e in omega arith

-- t is s with the place j marked
pub record Grows (j : ℕ) (s t : Marking) : Type 0 where
  pub size : length t.marks ≡ length s.marks
  pub kept : (k : ℕ) → IsMarked s.marks k → IsMarked t.marks k
  pub here : IsMarked t.marks j
  pub only : (k : ℕ) → IsMarked t.marks k → IsMarked s.marks k ⊎ (k ≡ j)
  pub pending_kept : (k : ℕ) → In k s.pending → In k t.pending
  pub pending_only : (k : ℕ) → In k t.pending → In k s.pending ⊎ (k ≡ j)
  pub new : (k : ℕ) → IsMarked t.marks k → IsMarked s.marks k ⊎ In k t.pending
  pub balance : waiting t ≡ waiting s

-- so it is where the place is marked unless it was
pub grows : (s : Marking) (j : ℕ) → j < length s.marks → Grows j s (mark s j)
grows s j l = by_test (get_or s.marks j false) refl
  where
    next : Marking
    next = record { marks = set s.marks j true; pending = s.pending ++ j ∷ [] }

    alone : (k : ℕ) → In k (j ∷ []) → k ≡ j
    alone k (here e) = e
    alone k (there h) = elim h [ ]

    by_test : (b : Bool) → get_or s.marks j false ≡ b → Grows j s (if b then s else next)
    by_test true e = record {
      size = refl;
      kept = λ k h. h;
      here = e;
      only = λ k h. inl h;
      pending_kept = λ k h. h;
      pending_only = λ k h. inl h;
      new = λ k h. inl h;
      balance = refl;
    }
    by_test false e = record {
      size = length-set s.marks j true;
      kept = λ k h. marked-set_kept s.marks j k h;
      here = marked-set_here s.marks j l;
      only = λ k h. marked-set_only s.marks j k h;
      pending_kept = λ k h. append-left s.pending (j ∷ []) k h;
      pending_only = λ k h. elim (in-append s.pending (j ∷ []) k h) [ inl m ↦ inl m | inr m ↦ inr (alone k m) ];
      new = λ k h. elim (marked-set_only s.marks j k h) [ inl m ↦ inl m | inr d ↦ inr (append-right s.pending (j ∷ []) k (here d)) ];
      balance = let u = unmarked-set s.marks j l e in omega (arith, length-append s.pending (j ∷ []));
    }
