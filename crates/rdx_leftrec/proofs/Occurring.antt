-- Lists of the rules that have a place as a part, while they are made.
use Rattle.std.proofs.Common.{◌≡◌, ℕ, zero, suc, ◌+◌, ◌<◌, List, [], ◌∷◌, ◌++◌, length, set, get_or, drop, replicate, refl, sym, ◌∙◌, ap, subst, ◌⊎◌, inl, inr, arith}
use Rattle.std.specs.Prelude.{Vec}
use Rattle.std.specs.declared.alloc.Global.{Global}
use Rattle.std.proofs.lemmas.List.{length-replicate}
use Rattle.std.proofs.lemmas.Bool.{cases_lt}
use Rattle.rdx_lang.proofs.MemberLaws.{in-append, append-left, append-right}
use Rattle.rdx_lang.specs.Members.{In, here, there}
use Rattle.rdx_leftrec.specs.Inside.Deductions.{AddsTo, AreOccurrences}
use Rattle.rdx_leftrec.specs.Inside.EmptyRules.{Rule}
use Rattle.rdx_leftrec.specs.Inside.Leads.{lists_of}
use Rattle.rdx_leftrec.specs.Inside.Lists.{At}
use Rattle.rdx_leftrec.specs.Inside.Reach.{targets_at}
use Rattle.rdx_leftrec.proofs.Lists.{at-length, at_same, cases_eq, behind-first}

-- ---- lists that vectors hold

-- one more
pub lists-push : (vs : List (Vec ℕ Global)) (v : Vec ℕ Global) → lists_of (vs ++ v ∷ []) ≡ lists_of vs ++ v.items ∷ []
lists-push [] v = refl
lists-push (u ∷ vs) v = ap (λ (xs : List (List ℕ)). u.items ∷ xs) (lists-push vs v)

-- another in place of one
pub lists-set : (vs : List (Vec ℕ Global)) (i : ℕ) (v : Vec ℕ Global) → lists_of (set vs i v) ≡ set (lists_of vs) i v.items
lists-set [] i v = refl
lists-set (u ∷ vs) zero v = refl
lists-set (u ∷ vs) (suc i) v = ap (λ (xs : List (List ℕ)). u.items ∷ xs) (lists-set vs i v)

-- one empty list more
end-replicate : (n : ℕ) (x : List ℕ) → replicate n x ++ x ∷ [] ≡ replicate (suc n) x
end-replicate zero x = refl
end-replicate (suc n) x = ap (λ (xs : List (List ℕ)). x ∷ xs) (end-replicate n x)

pub replicate-end : (n : ℕ) (x : List ℕ) → replicate n x ++ x ∷ [] ≡ replicate (n + 1) x
replicate-end n x = let e : suc n ≡ n + 1 = omega arith in end-replicate n x ∙ ap (λ (m : ℕ). replicate m x) e

-- empty lists have no members
none-replicate : (n i j : ℕ) → In i (targets_at (replicate n []) j) → ⊥
none-replicate zero i j h = elim h [ ]
none-replicate (suc n) i zero h = elim h [ ]
none-replicate (suc n) i (suc j) h = none-replicate n i j h

-- ---- a number is added to one list

-- members stay
added-kept : (ts : List (List ℕ)) (p i k j : ℕ) → In k (targets_at ts j) → In k (targets_at (set ts p (targets_at ts p ++ i ∷ [])) j)
added-kept [] p i k j h = elim h [ ]
added-kept (t ∷ ts) zero i k zero h = append-left t (i ∷ []) k h
added-kept (t ∷ ts) zero i k (suc j) h = h
added-kept (t ∷ ts) (suc p) i k zero h = h
added-kept (t ∷ ts) (suc p) i k (suc j) h = added-kept ts p i k j h

-- the number is one
added-here : (ts : List (List ℕ)) (p i : ℕ) → p < length ts → In i (targets_at (set ts p (targets_at ts p ++ i ∷ [])) p)
added-here [] p i l = absurd (omega arith)
added-here (t ∷ ts) zero i l = append-right t (i ∷ []) i (here refl)
added-here (t ∷ ts) (suc p) i l = added-here ts p i (omega arith)

-- nothing else comes
added-only : (ts : List (List ℕ)) (p i k j : ℕ) → In k (targets_at (set ts p (targets_at ts p ++ i ∷ [])) j) → In k (targets_at ts j) ⊎ (k ≡ i)
added-only [] p i k j h = elim h [ ]
added-only (t ∷ ts) zero i k zero h = elim (in-append t (i ∷ []) k h) [ inl m ↦ inl m | inr m ↦ inr (alone m) ]
  where
    alone : In k (i ∷ []) → k ≡ i
    alone (here e) = e
    alone (there m) = elim m [ ]
added-only (t ∷ ts) zero i k (suc j) h = inl h
added-only (t ∷ ts) (suc p) i k zero h = inl h
added-only (t ∷ ts) (suc p) i k (suc j) h = added-only ts p i k j h

-- the number is in the lists of all places but those that are left, and in no others that it was not in
pub record AddsBut (i : ℕ) (js rest : List ℕ) (old new : List (List ℕ)) : Type 0 where
  pub known : (j : ℕ) → In j js → In i (targets_at new j) ⊎ In j rest
  pub kept : (k j : ℕ) → In k (targets_at old j) → In k (targets_at new j)
  pub only : (k j : ℕ) → In k (targets_at new j) → In k (targets_at old j) ⊎ (k ≡ i)

-- before any is
pub adds-first : (i : ℕ) (js : List ℕ) (ts : List (List ℕ)) → AddsBut i js js ts ts
adds-first i js ts = record { known = λ j h. inr h; kept = λ k j h. h; only = λ k j h. inl h }

-- the next one is
pub adds-next : (i m : ℕ) (js : List ℕ) (old now new : List (List ℕ)) → get_or js m 0 < length now → new ≡ set now (get_or js m 0) (targets_at now (get_or js m 0) ++ i ∷ [])
    → AddsBut i js (drop m js) old now → AddsBut i js (drop (m + 1) js) old new
adds-next i m js old now new l e x = subst (λ (ts : List (List ℕ)). AddsBut i js (drop (m + 1) js) old ts) (sym e) (record {
  known = known;
  kept = λ k j h. added-kept now (get_or js m 0) i k j (x.kept k j h);
  only = λ k j h. elim (added-only now (get_or js m 0) i k j h) [ inl o ↦ x.only k j o | inr o ↦ inr o ];
})
  where
    known : (j : ℕ) → In j js → In i (targets_at (set now (get_or js m 0) (targets_at now (get_or js m 0) ++ i ∷ [])) j) ⊎ In j (drop (m + 1) js)
    known j h = elim (x.known j h) [
      | inl o ↦ inl (added-kept now (get_or js m 0) i i j o)
      | inr o ↦ elim (cases_eq (get_or js m 0) j) [
        | inl d ↦ inl (subst (λ (k : ℕ). In i (targets_at (set now (get_or js m 0) (targets_at now (get_or js m 0) ++ i ∷ [])) k)) d (added-here now (get_or js m 0) i l))
        | inr n ↦ inr (behind-first js m j o n)
      ]
    ]

-- ---- the lists of all rules

-- those of the rules before m
pub record OccurBefore (rs : List Rule) (n m : ℕ) (os : List (List ℕ)) : Type 0 where
  pub size : length os ≡ n
  pub known : (i j : ℕ) (r : Rule) → i < m → At rs i r → In j r.1 → In i (targets_at os j)
  pub inside : (i j : ℕ) → In i (targets_at os j) → i < m

-- none
pub occur-none : (rs : List Rule) (n : ℕ) (os : List (List ℕ)) → os ≡ replicate n [] → OccurBefore rs n 0 os
occur-none rs n os e = record {
  size = ap length e ∙ length-replicate n [];
  known = λ i j r l. absurd (omega arith);
  inside = λ i j h. absurd (none-replicate n i j (subst (λ (ts : List (List ℕ)). In i (targets_at ts j)) e h));
}

-- one more
pub occur-more : (rs : List Rule) (n m : ℕ) (old new : List (List ℕ)) (r : Rule) → At rs m r → AddsTo m r.1 old new → OccurBefore rs n m old → OccurBefore rs n (m + 1) new
occur-more rs n m old new r a x o = record {
  size = x.size ∙ o.size;
  known = λ i j q l b h. elim (cases_lt i m) [
    | inl k ↦ x.kept i j (o.known i j q k b h)
    | inr k ↦
        let e : i ≡ m = omega arith in
        let d : q ≡ r = at_same rs m q r (subst (λ (y : ℕ). At rs y q) e b) a in
        subst (λ (y : ℕ). In y (targets_at new j)) (sym e) (x.known j (subst (λ (y : Rule). In j y.1) d h))
  ];
  inside = λ i j h. elim (x.only i j h) [ inl k ↦ (let l = o.inside i j k in omega arith) | inr e ↦ omega arith ];
}

-- all
pub occur-all : (rs : List Rule) (n m : ℕ) (os : List (List ℕ)) → m ≡ length rs → OccurBefore rs n m os → AreOccurrences rs n os
occur-all rs n m os e o = record {
  size = o.size;
  known = λ i j r a h. o.known i j r (let l = at-length rs i r a in omega arith) a h;
  inside = λ i j h. let l = o.inside i j h in omega arith;
}
