use Rattle.std.proofs.Common.{◌≡◌, ◌<◌, ◌+◌, ℕ, ◌∷◌, [], List, subst, sym, inl, inr, arith}
use Rattle.std.proofs.lemmas.Bool.{cases_lt}
use Rattle.rdx_gen.proofs.MarkLaws.{cases_eq}
use Rattle.rdx_lang.proofs.MemberLaws.{append-left, append-right}
use Rattle.rdx_lang.specs.Members.{In, here}
use Rattle.rdx_gen.proofs.table.all_places.Goals as goal

pub loop-place-preserved : goal.loop-place-preserved
loop-place-preserved c j l =
    let n : ℕ = c.loop-place.place in
    let ps : List ℕ = c.loop-place.places.items in
    subst (λ (is : List ℕ). In j is) (sym c.in_ok-push.ensures.items)
    (elim (cases_eq j n) [ inl e ↦ append-right ps (n ∷ []) j (here e) | inr m ↦ append-left ps (n ∷ []) j (c.loop-place.invariant j (below j n l m)) ])
  where
    below : (j n : ℕ) → j < n + 1 → (j ≡ n → ⊥) → j < n
    below j n l m = elim (cases_lt j n) [ inl h ↦ h | inr h ↦ absurd (m (omega arith)) ]
