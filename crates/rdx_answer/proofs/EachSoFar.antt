-- Loops that find out the same of each member of a list.
use Rattle.std.proofs.Common.{◌≡◌, ◌⊎◌, inl, inr, List, [], ◌∷◌, sym, subst}
use Rattle.rdx_lang.specs.Members.{In, here, there}
use Rattle.rdx_lang.proofs.Collecting.{In_along, no_member}

-- each of all has it, but for what the loop has before it
abbrev pub EachSoFar : {A : Type 0} → (A → Type 0) → List A → List A → Type 0
EachSoFar {A} P all rest = (x : A) → In x all → P x ⊎ In x rest

-- one turn
pub each-next : {A : Type 0} (P : A → Type 0) (all rest behind : List A) (y : A) → rest ≡ y ∷ behind → P y
    → EachSoFar P all rest → EachSoFar P all behind
each-next {A} P all rest behind y e p f x i = elim (f x i) [ inl q ↦ inl q | inr j ↦ by_place (In_along rest (y ∷ behind) e j) ]
  where
    by_place : In x (y ∷ behind) → P x ⊎ In x behind
    by_place (here d) = inl (subst P (sym d) p)
    by_place (there k) = inr k

-- at the end each has it
pub each-end : {A : Type 0} (P : A → Type 0) (all rest : List A) → rest ≡ [] → EachSoFar P all rest → (x : A) → In x all → P x
each-end P all rest e f x i = elim (f x i) [ inl p ↦ p | inr j ↦ no_member (In_along rest [] e j) ]
