-- Loops that keep those members of a list that pass a test.
use Rattle.std.proofs.Common.{◌≡◌, ℕ, zero, suc, ◌<◌, ◌⊎◌, inl, inr, Bool, true, false, IsTrue, List, [], ◌∷◌, ◌++◌, length, get_or, sym, subst, true≢false, ◌∙◌, arith}
use Rattle.rdx_term.specs.Tree.{Tree}
use Rattle.rdx_lang.specs.Collecting.{Adds}
use Rattle.rdx_lang.specs.Members.{In, here, there}
use Rattle.rdx_lang.proofs.Collecting.{In_along, no_member, only}
use Rattle.rdx_lang.proofs.MemberLaws.{in-append, append-left, append-right}

-- what stands at a place is a member
pub member_at : {A : Type 0} (xs : List A) (i : ℕ) (x : A) → i < length xs → x ≡ get_or xs i x → In x xs
member_at [] i x h e = absurd (omega arith)
member_at (y ∷ ys) zero x h e = here e
member_at (y ∷ ys) (suc i) x h e = there (member_at ys i x (omega arith) e)

-- one member more where the flag says so
pub adds_if : (flag : Bool) (a : Tree) (old new : List Tree) → flag ≡ true → new ≡ old ++ a ∷ [] → Adds (λ x. IsTrue flag × (x ≡ a)) old new
adds_if flag a old new f e x = (λ h. split (in-append old (a ∷ []) x (In_along new (old ++ a ∷ []) e h)), join)
  where
    split : In x old ⊎ In x (a ∷ []) → In x old ⊎ (IsTrue flag × (x ≡ a))
    split (inl h) = inl h
    split (inr h) = inr (f, only h)

    join : In x old ⊎ (IsTrue flag × (x ≡ a)) → In x new
    join (inl h) = In_along (old ++ a ∷ []) new (sym e) (append-left old (a ∷ []) x h)
    join (inr h) = In_along (old ++ a ∷ []) new (sym e) (append-right old (a ∷ []) x (here h.1))

-- and none where it does not
pub adds_not : (flag : Bool) (a : Tree) (old : List Tree) → flag ≡ false → Adds (λ x. IsTrue flag × (x ≡ a)) old old
adds_not flag a old f x = (λ h. inl h, join)
  where
    join : In x old ⊎ (IsTrue flag × (x ≡ a)) → In x old
    join (inl h) = h
    join (inr h) = absurd (true≢false (sym h.0 ∙ f))

-- what is found is among these
pub kept_next : (xs old new : List Tree) (a : Tree) (flag : Bool) → Adds (λ x. IsTrue flag × (x ≡ a)) old new → In a xs → ((t : Tree) → In t old → In t xs) → (t : Tree) → In t new → In t xs
kept_next xs old new a flag d i w t h = go ((d t).0 h)
  where
    go : In t old ⊎ (IsTrue flag × (t ≡ a)) → In t xs
    go (inl g) = w t g
    go (inr g) = subst (λ (u : Tree). In u xs) (sym g.1) i

module _ (Q : Tree → Type 0) (xs : List Tree) where
  -- what is wanted is found, or has still to come
  abbrev pub Filtered : List Tree → List Tree → Type 0
  Filtered rest found = (t : Tree) → In t xs → Q t → In t found ⊎ In t rest

  pub filtered_start : (found : List Tree) → Filtered xs found
  filtered_start found t h q = inr h

  pub filtered_next : (rest more old new : List Tree) (a : Tree) (flag : Bool) → rest ≡ a ∷ more → Adds (λ x. IsTrue flag × (x ≡ a)) old new → (Q a → IsTrue flag) → Filtered rest old → Filtered more new
  filtered_next rest more old new a flag e d f r t h q = go (r t h q)
    where
      at_rest : In t (a ∷ more) → In t new ⊎ In t more
      at_rest (here s) = inl ((d t).1 (inr (f (subst Q s q), s)))
      at_rest (there g) = inr g

      go : In t old ⊎ In t rest → In t new ⊎ In t more
      go (inl g) = inl ((d t).1 (inl g))
      go (inr g) = at_rest (In_along rest (a ∷ more) e g)

  pub filtered_end : (rest found : List Tree) → rest ≡ [] → Filtered rest found → (t : Tree) → In t xs → Q t → In t found
  filtered_end rest found e r t h q = go (r t h q)
    where
      go : In t found ⊎ In t rest → In t found
      go (inl g) = g
      go (inr g) = no_member (In_along rest [] e g)

  -- what is found is wanted
  abbrev pub Wanted : List Tree → Type 0
  Wanted found = (t : Tree) → In t found → In t xs × Q t

  pub wanted_next : (old new : List Tree) (a : Tree) (flag : Bool) → Adds (λ x. IsTrue flag × (x ≡ a)) old new → In a xs → (IsTrue flag → Q a) → Wanted old → Wanted new
  wanted_next old new a flag d i f w t h = go ((d t).0 h)
    where
      go : In t old ⊎ (IsTrue flag × (t ≡ a)) → In t xs × Q t
      go (inl g) = w t g
      go (inr g) = subst (λ u. In u xs × Q u) (sym g.1) (i, f g.0)
