-- Two sets of terms merged term by term, from the least on.
use Rattle.std.proofs.Common.{◌≡◌, ◌⊎◌, inl, inr, List, [], ◌∷◌, ◌++◌, append_assoc, sym, ◌∙◌, ap, subst}
use Rattle.std.proofs.lemmas.List.{append-nil}
use Rattle.std.specs.declared.cmp.Ordering.TheVariants.{Less, Equal, Greater}
use Rattle.std.specs.Ordering.{ordering_reverse}
use Rattle.rdx_term.specs.Model.TotalOrder.{tree_cmp-total}
use Rattle.rdx_term.specs.Order.{tree_cmp}
use Rattle.rdx_term.specs.Tree.{Tree}
use Rattle.rdx_term.proofs.OrderLaws.{tree_cmp-equal}
use Rattle.rdx_lang.proofs.Collecting.{In_along}
use Rattle.rdx_lang.proofs.OrderLaws.{below_member, not_a_member}
use Rattle.rdx_lang.specs.Ascending.{IsBelow, IsAscending}
use Rattle.rdx_lang.specs.Members.{In, here, there}
use Rattle.rdx_bind.specs.Inside.TermSets.{AreTermsApart, JoinsTerms}

-- what is below each term is below all
below_members : (t : Tree) (us : List Tree) → ((u : Tree) → In u us → tree_cmp t u ≡ Less) → IsBelow tree_cmp t us
below_members t [] f = tt
below_members t (u ∷ us) f = (f u (here (λ i. u)), below_members t us (λ v h. f v (there h)))

-- what is below both is below both together
below_join : (t : Tree) (a b c : List Tree) → JoinsTerms a b c → IsBelow tree_cmp t a → IsBelow tree_cmp t b → IsBelow tree_cmp t c
below_join t a b c j k l = below_members t c (λ u h. elim (j.sound u h) [
  | inl m ↦ below_member tree_cmp tree_cmp-total t u a k m
  | inr m ↦ below_member tree_cmp tree_cmp-total t u b l m
])

-- what is below one is below all that it is below
below_all : (t u : Tree) (us : List Tree) → tree_cmp t u ≡ Less → IsBelow tree_cmp u us → IsBelow tree_cmp t us
below_all t u us e h = below_members t us (λ v i. tree_cmp-total.trans t u v e (below_member tree_cmp tree_cmp-total u v us h i))

-- their order makes no difference
turned : (a b c : List Tree) → JoinsTerms a b c → JoinsTerms b a c
turned a b c j = record {
  ascending = j.ascending;
  sound = λ u i. elim (j.sound u i) [ inl l ↦ inr l | inr r ↦ inl r ];
  left = j.right;
  right = j.left;
  apart = λ u i k. j.apart u k i;
}

-- one term more in front, on the left side
left_first : (t : Tree) (a b c : List Tree) → IsAscending tree_cmp (t ∷ a) → IsBelow tree_cmp t b → JoinsTerms a b c → JoinsTerms (t ∷ a) b (t ∷ c)
left_first t a b c h k j = record {
  ascending = (below_join t a b c j h.0 k, j.ascending);
  sound = sound;
  left = left;
  right = λ u i. there (j.right u i);
  apart = apart;
}
  where
    sound : (u : Tree) → In u (t ∷ c) → In u (t ∷ a) ⊎ In u b
    sound u (here e) = inl (here e)
    sound u (there i) = elim (j.sound u i) [ inl l ↦ inl (there l) | inr r ↦ inr r ]

    left : (u : Tree) → In u (t ∷ a) → In u (t ∷ c)
    left u (here e) = here e
    left u (there i) = there (j.left u i)

    apart : (u : Tree) → In u (t ∷ a) → In u b → ⊥
    apart u (here e) m = not_a_member tree_cmp tree_cmp-total t b k (subst (λ (v : Tree). In v b) e m)
    apart u (there i) m = j.apart u i m

-- on the right side
right_first : (t : Tree) (a b c : List Tree) → IsAscending tree_cmp (t ∷ b) → IsBelow tree_cmp t a → JoinsTerms a b c → JoinsTerms a (t ∷ b) (t ∷ c)
right_first t a b c h k j = turned (t ∷ b) a (t ∷ c) (left_first t b a c h k (turned a b c j))

-- nothing on the right side
left_alone : (a : List Tree) → IsAscending tree_cmp a → JoinsTerms a [] a
left_alone a h = record { ascending = h; sound = λ u i. inl i; left = λ u i. i; right = λ u i. elim i [ ]; apart = λ u i k. elim k [ ] }

-- merged, with what is left of both sides together behind it, is ts and us together
pub record MergesTerms (ts us left right merged : List Tree) : Type 0 where
  pub left_ascends : IsAscending tree_cmp left
  pub right_ascends : IsAscending tree_cmp right
  pub in_left : (t : Tree) → In t left → In t ts
  pub in_right : (t : Tree) → In t right → In t us
  pub joined : (vs : List Tree) → JoinsTerms left right vs → JoinsTerms ts us (merged ++ vs)

module _ (ts us left right merged : List Tree) (p q : Tree) (l r : List Tree) (e : left ≡ p ∷ l) (f : right ≡ q ∷ r) where
  left_asc : MergesTerms ts us left right merged → IsAscending tree_cmp (p ∷ l)
  left_asc m = subst (IsAscending tree_cmp) e m.left_ascends

  right_asc : MergesTerms ts us left right merged → IsAscending tree_cmp (q ∷ r)
  right_asc m = subst (IsAscending tree_cmp) f m.right_ascends

  -- a term is put behind what is merged
  behind : (t : Tree) (c merged' : List Tree) → merged' ≡ merged ++ t ∷ [] → JoinsTerms ts us (merged ++ (t ∷ c)) → JoinsTerms ts us (merged' ++ c)
  behind t c merged' g j = subst (JoinsTerms ts us) (sym (ap (λ (m : List Tree). m ++ c) g ∙ append_assoc merged (t ∷ []) c)) j

  -- the lesser term is on the left side
  pub terms-left : (merged' : List Tree) → tree_cmp p q ≡ Less → merged' ≡ merged ++ p ∷ [] → MergesTerms ts us left right merged → MergesTerms ts us l right merged'
  terms-left merged' o g m = record {
    left_ascends = (left_asc m).1;
    right_ascends = m.right_ascends;
    in_left = λ t i. m.in_left t (In_along (p ∷ l) left (sym e) (there i));
    in_right = m.in_right;
    joined = λ c j. behind p c merged' g (m.joined (p ∷ c) (subst (λ (x : List Tree). JoinsTerms x right (p ∷ c)) (sym e) (left_first p l right c (left_asc m) (below m) j)));
  }
    where
      below : MergesTerms ts us left right merged → IsBelow tree_cmp p right
      below m = subst (λ (x : List Tree). IsBelow tree_cmp p x) (sym f) (o, below_all p q r o (right_asc m).0)

  -- the lesser term is on the right side
  pub terms-right : (merged' : List Tree) → tree_cmp p q ≡ Greater → merged' ≡ merged ++ q ∷ [] → MergesTerms ts us left right merged → MergesTerms ts us left r merged'
  terms-right merged' o g m = record {
    left_ascends = m.left_ascends;
    right_ascends = (right_asc m).1;
    in_left = m.in_left;
    in_right = λ t i. m.in_right t (In_along (q ∷ r) right (sym f) (there i));
    joined = λ c j. behind q c merged' g (m.joined (q ∷ c) (subst (λ (x : List Tree). JoinsTerms left x (q ∷ c)) (sym f) (right_first q left r c (right_asc m) (below m) j)));
  }
    where
      lower : tree_cmp q p ≡ Less
      lower = tree_cmp-total.antisymm q p ∙ ap ordering_reverse o

      below : MergesTerms ts us left right merged → IsBelow tree_cmp q left
      below m = subst (λ (x : List Tree). IsBelow tree_cmp q x) (sym e) (lower, below_all q p l lower (left_asc m).0)

  -- both sides have the term
  pub terms-clash : tree_cmp p q ≡ Equal → MergesTerms ts us left right merged → AreTermsApart ts us → ⊥
  terms-clash o m n =
      let same : p ≡ q = tree_cmp-equal p q o in
      n p (m.in_left p (In_along (p ∷ l) left (sym e) (here (λ i. p)))) (m.in_right p (In_along (q ∷ r) right (sym f) (here same)))

-- where nothing is left of one side, the rest of the other comes behind
pub terms-end : (ts us left right merged all : List Tree) → ((left ≡ []) ⊎ (right ≡ [])) → all ≡ (merged ++ left) ++ right
    → MergesTerms ts us left right merged → JoinsTerms ts us all
terms-end ts us left right merged all w e m =
    subst (JoinsTerms ts us) (sym (e ∙ append_assoc merged left right)) (m.joined (left ++ right) (ends left right w m.left_ascends m.right_ascends))
  where
    no_right : (a : List Tree) → IsAscending tree_cmp a → JoinsTerms a [] (a ++ [])
    no_right a h = subst (JoinsTerms a []) (sym (append-nil a)) (left_alone a h)

    no_left : (a : List Tree) → IsAscending tree_cmp a → JoinsTerms [] a a
    no_left a h = turned a [] a (left_alone a h)

    ends : (a b : List Tree) → ((a ≡ []) ⊎ (b ≡ [])) → IsAscending tree_cmp a → IsAscending tree_cmp b → JoinsTerms a b (a ++ b)
    ends a b (inl g) h k = subst (λ (x : List Tree). JoinsTerms x b (x ++ b)) (sym g) (no_left b k)
    ends a b (inr g) h k = subst (λ (x : List Tree). JoinsTerms a x (a ++ x)) (sym g) (no_right a h)
