-- Terms that are found and terms that are wanted compare in one way at most, and in some way.
use Rattle.std.proofs.Common.{◌≡◌, ℕ, Bool, true, false, ◌⊎◌, inl, inr, List, [], ◌∷◌, refl, sym, ◌∙◌, ap, subst}
use Rattle.std.specs.declared.cmp.Ordering.{Ordering}
use Rattle.std.specs.declared.cmp.Ordering.TheVariants.{Less, Equal, Greater}
use Rattle.std.proofs.lemmas.Cmp.{tied_itself}
use Rattle.rdx_term.specs.Bare.{bare}
use Rattle.rdx_term.specs.Model.TotalOrder.{tree_cmp-total}
use Rattle.rdx_term.specs.Order.{tree_cmp}
use Rattle.rdx_term.specs.Tree.{Tree}
use Rattle.rdx_term.proofs.OrderLaws.{tree_cmp-equal}
use Rattle.rdx_lang.specs.Members.{In, here, there}
use Rattle.rdx_lang.proofs.Collecting.{only}
use Rattle.rdx_lang.proofs.Finite.{Finite, finite_none, finite_one, finite_either, finite_as, sorted, listed}
use Rattle.rdx_lang.proofs.OrderLaws.{one_listing}
use Rattle.rdx_answer.specs.Tests.{LikeOne, SameTerms, LeastLike, AreDistinct, Compares, same_terms, other_terms, failure_text, verdict_line}

-- ---- one way

-- what is written is the same, and whether the test passes
pub compares-once : (found wanted : List Tree) (t u : List ℕ) (m n : Bool)
    → Compares found wanted t m → Compares found wanted u n → (t ≡ u) × (m ≡ n)
compares-once found wanted t u m n (same_terms s e a) (same_terms r f b) = (e ∙ sym f, a ∙ sym b)
compares-once found wanted t u m n (same_terms s e a) (other_terms got want o g w f b) = absurd (o s)
compares-once found wanted t u m n (other_terms got want o g w e a) (same_terms s f b) = absurd (o s)
compares-once found wanted t u m n (other_terms got want o g w e a) (other_terms got' want' o' g' w' f b) =
    let p : got ≡ got' = one_listing tree_cmp (LeastLike found) got got' tree_cmp-total g g' in
    let q : want ≡ want' = one_listing tree_cmp (LeastLike wanted) want want' tree_cmp-total w w' in
    let r : failure_text got want ≡ failure_text got' want' = λ i. failure_text (p i) (q i) in
    (e ∙ r ∙ sym f, a ∙ sym b)

-- ---- what is decided

-- it holds, or it does not
abbrev pub IsDecided : Type 0 → Type 0
IsDecided P = P ⊎ (P → ⊥)

-- whether trees are equal is decided by their order
equal_decided : (t u : Tree) → IsDecided (t ≡ u)
equal_decided t u = go (tree_cmp t u) refl
  where
    apart : (r : Ordering) → tree_cmp t u ≡ r → (r ≡ Equal → ⊥) → t ≡ u → ⊥
    apart r e n d =
        let f : tree_cmp t u ≡ Equal = subst (λ (x : Tree). tree_cmp t x ≡ Equal) d (tied_itself tree_cmp-total t) in
        n (sym e ∙ f)

    go : (r : Ordering) → tree_cmp t u ≡ r → IsDecided (t ≡ u)
    go Less e = inr (apart Less e (λ (h : Less ≡ Equal). cc))
    go Equal e = inl (tree_cmp-equal t u e)
    go Greater e = inr (apart Greater e (λ (h : Greater ≡ Equal). cc))

-- so is whether one is below another
below_decided : (t u : Tree) → IsDecided (tree_cmp t u ≡ Less)
below_decided t u = go (tree_cmp t u)
  where
    go : (r : Ordering) → IsDecided (r ≡ Less)
    go Less = inl refl
    go Equal = inr (λ h. cc)
    go Greater = inr (λ h. cc)

module _ {A : Type 0} (P : A → Type 0) (decided : (x : A) → IsDecided (P x)) where
  -- of the members of a list each has it, or not each
  all_decided : (xs : List A) → IsDecided ((x : A) → In x xs → P x)
  all_decided [] = inl (λ x i. elim i [ ])
  all_decided (y ∷ ys) = go (decided y) (all_decided ys)
    where
      each : P y → ((x : A) → In x ys → P x) → (x : A) → In x (y ∷ ys) → P x
      each p f x (here e) = subst P (sym e) p
      each p f x (there i) = f x i

      go : IsDecided (P y) → IsDecided ((x : A) → In x ys → P x) → IsDecided ((x : A) → In x (y ∷ ys) → P x)
      go (inl p) (inl f) = inl (each p f)
      go (inl p) (inr n) = inr (λ h. n (λ x i. h x (there i)))
      go (inr n) d = inr (λ h. n (h y (here refl)))

  -- those of the members that have it are finitely many
  some_of : (xs : List A) → Finite (λ (x : A). In x xs × P x)
  some_of [] = finite_none (λ (x : A). In x [] × P x) (λ x h. elim h.0 [ ])
  some_of (y ∷ ys) = go (decided y) (some_of ys)
    where
      forth : P y → (x : A) → (x ≡ y) ⊎ (In x ys × P x) → In x (y ∷ ys) × P x
      forth p x (inl e) = (here e, subst P (sym e) p)
      forth p x (inr h) = (there h.0, h.1)

      back : (x : A) → In x (y ∷ ys) → P x → (x ≡ y) ⊎ (In x ys × P x)
      back x (here e) p = inl e
      back x (there i) p = inr (i, p)

      behind : (P y → ⊥) → (x : A) → In x (y ∷ ys) → P x → In x ys × P x
      behind n x (here e) p = absurd (n (subst P e p))
      behind n x (there i) p = (i, p)

      go : IsDecided (P y) → Finite (λ (x : A). In x ys × P x) → Finite (λ (x : A). In x (y ∷ ys) × P x)
      go (inl p) f =
          finite_as (λ (x : A). (x ≡ y) ⊎ (In x ys × P x)) (λ (x : A). In x (y ∷ ys) × P x) (forth p) (λ x h. back x h.0 h.1)
          (finite_either (λ (x : A). x ≡ y) (λ (x : A). In x ys × P x) (finite_one (λ (x : A). x ≡ y) y refl (λ z e. e)) f)
      go (inr n) f =
          finite_as (λ (x : A). In x ys × P x) (λ (x : A). In x (y ∷ ys) × P x) (λ x h. (there h.0, h.1)) (λ x h. behind n x h.0 h.1) f

-- ---- the same terms

-- whether one of the terms is like this one
like_decided : (ts : List Tree) (t : Tree) → IsDecided (LikeOne ts t)
like_decided [] t = inr (λ h. elim h.is_one [ ])
like_decided (u ∷ us) t = go (equal_decided (bare u) (bare t)) (like_decided us t)
  where
    none : (bare u ≡ bare t → ⊥) → (LikeOne us t → ⊥) → (v : Tree) → In v (u ∷ us) → bare v ≡ bare t → ⊥
    none n m v (here e) h = n (subst (λ (x : Tree). bare x ≡ bare t) e h)
    none n m v (there i) h = m (record { other = v; is_one = i; alike = h })

    go : IsDecided (bare u ≡ bare t) → IsDecided (LikeOne us t) → IsDecided (LikeOne (u ∷ us) t)
    go (inl e) d = inl (record { other = u; is_one = here refl; alike = e })
    go (inr n) (inl l) = inl (record { other = l.other; is_one = there l.is_one; alike = l.alike })
    go (inr n) (inr m) = inr (λ h. none n m h.other h.is_one h.alike)

-- whether they are the same
same_decided : (found wanted : List Tree) → IsDecided (SameTerms found wanted)
same_decided found wanted = go (all_decided (LikeOne wanted) (like_decided wanted) found) (all_decided (LikeOne found) (like_decided found) wanted)
  where
    go : IsDecided ((t : Tree) → In t found → LikeOne wanted t) → IsDecided ((t : Tree) → In t wanted → LikeOne found t)
        → IsDecided (SameTerms found wanted)
    go (inl f) (inl g) = inl (record { all_wanted = f; all_found = g })
    go (inl f) (inr n) = inr (λ s. n s.all_found)
    go (inr n) d = inr (λ s. n s.all_wanted)

-- ---- the least of those that are alike

-- u is not a lesser one that is like t
abbrev IsNoLesser : Tree → Tree → Type 0
IsNoLesser t u = bare u ≡ bare t → tree_cmp u t ≡ Less → ⊥

-- whether it is one
lesser_decided : (t u : Tree) → IsDecided (IsNoLesser t u)
lesser_decided t u = go (equal_decided (bare u) (bare t)) (below_decided u t)
  where
    go : IsDecided (bare u ≡ bare t) → IsDecided (tree_cmp u t ≡ Less) → IsDecided (IsNoLesser t u)
    go (inl e) (inl l) = inr (λ h. h e l)
    go (inl e) (inr n) = inl (λ f l. n l)
    go (inr n) d = inl (λ f l. n f)

-- no term is a lesser one
abbrev IsLeast : List Tree → Tree → Type 0
IsLeast ts t = (u : Tree) → In u ts → IsNoLesser t u

-- the least are finitely many
pub least_finite : (ts : List Tree) → Finite (LeastLike ts)
least_finite ts =
    finite_as (λ (t : Tree). In t ts × IsLeast ts t) (LeastLike ts) (λ t h. record { is_one = h.0; least = h.1 }) (λ t l. (l.is_one, l.least))
    (some_of (IsLeast ts) (λ t. all_decided (IsNoLesser t) (lesser_decided t) ts) ts)

-- the list of them
abbrev pub distinct_list : List Tree → List Tree
distinct_list ts = sorted tree_cmp tree_cmp-total tree_cmp-equal (least_finite ts).members

-- it is
pub are_distinct : (ts : List Tree) → AreDistinct ts (distinct_list ts)
are_distinct ts = listed tree_cmp tree_cmp-total tree_cmp-equal (LeastLike ts) (least_finite ts)

-- ---- some way

-- what is written, and whether the test passes
pub record AreCompared (found wanted : List Tree) : Type 0 where
  pub text : List ℕ
  pub met : Bool
  pub written : Compares found wanted text met

-- there is something to write
pub compares-some : (found wanted : List Tree) → AreCompared found wanted
compares-some found wanted = elim (same_decided found wanted) [
  | inl s ↦ record { text = verdict_line true; met = true; written = same_terms s refl refl }
  | inr n ↦ record {
    text = failure_text (distinct_list found) (distinct_list wanted);
    met = false;
    written = other_terms (distinct_list found) (distinct_list wanted) n (are_distinct found) (are_distinct wanted) refl refl;
  }
]

-- ---- one term and another

-- they are the same where they are alike
pub same-one : (t u : Tree) → bare t ≡ bare u → SameTerms (t ∷ []) (u ∷ [])
same-one t u e = record {
  all_wanted = λ v i. record { other = u; is_one = here refl; alike = sym e ∙ ap bare (sym (only i)) };
  all_found = λ v i. record { other = t; is_one = here refl; alike = e ∙ ap bare (sym (only i)) };
}

-- and no others are
pub one-same : (t u : Tree) → SameTerms (t ∷ []) (u ∷ []) → bare t ≡ bare u
one-same t u s = let l : LikeOne (u ∷ []) t = s.all_wanted t (here refl) in sym l.alike ∙ ap bare (only l.is_one)

-- one term is the least of those that are alike
pub distinct-one : (t : Tree) → AreDistinct (t ∷ []) (t ∷ [])
distinct-one t = record {
  ascending = (tt, tt);
  sound = λ x i. record { is_one = i; least = λ u j e l. below_itself u (subst (λ (y : Tree). tree_cmp u y ≡ Less) (only i ∙ sym (only j)) l) };
  complete = λ x l. l.is_one;
}
  where
    below_itself : (u : Tree) → tree_cmp u u ≡ Less → ⊥
    below_itself u l = let e : tree_cmp u u ≡ Equal = tied_itself tree_cmp-total u in cc
