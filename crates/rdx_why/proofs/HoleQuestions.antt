-- What is asked around a hole, as the code makes it.
use Rattle.std.proofs.Common.{◌≡◌, ◌≢◌, ℕ, zero, suc, ◌+◌, ◌<◌, ◌≤◌, List, [], ◌∷◌, ◌++◌, take, drop, length, get_or, map, Some, None, Option, Bool, true, false, refl, sym, ◌∙◌, ap, subst, ◌⊎◌, inl, inr, arith, add-one, append_assoc}
use Rattle.std.proofs.lemmas.Bool.{eqb-true}
use Rattle.std.proofs.lemmas.List.{length-map}
use Rattle.std.proofs.lemmas.Option.{slice_get-map, slice_get_read, slice_get_within, same_Some}
use Rattle.std.specs.Prelude.{slice_get, option_map, is_some, IfSome, set, not, ◌==◌, IsTrue, IsFalse}
use Rattle.rdx_term.specs.Building.{mark_for}
use Rattle.rdx_term.specs.Items.{trees_count, item_at, put_at}
use Rattle.rdx_term.specs.Tree.{Tree, list, Trees, trees}
use Rattle.rdx_term.specs.Tree.{hole as the_hole}
use Rattle.rdx_term.specs.View.{built_list, tree_of, trees_of}
use Rattle.rdx_term.specs.declared.term.Term.TheVariants.{Hole}
use Rattle.rdx_term.specs.declared.term.Term.{Term}
use Rattle.rdx_term.proofs.PutItems.{trees_count-trees_of, item_at-trees_of, trees_of-set}
use Rattle.rdx_lang.specs.Bindings.{Binding}
use Rattle.rdx_lang.specs.Listing.{Matches}
use Rattle.rdx_lang.specs.Members.{In, here, there}
use Rattle.rdx_lang.specs.Patterns.{Pattern, Language}
use Rattle.rdx_lang.specs.PatternView.{Slot, slot_of}
use Rattle.rdx_lang.specs.Shown.{binding_of, bindings_of}
use Rattle.rdx_lang.specs.declared.binding.Binding as code_binding
use Rattle.rdx_lang.specs.declared.pattern.Item as code_item
use Rattle.rdx_lang.proofs.Rest.{rest_at}
use Rattle.rdx_lang.proofs.RuleSteps.{SomeMatch}
use Rattle.rdx_opened.proofs.Sought.{none_ahead}
use Rattle.rdx_why.specs.Inside.Around.{hole_in, with_hole, NoneIsHole, NoOtherIsHole, IsHoleList}
use Rattle.rdx_why.specs.Inside.Forms.{NeverMatches, NeverSplits}
use Rattle.rdx_why.specs.Inside.Laying.{slot_pattern}

-- the items before the place, the one there with `hole`, and the items behind it
pub hole_parts : {A : Type 0} (f : A → Slot) (xs : List A) (i : ℕ) (x : A) → i < length xs → x ≡ get_or xs i x
    → map f (take i xs) ++ (hole_in (f x) ++ map f (drop (i + 1) xs)) ≡ with_hole i (map f xs)
hole_parts f [] i x h e = absurd (omega arith)
hole_parts f (y ∷ ys) zero x h e = ap (λ z. hole_in (f z) ++ map f ys) e
hole_parts f (y ∷ ys) (suc i) x h e = ap (λ rs. f y ∷ rs) (let k = hole_parts f ys i x (omega arith) e in rw add-one (rw add-one at k))

-- as the code puts them together
pub hole_put : (xs front behind : List code_item.Item) (i : ℕ) (x : code_item.Item) (rs ss us : List Slot) → i < length xs → x ≡ get_or xs i x
    → front ≡ take i xs → behind ≡ drop (i + 1) xs → rs ≡ map slot_of front → ss ≡ rs ++ hole_in (slot_of x) → us ≡ ss ++ map slot_of behind
    → us ≡ with_hole i (map slot_of xs)
hole_put xs front behind i x rs ss us h e f g a b c =
    c ∙ ap (λ zs. zs ++ map slot_of behind) b ∙ append_assoc rs (hole_in (slot_of x)) (map slot_of behind)
    ∙ ap (λ zs. zs ++ (hole_in (slot_of x) ++ map slot_of behind)) (a ∙ ap (map slot_of) f)
    ∙ ap (λ ys. map slot_of (take i xs) ++ (hole_in (slot_of x) ++ map slot_of ys)) g ∙ hole_parts slot_of xs i x h e

-- terms of which none is the hole
none_holes : (xs : List Term) → ((j : ℕ) (t : Term) → slice_get xs j ≡ Some t → tree_of t ≢ the_hole) → NoneIsHole (trees_of xs)
none_holes [] f = tt
none_holes (x ∷ xs) f = (f 0 x refl, none_holes xs (λ j t e. f (suc j) t e))

-- but for the one at a place
pub other_holes : (xs : List Term) (k : ℕ) → ((j : ℕ) (t : Term) → slice_get xs j ≡ Some t → j ≢ k → tree_of t ≢ the_hole)
    → NoOtherIsHole (trees_of xs) k
other_holes [] k f = tt
other_holes (x ∷ xs) zero f = none_holes xs (λ j t e. f (suc j) t e (λ g. absurd cc))
other_holes (x ∷ xs) (suc k) f = (f 0 x refl (λ g. absurd cc), other_holes xs k (λ j t e n. f (suc j) t e (λ g. n (cc))))

-- ---- what a loop has passed

-- what stands at a place is what is read there
pub item_read : (xs : List code_item.Item) (i : ℕ) (x : code_item.Item) → i < length xs → x ≡ get_or xs i x
    → slice_get (map slot_of xs) i ≡ Some (slot_of x)
item_read xs i x h e = slice_get-map slot_of xs i ∙ ap (option_map slot_of) (slice_get_read xs (length xs) i x refl h e)

-- what holds of all elements before the place and of the one there holds of all before the next one
pub one_further : {A : Type 0} (xs : List A) (i : ℕ) (P : ℕ → A → Type 0) (x : A) → slice_get xs i ≡ Some x → P i x
    → ((j : ℕ) (y : A) → j < i → slice_get xs j ≡ Some y → P j y) → (j : ℕ) (y : A) → j < i + 1 → slice_get xs j ≡ Some y → P j y
one_further xs i P x e p f j y h g = elim (below i j h) [
  | inl l ↦ f j y l g
  | inr k ↦ subst (λ n. P n y) (sym k) (subst (P i) (same_Some x y (sym e ∙ subst (λ n. slice_get xs n ≡ Some y) k g)) p)
]
  where
    below : (i j : ℕ) → j < i + 1 → (j < i) ⊎ (j ≡ i)
    below zero zero h = inr refl
    below zero (suc j) h = absurd (omega arith)
    below (suc i) zero h = inl (omega arith)
    below (suc i) (suc j) h = elim (below i j (omega arith)) [ inl l ↦ inl (omega (arith, l)) | inr e ↦ inr (ap suc e) ]

-- all items up to the n-th, but for the one that is found, never split into D
abbrev pub AreAlone : Language → Tree → List Slot → ℕ → Option ℕ → Type 0
AreAlone L D rs n o = (j : ℕ) (r : Slot) → j < n → slice_get rs j ≡ Some r → o ≢ Some j → NeverSplits L (slot_pattern r) D

module _ (L : Language) (D : Tree) (xs : List code_item.Item) (i : ℕ) where
  -- the next one never does
  pub one_not : (o : Option ℕ) (x : code_item.Item) → i < length xs → x ≡ get_or xs i x → NeverSplits L (slot_pattern (slot_of x)) D
      → AreAlone L D (map slot_of xs) i o → AreAlone L D (map slot_of xs) (i + 1) o
  one_not o x h e n f j r k g m =
      one_further (map slot_of xs) i (λ l y. o ≢ Some l → NeverSplits L (slot_pattern y) D) (slot_of x) (item_read xs i x h e) (λ w. n)
      (λ l y b d. f l y b d) j r k g m

  -- it is the first that may
  pub one_more : (x : code_item.Item) → i < length xs → x ≡ get_or xs i x → AreAlone L D (map slot_of xs) i None
      → AreAlone L D (map slot_of xs) (i + 1) (Some i)
  one_more x h e f j r k g m =
      one_further (map slot_of xs) i (λ l y. Some i ≢ Some l → NeverSplits L (slot_pattern y) D) (slot_of x) (item_read xs i x h e)
      (λ w. absurd (w refl)) (λ l y b d w. f l y b d (λ q. absurd cc)) j r k g m

  -- at the end the one that is found is alone
  pub alone_at_end : (o : Option ℕ) → length xs ≤ i → AreAlone L D (map slot_of xs) i o
      → IfSome o (λ k. (j : ℕ) (r : Slot) → slice_get (map slot_of xs) j ≡ Some r → j ≢ k → NeverSplits L (slot_pattern r) D)
  alone_at_end None h f = tt
  alone_at_end (Some k) h f = λ j r e n.
      f j r (let w = slice_get_within (map slot_of xs) j r e in let l = length-map xs slot_of in omega (arith, w, l)) e
      (λ g. n (sym (same_Some k j g)))

-- nothing is found
pub not_some : (o : Option ℕ) → is_some o ≡ false → o ≡ None
not_some None e = refl
not_some (Some k) e = absurd cc

-- ---- members that a loop has passed

module _ {A B : Type 0} (f : A → B) (P : B → Type 0) (xs : List A) (i : ℕ) (ys : List B) where
  pub passed_more : (x : A) → i < length xs → x ≡ get_or xs i x → P (f x) → ((q : B) → In q ys → P q ⊎ In q (map f (drop i xs)))
      → (q : B) → In q ys → P q ⊎ In q (map f (drop (i + 1) xs))
  passed_more x h e p w q j = elim (w q j) [
    | inl a ↦ inl a
    | inr k ↦ at_once (subst (λ (zs : List B). In q zs) (rest_at f xs i x h e) k)
  ]
    where
      at_once : {q : B} → In q (f x ∷ map f (drop (i + 1) xs)) → P q ⊎ In q (map f (drop (i + 1) xs))
      at_once (here d) = inl (subst P (sym d) p)
      at_once (there k) = inr k

  pub passed_all : length xs ≤ i → ((q : B) → In q ys → P q ⊎ In q (map f (drop i xs))) → (q : B) → In q ys → P q
  passed_all h w q j = elim (w q j) [
    | inl a ↦ a
    | inr k ↦ absurd (none_ahead f xs i h q k)
  ]

-- ---- the list around the hole

pub hole_listed : (xs us : List Term) (k : ℕ) → map tree_of us ≡ map tree_of xs → IsHoleList (trees_of xs) k (built_list (set us k Hole))
hole_listed xs us k e = (
  mark_for (trees_of (set us k Hole)),
  ap (list (mark_for (trees_of (set us k Hole))))
      (trees_of-set us k Hole ∙ ap (λ (ts : Trees). put_at ts k the_hole) (ap trees e)),
)

-- ---- the term at a place

pub count_there : (xs : List Term) (k : ℕ) → k < length xs → k < trees_count (trees_of xs)
count_there xs k h = let e = trees_count-trees_of xs in omega (arith, e)

pub read_there : (xs : List Term) (k : ℕ) (x : Term) → k < length xs → x ≡ get_or xs k x → item_at (trees_of xs) k the_hole ≡ tree_of x
read_there xs k x h e = item_at-trees_of xs k Hole ∙ ap tree_of (get_or-inside xs k Hole x h) ∙ ap tree_of (sym e)
  where
    get_or-inside : (ys : List Term) (j : ℕ) (d y : Term) → j < length ys → get_or ys j d ≡ get_or ys j y
    get_or-inside [] j d y h = absurd (omega arith)
    get_or-inside (z ∷ zs) zero d y h = refl
    get_or-inside (z ∷ zs) (suc j) d y h = get_or-inside zs j d y (omega arith)

-- ---- what is found

-- a listing that is not empty has a match, and an empty one has none
pub some_found : {L : Language} {p : Pattern} {t : Tree} (xs : List code_binding.Binding) (b : Bool) → Matches L p t (bindings_of xs)
    → b ≡ (length xs == 0) → IsTrue (not b) → SomeMatch L p t
some_found [] b m e h = absurd cc
some_found (x ∷ xs) b m e h = let s = m.sound (binding_of x) (here refl) in record { binding = s.whole; matched = s.holds }

pub none_found : {L : Language} {p : Pattern} {t : Tree} (xs : List code_binding.Binding) (b : Bool) → Matches L p t (bindings_of xs)
    → b ≡ (length xs == 0) → IsFalse (not b) → NeverMatches L p t
none_found [] b m e h = λ c n. elim (m.complete _ (record { whole = c; holds = n; seen = refl })) [ ]
none_found (x ∷ xs) true m e h = absurd (let k = eqb-true (length (x ∷ xs)) 0 (sym e) in omega arith)
none_found (x ∷ xs) false m e h = absurd cc
