-- Uses that were met, by the entries of a map: agreeing with all of them is agreeing with the one of the same name.
use Rattle.std.proofs.Common.{◌≡◌, ◌⊎◌, inl, inr, ℕ, Bool, true, false, List, [], ◌∷◌, Some, None, map, refl, sym, ◌∙◌, ap, subst}
use Rattle.std.proofs.Math.Bool.{and-true}
use Rattle.std.proofs.lemmas.Map.Keys.{sorted_head, sorted_tail}
use Rattle.std.proofs.lemmas.Map.Text.{is_eq-slice_cmp}
use Rattle.std.specs.BTreeMap.{insert_entry, is_at}
use Rattle.std.specs.Bool.{beq}
use Rattle.std.specs.Cmp.{Equal-is, booleans_Decides, unsigned_Decides, first_so, second_so}
use Rattle.std.specs.List.{list_all, AllByRecursion}
use Rattle.std.specs.List.Sorted.{IsStrictlySortedBy}
use Rattle.std.specs.Map.{lookup, keys_of}
use Rattle.std.specs.Ordering.{is_eq, match_ordering, on}
use Rattle.std.specs.Prelude.{◌&&◌, ◌||◌, not, cond, bytes_eq, nat_eq}
use Rattle.std.specs.declared.cmp.Ordering.{Ordering}
use Rattle.std.specs.declared.cmp.Ordering.TheVariants.{Less, Equal, Greater}
use Rattle.rdx_lang.specs.Bindings.{name_cmp}
use Rattle.rdx_lang.specs.Depths.{Use, agree}
use Rattle.rdx_lang.specs.Collecting.{Adds}
use Rattle.rdx_lang.specs.Members.{In, here, there}
use Rattle.rdx_lang.specs.Met.{use_of}
use Rattle.rdx_lang.specs.Model.TotalOrders.{name_cmp-total}
use Rattle.rdx_lang.specs.declared.key.Key.{Key}
use Rattle.rdx_lang.proofs.LookupLaws.{both_so}
use Rattle.rdx_lang.proofs.OrderLaws.{name_cmp-tells}

-- ---- whether two uses agree

-- uses of two names agree
agree-apart : (x y : List ℕ) (m n : ℕ) (j l : Bool) → is_eq (name_cmp x y) ≡ false → agree (use_of x m j) (use_of y n l) ≡ true
agree-apart x y m n j l h = let e : bytes_eq x y ≡ false = sym (is_eq-slice_cmp x y) ∙ h in ap (λ b. not b || (nat_eq m n && beq j l)) e

-- uses of one name agree by their depths and kinds
agree-same : (x y : List ℕ) (m n : ℕ) (j l : Bool) → is_eq (name_cmp x y) ≡ true
    → agree (use_of x m j) (use_of y n l) ≡ (nat_eq m n && beq j l)
agree-same x y m n j l h = let e : bytes_eq x y ≡ true = sym (is_eq-slice_cmp x y) ∙ h in ap (λ b. not b || (nat_eq m n && beq j l)) e

-- where the depths differ, that decides
pub first_fails : (m n : ℕ) (b : Bool) → (m ≡ n → ⊥) → nat_eq m n ≡ (nat_eq m n && b)
first_fails m n b h = by_test (nat_eq m n) refl
  where
    by_test : (r : Bool) → nat_eq m n ≡ r → r ≡ (r && b)
    by_test true e = absurd (h ((unsigned_Decides m n).0 e))
    by_test false e = refl

-- ---- the entries of a map

-- a key with its depth and kind
abbrev pub Entry : Type 0
Entry = Key × (ℕ × Bool)

-- the use that an entry is
abbrev pub use_in : Entry → Use
use_in e = use_of e.0.name e.1.0 e.1.1

-- keys in the order of their names
abbrev pub key_cmp : Key → Key → Ordering
key_cmp = on (λ k. k.name) name_cmp

module _ (k : Key) (n : ℕ) (l : Bool) where
  -- a use of the name of the key
  abbrev this : Use
  this = use_of k.name n l

  -- a use agrees with all that come behind its name
  agree-behind : (j : Key) (es : List Entry) → key_cmp k j ≡ Equal → AllByRecursion (λ y. key_cmp j y ≡ Less) (keys_of es)
      → list_all (agree this) (map use_in es) ≡ true
  agree-behind j [] e b = refl
  agree-behind j (f ∷ es) e b =
      let c : key_cmp k f.0 ≡ Less = name_cmp-total.congr k.name j.name f.0.name e ∙ b.0 in
      both_so (agree this (use_in f)) (list_all (agree this) (map use_in es))
      (agree-apart k.name f.0.name n f.1.0 l f.1.1 (ap is_eq c)) (agree-behind j es e b.1)

  -- where the name was met, that decides
  pub agree-found : (es : List Entry) (v : ℕ × Bool) → IsStrictlySortedBy key_cmp (keys_of es) → lookup (is_at (key_cmp k)) es ≡ Some v
      → list_all (agree this) (map use_in es) ≡ (nat_eq n v.0 && beq l v.1)
  agree-found [] v s h = cc
  agree-found (e ∷ es) v s h = by_test (is_eq (key_cmp k e.0)) refl (agree-found es v (sorted_tail key_cmp e.0 (keys_of es) s)) h
    where
      rest : is_eq (key_cmp k e.0) ≡ true → list_all (agree this) (map use_in es) ≡ true
      rest t = agree-behind e.0 es ((Equal-is (key_cmp k e.0)).0 t) (sorted_head key_cmp e.0 (keys_of es) s)

      by_test : (b : Bool) → is_eq (key_cmp k e.0) ≡ b
          → (lookup (is_at (key_cmp k)) es ≡ Some v → list_all (agree this) (map use_in es) ≡ (nat_eq n v.0 && beq l v.1))
          → cond b (Some e.1) (lookup (is_at (key_cmp k)) es) ≡ Some v
          → (agree this (use_in e) && list_all (agree this) (map use_in es)) ≡ (nat_eq n v.0 && beq l v.1)
      by_test true t f g =
          let d : e.1 ≡ v = cc in
          (λ i. agree-same k.name e.0.name n e.1.0 l e.1.1 t i && rest t i) ∙ and-true (nat_eq n e.1.0 && beq l e.1.1)
          ∙ ap (λ (w : ℕ × Bool). nat_eq n w.0 && beq l w.1) d
      by_test false t f g = (λ i. agree-apart k.name e.0.name n e.1.0 l e.1.1 t i && list_all (agree this) (map use_in es)) ∙ f g

  -- where it was not met, the use agrees with all
  pub agree-absent : (es : List Entry) → lookup (is_at (key_cmp k)) es ≡ None → list_all (agree this) (map use_in es) ≡ true
  agree-absent [] h = refl
  agree-absent (e ∷ es) h = by_test (is_eq (key_cmp k e.0)) refl (agree-absent es) h
    where
      by_test : (b : Bool) → is_eq (key_cmp k e.0) ≡ b
          → (lookup (is_at (key_cmp k)) es ≡ None → list_all (agree this) (map use_in es) ≡ true)
          → cond b (Some e.1) (lookup (is_at (key_cmp k)) es) ≡ None
          → (agree this (use_in e) && list_all (agree this) (map use_in es)) ≡ true
      by_test true t f g = cc
      by_test false t f g =
          both_so (agree this (use_in e)) (list_all (agree this) (map use_in es))
          (agree-apart k.name e.0.name n e.1.0 l e.1.1 t) (f g)

-- what is found was met
found-met : (k : Key) (v : ℕ × Bool) (es : List Entry) → lookup (is_at (key_cmp k)) es ≡ Some v → In (use_of k.name v.0 v.1) (map use_in es)
found-met k v [] h = cc
found-met k v (e ∷ es) h = by_test (is_eq (key_cmp k e.0)) refl (found-met k v es) h
  where
    by_test : (b : Bool) → is_eq (key_cmp k e.0) ≡ b → (lookup (is_at (key_cmp k)) es ≡ Some v → In (use_of k.name v.0 v.1) (map use_in es))
        → cond b (Some e.1) (lookup (is_at (key_cmp k)) es) ≡ Some v → In (use_of k.name v.0 v.1) (use_in e ∷ map use_in es)
    by_test true t f g =
        let d : v ≡ e.1 = cc in
        let x : k.name ≡ e.0.name = name_cmp-tells k.name e.0.name ((Equal-is (key_cmp k e.0)).0 t) in
        here (λ i. use_of (x i) (d i).0 (d i).1)
    by_test false t f g = there (f g)

-- a use that agrees with all, where its name was met, was met
pub met-again : (k : Key) (n : ℕ) (l : Bool) (es : List Entry) (v : ℕ × Bool) → IsStrictlySortedBy key_cmp (keys_of es)
    → lookup (is_at (key_cmp k)) es ≡ Some v
    → list_all (agree (use_of k.name n l)) (map use_in es) ≡ true → In (use_of k.name n l) (map use_in es)
met-again k n l es v s h a =
    let b : (nat_eq n v.0 && beq l v.1) ≡ true = sym (agree-found k n l es v s h) ∙ a in
    let d : n ≡ v.0 = (unsigned_Decides n v.0).0 (first_so (nat_eq n v.0) (beq l v.1) b) in
    let j : l ≡ v.1 = (booleans_Decides l v.1).0 (second_so (nat_eq n v.0) (beq l v.1) b) in
    subst (λ (u : Use). In u (map use_in es)) (λ i. use_of k.name (sym d i) (sym j i)) (found-met k v es h)

-- ---- one use more

-- what was met before changes nothing
pub known_already : (v : Use) (us : List Use) → In v us → Adds (λ u. u ≡ v) us us
known_already v us h u = (λ i. inl i, elim [ inl i ↦ i | inr e ↦ subst (λ (w : Use). In w us) (sym e) h ])

-- a use comes in before the others
put_first : (v : Use) (us : List Use) → Adds (λ u. u ≡ v) us (v ∷ us)
put_first v us u = (to, elim [ inl i ↦ there i | inr e ↦ here e ])
  where
    to : In u (v ∷ us) → In u us ⊎ u ≡ v
    to (here e) = inr e
    to (there i) = inl i

-- or behind the first of them
put_further : (v w : Use) (us ws : List Use) → Adds (λ u. u ≡ v) us ws → Adds (λ u. u ≡ v) (w ∷ us) (w ∷ ws)
put_further v w us ws a u = (to, from)
  where
    to : In u (w ∷ ws) → In u (w ∷ us) ⊎ u ≡ v
    to (here e) = inl (here e)
    to (there i) = elim ((a u).0 i) [ inl j ↦ inl (there j) | inr e ↦ inr e ]

    from : In u (w ∷ us) ⊎ u ≡ v → In u (w ∷ ws)
    from (inl (here e)) = here e
    from (inl (there i)) = there ((a u).1 (inl i))
    from (inr e) = there ((a u).1 (inr e))

-- what comes in, where its name was not met, is met beside the others
pub inserted-met : (k : Key) (v : ℕ × Bool) (es : List Entry) → lookup (is_at (key_cmp k)) es ≡ None
    → Adds (λ u. u ≡ use_of k.name v.0 v.1) (map use_in es) (map use_in (insert_entry key_cmp es k v))
inserted-met k v [] h = put_first (use_of k.name v.0 v.1) []
inserted-met k v (e ∷ es) h = by_order (key_cmp k e.0) h (inserted-met k v es)
  where
    by_order : (o : Ordering) → cond (is_eq o) (Some e.1) (lookup (is_at (key_cmp k)) es) ≡ None
        → (lookup (is_at (key_cmp k)) es ≡ None → Adds (λ u. u ≡ use_of k.name v.0 v.1) (map use_in es) (map use_in (insert_entry key_cmp es k v)))
        → Adds (λ u. u ≡ use_of k.name v.0 v.1) (use_in e ∷ map use_in es) (map use_in (match_ordering o ((k, v) ∷ e ∷ es) ((e.0, v) ∷ es) (e ∷ insert_entry key_cmp es k v)))
    by_order Less g f = put_first (use_of k.name v.0 v.1) (use_in e ∷ map use_in es)
    by_order Equal g f = absurd cc
    by_order Greater g f = put_further (use_of k.name v.0 v.1) (use_in e) (map use_in es) (map use_in (insert_entry key_cmp es k v)) (f g)
