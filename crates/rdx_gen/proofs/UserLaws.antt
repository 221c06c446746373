-- The users of nonterminals, added one after the other.
use Rattle.std.proofs.Common.{◌≡◌, ℕ, zero, suc, ◌+◌, ◌<◌, ◌≤◌, true, false, List, [], ◌∷◌, length, get_or, ◌-◌, ◌==◌, eqb, set, take, map, refl, sym, ◌∙◌, ap, subst, inl, inr, arith, Vec, Global, Bor}
use Rattle.std.proofs.lemmas.Bool.{cases_lt}
use Rattle.std.proofs.lemmas.Bool.Decides.{nat_tests}
use Rattle.std.proofs.lemmas.List.{length-map, map-set, get_or-set_same, get_or-set_other, get_or_past}
use Rattle.rdx_lang.proofs.MemberLaws.{in-map, map-in}
use Rattle.rdx_lang.specs.Members.{In, here, there}
use Rattle.rdx_lang.specs.Patterns.{Definition, Language}
use Rattle.rdx_lang.specs.declared.pattern.Ref.{Ref}
use Rattle.rdx_gen.specs.Inside.Places.{place_of, mentioned_at, Mentions, list_at, lists_of}
use Rattle.rdx_gen.specs.NameRules.{all_mentioned}
use Rattle.rdx_gen.proofs.MarkLaws.{cases_eq, in-more}
use Rattle.rdx_gen.proofs.SameHeights.{read-map, mentioned-defined}

-- what is read at a place is a member
pub read-in : {A : Type 0} (xs : List A) (i : ℕ) (d : A) → i < length xs → In (get_or xs i d) xs
read-in [] i d h = absurd (omega arith)
read-in (y ∷ ys) zero d h = here refl
read-in (y ∷ ys) (suc i) d h = there (read-in ys i d (omega arith))

-- the last is a member
pub last-in : (xs : List ℕ) (n : ℕ) → (length xs == 0) ≡ false → eqb (get_or xs (length xs - 1) 0) n ≡ true → In n xs
last-in [] n h e = absurd cc
last-in (y ∷ ys) n h e =
    let q : get_or (y ∷ ys) (suc (length ys) - 1) 0 ≡ n = grind (arith, nat_tests) in
    subst (λ (m : ℕ). In m (y ∷ ys)) q (read-in (y ∷ ys) (suc (length ys) - 1) 0 (omega arith))

-- the list that was put at a place
pub put-there : (vs : List (Vec ℕ Global)) (i : ℕ) (v : Vec ℕ Global) → i < length vs → list_at (lists_of (set vs i v)) i ≡ v.items
put-there vs i v l =
    ap (λ (us : List (List ℕ)). get_or us i []) (map-set (λ (w : Vec ℕ Global). w.items) vs i v)
    ∙ get_or-set_same (lists_of vs) i v.items [] (subst (λ n. i < n) (sym (length-map vs (λ (w : Vec ℕ Global). w.items))) l)

-- the lists elsewhere stay
pub put-other : (vs : List (Vec ℕ Global)) (i k : ℕ) (v : Vec ℕ Global) → (k ≡ i → ⊥) → list_at (lists_of (set vs i v)) k ≡ list_at (lists_of vs) k
put-other vs i k v n =
    ap (λ (us : List (List ℕ)). get_or us k []) (map-set (λ (w : Vec ℕ Global). w.items) vs i v) ∙ get_or-set_other (lists_of vs) i k v.items [] n

-- where a list is put that has all members of the one that was there, all lists keep theirs
pub put-kept : (vs : List (Vec ℕ Global)) (i : ℕ) (w v : Vec ℕ Global) → i < length vs → w ≡ get_or vs i w → ((j : ℕ) → In j w.items → In j v.items)
    → (k j : ℕ) → In j (list_at (lists_of vs) k) → In j (list_at (lists_of (set vs i v)) k)
put-kept vs i w v l e f k j h = elim (cases_eq k i) [
  | inl n ↦ subst (λ (is : List ℕ). In j is) (sym (ap (λ m. list_at (lists_of (set vs i v)) m) n ∙ put-there vs i v l))
      (f j (subst (λ (is : List ℕ). In j is) (ap (λ m. list_at (lists_of vs) m) n ∙ read-map (λ (z : Vec ℕ Global). z.items) vs i w [] l e) h))
  | inr n ↦ subst (λ (is : List ℕ). In j is) (sym (put-other vs i k v n)) h
]

-- no list has a member at a place that is none
pub past-none : (vs : List (Vec ℕ Global)) (i : ℕ) → length vs ≤ i → list_at (lists_of vs) i ≡ []
past-none vs i l = get_or_past (lists_of vs) i [] (subst (λ n. n ≤ i) (sym (length-map vs (λ (w : Vec ℕ Global). w.items))) l)

-- one nonterminal more
pub user-more : (L : Language) (user n i : ℕ) (rs : List (Bor Ref)) (r : Bor Ref) (us vs : List (List ℕ)) → i < length rs → r ≡ get_or rs i r
    → ((x : Ref) → In x (map (λ (b : Bor Ref). b.now) (take i rs)) → place_of L x < n → In user (list_at us (place_of L x)))
    → ((k j : ℕ) → In j (list_at us k) → In j (list_at vs k))
    → (place_of L r.now < n → In user (list_at vs (place_of L r.now)))
    → (x : Ref) → In x (map (λ (b : Bor Ref). b.now) (take (i + 1) rs)) → place_of L x < n → In user (list_at vs (place_of L x))
user-more L user n i rs r us vs l e h kept new x m k =
    let w : (b : Bor Ref) × In b (take (i + 1) rs) × (x ≡ b.now) = in-map (λ (b : Bor Ref). b.now) (take (i + 1) rs) x m in
    elim (in-more rs i r w.0 l w.1) [
      | inl q ↦ kept (place_of L x) user (h x (subst (λ (y : Ref). In y (map (λ (b : Bor Ref). b.now) (take i rs))) (sym w.2) (map-in (λ (b : Bor Ref). b.now) (take i rs) w.0 q)) k)
      | inr q ↦
          let f : x ≡ r.now = w.2 ∙ ap (λ (b : Bor Ref). b.now) (q ∙ sym e) in
          subst (λ (y : Ref). In user (list_at vs (place_of L y))) (sym f) (new (subst (λ (y : Ref). place_of L y < n) f k))
    ]

-- one definition more
pub users-more : {A : Type 0} (L : Language) (f : A → Definition) (ds : List A) (d : A) (i n : ℕ) (names : List Ref) (us vs : List (List ℕ)) → map f ds ≡ L.nonterminals → i < length ds
    → d ≡ get_or ds i d → names ≡ all_mentioned (f d).1 → ((j k : ℕ) → j < i → Mentions L j k → k < n → In j (list_at us k)) → ((k j : ℕ) → In j (list_at us k) → In j (list_at vs k))
    → ((x : Ref) → In x names → place_of L x < n → In i (list_at vs (place_of L x))) → (j k : ℕ) → j < i + 1 → Mentions L j k → k < n → In j (list_at vs k)
users-more L f ds d i n names us vs e l g b h kept new j k m w o = elim (cases_eq j i) [
  | inl q ↦
      let c : mentioned_at L j ≡ names = ap (mentioned_at L) q ∙ mentioned-defined L f ds i d e l g ∙ sym b in
      let a : In i (list_at vs (place_of L w.0)) = new w.0 (subst (λ (xs : List Ref). In w.0 xs) c w.1) (subst (λ (z : ℕ). z < n) w.2 o) in
      subst (λ (z : ℕ). In z (list_at vs k)) (sym q) (subst (λ (z : ℕ). In i (list_at vs z)) (sym w.2) a)
  | inr q ↦ kept k j (h j k (below j i m q) w o)
]
  where
    below : (j i : ℕ) → j < i + 1 → (j ≡ i → ⊥) → j < i
    below j i l n = elim (cases_lt j i) [ inl h ↦ h | inr h ↦ absurd (n (omega arith)) ]

-- a definition that mentions some nonterminal is one
pub mentions-inside : (L : Language) (j k : ℕ) → Mentions L j k → j < length L.nonterminals
mentions-inside L j k m = elim (cases_lt j (length L.nonterminals)) [ inl h ↦ h | inr h ↦ absurd (none h) ]
  where
    none : length L.nonterminals ≤ j → ⊥
    none h = elim (subst (λ (xs : List Ref). In m.0 xs) (get_or_past (map (λ (d : Definition). all_mentioned d.1) L.nonterminals) j [] (subst (λ n. n ≤ j) (sym (length-map L.nonterminals (λ (d : Definition). all_mentioned d.1))) h)) m.1) [ ]
