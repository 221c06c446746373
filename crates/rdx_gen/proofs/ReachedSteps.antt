-- Marks of nonterminals that are reached, step by step.
use Rattle.std.proofs.Common.{◌≡◌, ℕ, zero, suc, ◌+◌, ◌<◌, ◌≤◌, ◌||◌, Bool, true, false, List, [], ◌∷◌, length, get_or, take, map, replicate, refl, sym, ◌∙◌, ap, subst, ◌⊎◌, inl, inr, arith, Bor, if◌then◌else◌}
use Rattle.std.specs.Prelude.{not}
use Rattle.std.specs.Cmp.{first_so, second_so}
use Rattle.std.proofs.lemmas.List.{length-map, length-replicate, ext_get_or, take_all}
use Rattle.rdx_lang.proofs.LookupLaws.{is_same-equal, equal-is_same, not_true}
use Rattle.rdx_lang.proofs.MemberLaws.{in-append, append-left, append-right, in-map, map-in}
use Rattle.rdx_lang.specs.Members.{In, here, there}
use Rattle.rdx_lang.specs.Patterns.{Definition, Language}
use Rattle.rdx_lang.specs.References.{is_same, is_among, are_distinct}
use Rattle.rdx_lang.specs.WellFormed.{defined}
use Rattle.rdx_lang.specs.declared.pattern.Ref.{Ref}
use Rattle.rdx_gen.specs.Inside.Places.{place, place_of, Mentions, IsPlaceOf, IsMentioned}
use Rattle.rdx_gen.specs.Inside.Waiting.{IsMarked, Marks, AreReached}
use Rattle.rdx_gen.specs.NameRules.{all_mentioned, behind, marked_with, next_marks}
use Rattle.rdx_gen.proofs.MarkLaws.{marks-both, marks-none, marks-same, in-more, more-old, more-new, whole-in, in-whole, marked-inside}

-- the nonterminals of definitions
abbrev names_of : List Definition → List Ref
names_of ds = map (λ d. d.0) ds

-- ---- members and tests

among-in : (x : Ref) (ys : List Ref) → is_among x ys ≡ true → In x ys
among-in x [] h = absurd cc
among-in x (y ∷ ys) h = by_test (is_same x y) refl (among-in x ys) h
  where
    by_test : (b : Bool) → is_same x y ≡ b → (is_among x ys ≡ true → In x ys) → (b || is_among x ys) ≡ true → In x (y ∷ ys)
    by_test true e g f = here (is_same-equal x y e)
    by_test false e g f = there (g f)

in-among : (x : Ref) (ys : List Ref) → In x ys → is_among x ys ≡ true
in-among x [] h = elim h [ ]
in-among x (y ∷ ys) (here e) = left (is_same x y) (equal-is_same x y e)
  where
    left : (b : Bool) → b ≡ true → (b || is_among x ys) ≡ true
    left true e = refl
    left false e = absurd cc
in-among x (y ∷ ys) (there h) = right (is_same x y) (in-among x ys h)
  where
    right : (b : Bool) → is_among x ys ≡ true → (b || is_among x ys) ≡ true
    right true e = refl
    right false e = e

-- ---- places

-- at the place of a nonterminal it stands
name-at : (ys : List Ref) (x d : Ref) → place x ys < length ys → get_or ys (place x ys) d ≡ x
name-at [] x d l = absurd (omega arith)
name-at (y ∷ ys) x d l = by_test (is_same x y) refl (name-at ys x d) l
  where
    by_test : (b : Bool) → is_same x y ≡ b → (place x ys < length ys → get_or ys (place x ys) d ≡ x) → (if b then 0 else suc (place x ys)) < suc (length ys)
        → get_or (y ∷ ys) (if b then 0 else suc (place x ys)) d ≡ x
    by_test true e f k = sym (is_same-equal x y e)
    by_test false e f k = f (omega arith)

read-among : (ys : List Ref) (i : ℕ) (d : Ref) → i < length ys → is_among (get_or ys i d) ys ≡ true
read-among ys i d l = in-among (get_or ys i d) ys (read ys i l)
  where
    read : (zs : List Ref) (i : ℕ) → i < length zs → In (get_or zs i d) zs
    read [] i l = absurd (omega arith)
    read (z ∷ zs) zero l = here refl
    read (z ∷ zs) (suc i) l = there (read zs i (omega arith))

-- the place of what stands at a place, where none comes twice
place-at : (ys : List Ref) (i : ℕ) (d : Ref) → are_distinct ys ≡ true → i < length ys → place (get_or ys i d) ys ≡ i
place-at [] i d w l = absurd (omega arith)
place-at (y ∷ ys) zero d w l = by_test (is_same y y) (equal-is_same y y refl)
  where
    by_test : (b : Bool) → b ≡ true → (if b then 0 else suc (place y ys)) ≡ 0
    by_test true e = refl
    by_test false e = absurd cc
place-at (y ∷ ys) (suc i) d w l =
    by_test (is_same (get_or ys i d) y) refl (place-at ys i d (second_so (not (is_among y ys)) (are_distinct ys) w) (omega arith))
  where
    alone : get_or ys i d ≡ y → ⊥
    alone e = not_true (is_among y ys) (first_so (not (is_among y ys)) (are_distinct ys) w) (subst (λ (z : Ref). is_among z ys ≡ true) e (read-among ys i d (omega arith)))

    by_test : (b : Bool) → is_same (get_or ys i d) y ≡ b → place (get_or ys i d) ys ≡ i → (if b then 0 else suc (place (get_or ys i d) ys)) ≡ suc i
    by_test true e k = absurd (alone (is_same-equal (get_or ys i d) y e))
    by_test false e k = ap suc k

-- ---- marks by the definition

length-marked : (xs : List Ref) (bs : List Bool) (ds : List Definition) → length (marked_with xs bs ds) ≡ length ds
length-marked xs bs [] = refl
length-marked xs [] (d ∷ ds) = ap suc (length-marked xs [] ds)
length-marked xs (b ∷ bs) (d ∷ ds) = ap suc (length-marked xs bs ds)

-- a mark at a place
marked-at : (xs : List Ref) (bs : List Bool) (ds : List Definition) (i : ℕ) (r : Ref) → i < length ds
    → get_or (marked_with xs bs ds) i false ≡ (get_or bs i false || is_among (get_or (names_of ds) i r) xs)
marked-at xs bs [] i r l = absurd (omega arith)
marked-at xs [] (d ∷ ds) zero r l = refl
marked-at xs (b ∷ bs) (d ∷ ds) zero r l = refl
marked-at xs [] (d ∷ ds) (suc i) r l = marked-at xs [] ds i r (omega arith)
marked-at xs (b ∷ bs) (d ∷ ds) (suc i) r l = marked-at xs bs ds i r (omega arith)

same_tests : (a b c : Bool) → (a ≡ true → (b ≡ true) ⊎ (c ≡ true)) → (b ≡ true → a ≡ true) → (c ≡ true → a ≡ true) → a ≡ (b || c)
same_tests true true c f g h = refl
same_tests true false true f g h = refl
same_tests true false false f g h = absurd (elim (f refl) [ inl e ↦ (let k : false ≡ true = e in cc) | inr e ↦ (let k : false ≡ true = e in cc) ])
same_tests false true c f g h = g refl
same_tests false false true f g h = h refl
same_tests false false false f g h = refl

-- marks that are exactly these
pub marked-exact : (L : Language) (xs : List Ref) (bs cs : List Bool) → are_distinct (defined L) ≡ true → length cs ≡ length L.nonterminals
    → ((i : ℕ) → IsMarked cs i → IsMarked bs i ⊎ IsPlaceOf L xs i) → ((i : ℕ) → IsMarked bs i → i < length L.nonterminals → IsMarked cs i)
    → ((i : ℕ) → IsPlaceOf L xs i → i < length L.nonterminals → IsMarked cs i) → cs ≡ marked_with xs bs L.nonterminals
marked-exact L xs bs cs w s f g h = ext_get_or false cs (marked_with xs bs L.nonterminals) (s ∙ sym (length-marked xs bs L.nonterminals)) (λ i l. at i (subst (λ n. i < n) s l))
  where
    size : length (defined L) ≡ length L.nonterminals
    size = length-map L.nonterminals (λ (d : Definition). d.0)

    at : (i : ℕ) → i < length L.nonterminals → get_or cs i false ≡ get_or (marked_with xs bs L.nonterminals) i false
    at i l = same_tests (get_or cs i false) (get_or bs i false) (is_among x xs) to from_old from_new ∙ sym (marked-at xs bs L.nonterminals i r l)
      where
        r : Ref
        r = first (defined L) (subst (λ n. i < n) (sym size) l)
          where
            first : (ys : List Ref) → i < length ys → Ref
            first [] l = absurd (omega arith)
            first (y ∷ ys) l = y

        x : Ref
        x = get_or (defined L) i r

        to : IsMarked cs i → (get_or bs i false ≡ true) ⊎ (is_among x xs ≡ true)
        to m = elim (f i m) [
          | inl b ↦ inl b
          | inr p ↦
              let k : place_of L p.0 < length (defined L) = subst (λ n. n < length (defined L)) p.2 (subst (λ n. i < n) (sym size) l) in
              let e : x ≡ p.0 = ap (λ n. get_or (defined L) n r) p.2 ∙ name-at (defined L) p.0 r k in
              inr (in-among x xs (subst (λ (z : Ref). In z xs) (sym e) p.1))
        ]

        from_old : get_or bs i false ≡ true → IsMarked cs i
        from_old m = g i m l

        from_new : is_among x xs ≡ true → IsMarked cs i
        from_new m = h i (x, among-in x xs m, sym (place-at (defined L) i r w (subst (λ n. i < n) (sym size) l))) l

-- ---- those behind marked ones

in-behind : (bs : List Bool) (ds : List Definition) (x : Ref) → In x (behind bs ds) → (j : ℕ) × IsMarked bs j × In x (get_or (map (λ (d : Definition). all_mentioned d.1) ds) j [])
in-behind [] ds x h = elim h [ ]
in-behind (b ∷ bs) [] x h = elim h [ ]
in-behind (true ∷ bs) (d ∷ ds) x h = elim (in-append (all_mentioned d.1) (behind bs ds) x h) [
  | inl k ↦ (0, refl, k)
  | inr k ↦ let w = in-behind bs ds x k in (suc w.0, w.1, w.2)
]
in-behind (false ∷ bs) (d ∷ ds) x h = let w = in-behind bs ds x h in (suc w.0, w.1, w.2)

behind-in : (bs : List Bool) (ds : List Definition) (x : Ref) (j : ℕ) → IsMarked bs j → In x (get_or (map (λ (d : Definition). all_mentioned d.1) ds) j []) → In x (behind bs ds)
behind-in [] ds x j m h = absurd cc
behind-in (b ∷ bs) [] x j m h = elim h [ ]
behind-in (true ∷ bs) (d ∷ ds) x zero m h = append-left (all_mentioned d.1) (behind bs ds) x h
behind-in (false ∷ bs) (d ∷ ds) x zero m h = absurd cc
behind-in (true ∷ bs) (d ∷ ds) x (suc j) m h = append-right (all_mentioned d.1) (behind bs ds) x (behind-in bs ds x j m h)
behind-in (false ∷ bs) (d ∷ ds) x (suc j) m h = behind-in bs ds x j m h

-- ---- a step

-- what a step marks is what the definition does
pub step-next : (L : Language) (bs cs : List Bool) (front found : List ℕ) → are_distinct (defined L) ≡ true → AreReached L bs front → Marks (IsMentioned L front) bs cs [] found
    → cs ≡ next_marks L bs
step-next L bs cs front found w r m = marked-exact L (behind bs L.nonterminals) bs cs w (m.size ∙ r.size) to (λ i k l. m.kept i k) from
  where
    to : (i : ℕ) → IsMarked cs i → IsMarked bs i ⊎ IsPlaceOf L (behind bs L.nonterminals) i
    to i k = elim (m.only i k) [
      | inl b ↦ inl b
      | inr q ↦ inr (q.2.0, behind-in bs L.nonterminals q.2.0 q.0 (r.front_marked q.0 q.1) q.2.1, q.2.2)
    ]

    from : (i : ℕ) → IsPlaceOf L (behind bs L.nonterminals) i → i < length L.nonterminals → IsMarked cs i
    from i p l =
        let b = in-behind bs L.nonterminals p.0 p.1 in
        elim (r.closed b.0 i b.1 (p.0, b.2, p.2) l) [
          | inl k ↦ m.kept i k
          | inr k ↦ m.marked i (b.0, k, (p.0, b.2, p.2)) (subst (λ n. i < n) (sym r.size) l)
        ]

-- behind the step the new ones are the front
pub step-reached : (L : Language) (bs cs : List Bool) (front found : List ℕ) → AreReached L bs front → Marks (IsMentioned L front) bs cs [] found → AreReached L cs found
step-reached L bs cs front found r m = record {
  size = m.size ∙ r.size;
  front_marked = λ j i. elim (m.listed_marked j i) [ inl k ↦ elim k [ ] | inr k ↦ k ];
  closed = λ j i k a l. elim (m.fresh j k) [
    | inl b ↦ elim (r.closed j i b a l) [
      | inl c ↦ inl (m.kept i c)
      | inr c ↦ inl (m.marked i (j, c, a) (subst (λ n. i < n) (sym r.size) l))
    ]
    | inr f ↦ inr f
  ];
}

-- where the front is empty, a step marks no more
pub step-still : (L : Language) (bs : List Bool) (front : List ℕ) → are_distinct (defined L) ≡ true → AreReached L bs front → front ≡ [] → next_marks L bs ≡ bs
step-still L bs front w r e =
    sym (step-next L bs bs [] [] w (subst (λ (js : List ℕ). AreReached L bs js) e r) (marks-none (IsMentioned L []) bs [] (λ j p. elim p.1 [ ])))

-- ---- the start

no-marks : (n i : ℕ) → IsMarked (replicate n false) i → ⊥
no-marks zero i m = absurd cc
no-marks (suc n) zero m = absurd cc
no-marks (suc n) (suc i) m = no-marks n i m

pub start-marked : (L : Language) (xs : List Ref) (n : ℕ) (cs : List Bool) (found : List ℕ) → are_distinct (defined L) ≡ true → n ≡ length L.nonterminals
    → Marks (IsPlaceOf L xs) (replicate n false) cs [] found → cs ≡ marked_with xs [] L.nonterminals
start-marked L xs n cs found w e m = marked-exact L xs [] cs w (m.size ∙ length-replicate n false ∙ e)
    (λ i k. elim (m.only i k) [ inl b ↦ absurd (no-marks n i b) | inr p ↦ inr p ]) (λ i k l. absurd cc)
    (λ i p l. m.marked i p (subst (λ k. i < k) (sym (length-replicate n false ∙ e)) l))

pub start-reached : (L : Language) (xs : List Ref) (n : ℕ) (cs : List Bool) (found : List ℕ) → n ≡ length L.nonterminals → Marks (IsPlaceOf L xs) (replicate n false) cs [] found → AreReached L cs found
start-reached L xs n cs found e m = record {
  size = m.size ∙ length-replicate n false ∙ e;
  front_marked = λ j i. elim (m.listed_marked j i) [ inl k ↦ elim k [ ] | inr k ↦ k ];
  closed = λ j i k a l. elim (m.fresh j k) [ inl b ↦ absurd (no-marks n j b) | inr f ↦ inr f ];
}

-- ---- marking, one after the other

-- one nonterminal more
pub names-more : (L : Language) (rs : List (Bor Ref)) (r : Bor Ref) (i p : ℕ) (ks bs cs : List Bool) (ls ms ns : List ℕ) → i < length rs → r ≡ get_or rs i r → p ≡ place_of L r.now
    → Marks (IsPlaceOf L (map (λ (b : Bor Ref). b.now) (take i rs))) ks bs ls ms → Marks (λ j. j ≡ p) bs cs ms ns
    → Marks (IsPlaceOf L (map (λ (b : Bor Ref). b.now) (take (i + 1) rs))) ks cs ls ns
names-more L rs r i p ks bs cs ls ms ns l e g a b =
    marks-both (IsPlaceOf L (map (λ (b : Bor Ref). b.now) (take i rs))) (λ j. j ≡ p) (IsPlaceOf L (map (λ (b : Bor Ref). b.now) (take (i + 1) rs))) ks bs cs ls ms ns
    split old new a b
  where
    split : (j : ℕ) → IsPlaceOf L (map (λ (b : Bor Ref). b.now) (take (i + 1) rs)) j → IsPlaceOf L (map (λ (b : Bor Ref). b.now) (take i rs)) j ⊎ (j ≡ p)
    split j q =
        let w : (b : Bor Ref) × In b (take (i + 1) rs) × (q.0 ≡ b.now) = in-map (λ (b : Bor Ref). b.now) (take (i + 1) rs) q.0 q.1 in
        elim (in-more rs i r w.0 l w.1) [
          | inl k ↦ inl (q.0, subst (λ (y : Ref). In y (map (λ (b : Bor Ref). b.now) (take i rs))) (sym w.2) (map-in (λ (b : Bor Ref). b.now) (take i rs) w.0 k), q.2)
          | inr k ↦ inr (q.2 ∙ ap (place_of L) (w.2 ∙ ap (λ (b : Bor Ref). b.now) (k ∙ sym e)) ∙ sym g)
        ]

    old : (j : ℕ) → IsPlaceOf L (map (λ (b : Bor Ref). b.now) (take i rs)) j → IsPlaceOf L (map (λ (b : Bor Ref). b.now) (take (i + 1) rs)) j
    old j q =
        let w : (b : Bor Ref) × In b (take i rs) × (q.0 ≡ b.now) = in-map (λ (b : Bor Ref). b.now) (take i rs) q.0 q.1 in
        (q.0, subst (λ (y : Ref). In y (map (λ (b : Bor Ref). b.now) (take (i + 1) rs))) (sym w.2) (map-in (λ (b : Bor Ref). b.now) (take (i + 1) rs) w.0 (more-old rs i r w.0 l w.1)), q.2)

    new : (j : ℕ) → j ≡ p → IsPlaceOf L (map (λ (b : Bor Ref). b.now) (take (i + 1) rs)) j
    new j q = (r.now, map-in (λ (b : Bor Ref). b.now) (take (i + 1) rs) r (more-new rs i r r l e), q ∙ g)

-- one definition more
pub mentions-more : (L : Language) (xs : List ℕ) (i : ℕ) (ks bs cs : List Bool) (ls ms ns : List ℕ) → i < length xs
    → Marks (IsMentioned L (take i xs)) ks bs ls ms → Marks (Mentions L (get_or xs i 0)) bs cs ms ns → Marks (IsMentioned L (take (i + 1) xs)) ks cs ls ns
mentions-more L xs i ks bs cs ls ms ns l a b =
    marks-both (IsMentioned L (take i xs)) (Mentions L (get_or xs i 0)) (IsMentioned L (take (i + 1) xs)) ks bs cs ls ms ns
    (λ j q. elim (in-more xs i 0 q.0 l q.1) [ inl k ↦ inl (q.0, k, q.2) | inr k ↦ inr (subst (λ (n : ℕ). Mentions L n j) k q.2) ])
    (λ j q. (q.0, more-old xs i 0 q.0 l q.1, q.2)) (λ j q. (get_or xs i 0, more-new xs i 0 (get_or xs i 0) l refl, q)) a b

pub mentions-whole : (L : Language) (xs : List ℕ) (i : ℕ) (ks bs : List Bool) (ls ms : List ℕ) → length xs ≤ i → Marks (IsMentioned L (take i xs)) ks bs ls ms → Marks (IsMentioned L xs) ks bs ls ms
mentions-whole L xs i ks bs ls ms l a =
    marks-same (IsMentioned L (take i xs)) (IsMentioned L xs) ks bs ls ms (λ j q. (q.0, whole-in xs i q.0 l q.1, q.2)) (λ j q. (q.0, in-whole xs i q.0 l q.1, q.2)) a

-- the same marks by another list of the same nonterminals
pub names-same : (L : Language) (xs ys : List Ref) (ks bs : List Bool) (ls ms : List ℕ) → xs ≡ ys → Marks (IsPlaceOf L xs) ks bs ls ms → Marks (IsPlaceOf L ys) ks bs ls ms
names-same L xs ys ks bs ls ms e m = subst (λ (zs : List Ref). Marks (IsPlaceOf L zs) ks bs ls ms) e m

pub names-whole : (L : Language) (rs : List (Bor Ref)) (i : ℕ) (ks bs : List Bool) (ls ms : List ℕ) → length rs ≤ i → Marks (IsPlaceOf L (map (λ (b : Bor Ref). b.now) (take i rs))) ks bs ls ms
    → Marks (IsPlaceOf L (map (λ (b : Bor Ref). b.now) rs)) ks bs ls ms
names-whole L rs i ks bs ls ms l m = names-same L (map (λ (b : Bor Ref). b.now) (take i rs)) (map (λ (b : Bor Ref). b.now) rs) ks bs ls ms (ap (map (λ (b : Bor Ref). b.now)) (take_all i rs l)) m

-- a place that is mentioned there is that of a definition
pub front-inside : (L : Language) (bs : List Bool) (front : List ℕ) → AreReached L bs front → (j : ℕ) → In j front → j < length L.nonterminals
front-inside L bs front r j i = subst (λ n. j < n) r.size (marked-inside bs j (r.front_marked j i))
