-- Where names stand in a pattern: how often, under what, over which patterns, and which of them are length names.
use Rattle.std.proofs.Common.{arith, ◌≡◌, ◌≤◌, ◌<◌, ◌+◌, ℕ, suc, Bool, true, false, ◌&&◌, ◌||◌, not, List, [], ◌∷◌, ◌++◌, map, Option, Some, None, refl, sym, ap, ◌∙◌, subst, true≢false, inl, inr, ◌⊎◌, if◌then◌else◌}
use Rattle.std.proofs.lemmas.Bool.{and_parts, or_right}
use Rattle.std.specs.Bool.{beq}
use Rattle.std.specs.List.{list_all, list_any}
use Rattle.std.specs.Prelude.{bytes_eq, nat_eq}
use Rattle.std.specs.Cmp.Lexicographic.{bytes_decides}
use Rattle.std.specs.declared.cmp.Ordering.{Ordering}
use Rattle.std.specs.declared.cmp.Ordering.TheVariants.{Less, Equal, Greater}
use Rattle.rdx_lang.specs.Bindings.{name_cmp}
use Rattle.rdx_lang.specs.Depths.{Use, uses, item_uses, length_use, agree, all_agree}
use Rattle.rdx_lang.specs.Members.{In, here, there}
use Rattle.rdx_lang.specs.Names.{placed, with_name, add_names, with_length_name, names, item_names}
use Rattle.rdx_lang.specs.Patterns.{Pattern, wild, of_kind, except, prefix, hole, lit, nt, named, differ, in_hole, hide_hole, closed, seq, Items, nil, one, many}
use Rattle.rdx_lang.proofs.MemberLaws.{in-append, append-left, append-right, in-map, map-in}
use Rattle.rdx_gen.specs.NameRules.{Place, places, item_places, length_place, times}

-- ---- tests of members

pub member_any : {A : Type 0} (f : A → Bool) (xs : List A) (x : A) → In x xs → f x ≡ true → list_any f xs ≡ true
member_any f [] x i e = elim i [ ]
member_any f (y ∷ ys) x (here d) e = ap (λ t. t || list_any f ys) (ap f (sym d) ∙ e)
member_any f (y ∷ ys) x (there i) e = or_right (f y) (list_any f ys) (member_any f ys x i e)

any_or : (a b : Bool) → (a || b) ≡ true → (a ≡ true) ⊎ (b ≡ true)
any_or true b e = inl refl
any_or false b e = inr e

pub any_member : {A : Type 0} (f : A → Bool) (xs : List A) → list_any f xs ≡ true → (x : A) × In x xs × (f x ≡ true)
any_member f [] e = absurd (true≢false (sym e))
any_member f (y ∷ ys) e = elim (any_or (f y) (list_any f ys) e) [
  | inl h ↦ (y, here refl, h)
  | inr h ↦ let k = any_member f ys h in (k.0, there k.1, k.2)
]

all_member : {A : Type 0} (f : A → Bool) (xs : List A) (x : A) → list_all f xs ≡ true → In x xs → f x ≡ true
all_member f [] x e i = elim i [ ]
all_member f (y ∷ ys) x e (here d) = ap f d ∙ (and_parts (f y) (list_all f ys) e).0
all_member f (y ∷ ys) x e (there i) = all_member f ys x (and_parts (f y) (list_all f ys) e).1 i

-- ---- places

-- that of a name
abbrev pub name_place : List ℕ → Pattern → Bool → Bool → Place
name_place x q r l = record { name = x; part = q; is_length = false; is_mismatch = false; repeated = r; left = l }

-- that of a mismatch name
abbrev pub mismatch_place : List ℕ → Pattern → Bool → Bool → Place
mismatch_place x q r l = record { name = x; part = q; is_length = false; is_mismatch = true; repeated = r; left = l }

-- ---- how often

pub same_name : (x y : List ℕ) → bytes_eq x y ≡ true → x ≡ y
same_name x y e = (bytes_decides x y).0 e

pub name_same : (x y : List ℕ) → x ≡ y → bytes_eq x y ≡ true
name_same x y e = (bytes_decides x y).1 e

one_more : (b : Bool) (m n k : ℕ) → m ≡ n + k → (if b then m + 1 else m) ≡ (if b then n + 1 else n) + k
one_more true m n k e = omega (arith, e)
one_more false m n k e = e

pub times-append : (x : List ℕ) (us vs : List Place) → times x (us ++ vs) ≡ times x us + times x vs
times-append x [] vs = omega arith
times-append x (u ∷ us) vs = one_more (bytes_eq u.name x) (times x (us ++ vs)) (times x us) (times x vs) (times-append x us vs)

counted_more : (b : Bool) (n : ℕ) → n ≤ (if b then n + 1 else n)
counted_more true n = omega arith
counted_more false n = omega arith

counted_here : (b : Bool) (n : ℕ) → b ≡ true → 0 < (if b then n + 1 else n)
counted_here true n e = omega arith
counted_here false n e = absurd (true≢false (sym e))

-- a name with a place is counted
pub place_counts : (x : List ℕ) (us : List Place) (u : Place) → In u us → u.name ≡ x → 0 < times x us
place_counts x [] u i e = elim i [ ]
place_counts x (v ∷ us) u (here d) e = counted_here (bytes_eq v.name x) (times x us) (name_same v.name x (ap (λ (w : Place). w.name) (sym d) ∙ e))
place_counts x (v ∷ us) u (there i) e = let h = place_counts x us u i e in let k = counted_more (bytes_eq v.name x) (times x us) in omega (arith, h, k)

-- what is counted has a place
pub some_place : (x : List ℕ) (us : List Place) → 0 < times x us → (u : Place) × In u us × (u.name ≡ x)
some_place x [] h = absurd (omega (arith, h))
some_place x (v ∷ us) h = by (bytes_eq v.name x) refl h (some_place x us)
  where
    by : (b : Bool) → bytes_eq v.name x ≡ b → 0 < (if b then times x us + 1 else times x us) → (0 < times x us → (u : Place) × In u us × (u.name ≡ x))
        → (u : Place) × In u (v ∷ us) × (u.name ≡ x)
    by true e h f = (v, here refl, same_name v.name x e)
    by false e h f = let k = f h in (k.0, there k.1, k.2)

-- what is counted in both parts is counted twice
pub twice : (x : List ℕ) (us vs : List Place) → 0 < times x us → 0 < times x vs → 1 < times x (us ++ vs)
twice x us vs h k = let e = times-append x us vs in omega (arith, e, h, k)

pub counted_left : (x : List ℕ) (us vs : List Place) → 0 < times x us → 0 < times x (us ++ vs)
counted_left x us vs h = let e = times-append x us vs in omega (arith, e, h)

pub counted_right : (x : List ℕ) (us vs : List Place) → 0 < times x vs → 0 < times x (us ++ vs)
counted_right x us vs h = let e = times-append x us vs in omega (arith, e, h)

-- ---- the names of a pattern

deeper : (x y z : List ℕ) (ys : List (List ℕ)) → In z (x ∷ ys) → In z (x ∷ y ∷ ys)
deeper x y z ys (here e) = here e
deeper x y z ys (there i) = there (there i)

placed-sound : (o : Ordering) (x y z : List ℕ) (ys more : List (List ℕ)) → (In z more → In z (x ∷ ys)) → In z (placed o x y ys more) → In z (x ∷ y ∷ ys)
placed-sound Less x y z ys more f i = i
placed-sound Equal x y z ys more f i = there i
placed-sound Greater x y z ys more f (here e) = there (here e)
placed-sound Greater x y z ys more f (there i) = deeper x y z ys (f i)

with_name-sound : (x : List ℕ) (ys : List (List ℕ)) (z : List ℕ) → In z (with_name x ys) → In z (x ∷ ys)
with_name-sound x [] z h = h
with_name-sound x (y ∷ ys) z h = placed-sound (name_cmp x y) x y z ys (with_name x ys) (with_name-sound x ys z) h

first_or : (x z : List ℕ) (xs ys zs : List (List ℕ)) → In z (x ∷ zs) → (In z zs → In z xs ⊎ In z ys) → In z (x ∷ xs) ⊎ In z ys
first_or x z xs ys zs (here e) f = inl (here e)
first_or x z xs ys zs (there i) f = elim (f i) [ inl l ↦ inl (there l) | inr r ↦ inr r ]

-- each of the names of two lists is of one of them
pub add_names-sound : (xs ys : List (List ℕ)) (z : List ℕ) → In z (add_names xs ys) → In z xs ⊎ In z ys
add_names-sound [] ys z h = inr h
add_names-sound (x ∷ xs) ys z h = first_or x z xs ys (add_names xs ys) (with_name-sound x (add_names xs ys) z h) (add_names-sound xs ys z)

counted_either : (x : List ℕ) (us vs : List Place) → (0 < times x us) ⊎ (0 < times x vs) → 0 < times x (us ++ vs)
counted_either x us vs (inl h) = counted_left x us vs h
counted_either x us vs (inr h) = counted_right x us vs h

length_counts : (n : Option (List ℕ)) (xs : List (List ℕ)) (p : Pattern) (r l : Bool) (x : List ℕ) → In x (with_length_name n xs) → In x xs ⊎ (0 < times x (length_place n p r l))
length_counts None xs p r l x i = inl i
length_counts (Some y) xs p r l x i = elim (add_names-sound xs (y ∷ []) x i) [
  | inl j ↦ inl j
  | inr j ↦ inr (elim j [ here e ↦ place_counts x (length_place (Some y) p r l) (record { name = y; part = p; is_length = true; is_mismatch = false; repeated = r; left = l }) (here refl) (sym e) | there k ↦ elim k [ ] ])
]

-- a name that a repetition binds has a place in its pattern, or is its length name, which has one
either_counts : (n : Option (List ℕ)) (xs : List (List ℕ)) (p : Pattern) (r l : Bool) (x : List ℕ) → (In x xs → 0 < times x (places true l p))
    → In x (with_length_name n xs) → 0 < times x (places true l p ++ length_place n p r l)
either_counts n xs p r l x f i = counted_either x (places true l p) (length_place n p r l) (elim (length_counts n xs p r l x i) [ inl k ↦ inl (f k) | inr k ↦ inr k ])

mutual
  -- a name of a pattern has a place in it
  pub name_counts : (r l : Bool) (p : Pattern) (x : List ℕ) → In x (names p) → 0 < times x (places r l p)
  name_counts r l wild x i = elim i [ ]
  name_counts r l (of_kind k) x i = elim i [ ]
  name_counts r l (except rs) x i = elim i [ ]
  name_counts r l (prefix y) x i = elim i [ ]
  name_counts r l hole x i = elim i [ ]
  name_counts r l (lit u) x i = elim i [ ]
  name_counts r l (nt y) x i = elim i [ ]
  name_counts r l (named y q) x i = elim (add_names-sound (names q) (y ∷ []) x i) [
    | inl j ↦ let h = name_counts r l q x j in let k = counted_more (bytes_eq y x) (times x (places r l q)) in omega (arith, h, k)
    | inr j ↦ elim j [ here e ↦ counted_here (bytes_eq y x) (times x (places r l q)) (name_same y x (sym e)) | there k ↦ elim k [ ] ]
  ]
  name_counts r l (differ y q) x i = let h = name_counts r l q x i in let k = counted_more (bytes_eq y x) (times x (places r l q)) in omega (arith, h, k)
  name_counts r l (in_hole p q) x i = counted_either x (places r true p) (places r l q) (elim (add_names-sound (names p) (names q) x i) [
    | inl j ↦ inl (name_counts r true p x j)
    | inr j ↦ inr (name_counts r l q x j)
  ])
  name_counts r l (hide_hole q) x i = name_counts r l q x i
  name_counts r l (closed q) x i = elim i [ ]
  name_counts r l (seq ps) x i = item_name_counts r l ps x i

  -- a name of items has
  pub item_name_counts : (r l : Bool) (ps : Items) (x : List ℕ) → In x (item_names ps) → 0 < times x (item_places r l ps)
  item_name_counts r l nil x i = elim i [ ]
  item_name_counts r l (one p ps) x i = counted_either x (places r l p) (item_places r l ps) (elim (add_names-sound (names p) (item_names ps) x i) [
    | inl j ↦ inl (name_counts r l p x j)
    | inr j ↦ inr (item_name_counts r l ps x j)
  ])
  item_name_counts r l (many p n ps) x i = counted_either x (places true l p ++ length_place n p r l) (item_places r l ps)
      (elim (add_names-sound (with_length_name n (names p)) (item_names ps) x i) [
        | inl j ↦ inl (either_counts n (names p) p r l x (name_counts true l p x) j)
        | inr j ↦ inr (item_name_counts r l ps x j)
      ])

pub repeated_counts : (n : Option (List ℕ)) (p : Pattern) (r l : Bool) (x : List ℕ) → In x (with_length_name n (names p))
    → 0 < times x (places true l p ++ length_place n p r l)
repeated_counts n p r l x i = either_counts n (names p) p r l x (name_counts true l p x) i

-- ---- what stands around

-- what stands around all stands around each
abbrev pub IsUnder : Bool → Bool → Place → Type 0
IsUnder r l u = (r ≡ true → u.repeated ≡ true) × (l ≡ true → u.left ≡ true)

length_under : (n : Option (List ℕ)) (p : Pattern) (r l : Bool) (u : Place) → In u (length_place n p r l) → IsUnder r l u
length_under None p r l u i = elim i [ ]
length_under (Some x) p r l u (here e) = (λ h. ap (λ (v : Place). v.repeated) e ∙ h, λ h. ap (λ (v : Place). v.left) e ∙ h)
length_under (Some x) p r l u (there i) = elim i [ ]

mutual
  pub under : (r l : Bool) (p : Pattern) (u : Place) → In u (places r l p) → IsUnder r l u
  under r l wild u i = elim i [ ]
  under r l (of_kind k) u i = elim i [ ]
  under r l (except rs) u i = elim i [ ]
  under r l (prefix y) u i = elim i [ ]
  under r l hole u i = elim i [ ]
  under r l (lit t) u i = elim i [ ]
  under r l (nt y) u i = elim i [ ]
  under r l (named y q) u (here e) = (λ h. ap (λ (v : Place). v.repeated) e ∙ h, λ h. ap (λ (v : Place). v.left) e ∙ h)
  under r l (named y q) u (there i) = under r l q u i
  under r l (differ y q) u (here e) = (λ h. ap (λ (v : Place). v.repeated) e ∙ h, λ h. ap (λ (v : Place). v.left) e ∙ h)
  under r l (differ y q) u (there i) = under r l q u i
  under r l (in_hole p q) u i = elim (in-append (places r true p) (places r l q) u i) [
    | inl j ↦ let k = under r true p u j in (k.0, λ h. k.1 refl)
    | inr j ↦ under r l q u j
  ]
  under r l (hide_hole q) u i = under r l q u i
  under r l (closed q) u i = elim i [ ]
  under r l (seq ps) u i = items_under r l ps u i

  items_under : (r l : Bool) (ps : Items) (u : Place) → In u (item_places r l ps) → IsUnder r l u
  items_under r l nil u i = elim i [ ]
  items_under r l (one p ps) u i = elim (in-append (places r l p) (item_places r l ps) u i) [
    | inl j ↦ under r l p u j
    | inr j ↦ items_under r l ps u j
  ]
  items_under r l (many p n ps) u i = elim (in-append (places true l p ++ length_place n p r l) (item_places r l ps) u i) [
    | inl j ↦ elim (in-append (places true l p) (length_place n p r l) u j) [
      | inl k ↦ let h = under true l p u k in (λ e. h.0 refl, h.1)
      | inr k ↦ length_under n p r l u k
    ]
    | inr j ↦ items_under r l ps u j
  ]

-- ---- a name doesn't stand inside its own pattern

mutual
  -- names around one another, and repetitions
  pub weight : Pattern → ℕ
  weight wild = 0
  weight (of_kind k) = 0
  weight (except rs) = 0
  weight (prefix r) = 0
  weight hole = 0
  weight (lit u) = 0
  weight (nt x) = 0
  weight (named x q) = weight q + 1
  weight (differ x q) = weight q + 1
  weight (in_hole q r) = weight q + weight r
  weight (hide_hole q) = weight q
  weight (closed q) = 0
  weight (seq ps) = items_weight ps

  items_weight : Items → ℕ
  items_weight nil = 0
  items_weight (one p ps) = weight p + items_weight ps
  items_weight (many p x ps) = weight p + 1 + items_weight ps

length_lighter : (n : Option (List ℕ)) (p : Pattern) (r l : Bool) (u : Place) → In u (length_place n p r l) → weight u.part < weight p + 1
length_lighter None p r l u i = elim i [ ]
length_lighter (Some x) p r l u (here e) = let k : weight u.part ≡ weight p = ap (λ (v : Place). weight v.part) e in omega (arith, k)
length_lighter (Some x) p r l u (there i) = elim i [ ]

mutual
  unfolding weight items_weight

  -- what names in a pattern stand over is lighter
  pub lighter : (r l : Bool) (p : Pattern) (u : Place) → In u (places r l p) → weight u.part < weight p
  lighter r l wild u i = elim i [ ]
  lighter r l (of_kind k) u i = elim i [ ]
  lighter r l (except rs) u i = elim i [ ]
  lighter r l (prefix y) u i = elim i [ ]
  lighter r l hole u i = elim i [ ]
  lighter r l (lit t) u i = elim i [ ]
  lighter r l (nt y) u i = elim i [ ]
  lighter r l (named y q) u (here e) = let k : weight u.part ≡ weight q = ap (λ (v : Place). weight v.part) e in omega (arith, k)
  lighter r l (named y q) u (there i) = let k = lighter r l q u i in omega (arith, k)
  lighter r l (differ y q) u (here e) = let k : weight u.part ≡ weight q = ap (λ (v : Place). weight v.part) e in omega (arith, k)
  lighter r l (differ y q) u (there i) = let k = lighter r l q u i in omega (arith, k)
  lighter r l (in_hole p q) u i = elim (in-append (places r true p) (places r l q) u i) [
    | inl j ↦ let k = lighter r true p u j in omega (arith, k)
    | inr j ↦ let k = lighter r l q u j in omega (arith, k)
  ]
  lighter r l (hide_hole q) u i = lighter r l q u i
  lighter r l (closed q) u i = elim i [ ]
  lighter r l (seq ps) u i = items_lighter r l ps u i

  items_lighter : (r l : Bool) (ps : Items) (u : Place) → In u (item_places r l ps) → weight u.part < items_weight ps
  items_lighter r l nil u i = elim i [ ]
  items_lighter r l (one p ps) u i = elim (in-append (places r l p) (item_places r l ps) u i) [
    | inl j ↦ let k = lighter r l p u j in omega (arith, k)
    | inr j ↦ let k = items_lighter r l ps u j in omega (arith, k)
  ]
  items_lighter r l (many p n ps) u i = elim (in-append (places true l p ++ length_place n p r l) (item_places r l ps) u i) [
    | inl j ↦ elim (in-append (places true l p) (length_place n p r l) u j) [
      | inl h ↦ let k = lighter true l p u h in omega (arith, k)
      | inr h ↦ let k = length_lighter n p r l u h in omega (arith, k)
    ]
    | inr j ↦ let k = items_lighter r l ps u j in omega (arith, k)
  ]

-- so a name with this pattern isn't inside it
pub not_inside_itself : (r l : Bool) (p : Pattern) (u : Place) → In u (places r l p) → p ≡ u.part → ⊥
not_inside_itself r l p u i e = let k = lighter r l p u i in let w = ap weight e in omega (arith, k, w)

-- ---- length names

-- a name, and whether it is a length name
abbrev Named : Type 0
Named = List ℕ × Bool

abbrev of_use : Use → Named
of_use u = (u.name, u.is_length)

abbrev of_place : Place → Named
of_place u = (u.name, u.is_length)

map-parts : {A : Type 0} (f : A → Named) (xs ys : List A) (vs ws : List Named) → map f xs ≡ vs → map f ys ≡ ws → map f (xs ++ ys) ≡ vs ++ ws
map-parts f [] ys vs ws d e = e ∙ ap (λ z. z ++ ws) d
map-parts f (x ∷ xs) ys vs ws d e = ap (λ z. f x ∷ z) (map-parts f xs ys (map f xs) ws refl e) ∙ ap (λ z. z ++ ws) d

both_parts : (us : List Use) (vs : List Use) (ps qs : List Place) → map of_use us ≡ map of_place ps → map of_use vs ≡ map of_place qs → map of_use (us ++ vs) ≡ map of_place (ps ++ qs)
both_parts us vs ps qs d e = map-parts of_use us vs (map of_place ps) (map of_place qs) d e ∙ sym (map-parts of_place ps qs (map of_place ps) (map of_place qs) refl refl)

lengths_same : (n : ℕ) (x : Option (List ℕ)) (p : Pattern) (r l : Bool) → map of_use (length_use n x) ≡ map of_place (length_place x p r l)
lengths_same n None p r l = refl
lengths_same n (Some x) p r l = refl

-- none of the places is one of a mismatch name
abbrev pub HaveNoMismatch : List Place → Type 0
HaveNoMismatch us = (u : Place) → In u us → u.is_mismatch ≡ false

mutual
  -- places of names are where they are used, where there is no mismatch name, which is not used
  places_same : (n : ℕ) (r l : Bool) (p : Pattern) → HaveNoMismatch (places r l p) → map of_use (uses n p) ≡ map of_place (places r l p)
  places_same n r l wild f = refl
  places_same n r l (of_kind k) f = refl
  places_same n r l (except rs) f = refl
  places_same n r l (prefix y) f = refl
  places_same n r l hole f = refl
  places_same n r l (lit t) f = refl
  places_same n r l (nt y) f = refl
  places_same n r l (named y q) f = ap (λ z. (y, false) ∷ z) (places_same n r l q (λ u i. f u (there i)))
  places_same n r l (differ y q) f = absurd (true≢false (f (mismatch_place y q r l) (here refl)))
  places_same n r l (in_hole p q) f = both_parts (uses n p) (uses n q) (places r true p) (places r l q)
      (places_same n r true p (λ u i. f u (append-left (places r true p) (places r l q) u i)))
      (places_same n r l q (λ u i. f u (append-right (places r true p) (places r l q) u i)))
  places_same n r l (hide_hole q) f = places_same n r l q f
  places_same n r l (closed q) f = refl
  places_same n r l (seq ps) f = item_places_same n r l ps f

  item_places_same : (n : ℕ) (r l : Bool) (ps : Items) → HaveNoMismatch (item_places r l ps) → map of_use (item_uses n ps) ≡ map of_place (item_places r l ps)
  item_places_same n r l nil f = refl
  item_places_same n r l (one p ps) f = both_parts (uses n p) (item_uses n ps) (places r l p) (item_places r l ps)
      (places_same n r l p (λ u i. f u (append-left (places r l p) (item_places r l ps) u i)))
      (item_places_same n r l ps (λ u i. f u (append-right (places r l p) (item_places r l ps) u i)))
  item_places_same n r l (many p x ps) f =
      let turns : List Place = places true l p in
      let first : List Place = turns ++ length_place x p r l in
      both_parts (uses (suc n) p ++ length_use n x) (item_uses n ps) first (item_places r l ps)
      (both_parts (uses (suc n) p) (length_use n x) turns (length_place x p r l)
      (places_same (suc n) true l p (λ u i. f u (append-left first (item_places r l ps) u (append-left turns (length_place x p r l) u i))))
      (lengths_same n x p r l))
      (item_places_same n r l ps (λ u i. f u (append-right first (item_places r l ps) u i)))

kind_of : (a b : Bool) → beq a b ≡ true → a ≡ b
kind_of true true e = refl
kind_of true false e = absurd cc
kind_of false true e = absurd cc
kind_of false false e = refl

agreed : (a b c : Bool) → (not a || (b && c)) ≡ true → a ≡ true → c ≡ true
agreed true b c e h = (and_parts b c e).1
agreed false b c e h = absurd (true≢false (sym h))

use_kind : (u v : Use) → agree u v ≡ true → u.name ≡ v.name → u.is_length ≡ v.is_length
use_kind u v e n = kind_of u.is_length v.is_length (agreed (bytes_eq u.name v.name) (nat_eq u.depth v.depth) (beq u.is_length v.is_length) e (name_same u.name v.name n))

-- where uses agree, a name is of one kind
kinds_agree : (us : List Use) (u v : Use) → all_agree us ≡ true → In u us → In v us → u.name ≡ v.name → u.is_length ≡ v.is_length
kinds_agree [] u v e i j n = elim i [ ]
kinds_agree (w ∷ us) u v e (here d) (here f) n = ap (λ (x : Use). x.is_length) (d ∙ sym f)
kinds_agree (w ∷ us) u v e (here d) (there j) n =
    let a = all_member (agree w) us v (and_parts (list_all (agree w) us) (all_agree us) e).0 j in
    ap (λ (x : Use). x.is_length) d ∙ use_kind w v a (ap (λ (x : Use). x.name) (sym d) ∙ n)
kinds_agree (w ∷ us) u v e (there i) (here f) n =
    let a = all_member (agree w) us u (and_parts (list_all (agree w) us) (all_agree us) e).0 i in
    sym (ap (λ (x : Use). x.is_length) f ∙ use_kind w u a (ap (λ (x : Use). x.name) (sym f) ∙ sym n))
kinds_agree (w ∷ us) u v e (there i) (there j) n = kinds_agree us u v (and_parts (list_all (agree w) us) (all_agree us) e).1 i j n

-- so it is at its places
pub one_kind : (p : Pattern) (r l : Bool) (u v : Place) → HaveNoMismatch (places r l p) → all_agree (uses 0 p) ≡ true → In u (places r l p) → In v (places r l p) → u.name ≡ v.name → u.is_length ≡ v.is_length
one_kind p r l u v f e i j n =
    let s = places_same 0 r l p f in
    let a = in-map of_use (uses 0 p) (of_place u) (subst (λ (xs : List Named). In (of_place u) xs) (sym s) (map-in of_place (places r l p) u i)) in
    let b = in-map of_use (uses 0 p) (of_place v) (subst (λ (xs : List Named). In (of_place v) xs) (sym s) (map-in of_place (places r l p) v j)) in
    ap (λ (x : Named). x.1) a.2 ∙ kinds_agree (uses 0 p) a.0 b.0 e a.1 b.1 (ap (λ (x : Named). x.0) (sym a.2) ∙ n ∙ ap (λ (x : Named). x.0) b.2)
    ∙ ap (λ (x : Named). x.1) (sym b.2)
