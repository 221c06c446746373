-- The marks of a pattern are those of the nonterminals that it reaches.
use Rattle.std.proofs.Common.{◌≡◌, ◌⊎◌, inl, inr, ℕ, zero, suc, ◌+◌, ◌<◌, ◌≤◌, ◌||◌, Bool, true, false, List, [], ◌∷◌, length, Option, Some, None, refl, sym, ap, ◌∙◌, subst, arith}
use Rattle.std.specs.Fn.{iterate}
use Rattle.rdx_lang.specs.Members.{In, here, there}
use Rattle.rdx_lang.specs.Patterns.{Pattern, Definition, Language}
use Rattle.rdx_lang.specs.References.{is_same, is_among}
use Rattle.rdx_lang.specs.declared.pattern.Ref.{Ref}
use Rattle.rdx_lang.proofs.LookupLaws.{is_same-equal, equal-is_same}
use Rattle.rdx_lang.proofs.MemberLaws.{in-append, append-left, append-right}
use Rattle.rdx_gen.specs.Laws.{Reaches, at_once, MarkExactly, ReachedExactly, NoneBreaks}
use Rattle.rdx_gen.specs.Laws.{behind as further}
use Rattle.rdx_gen.specs.NameRules.{mentioned, all_mentioned, behind, marked_with, next_marks, reached, or_else, places_of, first_in_alternative, first_broken, first_in_alternatives, first_in_definitions}
use Rattle.rdx_gen.proofs.RoundsEnd.{rounds_end}

-- ---- members

either_true : (a b : Bool) → (a || b) ≡ true → (a ≡ true) ⊎ (b ≡ true)
either_true true b e = inl refl
either_true false b e = inr e

left_true : (a b : Bool) → a ≡ true → (a || b) ≡ true
left_true true b e = refl
left_true false b e = absurd cc

right_true : (a b : Bool) → b ≡ true → (a || b) ≡ true
right_true true b e = refl
right_true false b e = e

among-in : (x : Ref) (ys : List Ref) → is_among x ys ≡ true → In x ys
among-in x [] e = absurd cc
among-in x (y ∷ ys) e = elim (either_true (is_same x y) (is_among x ys) e) [
  | inl s ↦ here (is_same-equal x y s)
  | inr a ↦ there (among-in x ys a)
]

in-among : (x : Ref) (ys : List Ref) → In x ys → is_among x ys ≡ true
in-among x [] i = elim i [ ]
in-among x (y ∷ ys) (here e) = left_true (is_same x y) (is_among x ys) (equal-is_same x y e)
in-among x (y ∷ ys) (there i) = right_true (is_same x y) (is_among x ys) (in-among x ys i)

-- a nonterminal that stands in one of these patterns
record StandsIn (x : Ref) (ps : List Pattern) : Type 0 where
  pattern : Pattern
  among : In pattern ps
  stands : In x (mentioned pattern)

in-all_mentioned : (x : Ref) (ps : List Pattern) → In x (all_mentioned ps) → StandsIn x ps
in-all_mentioned x [] i = elim i [ ]
in-all_mentioned x (p ∷ ps) i = elim (in-append (mentioned p) (all_mentioned ps) x i) [
  | inl j ↦ record { pattern = p; among = here refl; stands = j }
  | inr j ↦ let r = in-all_mentioned x ps j in record { pattern = r.pattern; among = there r.among; stands = r.stands }
]

all_mentioned-in : (x : Ref) (p : Pattern) (ps : List Pattern) → In p ps → In x (mentioned p) → In x (all_mentioned ps)
all_mentioned-in x p [] i j = elim i [ ]
all_mentioned-in x p (q ∷ ps) (here e) j = append-left (mentioned q) (all_mentioned ps) x (subst (λ r. In x (mentioned r)) e j)
all_mentioned-in x p (q ∷ ps) (there i) j = append-right (mentioned q) (all_mentioned ps) x (all_mentioned-in x p ps i j)

-- ---- marks that are right

-- each mark that is set is of a nonterminal with the property
abbrev Sound : (Ref → Type 0) → List Bool → List Definition → Type 0
Sound R bs [] = Unit {0}
Sound R [] (d ∷ ds) = Unit {0}
Sound R (b ∷ bs) (d ∷ ds) = (b ≡ true → R d.0) × Sound R bs ds

none_set : (R : Ref → Type 0) (ds : List Definition) → Sound R [] ds
none_set R [] = tt
none_set R (d ∷ ds) = tt

sound-marked : (R : Ref → Type 0) (xs : List Ref) → ((x : Ref) → In x xs → R x) → (bs : List Bool) (ds : List Definition) → Sound R bs ds
    → Sound R (marked_with xs bs ds) ds
sound-marked R xs f bs [] s = tt
sound-marked R xs f [] (d ∷ ds) s = (λ e. f d.0 (among-in d.0 xs e), sound-marked R xs f [] ds (none_set R ds))
sound-marked R xs f (b ∷ bs) (d ∷ ds) s =
    (λ e. elim (either_true b (is_among d.0 xs) e) [ inl i ↦ s.0 i | inr a ↦ f d.0 (among-in d.0 xs a) ], sound-marked R xs f bs ds s.1)

-- what stands in an alternative of a definition that is marked
record IsBehind (R : Ref → Type 0) (x : Ref) (ds : List Definition) : Type 0 where
  name : Ref
  all : List Pattern
  pattern : Pattern
  defined : In (name, all) ds
  among : In pattern all
  stands : In x (mentioned pattern)
  holds : R name

in-behind : (R : Ref → Type 0) (x : Ref) (bs : List Bool) (ds : List Definition) → Sound R bs ds → In x (behind bs ds) → IsBehind R x ds
in-behind R x [] ds s i = elim i [ ]
in-behind R x (b ∷ bs) [] s i = elim i [ ]
in-behind R x (true ∷ bs) (d ∷ ds) s i = elim (in-append (all_mentioned d.1) (behind bs ds) x i) [
  | inl j ↦
      let r = in-all_mentioned x d.1 j in
      record { name = d.0; all = d.1; pattern = r.pattern; defined = here refl; among = r.among; stands = r.stands; holds = s.0 refl }
  | inr j ↦
      let r = in-behind R x bs ds s.1 j in
      record { name = r.name; all = r.all; pattern = r.pattern; defined = there r.defined; among = r.among; stands = r.stands; holds = r.holds }
]
in-behind R x (false ∷ bs) (d ∷ ds) s i =
    let r = in-behind R x bs ds s.1 i in
    record { name = r.name; all = r.all; pattern = r.pattern; defined = there r.defined; among = r.among; stands = r.stands; holds = r.holds }

-- ---- marks of a nonterminal

-- the definitions of x are marked
abbrev Marked : Ref → List Bool → List Definition → Type 0
Marked x bs [] = Unit {0}
Marked x [] (d ∷ ds) = ⊥
Marked x (b ∷ bs) (d ∷ ds) = (x ≡ d.0 → b ≡ true) × Marked x bs ds

marked-among : (x : Ref) (xs : List Ref) → In x xs → (bs : List Bool) (ds : List Definition) → Marked x (marked_with xs bs ds) ds
marked-among x xs i bs [] = tt
marked-among x xs i [] (d ∷ ds) = (λ e. in-among d.0 xs (subst (λ y. In y xs) e i), marked-among x xs i [] ds)
marked-among x xs i (b ∷ bs) (d ∷ ds) =
    (λ e. right_true b (is_among d.0 xs) (in-among d.0 xs (subst (λ y. In y xs) e i)), marked-among x xs i bs ds)

-- they stay marked
marked-stays : (x : Ref) (xs : List Ref) (bs : List Bool) (ds : List Definition) → Marked x bs ds → Marked x (marked_with xs bs ds) ds
marked-stays x xs bs [] m = tt
marked-stays x xs [] (d ∷ ds) m = absurd m
marked-stays x xs (b ∷ bs) (d ∷ ds) m = (λ e. left_true b (is_among d.0 xs) (m.0 e), marked-stays x xs bs ds m.1)

-- what stands in an alternative of a marked one is behind the marks
marked-behind : (x y : Ref) (ps : List Pattern) (q : Pattern) → In q ps → In x (mentioned q) → (bs : List Bool) (ds : List Definition)
    → Marked y bs ds → In (y, ps) ds → In x (behind bs ds)
marked-behind x y ps q i j bs [] m k = elim k [ ]
marked-behind x y ps q i j [] (d ∷ ds) m k = absurd m
marked-behind x y ps q i j (true ∷ bs) (d ∷ ds) m (here e) =
    let f : ps ≡ d.1 = ap (λ (z : Definition). z.1) e in
    append-left (all_mentioned d.1) (behind bs ds) x (subst (λ qs. In x (all_mentioned qs)) f (all_mentioned-in x q ps i j))
marked-behind x y ps q i j (false ∷ bs) (d ∷ ds) m (here e) =
    let f : false ≡ true = m.0 (ap (λ (z : Definition). z.0) e) in absurd cc
marked-behind x y ps q i j (true ∷ bs) (d ∷ ds) m (there k) =
    append-right (all_mentioned d.1) (behind bs ds) x (marked-behind x y ps q i j bs ds m.1 k)
marked-behind x y ps q i j (false ∷ bs) (d ∷ ds) m (there k) = marked-behind x y ps q i j bs ds m.1 k

-- ---- steps

-- how many marks are set
abbrev one_if : Bool → ℕ
one_if true = 1
one_if false = 0

abbrev count : List Bool → ℕ
count [] = 0
count (b ∷ bs) = one_if b + count bs

one-most : (b : Bool) → one_if b ≤ 1
one-most true = omega arith
one-most false = omega arith

count-most : (bs : List Bool) → count bs ≤ length bs
count-most [] = omega arith
count-most (b ∷ bs) = let a = one-most b in let c = count-most bs in omega (arith, a, c)

length-marked : (xs : List Ref) (bs : List Bool) (ds : List Definition) → length (marked_with xs bs ds) ≡ length ds
length-marked xs bs [] = refl
length-marked xs [] (d ∷ ds) = ap suc (length-marked xs [] ds)
length-marked xs (b ∷ bs) (d ∷ ds) = ap suc (length-marked xs bs ds)

one_or_more : (b c : Bool) → ((b || c) ≡ b) ⊎ (one_if b < one_if (b || c))
one_or_more true c = inl refl
one_or_more false true = inr (omega arith)
one_or_more false false = inl refl

one_no_less : (b c : Bool) → one_if b ≤ one_if (b || c)
one_no_less true c = omega arith
one_no_less false true = omega arith
one_no_less false false = omega arith

no_fewer : (xs : List Ref) (bs : List Bool) (ds : List Definition) → length bs ≡ length ds → count bs ≤ count (marked_with xs bs ds)
no_fewer xs [] [] e = omega arith
no_fewer xs [] (d ∷ ds) e = omega arith
no_fewer xs (b ∷ bs) [] e = absurd (omega (arith, e))
no_fewer xs (b ∷ bs) (d ∷ ds) e =
    let a = one_no_less b (is_among d.0 xs) in let c = no_fewer xs bs ds (omega (arith, e)) in omega (arith, a, c)

-- they stay the same, or more are set
same_or_more : (xs : List Ref) (bs : List Bool) (ds : List Definition) → length bs ≡ length ds
    → (marked_with xs bs ds ≡ bs) ⊎ (count bs < count (marked_with xs bs ds))
same_or_more xs [] [] e = inl refl
same_or_more xs [] (d ∷ ds) e = absurd (omega (arith, e))
same_or_more xs (b ∷ bs) [] e = absurd (omega (arith, e))
same_or_more xs (b ∷ bs) (d ∷ ds) e =
    let f : length bs ≡ length ds = omega (arith, e) in
    let a = one_no_less b (is_among d.0 xs) in
    let c = no_fewer xs bs ds f in
    elim (one_or_more b (is_among d.0 xs)) [
      | inr m ↦ inr (omega (arith, m, c))
      | inl g ↦ elim (same_or_more xs bs ds f) [
        | inr m ↦ inr (omega (arith, a, m))
        | inl h ↦ inl (ap (λ z. z ∷ marked_with xs bs ds) g ∙ ap (λ zs. b ∷ zs) h)
      ]
    ]

module _ (L : Language) (p : Pattern) where
  abbrev first_marks : List Bool
  first_marks = marked_with (mentioned p) [] L.nonterminals

  -- another step marks nothing more
  pub reached_closed : next_marks L (reached L p) ≡ reached L p
  reached_closed =
      rounds_end (next_marks L) count (length L.nonterminals) (λ bs. length bs ≡ length L.nonterminals)
      (λ bs e. length-marked (behind bs L.nonterminals) bs L.nonterminals) (λ bs e. same_or_more (behind bs L.nonterminals) bs L.nonterminals e)
      (λ bs e. let c = count-most bs in omega (arith, c, e)) first_marks (length-marked (mentioned p) [] L.nonterminals)

  length-reached : (n : ℕ) (bs : List Bool) → length bs ≡ length L.nonterminals → length (iterate (next_marks L) n bs) ≡ length L.nonterminals
  length-reached zero bs e = e
  length-reached (suc n) bs e = length-reached n (next_marks L bs) (length-marked (behind bs L.nonterminals) bs L.nonterminals)

  sound-next : (bs : List Bool) → Sound (Reaches L p) bs L.nonterminals → Sound (Reaches L p) (next_marks L bs) L.nonterminals
  sound-next bs s = sound-marked (Reaches L p) (behind bs L.nonterminals)
      (λ x i.
      let r = in-behind (Reaches L p) x bs L.nonterminals s i in
      further r.holds (record { all = r.all; defined = r.defined; among = r.among }) r.stands)
      bs L.nonterminals s

  sound-rounds : (n : ℕ) (bs : List Bool) → Sound (Reaches L p) bs L.nonterminals → Sound (Reaches L p) (iterate (next_marks L) n bs) L.nonterminals
  sound-rounds zero bs s = s
  sound-rounds (suc n) bs s = sound-rounds n (next_marks L bs) (sound-next bs s)

  reached-sound : Sound (Reaches L p) (reached L p) L.nonterminals
  reached-sound =
      sound-rounds (length L.nonterminals) first_marks
      (sound-marked (Reaches L p) (mentioned p) (λ x i. at_once i) [] L.nonterminals (none_set (Reaches L p) L.nonterminals))

  marked-rounds : (x : Ref) (n : ℕ) (bs : List Bool) → Marked x bs L.nonterminals → Marked x (iterate (next_marks L) n bs) L.nonterminals
  marked-rounds x zero bs m = m
  marked-rounds x (suc n) bs m = marked-rounds x n (next_marks L bs) (marked-stays x (behind bs L.nonterminals) bs L.nonterminals m)

  -- what it reaches is marked
  pub reaches-marked : (x : Ref) → Reaches L p x → Marked x (reached L p) L.nonterminals
  reaches-marked x (at_once i) = marked-rounds x (length L.nonterminals) first_marks (marked-among x (mentioned p) i [] L.nonterminals)
  reaches-marked x (further {y = y} {q = q} r a i) =
      subst (λ bs. Marked x bs L.nonterminals) reached_closed
      (marked-among x (behind (reached L p) L.nonterminals)
      (marked-behind x y a.all q a.among i (reached L p) L.nonterminals (reaches-marked y r) a.defined) (reached L p) L.nonterminals)

exactly : (R : Ref → Type 0) (bs : List Bool) (ds : List Definition) → length bs ≡ length ds → Sound R bs ds → ((x : Ref) → R x → Marked x bs ds)
    → MarkExactly R bs ds
exactly R [] [] e s f = tt
exactly R [] (d ∷ ds) e s f = absurd (omega (arith, e))
exactly R (b ∷ bs) [] e s f = absurd (omega (arith, e))
exactly R (b ∷ bs) (d ∷ ds) e s f = ((s.0, λ r. (f d.0 r).0 refl), exactly R bs ds (omega (arith, e)) s.1 (λ x r. (f x r).1))

pub reached_exactly : ReachedExactly
reached_exactly L p =
    exactly (Reaches L p) (reached L p) L.nonterminals
    (length-reached L p (length L.nonterminals) (first_marks L p) (length-marked (mentioned p) [] L.nonterminals)) (reached-sound L p)
    (reaches-marked L p)

-- ---- names in alternatives

or_else-none : (a b : Option (List ℕ)) → or_else a b ≡ None → (a ≡ None) × (b ≡ None)
or_else-none None b e = (refl, e)
or_else-none (Some x) b e = absurd cc

none-in_alternatives : (q : Pattern) (ps : List Pattern) → In q ps → first_in_alternatives ps ≡ None
    → first_in_alternative (places_of q) (places_of q) ≡ None
none-in_alternatives q [] i e = elim i [ ]
none-in_alternatives q (p ∷ ps) (here f) e =
    subst (λ z. first_in_alternative (places_of z) (places_of z) ≡ None) (sym f)
    (or_else-none (first_in_alternative (places_of p) (places_of p)) (first_in_alternatives ps) e).0
none-in_alternatives q (p ∷ ps) (there i) e =
    none-in_alternatives q ps i (or_else-none (first_in_alternative (places_of p) (places_of p)) (first_in_alternatives ps) e).1

none-in_definitions : (x : Ref) (ps : List Pattern) (bs : List Bool) (ds : List Definition) → Marked x bs ds → In (x, ps) ds
    → first_in_definitions bs ds ≡ None
    → first_in_alternatives ps ≡ None
none-in_definitions x ps bs [] m i e = elim i [ ]
none-in_definitions x ps [] (d ∷ ds) m i e = absurd m
none-in_definitions x ps (true ∷ bs) (d ∷ ds) m (here f) e =
    subst (λ qs. first_in_alternatives qs ≡ None) (sym (ap (λ (z : Definition). z.1) f))
    (or_else-none (first_in_alternatives d.1) (first_in_definitions bs ds) e).0
none-in_definitions x ps (false ∷ bs) (d ∷ ds) m (here f) e =
    let g : false ≡ true = m.0 (ap (λ (z : Definition). z.0) f) in absurd cc
none-in_definitions x ps (true ∷ bs) (d ∷ ds) m (there i) e =
    none-in_definitions x ps bs ds m.1 i (or_else-none (first_in_alternatives d.1) (first_in_definitions bs ds) e).1
none-in_definitions x ps (false ∷ bs) (d ∷ ds) m (there i) e = none-in_definitions x ps bs ds m.1 i e

pub none_breaks : NoneBreaks
none_breaks L p q x e r a =
    let f = (or_else-none (first_broken (places_of p) (places_of p)) (first_in_definitions (reached L p) L.nonterminals) e).1 in
    none-in_alternatives q a.all a.among (none-in_definitions x a.all (reached L p) L.nonterminals (reaches-marked L p x r) a.defined f)
