-- Where a least height is there, something is chosen, and it is one of those to choose.
use Rattle.std.proofs.Common.{◌≡◌, ◌⊎◌, inl, inr, ℕ, zero, suc, ◌+◌, ◌<◌, ◌≤◌, ◌%◌, min, Bool, true, false, List, [], ◌∷◌, map, length, Option, Some, None, if◌then◌else◌, refl, sym, ap, ◌∙◌, subst, arith}
use Rattle.std.proofs.Math.Nat.{mod-lt}
use Rattle.std.proofs.lemmas.Bool.{eqb-true, eq-eqb}
use Rattle.std.specs.Prelude.{◌==◌, ◌||◌, not, slice_index, slice_index_or}
use Rattle.rand_pcg.specs.Lcg.{Lcg}
use Rattle.rand_pcg.specs.Pcg.{pcg32}
use Rattle.rdx_lang.specs.Members.{In, here, there}
use Rattle.rdx_lang.specs.Patterns.{Pattern, wild, Items, nil, one, many}
use Rattle.rdx_gen.specs.Generation.{is_choice, choices_from, choices}
use Rattle.rdx_gen.specs.Heights.{greater, lesser, least_of, least, Known, term_height, items_height, context_height, list_height, place_heights}
use Rattle.rdx_gen.specs.Outcomes.{Outcome, State, made, stopped, nothing, one_of}
use Rattle.rdx_gen.specs.Words.{pick}

-- ---- heights that are low

-- there is one, and at size 0 it is at most g
abbrev pub Low : ℕ → ℕ → Option ℕ → Type 0
Low size g None = ⊥
Low size g (Some h) = size ≡ 0 → h ≤ g

-- where the greater of two is, both are
pub low-greater : (size g : ℕ) (a b : Option ℕ) → Low size g (greater a b) → Low size g a × Low size g b
low-greater size g None b h = absurd h
low-greater size g (Some m) None h = absurd h
low-greater size g (Some m) (Some n) h = (λ e. let k = h e in omega (arith, k), λ e. let k = h e in omega (arith, k))

-- ---- the least of some

least_is_one : (a b : ℕ) → (min a b ≡ a) ⊎ (min a b ≡ b)
least_is_one zero b = inl (omega arith)
least_is_one (suc a) zero = inr (omega arith)
least_is_one (suc a) (suc b) = elim (least_is_one a b) [ inl e ↦ inl (omega (arith, e)) | inr e ↦ inr (omega (arith, e)) ]

lesser_is_one : (a b : Option ℕ) (m : ℕ) → lesser a b ≡ Some m → (a ≡ Some m) ⊎ (b ≡ Some m)
lesser_is_one None b m e = inr e
lesser_is_one (Some i) None m e = inl e
lesser_is_one (Some i) (Some j) m e = elim (least_is_one i j) [ inl k ↦ inl (ap Some (sym k) ∙ e) | inr k ↦ inr (ap Some (sym k) ∙ e) ]

-- the least is one of them
least-in : (lowest : Option ℕ) (hs : List (Option ℕ)) (m : ℕ) → least_of lowest hs ≡ Some m → (lowest ≡ Some m) ⊎ In (Some m) hs
least-in lowest [] m e = inl e
least-in lowest (h ∷ hs) m e = elim (least-in (lesser lowest h) hs m e) [
  | inl k ↦ elim (lesser_is_one lowest h m k) [ inl i ↦ inl i | inr i ↦ inr (here (sym i)) ]
  | inr k ↦ inr (there k)
]

-- ---- choices

-- a height that is the least one is one to choose
is_choice_itself : (size m : ℕ) (h : Option ℕ) → Some m ≡ h → is_choice size (Some m) h ≡ true
is_choice_itself size m h e = subst (λ o. is_choice size (Some m) o ≡ true) e (or_true (not (size == 0)) (m == m) (eq-eqb m m refl))
  where
    or_true : (a b : Bool) → b ≡ true → (a || b) ≡ true
    or_true true b e = refl
    or_true false b e = e

first_is : (b : Bool) (i : ℕ) (ks js : List ℕ) → b ≡ true → (if b then i ∷ ks else js) ≡ [] → ⊥
first_is true i ks js e f = absurd cc
first_is false i ks js e f = absurd cc

none_of_both : (b : Bool) (i : ℕ) (ks : List ℕ) → (if b then i ∷ ks else ks) ≡ [] → ks ≡ []
none_of_both true i ks f = absurd cc
none_of_both false i ks f = f

-- there are some
some_choice : (size m i : ℕ) (hs : List (Option ℕ)) → In (Some m) hs → choices_from size (Some m) i hs ≡ [] → ⊥
some_choice size m i [] k f = elim k [ ]
some_choice size m i (h ∷ hs) (here e) f = first_is (is_choice size (Some m) h) i _ _ (is_choice_itself size m h e) f
some_choice size m i (h ∷ hs) (there k) f =
    some_choice size m (i + 1) hs k (none_of_both (is_choice size (Some m) h) i (choices_from size (Some m) (i + 1) hs) f)

-- one of them is the first, or one of the rest
in_either : (b : Bool) (i k : ℕ) (ks : List ℕ) → In k (if b then i ∷ ks else ks) → ((b ≡ true) × (k ≡ i)) ⊎ In k ks
in_either true i k ks (here e) = inl (refl, e)
in_either true i k ks (there m) = inr m
in_either false i k ks m = inr m

-- each is the place of a height to choose
record IsPlace (size i k : ℕ) (lowest : Option ℕ) (hs : List (Option ℕ)) : Type 0 where
  place : ℕ
  same : k ≡ i + place
  choice : is_choice size lowest (slice_index_or hs place None) ≡ true

is_place : (size : ℕ) (lowest : Option ℕ) (i : ℕ) (hs : List (Option ℕ)) (k : ℕ) → In k (choices_from size lowest i hs) → IsPlace size i k lowest hs
is_place size lowest i [] k m = elim m [ ]
is_place size lowest i (h ∷ hs) k m = elim (in_either (is_choice size lowest h) i k (choices_from size lowest (i + 1) hs) m) [
  | inl e ↦ record { place = 0; same = let f = e.1 in omega (arith, f); choice = e.0 }
  | inr n ↦ let r = is_place size lowest (i + 1) hs k n in record { place = suc r.place; same = let f = r.same in omega (arith, f); choice = r.choice }
]

-- so its height is low where the least one is
choice-low : (size g : ℕ) (lowest h : Option ℕ) → Low size g lowest → is_choice size lowest h ≡ true → Low size g h
choice-low size g None h l e = absurd l
choice-low size g (Some m) None l e = absurd cc
choice-low zero g (Some m) (Some h) l e = λ z. let k = l z in let f : h ≡ m = eqb-true h m e in omega (arith, k, f)
choice-low (suc n) g (Some m) (Some h) l e = λ z. absurd (omega (arith, z))

choices-low : (size g : ℕ) (hs : List (Option ℕ)) → Low size g (least hs) → (k : ℕ) → In k (choices size hs) → Low size g (slice_index_or hs k None)
choices-low size g hs l k m =
    let r = is_place size (least hs) 0 hs k m in
    let e : r.place ≡ k = let f = r.same in omega (arith, f) in
    subst (λ j. Low size g (slice_index_or hs j None)) e (choice-low size g (least hs) (slice_index_or hs r.place None) l r.choice)

low-some : (size g : ℕ) (o : Option ℕ) → Low size g o → (m : ℕ) × (o ≡ Some m)
low-some size g None l = absurd l
low-some size g (Some m) l = (m, refl)

choices-some : (size g : ℕ) (hs : List (Option ℕ)) → Low size g (least hs) → choices size hs ≡ [] → ⊥
choices-some size g hs l f =
    let r = low-some size g (least hs) l in
    elim (least-in None hs r.0 r.1) [
      | inl e ↦ absurd cc
      | inr m ↦ some_choice size r.0 0 hs m (subst (λ o. choices_from size o 0 hs ≡ []) r.1 f)
    ]

-- ---- what is picked

index-in : (ks : List ℕ) (i : ℕ) → i < length ks → In (slice_index ks i) ks
index-in [] i h = absurd (omega arith)
index-in (k ∷ ks) zero h = here refl
index-in (k ∷ ks) (suc i) h = there (index-in ks i (omega arith))

abbrev either : Bool → ℕ × Lcg → ℕ × Lcg → ℕ × Lcg
either b x y = if b then x else y

picked-below : (b : Bool) (n : ℕ) (w : Lcg) → 0 < n → (either b (0, w) ((pcg32 w).0 % n, (pcg32 w).1)).0 < n
picked-below true n w h = h
picked-below false n w h = mod-lt (pcg32 w).0 h

-- ---- what comes, and what holds of it

-- something comes, and what is made has the property
abbrev pub Comes : {A : Type 0} → (A → State → Type 0) → Outcome A → Type 0
Comes P (made x s) = P x s
Comes P (stopped l w) = Unit {0}
Comes P nothing = ⊥

-- one of these
pub comes-one_of : (P : ℕ → Type 0) (ks : List ℕ) (s : State) → (ks ≡ [] → ⊥) → ((k : ℕ) → In k ks → P k)
    → Comes (λ k y. P k × (y.lengths ≡ s.lengths)) (one_of ks s)
comes-one_of P [] s n f = absurd (n refl)
comes-one_of P (k ∷ ks) s n f =
    (f _ (index-in (k ∷ ks) (pick (length (k ∷ ks)) s.words).0 (picked-below (length (k ∷ ks) == 1) (length (k ∷ ks)) s.words (omega arith))), refl)

-- a place of a low height
pub comes-choice : (size g : ℕ) (hs : List (Option ℕ)) (s : State) → Low size g (least hs)
    → Comes (λ k y. Low size g (slice_index_or hs k None) × (y.lengths ≡ s.lengths)) (one_of (choices size hs) s)
comes-choice size g hs s l =
    comes-one_of (λ k. Low size g (slice_index_or hs k None)) (choices size hs) s (choices-some size g hs l) (choices-low size g hs l)

-- the pattern at a place of a low height
pub pattern-low : (size g : ℕ) (f : Pattern → Option ℕ) (ps : List Pattern) (k : ℕ) → Low size g (slice_index_or (map f ps) k None)
    → Low size g (f (slice_index_or ps k wild))
pattern-low size g f [] zero l = absurd l
pattern-low size g f [] (suc k) l = absurd l
pattern-low size g f (p ∷ ps) zero l = l
pattern-low size g f (p ∷ ps) (suc k) l = pattern-low size g f ps k l

-- ---- the places of a list

lesser-assoc : (a b c : Option ℕ) → lesser (lesser a b) c ≡ lesser a (lesser b c)
lesser-assoc None b c = refl
lesser-assoc (Some i) None c = refl
lesser-assoc (Some i) (Some j) None = refl
lesser-assoc (Some i) (Some j) (Some k) = ap Some (omega arith)

greater-assoc : (a b c : Option ℕ) → greater (greater a b) c ≡ greater a (greater b c)
greater-assoc None b c = refl
greater-assoc (Some i) None c = refl
greater-assoc (Some i) (Some j) None = refl
greater-assoc (Some i) (Some j) (Some k) = ap Some (omega arith)

greater-lesser : (a b c : Option ℕ) → lesser (greater a b) (greater a c) ≡ greater a (lesser b c)
greater-lesser None b c = refl
greater-lesser (Some i) None c = refl
greater-lesser (Some i) (Some j) None = refl
greater-lesser (Some i) (Some j) (Some k) = ap Some (omega arith)

no_greater : (lowest before : Option ℕ) → lesser lowest (greater before None) ≡ lowest
no_greater None None = refl
no_greater None (Some n) = refl
no_greater (Some m) None = refl
no_greater (Some m) (Some n) = refl

-- the least height at a place is the height of the list, where the items before it count too
least-places : (K : Known) (ps : Items) (lowest before : Option ℕ)
    → least_of lowest (place_heights K before ps) ≡ lesser lowest (greater before (list_height K ps))
least-places K nil lowest before = sym (no_greater lowest before)
least-places K (one p ps) lowest before =
    let x : Option ℕ = greater (context_height K p) (items_height K ps) in
    let t : Option ℕ = term_height K p in
    let l : Option ℕ = list_height K ps in
    least-places K ps (lesser lowest (greater before x)) (greater before t) ∙ lesser-assoc lowest (greater before x) (greater (greater before t) l)
    ∙ ap (λ z. lesser lowest (lesser (greater before x) z)) (greater-assoc before t l) ∙ ap (λ z. lesser lowest z) (greater-lesser before x (greater t l))
least-places K (many p n ps) lowest before =
    let x : Option ℕ = greater (context_height K p) (items_height K ps) in
    let l : Option ℕ = list_height K ps in
    least-places K ps (lesser lowest (greater before x)) before ∙ lesser-assoc lowest (greater before x) (greater before l)
    ∙ ap (λ z. lesser lowest z) (greater-lesser before x l)

greater-zero : (a : Option ℕ) → greater (Some 0) a ≡ a
greater-zero None = refl
greater-zero (Some n) = ap Some (omega arith)

pub least_place : (K : Known) (ps : Items) → least (place_heights K (Some 0) ps) ≡ list_height K ps
least_place K ps = least-places K ps None (Some 0) ∙ greater-zero (list_height K ps)

-- At place k there can be a context: its pattern has a low height as one, and so have the items beside it as terms, where they stand under no
-- ellipsis.
abbrev pub Spot : Known → ℕ → ℕ → Items → ℕ → Type 0
Spot K size g nil k = ⊥
Spot K size g (one p ps) zero = Low size g (context_height K p) × Low size g (items_height K ps)
Spot K size g (one p ps) (suc k) = Low size g (term_height K p) × Spot K size g ps k
Spot K size g (many p x ps) zero = Low size g (context_height K p) × Low size g (items_height K ps)
Spot K size g (many p x ps) (suc k) = Spot K size g ps k

-- it can at a place of a low height
pub spot-low : (K : Known) (size g : ℕ) (ps : Items) (before : Option ℕ) (k : ℕ) → Low size g (slice_index_or (place_heights K before ps) k None)
    → Low size g before × Spot K size g ps k
spot-low K size g nil before zero l = absurd l
spot-low K size g nil before (suc k) l = absurd l
spot-low K size g (one p ps) before zero l =
    let a = low-greater size g before (greater (context_height K p) (items_height K ps)) l in
    (a.0, low-greater size g (context_height K p) (items_height K ps) a.1)
spot-low K size g (one p ps) before (suc k) l =
    let a = spot-low K size g ps (greater before (term_height K p)) k l in
    let b = low-greater size g before (term_height K p) a.0 in
    (b.0, (b.1, a.1))
spot-low K size g (many p x ps) before zero l =
    let a = low-greater size g before (greater (context_height K p) (items_height K ps)) l in
    (a.0, low-greater size g (context_height K p) (items_height K ps) a.1)
spot-low K size g (many p x ps) before (suc k) l = spot-low K size g ps before k l
