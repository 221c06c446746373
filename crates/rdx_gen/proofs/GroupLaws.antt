-- What the places of one name have in common, found in one pass.
use Rattle.std.proofs.Common.{◌≡◌, ℕ, zero, suc, ◌+◌, ◌<◌, ◌≤◌, ◌||◌, ◌&&◌, Bool, true, false, cond, List, [], ◌∷◌, ◌++◌, length, get_or, set, take, drop, map, replicate, Option, Some, unwrap_or, refl, sym, ◌∙◌, ap, subst, inl, inr, arith, if◌then◌else◌}
use Rattle.std.specs.Prelude.{not, bytes_eq, nat_lt}
use Rattle.std.specs.List.{list_any}
use Rattle.std.specs.Cmp.Lexicographic.{bytes_decides}
use Rattle.std.proofs.lemmas.Bool.{cases_lt}
use Rattle.std.proofs.lemmas.Bool.Decides.{nat_tests}
use Rattle.std.proofs.lemmas.List.{length-map, length-replicate, get_or-set_same, get_or-set_other, get_or_past, get_or-replicate, get_or-map, get_or_default, ext_get_or, take_all, take_more, append_assoc}
use Rattle.rdx_lang.proofs.Rest.{rest_at}
use Rattle.rdx_lang.specs.Patterns.{Pattern}
use Rattle.rdx_gen.specs.Alike.{is_alike}
use Rattle.rdx_gen.specs.NameRules.{Place, is_inside, times, any_inside, any_other, first_broken, first_in_alternative, names_again}
use Rattle.rdx_gen.specs.Inside.Groups.{group_of, breaks_by, breaks_alternative_by, no_group, with_place, gathered, first_place, first_part, name_where}
use Rattle.rdx_gen.specs.declared.group.Group.{Group}
use Rattle.rdx_gen.proofs.AlikeEqual.{alike_equal}
use Rattle.rdx_gen.proofs.AlikeItself.{alike-itself}
use Rattle.rdx_gen.proofs.MarkLaws.{not_both}
use Rattle.rdx_gen.proofs.SameHeights.{read-map}

-- ---- the first place of a name

same-name : (x : List ℕ) → bytes_eq x x ≡ true
same-name x = (bytes_decides x x).1 refl

flip-name : (x y : List ℕ) → bytes_eq x y ≡ true → bytes_eq y x ≡ true
flip-name x y h = (bytes_decides y x).1 (sym ((bytes_decides x y).0 h))

-- what is found where the place before others was given the number i
pub number-first : (i n : ℕ) (x y : List ℕ) (u : Place) (us : List Place) (new old : Option ℕ) → y ≡ u.name → new ≡ cond (bytes_eq y x) (Some i) old
    → unwrap_or old n ≡ suc i + first_place x us → unwrap_or new n ≡ i + first_place x (u ∷ us)
number-first i n x y u us new old q e h = by_test (bytes_eq u.name x) (e ∙ ap (λ z. cond (bytes_eq z x) (Some i) old) q)
  where
    by_test : (b : Bool) → new ≡ cond b (Some i) old → unwrap_or new n ≡ i + (if b then 0 else suc (first_place x us))
    by_test true d = ap (λ o. unwrap_or o n) d ∙ omega arith
    by_test false d = ap (λ o. unwrap_or o n) d ∙ h ∙ omega arith

-- a name that stands at a place has a first one, before or there
first-inside : (us : List Place) (i : ℕ) (u : Place) → i < length us → u ≡ get_or us i u → first_place u.name us < length us
first-inside [] i u l e = absurd (omega arith)
first-inside (v ∷ us) zero u l e = by_test (bytes_eq v.name u.name) (ap (λ (w : Place). bytes_eq v.name w.name) e ∙ same-name v.name)
  where
    by_test : (b : Bool) → b ≡ true → (if b then 0 else suc (first_place u.name us)) < suc (length us)
    by_test true h = omega arith
    by_test false h = absurd cc
first-inside (v ∷ us) (suc i) u l e = by_test (bytes_eq v.name u.name) (first-inside us i u (omega arith) e)
  where
    by_test : (b : Bool) → first_place u.name us < length us → (if b then 0 else suc (first_place u.name us)) < suc (length us)
    by_test true h = omega arith
    by_test false h = omega arith

-- what stands at the first place of a name has it, and the pattern
pub first-named : (us : List Place) (x : List ℕ) (d : Place) → first_place x us < length us → (get_or us (first_place x us) d).name ≡ x
first-named [] x d l = absurd (omega arith)
first-named (u ∷ us) x d l = by_test (bytes_eq u.name x) refl (first-named us x d) l
  where
    by_test : (b : Bool) → bytes_eq u.name x ≡ b → (first_place x us < length us → (get_or us (first_place x us) d).name ≡ x) → (if b then 0 else suc (first_place x us)) < suc (length us)
        → (get_or (u ∷ us) (if b then 0 else suc (first_place x us)) d).name ≡ x
    by_test true e f k = (bytes_decides u.name x).0 e
    by_test false e f k = f (omega arith)

pub first-there : (us : List Place) (x : List ℕ) (d : Place) → first_place x us < length us → (get_or us (first_place x us) d).part ≡ first_part x us
first-there [] x d l = absurd (omega arith)
first-there (u ∷ us) x d l = by_test (bytes_eq u.name x) (first-there us x d) l
  where
    by_test : (b : Bool) → (first_place x us < length us → (get_or us (first_place x us) d).part ≡ first_part x us) → (if b then 0 else suc (first_place x us)) < suc (length us)
        → (get_or (u ∷ us) (if b then 0 else suc (first_place x us)) d).part ≡ (if b then u.part else first_part x us)
    by_test true f k = refl
    by_test false f k = f (omega arith)

-- two names with one first place are the same
same-first : (us : List Place) (x y : List ℕ) → first_place x us < length us → first_place y us ≡ first_place x us → x ≡ y
same-first [] x y l e = absurd (omega arith)
same-first (u ∷ us) x y l e =
    sym (first-named (u ∷ us) x u l) ∙ ap (λ i. (get_or (u ∷ us) i u).name) (sym e) ∙ first-named (u ∷ us) y u (subst (λ i. i < suc (length us)) (sym e) l)

-- ---- one place after the other

gathered-more : (x : List ℕ) (p : Pattern) (g : Group) (us : List Place) (u : Place) → gathered x p g (us ++ u ∷ [])
    ≡ (if bytes_eq u.name x then with_place p u (gathered x p g us) else gathered x p g us)
gathered-more x p g [] u = refl
gathered-more x p g (v ∷ us) u = gathered-more x p (if bytes_eq v.name x then with_place p v g else g) us u

-- the groups behind i places
abbrev pub AreGathered : List Place → ℕ → List Group → Type 0
AreGathered us i gs = (x : List ℕ) → get_or gs (first_place x us) no_group ≡ gathered x (first_part x us) no_group (take i us)

pub gather-none : (us : List Place) (n : ℕ) → AreGathered us 0 (replicate n no_group)
gather-none us n x = elim (cases_lt (first_place x us) n) [
  | inl l ↦ get_or-replicate n (first_place x us) no_group no_group l
  | inr l ↦ get_or_past (replicate n no_group) (first_place x us) no_group (subst (λ m. m ≤ first_place x us) (sym (length-replicate n no_group)) l)
]

pub gather-more : (us : List Place) (gs : List Group) (i : ℕ) (u v : Place) (g : Group) → length gs ≡ length us → i < length us → u ≡ get_or us i u
    → v ≡ get_or us (first_place u.name us) v → g ≡ get_or gs (first_place u.name us) g → AreGathered us i gs
    → AreGathered us (i + 1) (set gs (first_place u.name us) (with_place v.part u g))
gather-more us gs i u v g n l e f d h x = by_test (bytes_eq u.name x) refl
  where
    j : ℕ
    j = first_place u.name us

    m : j < length us
    m = first-inside us i u l e

    more : gathered x (first_part x us) no_group (take (i + 1) us)
        ≡ (if bytes_eq u.name x then with_place (first_part x us) u (gathered x (first_part x us) no_group (take i us)) else gathered x (first_part x us) no_group (take i us))
    more = ap (gathered x (first_part x us) no_group) (take_more us i u l) ∙ gathered-more x (first_part x us) no_group (take i us) (get_or us i u)
        ∙ ap (λ (w : Place). if bytes_eq w.name x then with_place (first_part x us) w (gathered x (first_part x us) no_group (take i us)) else gathered x (first_part x us) no_group (take i us)) (sym e)

    by_test : (b : Bool) → bytes_eq u.name x ≡ b
        → get_or (set gs j (with_place v.part u g)) (first_place x us) no_group ≡ gathered x (first_part x us) no_group (take (i + 1) us)
    by_test true t =
        let q : x ≡ u.name = sym ((bytes_decides u.name x).0 t) in
        let a : get_or (set gs j (with_place v.part u g)) (first_place x us) no_group ≡ with_place v.part u g =
        ap (λ y. get_or (set gs j (with_place v.part u g)) (first_place y us) no_group) q ∙ get_or-set_same gs j (with_place v.part u g) no_group (subst (λ k. j < k) (sym n) m) in
        let b : v.part ≡ first_part x us = ap (λ (w : Place). w.part) f ∙ first-there us u.name v m ∙ ap (λ y. first_part y us) (sym q) in
        let c : g ≡ gathered x (first_part x us) no_group (take i us) = read-at gs j g (subst (λ k. j < k) (sym n) m) d ∙ ap (λ y. get_or gs (first_place y us) no_group) (sym q) ∙ h x in
        a ∙ (λ k. with_place (b k) u (c k))
        ∙ ap (λ (z : Bool). if z then with_place (first_part x us) u (gathered x (first_part x us) no_group (take i us)) else gathered x (first_part x us) no_group (take i us)) (sym t)
        ∙ sym more
      where
        read-at : (hs : List Group) (k : ℕ) (y : Group) → k < length hs → y ≡ get_or hs k y → y ≡ get_or hs k no_group
        read-at [] k y l e = absurd (omega arith)
        read-at (z ∷ zs) zero y l e = e
        read-at (z ∷ zs) (suc k) y l e = read-at zs k y (omega arith) e
    by_test false t =
        get_or-set_other gs j (first_place x us) (with_place v.part u g) no_group (λ q. not_both (bytes_eq u.name x) (ap (bytes_eq u.name) (sym (same-first us u.name x m q)) ∙ same-name u.name) t)
        ∙ h x
        ∙ ap (λ (z : Bool). if z then with_place (first_part x us) u (gathered x (first_part x us) no_group (take i us)) else gathered x (first_part x us) no_group (take i us)) (sym t)
        ∙ sym more

pub gather-whole : (us : List Place) (gs : List Group) (i : ℕ) → length us ≤ i → AreGathered us i gs → (x : List ℕ) → get_or gs (first_place x us) no_group ≡ gathered x (first_part x us) no_group us
gather-whole us gs i l h x = h x ∙ ap (gathered x (first_part x us) no_group) (take_all i us l)

-- ---- what was gathered

or-or : (a b c : Bool) → ((a || b) || c) ≡ (a || (b || c))
or-or true b c = refl
or-or false b c = refl

gathered-inside : (x : List ℕ) (p : Pattern) (g : Group) (us : List Place) → (gathered x p g us).inside ≡ (g.inside || any_inside x us)
gathered-inside x p g [] = or-false g.inside
  where
    or-false : (a : Bool) → a ≡ (a || false)
    or-false true = refl
    or-false false = refl
gathered-inside x p g (u ∷ us) = by_test (bytes_eq u.name x) (λ h. gathered-inside x p h us)
  where
    by_test : (b : Bool) → ((h : Group) → (gathered x p h us).inside ≡ (h.inside || any_inside x us))
        → (gathered x p (if b then with_place p u g else g) us).inside ≡ (g.inside || ((b && is_inside u) || any_inside x us))
    by_test true f = f (with_place p u g) ∙ or-or g.inside (is_inside u) (any_inside x us)
    by_test false f = f g

gathered-differs : (x : List ℕ) (p : Pattern) (g : Group) (us : List Place) → (gathered x p g us).differs ≡ (g.differs || any_other x p us)
gathered-differs x p g [] = or-false g.differs
  where
    or-false : (a : Bool) → a ≡ (a || false)
    or-false true = refl
    or-false false = refl
gathered-differs x p g (u ∷ us) = by_test (bytes_eq u.name x) (λ h. gathered-differs x p h us)
  where
    by_test : (b : Bool) → ((h : Group) → (gathered x p h us).differs ≡ (h.differs || any_other x p us))
        → (gathered x p (if b then with_place p u g else g) us).differs ≡ (g.differs || ((b && not (is_alike p u.part)) || any_other x p us))
    by_test true f = f (with_place p u g) ∙ or-or g.differs (not (is_alike p u.part)) (any_other x p us)
    by_test false f = f g

more_seen : (n : ℕ) → nat_lt 0 (n + 1) ≡ true
more_seen n = grind (arith, nat_tests)

more_several : (n : ℕ) → nat_lt 1 (suc n + 1) ≡ true
more_several n = grind (arith, nat_tests)

seen_one : (n : ℕ) → nat_lt 0 (suc n) ≡ true
seen_one n = grind (arith, nat_tests)

gathered-seen : (x : List ℕ) (p : Pattern) (g : Group) (us : List Place) → (gathered x p g us).seen ≡ (g.seen || nat_lt 0 (times x us))
gathered-seen x p g [] = or-false g.seen
  where
    or-false : (a : Bool) → a ≡ (a || false)
    or-false true = refl
    or-false false = refl
gathered-seen x p g (u ∷ us) = by_test (bytes_eq u.name x) (λ h. gathered-seen x p h us)
  where
    or_true : (a b : Bool) → b ≡ true → true ≡ (a || b)
    or_true true b e = refl
    or_true false b e = sym e

    by_test : (b : Bool) → ((h : Group) → (gathered x p h us).seen ≡ (h.seen || nat_lt 0 (times x us)))
        → (gathered x p (if b then with_place p u g else g) us).seen ≡ (g.seen || nat_lt 0 (if b then times x us + 1 else times x us))
    by_test true f = f (with_place p u g) ∙ or_true g.seen (nat_lt 0 (times x us + 1)) (more_seen (times x us))
    by_test false f = f g

left_true : (s e b : Bool) → ((s || e) || ((true && true) || b)) ≡ true
left_true true e b = refl
left_true false true b = refl
left_true false false b = refl

right_true : (s e : Bool) → (s || ((e && true) || true)) ≡ true
right_true true e = refl
right_true false true = refl
right_true false false = refl

several_step : (s e : Bool) (n : ℕ) → ((s || e) || ((true && nat_lt 0 n) || nat_lt 1 n)) ≡ (s || ((e && nat_lt 0 (n + 1)) || nat_lt 1 (n + 1)))
several_step true e zero = refl
several_step false true zero = refl
several_step false false zero = refl
several_step s e (suc n) =
    ap (λ z. (s || e) || ((true && z) || nat_lt 1 (suc n))) (seen_one n) ∙ left_true s e (nat_lt 1 (suc n))
    ∙ sym (right_true s e)
    ∙ sym (λ i. s || ((e && more_seen (suc n) i) || more_several n i))

gathered-several : (x : List ℕ) (p : Pattern) (g : Group) (us : List Place)
    → (gathered x p g us).several ≡ (g.several || ((g.seen && nat_lt 0 (times x us)) || nat_lt 1 (times x us)))
gathered-several x p g [] = none g.several g.seen
  where
    none : (s e : Bool) → s ≡ (s || ((e && false) || false))
    none true e = refl
    none false true = refl
    none false false = refl
gathered-several x p g (u ∷ us) = by_test (bytes_eq u.name x) (λ h. gathered-several x p h us)
  where
    by_test : (b : Bool) → ((h : Group) → (gathered x p h us).several ≡ (h.several || ((h.seen && nat_lt 0 (times x us)) || nat_lt 1 (times x us))))
        → (gathered x p (if b then with_place p u g else g) us).several
        ≡ (g.several || ((g.seen && nat_lt 0 (if b then times x us + 1 else times x us)) || nat_lt 1 (if b then times x us + 1 else times x us)))
    by_test true f = f (with_place p u g) ∙ several_step g.several g.seen (times x us)
    by_test false f = f g

-- ---- the pattern of the first place serves for all

any-at : (test : Place → Bool) (us : List Place) (i : ℕ) (u : Place) → i < length us → u ≡ get_or us i u → test u ≡ true → list_any test us ≡ true
any-at test [] i u l e h = absurd (omega arith)
any-at test (v ∷ us) zero u l e h = left (test v) (ap test (sym e) ∙ h)
  where
    left : (b : Bool) → b ≡ true → (b || list_any test us) ≡ true
    left true q = refl
    left false q = absurd cc
any-at test (v ∷ us) (suc i) u l e h = right (test v) (any-at test us i u (omega arith) e h)
  where
    right : (b : Bool) → list_any test us ≡ true → (b || list_any test us) ≡ true
    right true q = refl
    right false q = q

both_true : (a b : Bool) → a ≡ true → b ≡ false → (a && not b) ≡ true
both_true true true h k = absurd cc
both_true true false h k = refl
both_true false b h k = absurd cc

same-others : (us : List Place) (i : ℕ) (u : Place) → i < length us → u ≡ get_or us i u → any_other u.name (first_part u.name us) us ≡ any_other u.name u.part us
same-others us i u l e = by_test (is_alike p u.part) refl
  where
    p : Pattern
    p = first_part u.name us

    j : ℕ
    j = first_place u.name us

    m : j < length us
    m = first-inside us i u l e

    v : Place
    v = get_or us j u

    there_itself : (ws : List Place) (k : ℕ) (d : Place) → k < length ws → get_or ws k d ≡ get_or ws k (get_or ws k d)
    there_itself [] k d l = absurd (omega arith)
    there_itself (w ∷ ws) zero d l = refl
    there_itself (w ∷ ws) (suc k) d l = there_itself ws k d (omega arith)

    by_test : (b : Bool) → is_alike p u.part ≡ b → any_other u.name p us ≡ any_other u.name u.part us
    by_test true h = ap (λ q. any_other u.name q us) (alike_equal p u.part h)
    by_test false h =
        let a : any_other u.name p us ≡ true =
        any-at (λ w. bytes_eq w.name u.name && not (is_alike p w.part)) us i u l e (both_true (bytes_eq u.name u.name) (is_alike p u.part) (same-name u.name) h) in
        let n : bytes_eq v.name u.name ≡ true = ap (λ y. bytes_eq y u.name) (first-named us u.name u m) ∙ same-name u.name in
        let o : is_alike u.part v.part ≡ false = ap (is_alike u.part) (first-there us u.name u m) ∙ other (is_alike u.part p) refl in
        let b : any_other u.name u.part us ≡ true =
        any-at (λ w. bytes_eq w.name u.name && not (is_alike u.part w.part)) us j v m (there_itself us j u m) (both_true (bytes_eq v.name u.name) (is_alike u.part v.part) n o) in
        a ∙ sym b
      where
        other : (c : Bool) → is_alike u.part p ≡ c → c ≡ false
        other false k = refl
        other true k = absurd (not_both (is_alike p u.part) (ap (is_alike p) (alike_equal u.part p k) ∙ alike-itself p) h)

-- what is gathered at the first place of a name is what its places have in common
pub gathered-group : (us : List Place) (gs : List Group) (i : ℕ) (u : Place) → ((x : List ℕ) → get_or gs (first_place x us) no_group ≡ gathered x (first_part x us) no_group us)
    → i < length us → u ≡ get_or us i u → get_or gs (first_place u.name us) no_group ≡ group_of us u
gathered-group us gs i u h l e =
    let x : List ℕ = u.name in
    let p : Pattern = first_part x us in
    let d : (gathered x p no_group us).differs ≡ any_other x u.part us = gathered-differs x p no_group us ∙ same-others us i u l e in
    h x ∙ (λ k. record {
      seen = gathered-seen x p no_group us k;
      several = gathered-several x p no_group us k;
      inside = gathered-inside x p no_group us k;
      differs = d k;
    })

-- ---- over the places of the code

module _ {A : Type 0} (f : A → Place) where
  -- what the code reads at a place
  pub group-read : (us : List Place) (xs : List A) (gs : List Group) (i : ℕ) (x : A) (g : Group) → gs ≡ map (λ a. group_of us (f a)) xs → i < length xs → x ≡ get_or xs i x
      → g ≡ get_or gs i g → g ≡ group_of us (f x)
  group-read us xs gs i x g h l e d = d ∙ ap (λ (hs : List Group). get_or hs i g) h ∙ read-map (λ a. group_of us (f a)) xs i x g l e

  pub broken-here : (us : List Place) (xs : List A) (i : ℕ) (x : A) (g : Group) → i < length xs → x ≡ get_or xs i x → g ≡ group_of us (f x) → breaks_by (f x) g ≡ true
      → first_broken us (map f (drop i xs)) ≡ Some (f x).name
  broken-here us xs i x g l e h b =
      ap (first_broken us) (rest_at f xs i x l e)
      ∙ ap (λ (c : Bool). if c then Some (f x).name else first_broken us (map f (drop (i + 1) xs))) (ap (breaks_by (f x)) (sym h) ∙ b)

  pub broken-further : (us : List Place) (xs : List A) (i : ℕ) (x : A) (g : Group) → i < length xs → x ≡ get_or xs i x → g ≡ group_of us (f x) → breaks_by (f x) g ≡ false
      → first_broken us (map f (drop i xs)) ≡ first_broken us (map f (drop (i + 1) xs))
  broken-further us xs i x g l e h b =
      ap (first_broken us) (rest_at f xs i x l e)
      ∙ ap (λ (c : Bool). if c then Some (f x).name else first_broken us (map f (drop (i + 1) xs))) (ap (breaks_by (f x)) (sym h) ∙ b)

  pub alternative-here : (us : List Place) (xs : List A) (i : ℕ) (x : A) (g : Group) → i < length xs → x ≡ get_or xs i x → g ≡ group_of us (f x) → breaks_alternative_by (f x) g ≡ true
      → first_in_alternative us (map f (drop i xs)) ≡ Some (f x).name
  alternative-here us xs i x g l e h b =
      ap (first_in_alternative us) (rest_at f xs i x l e)
      ∙ ap (λ (c : Bool). if c then Some (f x).name else first_in_alternative us (map f (drop (i + 1) xs))) (ap (breaks_alternative_by (f x)) (sym h) ∙ b)

  pub alternative-further : (us : List Place) (xs : List A) (i : ℕ) (x : A) (g : Group) → i < length xs → x ≡ get_or xs i x → g ≡ group_of us (f x) → breaks_alternative_by (f x) g ≡ false
      → first_in_alternative us (map f (drop i xs)) ≡ first_in_alternative us (map f (drop (i + 1) xs))
  alternative-further us xs i x g l e h b =
      ap (first_in_alternative us) (rest_at f xs i x l e)
      ∙ ap (λ (c : Bool). if c then Some (f x).name else first_in_alternative us (map f (drop (i + 1) xs))) (ap (breaks_alternative_by (f x)) (sym h) ∙ b)

  pub again-next : (us : List Place) (xs : List A) (i : ℕ) (x : A) (g : Group) → i < length xs → x ≡ get_or xs i x → g ≡ group_of us (f x)
      → names_again us (map f (drop i xs)) ≡ (if g.several then (f x).name ∷ names_again us (map f (drop (i + 1) xs)) else names_again us (map f (drop (i + 1) xs)))
  again-next us xs i x g l e h =
      ap (names_again us) (rest_at f xs i x l e)
      ∙ ap (λ (k : Group). if k.several then (f x).name ∷ names_again us (map f (drop (i + 1) xs)) else names_again us (map f (drop (i + 1) xs))) (sym h)

  -- the number of the first place of the name at a place
  first-read : (xs : List A) (fs : List ℕ) (i : ℕ) (x : A) → fs ≡ map (λ a. first_place (f a).name (map f xs)) xs → i < length xs → x ≡ get_or xs i x
      → get_or fs i 0 ≡ first_place (f x).name (map f xs)
  first-read xs fs i x h l e = ap (λ (js : List ℕ). get_or js i 0) h ∙ read-map (λ a. first_place (f a).name (map f xs)) xs i x 0 l e

  place-read : (xs : List A) (i : ℕ) (x : A) → i < length xs → x ≡ get_or xs i x → f x ≡ get_or (map f xs) i (f x)
  place-read xs i x l e = sym (read-map f xs i x (f x) l e)

  -- something stands at each place
  some-at : (xs : List A) (i : ℕ) → i < length xs → (x : A) × (x ≡ get_or xs i x)
  some-at [] i l = absurd (omega arith)
  some-at (x ∷ xs) zero l = (x, refl)
  some-at (x ∷ xs) (suc i) l = some-at xs i (omega arith)

  pub first-bound : (xs : List A) (fs : List ℕ) (i : ℕ) → fs ≡ map (λ a. first_place (f a).name (map f xs)) xs → i < length xs → get_or fs i 0 < length xs
  first-bound xs fs i h l =
      let x = some-at xs i l in
      let n : length (map f xs) ≡ length xs = length-map xs f in
      let b : first_place (f x.0).name (map f xs) < length (map f xs) = first-inside (map f xs) i (f x.0) (subst (λ k. i < k) (sym n) l) (place-read xs i x.0 l x.1) in
      subst (λ k. k < length xs) (sym (first-read xs fs i x.0 h l x.1)) (subst (λ k. first_place (f x.0).name (map f xs) < k) n b)

  pub gather-step : (xs : List A) (fs : List ℕ) (gs hs : List Group) (i : ℕ) (x : A) → length gs ≡ length xs → fs ≡ map (λ a. first_place (f a).name (map f xs)) xs → i < length xs
      → x ≡ get_or xs i x → AreGathered (map f xs) i gs
      → hs ≡ set gs (get_or fs i 0) (with_place (f (get_or xs (get_or fs i 0) x)).part (f x) (get_or gs (get_or fs i 0) no_group)) → AreGathered (map f xs) (i + 1) hs
  gather-step xs fs gs hs i x n h l e a d = subst (λ (ks : List Group). AreGathered (map f xs) (i + 1) ks) (sym same) more
    where
      us : List Place
      us = map f xs

      j : ℕ
      j = first_place (f x).name us

      q : get_or fs i 0 ≡ j
      q = first-read xs fs i x h l e

      k : j < length xs
      k = subst (λ m. m < length xs) q (first-bound xs fs i h l)

      same : hs ≡ set gs j (with_place (f (get_or xs j x)).part (f x) (get_or gs j no_group))
      same = d ∙ ap (λ m. set gs m (with_place (f (get_or xs m x)).part (f x) (get_or gs m no_group))) q

      more : AreGathered us (i + 1) (set gs j (with_place (f (get_or xs j x)).part (f x) (get_or gs j no_group)))
      more = gather-more us gs i (f x) (f (get_or xs j x)) (get_or gs j no_group) (n ∙ sym (length-map xs f)) (subst (λ m. i < m) (sym (length-map xs f)) l) (place-read xs i x l e)
          (sym (get_or-map f xs j x (f (get_or xs j x)) k)) (get_or_default gs j no_group (get_or gs j no_group) (subst (λ m. j < m) (sym n) k)) a

  -- the groups at the numbers of first places
  pub groups-whole : (xs : List A) (fs : List ℕ) (gs : List Group) → fs ≡ map (λ a. first_place (f a).name (map f xs)) xs
      → ((x : List ℕ) → get_or gs (first_place x (map f xs)) no_group ≡ gathered x (first_part x (map f xs)) no_group (map f xs))
      → map (λ j. get_or gs j no_group) fs ≡ map (λ a. group_of (map f xs) (f a)) xs
  groups-whole xs fs gs h g = ext_get_or no_group (map (λ j. get_or gs j no_group) fs) (map (λ a. group_of (map f xs) (f a)) xs) sizes at
    where
      size : length fs ≡ length xs
      size = ap length h ∙ length-map xs (λ a. first_place (f a).name (map f xs))

      sizes : length (map (λ j. get_or gs j no_group) fs) ≡ length (map (λ a. group_of (map f xs) (f a)) xs)
      sizes = length-map fs (λ j. get_or gs j no_group) ∙ size ∙ sym (length-map xs (λ a. group_of (map f xs) (f a)))

      at : (i : ℕ) → i < length (map (λ j. get_or gs j no_group) fs) → get_or (map (λ j. get_or gs j no_group) fs) i no_group ≡ get_or (map (λ a. group_of (map f xs) (f a)) xs) i no_group
      at i m =
          let l : i < length xs = subst (λ k. i < k) (length-map fs (λ j. get_or gs j no_group) ∙ size) m in
          let x = some-at xs i l in
          get_or-map (λ j. get_or gs j no_group) fs i 0 no_group (subst (λ k. i < k) (sym size) l)
          ∙ ap (λ j. get_or gs j no_group) (first-read xs fs i x.0 h l x.1)
          ∙ gathered-group (map f xs) gs i (f x.0) g (subst (λ k. i < k) (sym (length-map xs f)) l) (place-read xs i x.0 l x.1)
          ∙ sym (read-map (λ a. group_of (map f xs) (f a)) xs i x.0 no_group l x.1)

  pub again-step : (us : List Place) (xs : List A) (gs : List Group) (i : ℕ) (x : A) (g : Group) (old new : List (List ℕ)) → gs ≡ map (λ a. group_of us (f a)) xs → i < length xs
      → x ≡ get_or xs i x → g ≡ get_or gs i g → new ≡ old ++ name_where g.several (f x).name
      → new ++ names_again us (map f (drop (i + 1) xs)) ≡ old ++ names_again us (map f (drop i xs))
  again-step us xs gs i x g old new h l e d b =
      ap (λ (ns : List (List ℕ)). ns ++ rest) b
      ∙ append_assoc old (name_where g.several (f x).name) rest
      ∙ ap (λ (ns : List (List ℕ)). old ++ ns) (by_test g.several ∙ sym (again-next us xs i x g l e (group-read us xs gs i x g h l e d)))
    where
      rest : List (List ℕ)
      rest = names_again us (map f (drop (i + 1) xs))

      by_test : (b : Bool) → name_where b (f x).name ++ rest ≡ (if b then (f x).name ∷ rest else rest)
      by_test true = refl
      by_test false = refl
