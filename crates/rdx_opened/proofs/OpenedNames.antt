-- The names of an opened pattern: those of the pattern, and its marks.
use Rattle.std.proofs.Common.{◌≡◌, ◌⊎◌, inl, inr, ℕ, List, [], ◌∷◌, ◌++◌, Option, Some, None, refl, sym, ◌∙◌, subst}
use Rattle.std.specs.declared.cmp.Ordering.{Ordering}
use Rattle.std.specs.declared.cmp.Ordering.TheVariants.{Less, Equal, Greater}
use Rattle.rdx_lang.specs.Bindings.{Binding, name_cmp, bound_names}
use Rattle.rdx_lang.specs.Members.{In, here, there}
use Rattle.rdx_lang.specs.Names.{placed, with_name, add_names, with_length_name, names, item_names}
use Rattle.rdx_lang.specs.Patterns.{Pattern, Items}
use Rattle.rdx_lang.proofs.MemberLaws.{append-left, append-right}
use Rattle.rdx_lang.proofs.NameLists.{add_names-sound}
use Rattle.rdx_lang.proofs.OrderLaws.{name_cmp-tells}
use Rattle.rdx_opened.specs.Opening.{Mark, mark_names, Opens, OpensItems, opens_wild, opens_kind, opens_except, opens_prefix, opens_hole, opens_lit, opens_nt, opens_named, opens_differ, opens_in_hole, opens_hide_hole, opens_closed, opens_seq, opens_none, opens_one, opens_many, AreDistinct, AreNew, IsOpened}
use Rattle.rdx_opened.proofs.Leaves.{mark-named, marks-left, marks-right, distinct-left, distinct-right, distinct-apart}
use Rattle.rdx_opened.proofs.Standing.{HaveNoCommonMark}
use Rattle.rdx_opened.proofs.StandingTurns.{AreOthers, IsNoMark}

-- ---- names put together

-- a name that is put among others is there, and they all are
with_name-has : (x : List ℕ) (ys : List (List ℕ)) (z : List ℕ) → In z (x ∷ ys) → In z (with_name x ys)
with_name-has x [] z h = h
with_name-has x (y ∷ ys) z h = by_order (name_cmp x y) refl (with_name-has x ys z) h
  where
    by_order : (o : Ordering) → name_cmp x y ≡ o → (In z (x ∷ ys) → In z (with_name x ys)) → In z (x ∷ y ∷ ys)
        → In z (placed o x y ys (with_name x ys))
    by_order Less e f i = i
    by_order Equal e f (here d) = here (d ∙ name_cmp-tells x y e)
    by_order Equal e f (there i) = i
    by_order Greater e f (here d) = there (f (here d))
    by_order Greater e f (there (here d)) = here d
    by_order Greater e f (there (there i)) = there (f (there i))

-- the names of the first of two lists are those of both
add_names-left : (xs ys : List (List ℕ)) (z : List ℕ) → In z xs → In z (add_names xs ys)
add_names-left [] ys z h = elim h [ ]
add_names-left (x ∷ xs) ys z (here e) = with_name-has x (add_names xs ys) z (here e)
add_names-left (x ∷ xs) ys z (there h) = with_name-has x (add_names xs ys) z (there (add_names-left xs ys z h))

-- so are those of the second
add_names-right : (xs ys : List (List ℕ)) (z : List ℕ) → In z ys → In z (add_names xs ys)
add_names-right [] ys z h = h
add_names-right (x ∷ xs) ys z h = with_name-has x (add_names xs ys) z (there (add_names-right xs ys z h))

-- what the names of two lists lead to, those of both do
of_names : {P : Type 0} (xs ys : List (List ℕ)) (z : List ℕ) → (In z xs → P) → (In z ys → P) → In z (add_names xs ys) → P
of_names xs ys z f g i = elim (add_names-sound xs ys z i) [ inl l ↦ f l | inr r ↦ g r ]

-- names of larger lists
both_kept : (xs ys vs ws : List (List ℕ)) (z : List ℕ) → (In z xs → In z vs) → (In z ys → In z ws) → In z (add_names xs ys) → In z (add_names vs ws)
both_kept xs ys vs ws z f g i = of_names xs ys z (λ l. add_names-left vs ws z (f l)) (λ r. add_names-right vs ws z (g r)) i

-- each name is one of xs, or the name of one of the marks
abbrev IsEither : List (List ℕ) → List Mark → List ℕ → Type 0
IsEither xs ms z = In z xs ⊎ In z (mark_names ms)

-- so it is for two lists
both_either : (xs ys vs ws : List (List ℕ)) (ms ns : List Mark) (z : List ℕ) → (In z vs → IsEither xs ms z) → (In z ws → IsEither ys ns z)
    → In z (add_names vs ws) → IsEither (add_names xs ys) (ms ++ ns) z
both_either xs ys vs ws ms ns z f g i = of_names vs ws z (λ l. of_left (f l)) (λ r. of_right (g r)) i
  where
    of_left : IsEither xs ms z → IsEither (add_names xs ys) (ms ++ ns) z
    of_left (inl l) = inl (add_names-left xs ys z l)
    of_left (inr m) = inr (marks-left ms ns m)

    of_right : IsEither ys ns z → IsEither (add_names xs ys) (ms ++ ns) z
    of_right (inl l) = inl (add_names-right xs ys z l)
    of_right (inr m) = inr (marks-right ms ns m)

-- with the length name of a repetition
length_kept : (n : Option (List ℕ)) (xs vs : List (List ℕ)) (z : List ℕ) → (In z xs → In z vs) → In z (with_length_name n xs)
    → In z (with_length_name n vs)
length_kept None xs vs z f i = f i
length_kept (Some x) xs vs z f i = both_kept xs (x ∷ []) vs (x ∷ []) z f (λ l. l) i

length_either : (n : Option (List ℕ)) (xs vs : List (List ℕ)) (ms : List Mark) (z : List ℕ) → (In z vs → IsEither xs ms z)
    → In z (with_length_name n vs) → IsEither (with_length_name n xs) ms z
length_either None xs vs ms z f i = f i
length_either (Some x) xs vs ms z f i = of_names vs (x ∷ []) z (λ l. of_turn (f l)) (λ r. inl (add_names-right xs (x ∷ []) z r)) i
  where
    of_turn : IsEither xs ms z → IsEither (with_length_name (Some x) xs) ms z
    of_turn (inl l) = inl (add_names-left xs (x ∷ []) z l)
    of_turn (inr m) = inr m

-- the names of a pattern are among those with a length name
pub with_length-kept : (n : Option (List ℕ)) (xs : List (List ℕ)) {z : List ℕ} → In z xs → In z (with_length_name n xs)
with_length-kept None xs i = i
with_length-kept (Some x) xs {z = z} i = add_names-left xs (x ∷ []) z i

-- so is the length name
pub with_length-length : (n : Option (List ℕ)) (xs : List (List ℕ)) {z : List ℕ} → n ≡ Some z → In z (with_length_name n xs)
with_length-length n xs {z = z} e = subst (λ (m : Option (List ℕ)). In z (with_length_name m xs)) (sym e) (add_names-right xs (z ∷ []) z (here refl))

-- ---- names of opened patterns

mutual
  -- the names of a pattern are names of the opened one
  pub names-kept : {p o : Pattern} {ns : List Mark} → Opens p o ns → (z : List ℕ) → In z (names p) → In z (names o)
  names-kept opens_wild z i = i
  names-kept opens_kind z i = i
  names-kept opens_except z i = i
  names-kept opens_prefix z i = i
  names-kept opens_hole z i = i
  names-kept opens_lit z i = i
  names-kept opens_nt z i = i
  names-kept (opens_named {x = x} {q = q} {o = o} r) z i = both_kept (names q) (x ∷ []) (names o) (x ∷ []) z (names-kept r z) (λ l. l) i
  names-kept (opens_differ {y = y} {o = o} r) z i = add_names-left (names o) (y ∷ []) z (names-kept r z i)
  names-kept (opens_in_hole {q = q} {r = r} {o = o} {u = u} h k) z i =
      both_kept (names q) (names r) (names o) (names u) z (names-kept h z) (names-kept k z) i
  names-kept (opens_hide_hole r) z i = names-kept r z i
  names-kept opens_closed z i = i
  names-kept (opens_seq r) z i = item_names-kept r z i

  -- so are those of items
  pub item_names-kept : {ps os : Items} {ns : List Mark} → OpensItems ps os ns → (z : List ℕ) → In z (item_names ps) → In z (item_names os)
  item_names-kept opens_none z i = i
  item_names-kept (opens_one {p = p} {o = o} {ps = ps} {os = os} h k) z i =
      both_kept (names p) (item_names ps) (names o) (item_names os) z (names-kept h z) (item_names-kept k z) i
  item_names-kept (opens_many {p = p} {o = o} {n = n} {ps = ps} {os = os} h k) z i =
      both_kept (with_length_name n (names p)) (item_names ps) (with_length_name n (names o)) (item_names os) z
      (length_kept n (names p) (names o) z (names-kept h z)) (item_names-kept k z) i

mutual
  -- a name of an opened pattern is one of the pattern, or a mark
  pub names-either : {p o : Pattern} {ns : List Mark} → Opens p o ns → (z : List ℕ) → In z (names o) → In z (names p) ⊎ In z (mark_names ns)
  names-either opens_wild z i = inl i
  names-either opens_kind z i = inl i
  names-either opens_except z i = inl i
  names-either opens_prefix z i = inl i
  names-either opens_hole z i = inl i
  names-either opens_lit z i = inl i
  names-either opens_nt z i = inl i
  names-either (opens_named {x = x} {q = q} {o = o} {ms = ms} r) z i =
      length_either (Some x) (names q) (names o) ms z (names-either r z) i
  names-either (opens_differ {y = y} {q = q} {o = o} {ms = ms} r) z i =
      of_names (names o) (y ∷ []) z (λ l. of_rest (names-either r z l)) (λ l. inr (of_mark l)) i
    where
      of_rest : IsEither (names q) ms z → In z (names q) ⊎ In z (y ∷ mark_names ms)
      of_rest (inl l) = inl l
      of_rest (inr m) = inr (there m)

      of_mark : In z (y ∷ []) → In z (y ∷ mark_names ms)
      of_mark (here e) = here e
      of_mark (there l) = elim l [ ]
  names-either (opens_in_hole {q = q} {r = r} {o = o} {u = u} {ms = ms} {ns = ns} h k) z i =
      both_either (names q) (names r) (names o) (names u) ms ns z (names-either h z) (names-either k z) i
  names-either (opens_hide_hole r) z i = names-either r z i
  names-either opens_closed z i = inl i
  names-either (opens_seq r) z i = item_names-either r z i

  -- so is one of opened items
  pub item_names-either : {ps os : Items} {ns : List Mark} → OpensItems ps os ns → (z : List ℕ) → In z (item_names os)
      → In z (item_names ps) ⊎ In z (mark_names ns)
  item_names-either opens_none z i = inl i
  item_names-either (opens_one {p = p} {o = o} {ps = ps} {os = os} {ms = ms} {ns = ns} h k) z i =
      both_either (names p) (item_names ps) (names o) (item_names os) ms ns z (names-either h z) (item_names-either k z) i
  item_names-either (opens_many {p = p} {o = o} {n = n} {ps = ps} {os = os} {ms = ms} {ns = ns} h k) z i =
      both_either (with_length_name n (names p)) (item_names ps) (with_length_name n (names o)) (item_names os) ms ns z
      (length_either n (names p) (names o) ms z (names-either h z)) (item_names-either k z) i

-- ---- marks that fit

-- the marks ns of a part of a pattern, with the names xs, are among all marks; no two of them are one, and no mark is one of the names
pub record Fits (ms : List Mark) (xs : List (List ℕ)) (ns : List Mark) : Type 0 where
  pub within : (m : Mark) → In m ns → In m ms
  pub distinct : AreDistinct (mark_names ns)
  pub other : (z : List ℕ) → In z (mark_names ms) → In z xs → ⊥

-- fewer names
pub fits-fewer : {ms : List Mark} {xs ys : List (List ℕ)} {ns : List Mark} → ((z : List ℕ) → In z ys → In z xs) → Fits ms xs ns → Fits ms ys ns
fits-fewer f h = record { within = h.within; distinct = h.distinct; other = λ z m i. h.other z m (f z i) }

-- the first of two parts
pub fits-left : {ms : List Mark} (xs ys : List (List ℕ)) (ns ks : List Mark) → Fits ms (add_names xs ys) (ns ++ ks) → Fits ms xs ns
fits-left xs ys ns ks h = record {
  within = λ m i. h.within m (append-left ns ks m i);
  distinct = distinct-left ns ks h.distinct;
  other = λ z m i. h.other z m (add_names-left xs ys z i);
}

-- and the second
pub fits-right : {ms : List Mark} (xs ys : List (List ℕ)) (ns ks : List Mark) → Fits ms (add_names xs ys) (ns ++ ks) → Fits ms ys ks
fits-right xs ys ns ks h = record {
  within = λ m i. h.within m (append-right ns ks m i);
  distinct = distinct-right ns ks h.distinct;
  other = λ z m i. h.other z m (add_names-right xs ys z i);
}

-- behind one mark
pub fits-behind : {ms : List Mark} {xs : List (List ℕ)} {n : Mark} {ns : List Mark} → Fits ms xs (n ∷ ns) → Fits ms xs ns
fits-behind h = record { within = λ m i. h.within m (there i); distinct = h.distinct.1; other = h.other }

-- of what is bound all marks are among ns
abbrev pub BindsMarks : List Mark → List Mark → Binding → Type 0
BindsMarks ms ns c = (z : List ℕ) → In z (mark_names ms) → In z (bound_names c) → In z (mark_names ns)

-- so it is where names are those of some names and of the marks
binds_marks : (ms ns : List Mark) (xs vs : List (List ℕ)) (c : Binding) → ((z : List ℕ) → In z (mark_names ms) → In z xs → ⊥)
    → ((z : List ℕ) → In z vs → IsEither xs ns z) → bound_names c ≡ vs → BindsMarks ms ns c
binds_marks ms ns xs vs c other f e z m i = elim (f z (subst (λ (ws : List (List ℕ)). In z ws) e i)) [ inl l ↦ absurd (other z m l) | inr r ↦ r ]

-- so it is where an opened pattern binds it
pub binds_marks-names : {ms ns : List Mark} {p o : Pattern} → Opens p o ns → Fits ms (names p) ns → (c : Binding) → bound_names c ≡ names o
    → BindsMarks ms ns c
binds_marks-names {ms = ms} {ns = ns} {p = p} {o = o} h f c e = binds_marks ms ns (names p) (names o) c f.other (names-either h) e

-- and items
pub binds_marks-items : {ms ns : List Mark} {ps os : Items} → OpensItems ps os ns → Fits ms (item_names ps) ns → (c : Binding)
    → bound_names c ≡ item_names os → BindsMarks ms ns c
binds_marks-items {ms = ms} {ns = ns} {ps = ps} {os = os} h f c e =
    binds_marks ms ns (item_names ps) (item_names os) c f.other (item_names-either h) e

-- and a repetition
pub binds_marks-length : {ms ns : List Mark} {p o : Pattern} (n : Option (List ℕ)) → Opens p o ns → Fits ms (with_length_name n (names p)) ns
    → (c : Binding) → bound_names c ≡ with_length_name n (names o) → BindsMarks ms ns c
binds_marks-length {ms = ms} {ns = ns} {p = p} {o = o} n h f c e =
    binds_marks ms ns (with_length_name n (names p)) (with_length_name n (names o)) c f.other
    (λ z. length_either n (names p) (names o) ns z (names-either h z)) e

-- two parts have no mark in common
pub parts-no_common : (ms ns ks : List Mark) (c d : Binding) → AreDistinct (mark_names (ns ++ ks)) → BindsMarks ms ns c → BindsMarks ms ks d
    → HaveNoCommonMark ms c d
parts-no_common ms ns ks c d h f g z m i k = distinct-apart ns ks h (f z m i) (g z m k)

-- the names of a pattern are those of the opened one that are no marks
pub opened-others : {ms ns : List Mark} {p o : Pattern} → Opens p o ns → Fits ms (names p) ns → AreOthers ms (names o) (names p)
opened-others {ms = ms} {ns = ns} {p = p} {o = o} h f z = (λ i. (names-kept h z i, λ m. f.other z m i), λ k. back (names-either h z k.0) k.1)
  where
    all_marks : (ks : List Mark) → ((m : Mark) → In m ks → In m ms) → In z (mark_names ks) → In z (mark_names ms)
    all_marks [] g i = elim i [ ]
    all_marks (k ∷ ks) g (here e) = subst (λ (w : List ℕ). In w (mark_names ms)) (sym e) (mark-named ms (g k (here refl)))
    all_marks (k ∷ ks) g (there i) = all_marks ks (λ m l. g m (there l)) i

    back : IsEither (names p) ns z → (In z (mark_names ms) → ⊥) → In z (names p)
    back (inl l) n = l
    back (inr m) n = absurd (n (all_marks ns f.within m))

-- the length name of a repetition is no mark
pub length-no_mark : {ms ns : List Mark} (n : Option (List ℕ)) (xs : List (List ℕ)) → Fits ms (with_length_name n xs) ns → IsNoMark ms n
length-no_mark n xs f z e m = f.other z m (with_length-length n xs e)

-- the name of a pattern that has one is no mark
pub name-no_mark : {ms ns : List Mark} (x : List ℕ) (xs : List (List ℕ)) → Fits ms (add_names xs (x ∷ [])) ns → In x (mark_names ms) → ⊥
name-no_mark x xs f m = f.other x m (add_names-right xs (x ∷ []) x (here refl))

-- a pattern with a name has those of the pattern inside
pub fits-inside : {ms ns : List Mark} (xs ys : List (List ℕ)) → Fits ms (add_names xs ys) ns → Fits ms xs ns
fits-inside xs ys f = fits-fewer (λ z i. add_names-left xs ys z i) f

-- so has a repetition with a length name
pub fits-length : {ms ns : List Mark} (n : Option (List ℕ)) (xs : List (List ℕ)) → Fits ms (with_length_name n xs) ns → Fits ms xs ns
fits-length n xs f = fits-fewer (λ z i. with_length-kept n xs i) f

-- the marks of an opened pattern fit
pub opened-fits : {p o : Pattern} {ms ns : List Mark} → IsOpened p o ns → ((m : Mark) → In m ns → In m ms) → AreNew (names p) ms
    → Fits ms (names p) ns
opened-fits h f n = record { within = f; distinct = h.new.distinct; other = n.other }
