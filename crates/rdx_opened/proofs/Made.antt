-- Patterns that are opened by marks that are made for them.
use Rattle.std.proofs.Common.{◌≡◌, ℕ, zero, suc, ◌+◌, ◌<◌, ◌≤◌, ◌^◌, ◌||◌, Bool, true, false, List, [], ◌∷◌, ◌++◌, length, refl, sym, ap, subst, ◌∙◌, append_assoc, append-nil, add-one, drop, get_or, codes, arith, ◌⊎◌, inl, inr}
use Rattle.std.proofs.lemmas.Fmt.{decimal_is_IsNumeral_wide}
use Rattle.std.proofs.lemmas.List.{append_cancel_left, length-append}
use Rattle.std.specs.Fmt.{decimal}
use Rattle.std.specs.Str.Parse.{digits_value}
use Rattle.std.specs.Str.{chars}
use Rattle.rdx_term.specs.Spelling.{is_name}
use Rattle.rdx_lang.specs.Members.{In, here, there}
use Rattle.rdx_lang.specs.Mismatches.{has_differ, have_differ}
use Rattle.rdx_lang.specs.Names.{names}
use Rattle.rdx_lang.specs.Patterns.{Pattern, wild, of_kind, except, prefix, hole, lit, nt, named, differ, in_hole, hide_hole, closed, seq, Items, nil}
use Rattle.rdx_lang.specs.Patterns.{one as one_item, many as many_items}
use Rattle.rdx_lang.specs.Variants.{before_number, variant}
use Rattle.rdx_opened.specs.Inside.Marks.{AreMade, OpensBehind, OpensItemsBehind}
use Rattle.rdx_opened.specs.Opening.{Mark, mark_names, Opens, opens_wild, opens_kind, opens_except, opens_prefix, opens_hole, opens_lit, opens_nt, opens_named, opens_differ, opens_in_hole, opens_hide_hole, opens_closed, opens_seq, OpensItems, opens_none, opens_one, opens_many, AreDistinct, AreNew, IsOpened}

-- ---- patterns without mismatch names

first_fails : (a b : Bool) → (a || b) ≡ false → a ≡ false
first_fails true b e = absurd cc
first_fails false b e = refl

second_fails : (a b : Bool) → (a || b) ≡ false → b ≡ false
second_fails true b e = absurd cc
second_fails false b e = e

mutual
  -- a pattern without mismatch names opens to itself
  opens_itself : (p : Pattern) → has_differ p ≡ false → Opens p p []
  opens_itself wild e = opens_wild
  opens_itself (of_kind k) e = opens_kind
  opens_itself (except rs) e = opens_except
  opens_itself (prefix r) e = opens_prefix
  opens_itself hole e = opens_hole
  opens_itself (lit t) e = opens_lit
  opens_itself (nt x) e = opens_nt
  opens_itself (named x q) e = opens_named (opens_itself q e)
  opens_itself (differ x q) e = absurd cc
  opens_itself (in_hole q r) e =
      opens_in_hole (opens_itself q (first_fails (has_differ q) (has_differ r) e)) (opens_itself r (second_fails (has_differ q) (has_differ r) e))
  opens_itself (hide_hole q) e = opens_hide_hole (opens_itself q e)
  opens_itself (closed q) e = opens_closed
  opens_itself (seq ps) e = opens_seq (items_open_themselves ps e)

  items_open_themselves : (ps : Items) → have_differ ps ≡ false → OpensItems ps ps []
  items_open_themselves nil e = opens_none
  items_open_themselves (one_item p ps) e =
      opens_one (opens_itself p (first_fails (has_differ p) (have_differ ps) e))
      (items_open_themselves ps (second_fails (has_differ p) (have_differ ps) e))
  items_open_themselves (many_items p n ps) e =
      opens_many (opens_itself p (first_fails (has_differ p) (have_differ ps) e))
      (items_open_themselves ps (second_fails (has_differ p) (have_differ ps) e))

-- so it needs no marks
pub opened_plain : (p : Pattern) → has_differ p ≡ false → IsOpened p p []
opened_plain p e = record {
  opens = opens_itself p e;
  new = record { distinct = tt; other = λ x i. elim i [ ] };
}

-- ---- marks one after the other

-- marks behind others go on with their numbers
made_append : (x : List ℕ) (n m : ℕ) (ms ns : List Mark) → AreMade x n ms → m ≡ n + length ms → AreMade x m ns → AreMade x n (ms ++ ns)
made_append x n m [] ns a e b = subst (λ k. AreMade x k ns) (e ∙ omega arith) b
made_append x n m (y ∷ ms) ns a e b = (a.0, made_append x (suc n) m ms ns a.1 (omega arith) b)

module _ (x : List ℕ) where
  -- what has no mismatch name outside of closed patterns adds no marks
  pub behind_alone : {is : List Mark} {p o : Pattern} → Opens p o [] → OpensBehind x is is p o
  behind_alone {is} h = record { added = []; whole = sym (append-nil is); opens = h; made = tt }

  -- the same of patterns that are equal
  pub behind_as : {is js : List Mark} {p o q u : Pattern} → OpensBehind x is js p o → q ≡ p → u ≡ o → OpensBehind x is js q u
  behind_as {is = is} {js = js} {o = o} {q = q} h e f =
      subst (λ (v : Pattern). OpensBehind x is js q v) (sym f) (subst (λ (v : Pattern). OpensBehind x is js v o) (sym e) h)

  pub behind_named : {is js : List Mark} {p o : Pattern} (y : List ℕ) → OpensBehind x is js p o → OpensBehind x is js (named y p) (named y o)
  behind_named y h = record { added = h.added; whole = h.whole; opens = opens_named h.opens; made = h.made }

  pub behind_hide_hole : {is js : List Mark} {p o : Pattern} → OpensBehind x is js p o → OpensBehind x is js (hide_hole p) (hide_hole o)
  behind_hide_hole h = record { added = h.added; whole = h.whole; opens = opens_hide_hole h.opens; made = h.made }

  pub behind_seq : {is js : List Mark} {ps os : Items} → OpensItemsBehind x is js ps os → OpensBehind x is js (seq ps) (seq os)
  behind_seq h = record { added = h.added; whole = h.whole; opens = opens_seq h.opens; made = h.made }

  -- a mismatch name has the next mark
  pub behind_differ : {is js ks : List Mark} {p o : Pattern} (y z : List ℕ) → y ≡ variant x (suc (length is)) → js ≡ is ++ (y, z) ∷ []
      → OpensBehind x js ks p o → OpensBehind x is ks (differ z p) (named y o)
  behind_differ {is = is} {js = js} y z e f h = record {
    added = (y, z) ∷ h.added;
    whole = h.whole ∙ ap (λ (ms : List Mark). ms ++ h.added) f ∙ append_assoc is ((y, z) ∷ []) h.added;
    opens = opens_differ h.opens;
    made = (e, subst (λ n. AreMade x n h.added) (ap length f ∙ length-append is ((y, z) ∷ []) ∙ omega arith) h.made);
  }

  -- both parts of an in-hole
  pub behind_in_hole : {is js ks : List Mark} {p q o u : Pattern} → OpensBehind x is js p o → OpensBehind x js ks q u
      → OpensBehind x is ks (in_hole p q) (in_hole o u)
  behind_in_hole {is = is} h k = record {
    added = h.added ++ k.added;
    whole = k.whole ∙ ap (λ (ms : List Mark). ms ++ k.added) h.whole ∙ append_assoc is h.added k.added;
    opens = opens_in_hole h.opens k.opens;
    made = made_append x _ _ h.added k.added h.made (ap length h.whole ∙ length-append is h.added) k.made;
  }

  pub behind_none : {is : List Mark} → OpensItemsBehind x is is nil nil
  behind_none {is} = record { added = []; whole = sym (append-nil is); opens = opens_none; made = tt }

  -- an item, and those behind it
  pub behind_one : {is js ks : List Mark} {p o : Pattern} {ps os : Items} → OpensBehind x is js p o → OpensItemsBehind x js ks ps os
      → OpensItemsBehind x is ks (one_item p ps) (one_item o os)
  behind_one {is = is} h k = record {
    added = h.added ++ k.added;
    whole = k.whole ∙ ap (λ (ms : List Mark). ms ++ k.added) h.whole ∙ append_assoc is h.added k.added;
    opens = opens_one h.opens k.opens;
    made = made_append x _ _ h.added k.added h.made (ap length h.whole ∙ length-append is h.added) k.made;
  }

  pub behind_many : {is js ks : List Mark} {p o : Pattern} {ps os : Items} (n : _) → OpensBehind x is js p o → OpensItemsBehind x js ks ps os
      → OpensItemsBehind x is ks (many_items p n ps) (many_items o n os)
  behind_many {is = is} n h k = record {
    added = h.added ++ k.added;
    whole = k.whole ∙ ap (λ (ms : List Mark). ms ++ k.added) h.whole ∙ append_assoc is h.added k.added;
    opens = opens_many h.opens k.opens;
    made = made_append x _ _ h.added k.added h.made (ap length h.whole ∙ length-append is h.added) k.made;
  }

-- ---- marks differ

-- two numbers with one decimal are equal
one_decimal : (m n : ℕ) → m < 10 ^ 64 → n < 10 ^ 64 → decimal m ≡ decimal n → m ≡ n
one_decimal m n p q e = sym (decimal_is_IsNumeral_wide m p).1 ∙ ap (digits_value 10) e ∙ (decimal_is_IsNumeral_wide n q).1

-- two variants with numbers are one where the numbers are
one_number : (x : List ℕ) (m n : ℕ) → suc m < 10 ^ 64 → suc n < 10 ^ 64 → variant x (suc m) ≡ variant x (suc n) → m ≡ n
one_number x m n p q e = let k = one_decimal (suc m) (suc n) p q (append_cancel_left (x ++ before_number x) _ _ e) in omega arith

-- a variant with a number is longer than the name
variant_longer : (x : List ℕ) (n : ℕ) → suc n < 10 ^ 64 → length x < length (variant x (suc n))
variant_longer x n p =
    let some = (decimal_is_IsNumeral_wide (suc n) p).0.0 in
    let whole = length-append (x ++ before_number x) (decimal (suc n)) in
    let front = length-append x (before_number x) in
    omega arith

-- marks have numbers
record IsNumbered (x : List ℕ) (n k : ℕ) (y : List ℕ) : Type 0 where
  number : ℕ
  from : n ≤ number
  below : number < k
  same : y ≡ variant x (suc number)

numbered : (x : List ℕ) (n : ℕ) (ms : List Mark) → AreMade x n ms → (y : List ℕ) → In y (mark_names ms) → IsNumbered x n (n + length ms) y
numbered x n [] a y i = elim i [ ]
numbered x n (m ∷ ms) a y (here e) = record { number = n; from = omega arith; below = omega arith; same = e ∙ a.0 }
numbered x n (m ∷ ms) a y (there i) =
    let k = numbered x (suc n) ms a.1 y i in
    record { number = k.number; from = let l = k.from in omega arith; below = let l = k.below in omega arith; same = k.same }

-- so they are distinct
made_distinct : (x : List ℕ) (n : ℕ) (ms : List Mark) → n + length ms < 10 ^ 63 → AreMade x n ms → AreDistinct (mark_names ms)
made_distinct x n [] s a = tt
made_distinct x n (m ∷ ms) s a = (other, made_distinct x (suc n) ms (omega arith) a.1)
  where
    other : In m.0 (mark_names ms) → ⊥
    other i =
        let k = numbered x (suc n) ms a.1 m.0 i in
        let l = k.from in
        let b = k.below in
        let e = one_number x n k.number (omega arith) (omega arith) (sym a.0 ∙ k.same) in
        absurd (omega arith)

-- and none is a name that is no longer than theirs
pub made_new : (x : List ℕ) (ms : List Mark) (xs : List (List ℕ)) → length ms < 10 ^ 63 → AreMade x 0 ms
    → ((y : List ℕ) → In y xs → length y ≤ length x) → AreNew xs ms
made_new x ms xs s a f = record { distinct = made_distinct x 0 ms (omega arith) a; other = other }
  where
    other : (y : List ℕ) → In y (mark_names ms) → In y xs → ⊥
    other y i k =
        let n = numbered x 0 ms a y i in
        let b = n.below in
        let l = variant_longer x n.number (omega arith) in
        let same = ap length n.same in
        let most = f y k in
        absurd (omega arith)

-- ---- the longest name

-- `m` is a name
pub letter-is_name : is_name (codes "m") ≡ true
unfolding chars
letter-is_name = refl

-- the name at a place is before those behind it
at_place : (xs : List (List ℕ)) (i : ℕ) (x : List ℕ) → i < length xs → x ≡ get_or xs i x → drop i xs ≡ x ∷ drop (i + 1) xs
at_place [] i x h e = absurd (omega arith)
at_place (y ∷ ys) zero x h e = ap (λ (z : List ℕ). z ∷ ys) (sym e)
at_place (y ∷ ys) (suc i) x h e = let k = at_place ys i x (omega arith) e in rw add-one (rw add-one at k)

at_end : (xs : List (List ℕ)) (i : ℕ) → length xs ≤ i → drop i xs ≡ []
at_end [] zero h = refl
at_end [] (suc i) h = refl
at_end (y ∷ ys) zero h = absurd (omega arith)
at_end (y ∷ ys) (suc i) h = at_end ys i (omega arith)

-- of names that are not looked at yet, or else no longer than one, one is looked at more
pub longest_more : (xs : List (List ℕ)) (i : ℕ) (x old new : List ℕ) → i < length xs → x ≡ get_or xs i x → length old ≤ length new
    → length x ≤ length new → ((y : List ℕ) → In y xs → In y (drop i xs) ⊎ (length y ≤ length old))
    → (y : List ℕ) → In y xs → In y (drop (i + 1) xs) ⊎ (length y ≤ length new)
longest_more xs i x old new h e l m f y k = elim (f y k) [
  | inl r ↦ by_first (subst (λ (ys : List (List ℕ)). In y ys) (at_place xs i x h e) r)
  | inr r ↦ inr (omega arith)
]
  where
    by_first : In y (x ∷ drop (i + 1) xs) → In y (drop (i + 1) xs) ⊎ (length y ≤ length new)
    by_first (here d) = inr (let n = ap length d in omega arith)
    by_first (there r) = inl r

-- and in the end all are
pub longest_end : (xs : List (List ℕ)) (i : ℕ) (most : List ℕ) → length xs ≤ i
    → ((y : List ℕ) → In y xs → In y (drop i xs) ⊎ (length y ≤ length most))
    → (y : List ℕ) → In y xs → length y ≤ length most
longest_end xs i most h f y k = elim (f y k) [
  | inl r ↦ elim (subst (λ (ys : List (List ℕ)). In y ys) (at_end xs i h) r) [ ]
  | inr r ↦ r
]

-- ---- patterns that are opened

-- one without mismatch names by no marks
pub opened_unmarked : (p o : Pattern) (ms : List Mark) → has_differ p ≡ false → o ≡ p → ms ≡ [] → IsOpened p o ms
opened_unmarked p o ms e f g =
    subst (λ (ns : List Mark). IsOpened p o ns) (sym g) (subst (λ (q : Pattern). IsOpened p q []) (sym f) (opened_plain p e))

-- any by marks that are made of a name as long as the longest in it
pub opened_whole : (x y : List ℕ) (p o : Pattern) (before ms : List Mark) (xs : List (List ℕ)) → OpensBehind x before ms p o → before ≡ [] → x ≡ y
    → ((z : List ℕ) → In z xs → length z ≤ length y) → xs ≡ names p → length ms < 10 ^ 63 → IsOpened p o ms
opened_whole x y p o before ms xs h e f g d s = record {
  opens = subst (λ (ns : List Mark). Opens p o ns) (sym all) h.opens;
  new = made_new x ms (names p) s made (λ z i. let l : length z ≤ length y = g z
      (subst (λ (ys : List (List ℕ)). In z ys) (sym d) i) in let k = ap length f in omega arith);
}
  where
    all : ms ≡ h.added
    all = h.whole ∙ ap (λ (ns : List Mark). ns ++ h.added) e

    made : AreMade x 0 ms
    made = subst (λ (ns : List Mark). AreMade x 0 ns) (sym all) (subst (λ (n : ℕ). AreMade x n h.added) (ap length e) h.made)
