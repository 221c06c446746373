-- What a binding says of some names, and in a turn of a repetition.
use Rattle.std.proofs.Common.{◌≡◌, ℕ, zero, suc, ◌+◌, ◌<◌, ◌≤◌, List, [], ◌∷◌, ◌++◌, length, map, drop, get_or, Option, Some, None, refl, sym, ap, subst, ◌∙◌, arith, add-one}
use Rattle.std.proofs.lemmas.List.{append-nil}
use Rattle.std.specs.Borrow.{Bor}
use Rattle.std.specs.List.{HoldsAt, slice_get}
use Rattle.std.specs.Option.{IfSome, MatchOption}
use Rattle.std.specs.declared.cmp.Ordering.TheVariants.{Less}
use Rattle.rdx_lang.specs.Ascending.{IsBelow, IsAscending}
use Rattle.rdx_lang.specs.Bindings.{Value, many, len, Values, values, Pair, Binding, of_pairs, name_cmp, pair_names, bound_names, HaveAscendingNames, HasAscendingNames, value_at}
use Rattle.rdx_lang.specs.BindingView.{value_of, found_value}
use Rattle.rdx_lang.specs.Collections.{AreValuesOf, of_none, of_more, IsCollection, IsRepetition, without_length, with_length}
use Rattle.rdx_lang.specs.Join.{IsJoin}
use Rattle.rdx_lang.specs.Members.{In, here, there}
use Rattle.rdx_lang.specs.declared.binding.Value as code_value
use Rattle.rdx_lang.proofs.JoinLaws.{join_ascends, bound_names-member, one_value}
use Rattle.rdx_lang.proofs.MemberLaws.{in-map}
use Rattle.rdx_lang.proofs.Values.{value_at-exact}
use Rattle.rdx_opened.specs.Picking.{pair_where, picked_pairs, picked, nth_value, turn_value, turn_pairs, in_turn, values_count, turns_in, turns_of}

-- ---- names that a loop has before it

-- at the name x the pairs of the rest begin with that of x
pub picked_at : (b : Binding) (xs : List (List ℕ)) (i : ℕ) (x : List ℕ) → i < length xs → x ≡ get_or xs i x
    → picked_pairs b (drop i xs) ≡ pair_where x (value_at b x) ++ picked_pairs b (drop (i + 1) xs)
picked_at b [] i x h e = absurd (omega arith)
picked_at b (y ∷ ys) zero x h e = ap (λ (z : List ℕ). pair_where z (value_at b z) ++ picked_pairs b ys) (sym e)
picked_at b (y ∷ ys) (suc i) x h e = let k = picked_at b ys i x (omega arith) e in rw add-one (rw add-one at k)

-- so it is in a turn
pub turn_at : (b : Binding) (j : ℕ) (xs : List (List ℕ)) (i : ℕ) (x : List ℕ) → i < length xs → x ≡ get_or xs i x
    → turn_pairs b j (drop i xs) ≡ pair_where x (turn_value (value_at b x) j) ++ turn_pairs b j (drop (i + 1) xs)
turn_at b j [] i x h e = absurd (omega arith)
turn_at b j (y ∷ ys) zero x h e = ap (λ (z : List ℕ). pair_where z (turn_value (value_at b z) j) ++ turn_pairs b j ys) (sym e)
turn_at b j (y ∷ ys) (suc i) x h e = let k = turn_at b j ys i x (omega arith) e in rw add-one (rw add-one at k)

-- behind the last name there are none
pub picked_end : (b : Binding) (xs : List (List ℕ)) (i : ℕ) → length xs ≤ i → picked_pairs b (drop i xs) ≡ []
picked_end b [] zero h = refl
picked_end b [] (suc i) h = refl
picked_end b (y ∷ ys) zero h = absurd (omega arith)
picked_end b (y ∷ ys) (suc i) h = picked_end b ys i (omega arith)

pub turn_end : (b : Binding) (j : ℕ) (xs : List (List ℕ)) (i : ℕ) → length xs ≤ i → turn_pairs b j (drop i xs) ≡ []
turn_end b j [] zero h = refl
turn_end b j [] (suc i) h = refl
turn_end b j (y ∷ ys) zero h = absurd (omega arith)
turn_end b j (y ∷ ys) (suc i) h = turn_end b j ys i (omega arith)

-- ---- names that ascend

-- what is below all names is below those of the pairs
below_where : (z x : List ℕ) (o : Option Value) (ps : List Pair) → name_cmp z x ≡ Less → IsBelow name_cmp z (pair_names ps)
    → IsBelow name_cmp z (pair_names (pair_where x o ++ ps))
below_where z x None ps l h = h
below_where z x (Some v) ps l h = (l, h)

-- a pair before names that it is below
ascend_where : (x : List ℕ) (o : Option Value) (ps : List Pair) → IsBelow name_cmp x (pair_names ps) → HaveAscendingNames ps
    → HaveAscendingNames (pair_where x o ++ ps)
ascend_where x None ps h a = a
ascend_where x (Some v) ps h a = (h, a)

below_picked : (b : Binding) (z : List ℕ) (xs : List (List ℕ)) → IsBelow name_cmp z xs → IsBelow name_cmp z (pair_names (picked_pairs b xs))
below_picked b z [] h = tt
below_picked b z (x ∷ xs) h = below_where z x (value_at b x) (picked_pairs b xs) h.0 (below_picked b z xs h.1)

-- the pairs of ascending names ascend
pub picked_ascends : (b : Binding) (xs : List (List ℕ)) → IsAscending name_cmp xs → HaveAscendingNames (picked_pairs b xs)
picked_ascends b [] a = tt
picked_ascends b (x ∷ xs) a = ascend_where x (value_at b x) (picked_pairs b xs) (below_picked b x xs a.0) (picked_ascends b xs a.1)

below_turn : (b : Binding) (j : ℕ) (z : List ℕ) (xs : List (List ℕ)) → IsBelow name_cmp z xs → IsBelow name_cmp z (pair_names (turn_pairs b j xs))
below_turn b j z [] h = tt
below_turn b j z (x ∷ xs) h = below_where z x (turn_value (value_at b x) j) (turn_pairs b j xs) h.0 (below_turn b j z xs h.1)

-- so do they in a turn
pub turn_ascends : (b : Binding) (j : ℕ) (xs : List (List ℕ)) → IsAscending name_cmp xs → HaveAscendingNames (turn_pairs b j xs)
turn_ascends b j [] a = tt
turn_ascends b j (x ∷ xs) a = ascend_where x (turn_value (value_at b x) j) (turn_pairs b j xs) (below_turn b j x xs a.0) (turn_ascends b j xs a.1)

-- what is before names that are all done is all
pub whole_done : (ps qs rs : List Pair) → ps ++ qs ≡ rs → qs ≡ [] → ps ≡ rs
whole_done ps qs rs e f = sym (append-nil ps) ∙ sym (ap (λ (xs : List Pair). ps ++ xs) f) ∙ e

-- so it ascends where all do
pub ascend_whole : (ps qs rs : List Pair) → ps ++ qs ≡ rs → qs ≡ [] → HaveAscendingNames rs → HaveAscendingNames ps
ascend_whole ps qs rs e f a = subst (λ (xs : List Pair). HaveAscendingNames xs) (sym (whole_done ps qs rs e f)) a

-- ---- values of the code

-- the value that is found at a place
pub nth_found : (vs : List code_value.Value) (i : ℕ) (o : Option (Bor code_value.Value)) → IfSome o (λ x. x.now ≡ get_or vs i x.now)
    → MatchOption o (length vs ≤ i) (λ x. (i < length vs) × HoldsAt (λ y. x.now ≡ y) vs i) → found_value o ≡ nth_value (values (map value_of vs)) i
nth_found vs i None s m = sym (behind vs i m)
  where
    behind : (vs : List code_value.Value) (i : ℕ) → length vs ≤ i → nth_value (values (map value_of vs)) i ≡ None
    behind [] i h = refl
    behind (v ∷ vs) zero h = absurd (omega arith)
    behind (v ∷ vs) (suc i) h = behind vs i (omega arith)
nth_found vs i (Some x) s m = sym (within vs i x.now m.0 s)
  where
    within : (vs : List code_value.Value) (i : ℕ) (v : code_value.Value) → i < length vs → v ≡ get_or vs i v
        → nth_value (values (map value_of vs)) i ≡ Some (value_of v)
    within [] i v h e = absurd (omega arith)
    within (u ∷ vs) zero v h e = ap (λ (w : code_value.Value). Some (value_of w)) (sym e)
    within (u ∷ vs) (suc i) v h e = within vs i v (omega arith) e

-- there are as many as there are in the code
pub count_values : (vs : List code_value.Value) → values_count (values (map value_of vs)) ≡ length vs
count_values [] = refl
count_values (v ∷ vs) = ap suc (count_values vs)

-- ---- a part of a binding

-- pairs of a binding are what it says of their names
picked_names : (b : Binding) (ps : List Pair) → HasAscendingNames b → ((p : Pair) → In p ps → In p b.pairs) → picked_pairs b (pair_names ps) ≡ ps
picked_names b [] a f = refl
picked_names b (p ∷ ps) a f =
    let e : value_at b p.0 ≡ Some p.1 = (value_at-exact b p.0 p.1 a).1 (f p (here refl)) in
    let k : picked_pairs b (pair_names ps) ≡ ps = picked_names b ps a (λ q i. f q (there i)) in
    λ i. pair_where p.0 (e i) ++ k i

-- so what a binding says of the names of a part of it is that part
pub picked-pairs : (b c : Binding) (xs : List (List ℕ)) → HasAscendingNames b → ((p : Pair) → In p c.pairs → In p b.pairs) → bound_names c ≡ xs
    → picked_pairs b xs ≡ c.pairs
picked-pairs b c xs a f e = subst (λ (ys : List (List ℕ)). picked_pairs b ys ≡ c.pairs) e (picked_names b c.pairs a f)

-- pairs without sets are the binding of these
of_its_pairs : (c : Binding) (ps : List Pair) → ps ≡ c.pairs → c.differs ≡ [] → of_pairs ps ≡ c
of_its_pairs c ps e d = λ i. record { pairs = e i; differs = sym d i }

pub picked-part : (b c : Binding) (xs : List (List ℕ)) → HasAscendingNames b → ((p : Pair) → In p c.pairs → In p b.pairs) → bound_names c ≡ xs
    → c.differs ≡ [] → picked b xs ≡ c
picked-part b c xs a f e d = of_its_pairs c (picked_pairs b xs) (picked-pairs b c xs a f e) d

-- each side of a join is what the join says of its names
pub picked-left : (c d b : Binding) (xs : List (List ℕ)) → IsJoin c d b → bound_names c ≡ xs → c.differs ≡ [] → picked b xs ≡ c
picked-left c d b xs j e n = picked-part b c xs (join_ascends j) j.pairs.left e n

pub picked-right : (c d b : Binding) (xs : List (List ℕ)) → IsJoin c d b → bound_names d ≡ xs → d.differs ≡ [] → picked b xs ≡ d
picked-right c d b xs j e n = picked-part b d xs (join_ascends j) j.pairs.right e n

-- ---- turns

-- the value in a turn is what the binding of the turn has
value_of_turn : {x : List ℕ} {cs : List Binding} {vs : Values} (i : ℕ) (d : Binding) → AreValuesOf x cs vs → slice_get cs i ≡ Some d
    → (v : Value) × (nth_value vs i ≡ Some v) × In (x, v) d.pairs
value_of_turn i d of_none e = absurd cc
value_of_turn {x = x} zero d (of_more {b = b} {v = v} h r) e = let f : b ≡ d = (cc) in (v, refl, subst (λ (c : Binding). In (x, v) c.pairs) f h)
value_of_turn (suc i) d (of_more h r) e = value_of_turn i d r e

-- there are as many values as turns
count_turns : {x : List ℕ} {cs : List Binding} {vs : Values} → AreValuesOf x cs vs → values_count vs ≡ length cs
count_turns of_none = refl
count_turns (of_more h r) = ap suc (count_turns r)

module _ (b c : Binding) (a : HasAscendingNames b) (f : (p : Pair) → In p c.pairs → In p b.pairs) (xs : List (List ℕ)) (cs : List Binding)
    (h : IsCollection xs cs c) where
  -- a name of a collection stands for a sequence, in each binding that it is a part of
  sequence_at : (x : List ℕ) → In x xs → (vs : Values) × (value_at b x ≡ Some (many vs)) × AreValuesOf x cs vs
  sequence_at x i =
      let k : (p : Pair) × In p c.pairs × (x ≡ p.0) = in-map (λ (p : Pair). p.0) c.pairs x
      (subst (λ (ys : List (List ℕ)). In x ys) (sym h.names) i) in
      let n : In (x, k.0.1) c.pairs = subst (λ (y : List ℕ). In (y, k.0.1) c.pairs) (sym k.2) k.1 in
      let s = h.sequences x k.0.1 n in
      (s.sequence, (value_at-exact b x k.0.1 a).1 (f (x, k.0.1) n) ∙ ap (λ (v : Value). Some v) s.same, s.values)

  -- in a turn each pair of its binding is there
  turn_names : (i : ℕ) (d : Binding) (ps : List Pair) → HasAscendingNames d → slice_get cs i ≡ Some d → ((p : Pair) → In p ps → In p d.pairs)
      → ((p : Pair) → In p ps → In p.0 xs) → turn_pairs b i (pair_names ps) ≡ ps
  turn_names i d [] m e g n = refl
  turn_names i d (p ∷ ps) m e g n =
      let s = sequence_at p.0 (n p (here refl)) in
      let t = value_of_turn i d s.2 e in
      let v : t.0 ≡ p.1 = one_value p.0 t.0 p.1 d.pairs m.0 t.2 (g p (here refl)) in
      let k : turn_value (value_at b p.0) i ≡ Some p.1 = ap (λ (o : Option Value). turn_value o i) s.1 ∙ t.1 ∙ ap (λ (w : Value). Some w) v in
      let r : turn_pairs b i (pair_names ps) ≡ ps = turn_names i d ps m e (λ q j. g q (there j)) (λ q j. n q (there j)) in
      λ j. pair_where p.0 (k j) ++ r j

  -- so what a binding says of the names of a repetition in a turn is what the turn binds
  pub turn-pairs : (i : ℕ) (d : Binding) → HasAscendingNames d → bound_names d ≡ xs → slice_get cs i ≡ Some d → turn_pairs b i xs ≡ d.pairs
  turn-pairs i d m n e =
      subst (λ (ys : List (List ℕ)). turn_pairs b i ys ≡ d.pairs) n
      (turn_names i d d.pairs m e (λ p k. k) (λ p k. subst (λ (ys : List (List ℕ)). In p.0 ys) n (bound_names-member p d k)))

  pub turn-part : (i : ℕ) (d : Binding) → HasAscendingNames d → bound_names d ≡ xs → slice_get cs i ≡ Some d → d.differs ≡ [] → in_turn b i xs ≡ d
  turn-part i d m n e q = of_its_pairs d (turn_pairs b i xs) (turn-pairs i d m n e) q

  -- and each name says how many turns there are
  pub turns-named : (x : List ℕ) → In x xs → turns_in (value_at b x) ≡ Some (length cs)
  turns-named x i =
      let s = sequence_at x i in
      ap turns_in s.1 ∙ ap (λ (k : ℕ). Some k) (count_turns s.2)

-- what a repetition collects is a part of what it binds
pub record IsCollected (xs : List (List ℕ)) (cs : List Binding) (b : Binding) : Type 0 where
  pub collection : Binding
  pub collected : IsCollection xs cs collection
  pub part : (p : Pair) → In p collection.pairs → In p b.pairs

pub repetition_collects : {xs : List (List ℕ)} {cs : List Binding} {n : Option (List ℕ)} {b : Binding} → IsRepetition xs cs n b → IsCollected xs cs b
repetition_collects {b = b} (without_length h) = record { collection = b; collected = h; part = λ p i. i }
repetition_collects (with_length {c = c} h j) = record { collection = c; collected = h; part = j.pairs.left }

-- a length name says how many turns there are
length_says : {xs : List (List ℕ)} {cs : List Binding} {n : Option (List ℕ)} {b : Binding} (w : Binding) → HasAscendingNames w
    → IsRepetition xs cs n b
    → ((p : Pair) → In p b.pairs → In p w.pairs) → (y : List ℕ) → n ≡ Some y → turns_in (value_at w y) ≡ Some (length cs)
length_says w a (without_length h) f y e = absurd cc
length_says {cs = cs} w a (with_length {x = x} h j) f y e =
    let g : x ≡ y = (cc) in
    let i : In (x, len (length cs)) w.pairs = f (x, len (length cs)) (j.pairs.right (x, len (length cs)) (here refl)) in
    let k : value_at w x ≡ Some (len (length cs)) = (value_at-exact w x (len (length cs)) a).1 i in
    subst (λ (z : List ℕ). turns_in (value_at w z) ≡ Some (length cs)) g (ap turns_in k)

module _ (w b : Binding) (a : HasAscendingNames w) (f : (p : Pair) → In p b.pairs → In p w.pairs) where
  -- the same of what a repetition binds: in a turn
  pub turn-repetition : {xs : List (List ℕ)} {cs : List Binding} {n : Option (List ℕ)} → IsRepetition xs cs n b → (i : ℕ) (d : Binding)
      → HasAscendingNames d → bound_names d ≡ xs → slice_get cs i ≡ Some d → turn_pairs w i xs ≡ d.pairs
  turn-repetition {xs = xs} {cs = cs} r i d m e g =
      let k = repetition_collects r in
      turn-pairs w k.collection a (λ p j. f p (k.part p j)) xs cs k.collected i d m e g

  -- and how many turns there are, where a name or a length name says so
  pub turns-repetition : (xs : List (List ℕ)) (cs : List Binding) (n : Option (List ℕ)) → IsRepetition xs cs n b → (xs ≡ [] → n ≡ None → ⊥)
      → turns_of w xs n ≡ Some (length cs)
  turns-repetition (x ∷ xs) cs n r q =
      let k = repetition_collects r in
      turns-named w k.collection a (λ p j. f p (k.part p j)) (x ∷ xs) cs k.collected x (here refl)
  turns-repetition [] cs (Some y) r q = length_says w a r f y refl
  turns-repetition [] cs None r q = absurd (q refl refl)
