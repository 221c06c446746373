-- The name of a context is none of those of its rule, so it changes nothing of what these stand for.
use Rattle.std.proofs.Common.{◌≡◌, ◌++◌, ◌⊎◌, inl, inr, ℕ, suc, Bool, true, false, not, List, [], ◌∷◌, Option, Some, None, map, refl, sym, ◌∙◌, ap, subst, true≢false, bytes_eq}
use Rattle.std.proofs.lemmas.Bool.{and_parts}
use Rattle.std.proofs.lemmas.List.{map-append}
use Rattle.std.specs.Cmp.Lexicographic.{bytes_decides}
use Rattle.std.specs.List.{list_any}
use Rattle.std.specs.Prelude.{◌||◌, ◌&&◌, nat_eq}
use Rattle.rdx_term.specs.Tree.{Tree}
use Rattle.rdx_lang.specs.Bindings.{Value, Pair, Binding, one_name, value_at, HasAscendingNames}
use Rattle.rdx_lang.specs.Closures.{rule_names, context_name}
use Rattle.rdx_lang.specs.Depths.{Use, uses, item_uses, length_use}
use Rattle.rdx_lang.specs.Join.{PairsAgree, IsJoin}
use Rattle.rdx_lang.specs.Listing.{IsSeen}
use Rattle.rdx_lang.specs.Members.{In, here, there}
use Rattle.rdx_lang.specs.Names.{add_names, with_length_name, names, item_names}
use Rattle.rdx_lang.specs.Patterns.{Pattern, wild, of_kind, except, prefix, hole, lit, nt, named, differ, in_hole, hide_hole, closed, seq, Items, nil, one, many, Language}
use Rattle.rdx_lang.specs.Programs.{Rule}
use Rattle.rdx_lang.specs.Rules.{Match}
use Rattle.rdx_lang.specs.Scopes.{binds, bound_by, case_uses, extras_uses}
use Rattle.rdx_lang.proofs.JoinLaws.{bound_names-member, join_ascends}
use Rattle.rdx_lang.proofs.Joins.{join_exists}
use Rattle.rdx_lang.proofs.MemberLaws.{in-append, append-left, append-right}
use Rattle.rdx_lang.proofs.NameLists.{add_names-sound}
use Rattle.rdx_lang.proofs.SeenListings.{seen-names}
use Rattle.rdx_lang.proofs.Values.{value_at-exact}

-- ---- names of patterns and of their uses

-- z is the name of one of these uses
abbrev pub IsUsed : List ℕ → List Use → Type 0
IsUsed z us = In z (map (λ u. u.name) us)

-- so it is of one of more uses
pub used_first : (z : List ℕ) (us vs : List Use) → IsUsed z us → IsUsed z (us ++ vs)
used_first z us vs h =
    subst (λ (ys : List (List ℕ)). In z ys) (sym (map-append (λ (u : Use). u.name) us vs))
    (append-left (map (λ u. u.name) us) (map (λ u. u.name) vs) z h)

pub used_last : (z : List ℕ) (us vs : List Use) → IsUsed z vs → IsUsed z (us ++ vs)
used_last z us vs h =
    subst (λ (ys : List (List ℕ)). In z ys) (sym (map-append (λ (u : Use). u.name) us vs))
    (append-right (map (λ u. u.name) us) (map (λ u. u.name) vs) z h)

-- and one of more uses is one of either
pub used_in : (z : List ℕ) (us vs : List Use) → IsUsed z (us ++ vs) → IsUsed z us ⊎ IsUsed z vs
used_in z us vs h =
    in-append (map (λ u. u.name) us) (map (λ u. u.name) vs) z (subst (λ (ys : List (List ℕ)). In z ys) (map-append (λ (u : Use). u.name) us vs) h)

-- a name of either list, each of whose names is used so
used_either : (z : List ℕ) (xs ys : List (List ℕ)) (us vs : List Use) → (In z xs → IsUsed z us) → (In z ys → IsUsed z vs) → In z (add_names xs ys)
    → IsUsed z (us ++ vs)
used_either z xs ys us vs f g h = elim (add_names-sound xs ys z h) [ inl l ↦ used_first z us vs (f l) | inr r ↦ used_last z us vs (g r) ]

-- a length name behind others
used_length : (z : List ℕ) (n : ℕ) (x : Option (List ℕ)) (xs : List (List ℕ)) (us : List Use) → (In z xs → IsUsed z us) → In z (with_length_name x xs)
    → IsUsed z (us ++ length_use n x)
used_length z n None xs us f h = used_first z us [] (f h)
used_length z n (Some x) xs us f h = used_either z xs (x ∷ []) us (length_use n (Some x)) f (λ i. i) h

mutual
  -- the names that a pattern binds are those of its uses
  pub names-used : (z : List ℕ) (n : ℕ) (p : Pattern) → In z (names p) → IsUsed z (uses n p)
  names-used z n wild h = elim h [ ]
  names-used z n (of_kind k) h = elim h [ ]
  names-used z n (except rs) h = elim h [ ]
  names-used z n (prefix r) h = elim h [ ]
  names-used z n hole h = elim h [ ]
  names-used z n (lit u) h = elim h [ ]
  names-used z n (nt x) h = elim h [ ]
  names-used z n (named x q) h =
      elim (add_names-sound (names q) (x ∷ []) z h) [ inl l ↦ there (names-used z n q l) | inr (here e) ↦ here e | inr (there i) ↦ elim i [ ] ]
  names-used z n (differ x q) h = names-used z n q h
  names-used z n (in_hole q r) h = used_either z (names q) (names r) (uses n q) (uses n r) (names-used z n q) (names-used z n r) h
  names-used z n (hide_hole q) h = names-used z n q h
  names-used z n (closed q) h = elim h [ ]
  names-used z n (seq ps) h = item_names-used z n ps h

  -- so are those of items
  item_names-used : (z : List ℕ) (n : ℕ) (ps : Items) → In z (item_names ps) → IsUsed z (item_uses n ps)
  item_names-used z n nil h = elim h [ ]
  item_names-used z n (one p ps) h =
      used_either z (names p) (item_names ps) (uses n p) (item_uses n ps) (names-used z n p) (item_names-used z n ps) h
  item_names-used z n (many p x ps) h =
      used_either z (with_length_name x (names p)) (item_names ps) (uses (suc n) p ++ length_use n x) (item_uses n ps)
      (used_length z n x (names p) (uses (suc n) p) (names-used z (suc n) p)) (item_names-used z n ps) h

-- a name that is bound by uses is that of one of them
pub bound-used : (x : List ℕ) (d : ℕ) (us : List Use) → bound_by us x d ≡ true → IsUsed x us
bound-used x d [] h = absurd cc
bound-used x d (u ∷ us) h = by_test (binds u x d) refl h (bound-used x d us)
  where
    by_test : (b : Bool) → binds u x d ≡ b → (b || list_any (λ v. binds v x d) us) ≡ true → (bound_by us x d ≡ true → IsUsed x us) → IsUsed x (u ∷ us)
    by_test true e k f =
        let same = (and_parts (bytes_eq u.name x) (nat_eq u.depth d) (and_parts (not u.is_length) (bytes_eq u.name x && nat_eq u.depth d) e).1).0 in
        here (sym ((bytes_decides u.name x).0 same))
    by_test false e k f = there (f k)

-- ---- the name of a context

-- a text that is none of some names is not one
pub none_of : (x : List ℕ) (ys : List (List ℕ)) → list_any (bytes_eq x) ys ≡ false → In x ys → ⊥
none_of x [] h i = elim i [ ]
none_of x (y ∷ ys) h i = by_test (bytes_eq x y) refl h (none_of x ys) i
  where
    by_test : (b : Bool) → bytes_eq x y ≡ b → (b || list_any (bytes_eq x) ys) ≡ false → (list_any (bytes_eq x) ys ≡ false → In x ys → ⊥)
        → In x (y ∷ ys) → ⊥
    by_test true e k f j = absurd (true≢false k)
    by_test false e k f (here d) = absurd (true≢false (sym ((bytes_decides x y).1 d) ∙ e))
    by_test false e k f (there j) = f k j

module _ (r : Rule) (free : list_any (bytes_eq (context_name r)) (rule_names r) ≡ false) where
  -- the name of the context is none of the rule's
  pub context-free : IsUsed (context_name r) (case_uses r.pattern r.extras) → ⊥
  context-free = none_of (context_name r) (rule_names r) free

  -- so the rule's pattern does not bind it
  pub context-unbound : (L : Language) (t : Tree) (b : Binding) (v : Value) → IsSeen (Match L r.pattern t) b
      → In (context_name r, v) b.pairs → ⊥
  context-unbound L t b v m i =
      let x : List ℕ = context_name r in
      let k : In x (names r.pattern) = subst (λ (ys : List (List ℕ)). In x ys) (seen-names m) (bound_names-member (x, v) b i) in
      context-free (used_first x (uses 0 r.pattern) (extras_uses r.extras) (names-used x 0 r.pattern k))

-- ---- one name more

-- a name that a map doesn't bind has a join with it
pub join_with_name : (x : List ℕ) (v : Value) (b : Binding) → HasAscendingNames b → ((w : Value) → In (x, w) b.pairs → ⊥)
    → (c : Binding) × IsJoin (one_name x v) b c
join_with_name x v b a free = join_exists (one_name x v) b ((tt, tt), (tt, tt)) a (record { pairs = agree; differs = λ u i k. elim i [ ] })
  where
    agree : PairsAgree ((x, v) ∷ []) b.pairs
    agree y u w (here e) i = absurd (free w (subst (λ (z : List ℕ). In (z, w) b.pairs) (ap (λ (p : Pair). p.0) e) i))
    agree y u w (there h) i = elim h [ ]

module _ (x : List ℕ) (v : Value) (b c : Binding) (a : HasAscendingNames b) (j : IsJoin (one_name x v) b c) where
  -- the name stands for its value
  pub joined_name : value_at c x ≡ Some v
  joined_name = (value_at-exact c x v (join_ascends j)).1 (j.pairs.left (x, v) (here refl))

  -- another name stands for what it stood for
  pub other_name : (y : List ℕ) → (y ≡ x → ⊥) → value_at c y ≡ value_at b y
  other_name y n = by_values (value_at c y) (value_at b y) refl refl
    where
      before : (w : Value) → In (y, w) c.pairs → In (y, w) (one_name x v).pairs ⊎ In (y, w) b.pairs → value_at b y ≡ Some w
      before w i (inl (here e)) = absurd (n (ap (λ (p : Pair). p.0) e))
      before w i (inl (there h)) = elim h [ ]
      before w i (inr k) = (value_at-exact b y w a).1 k

      by_values : (o q : Option Value) → value_at c y ≡ o → value_at b y ≡ q → value_at c y ≡ value_at b y
      by_values (Some w) q e f = let i = (value_at-exact c y w (join_ascends j)).0 e in e ∙ sym (before w i (j.pairs.sound (y, w) i))
      by_values None None e f = e ∙ sym f
      by_values None (Some w) e f = let k = (value_at-exact c y w (join_ascends j)).1 (j.pairs.right (y, w) ((value_at-exact b y w a).0 f)) in k ∙ sym f
