-- Whether two trees without names are the same: the test tells it, and what it says of items of each role.
use Rattle.std.proofs.Common.{◌≡◌, ◌↔◌, ℕ, suc, Bool, true, false, ◌&&◌, List, [], ◌∷◌, map, length, Option, Some, None, IsTrue, refl, sym, ap, ◌∙◌, true≢false, if◌then◌else◌, nat_eq, ◌≢◌, ◌==◌, ◌⊎◌, inl, inr, arith}
use Rattle.std.specs.declared.cmp.Ordering.{Ordering}
use Rattle.std.specs.declared.cmp.Ordering.TheVariants.{Less, Equal, Greater}
use Rattle.std.proofs.lemmas.Bool.Decides.{eqb_tells}
use Rattle.rdx_term.specs.Tree.{Tree, hole, integer, truth, text, symbol, list, Trees, nil, cons, trees, Contents, contents_tree}
use Rattle.rdx_term.specs.Order.{tree_cmp}
use Rattle.rdx_term.specs.View.{tree_of}
use Rattle.rdx_term.specs.declared.term.Term.{Term}
use Rattle.rdx_term.proofs.OrderLaws.{tree_cmp-equal, tree_cmp-itself}
use Rattle.rdx_alpha.specs.Forms.{Place, Form}
use Rattle.rdx_alpha.specs.Instances.{headed_by, is_instance, Role, of_head, of_plain, place_roles, plain_roles, roles_by, roles, first_role, other_roles}
use Rattle.rdx_alpha.specs.Nameless.{Nameless, NamelessItems, atom, free, bound, blank, head, several, none, more, place_in, bound_at, occurrence, blanks, blanked, nameless_in, nameless_among}
use Rattle.rdx_alpha.specs.Inside.Same.{is_equal, same, same_items, is_atom, is_empty, nameless_item}
use Rattle.rdx_alpha.proofs.NameFacts.{same_name, name_itself, and_first, and_second, both}

equal_order : (o : Ordering) → is_equal o ≡ true → o ≡ Equal
equal_order Less h = absurd (true≢false (sym h))
equal_order Equal h = refl
equal_order Greater h = absurd (true≢false (sym h))

same_number : (n m : ℕ) → nat_eq n m ≡ true → n ≡ m
same_number n m h = by (eqb_tells n m)
  where
    by : ((n == m) ≡ true) × (n ≡ m) ⊎ ((n == m) ≡ false) × (n ≢ m) → n ≡ m
    by (inl k) = k.1
    by (inr k) = absurd (true≢false (sym h ∙ k.0))

number_itself : (n m : ℕ) → n ≡ m → nat_eq n m ≡ true
number_itself n m e = by (eqb_tells n m)
  where
    by : ((n == m) ≡ true) × (n ≡ m) ⊎ ((n == m) ≡ false) × (n ≢ m) → nat_eq n m ≡ true
    by (inl k) = k.0
    by (inr k) = absurd (k.1 e)

other_number : (n m : ℕ) → n ≢ m → nat_eq n m ≡ false
other_number n m e = by (eqb_tells n m)
  where
    by : ((n == m) ≡ true) × (n ≡ m) ⊎ ((n == m) ≡ false) × (n ≢ m) → nat_eq n m ≡ false
    by (inl k) = absurd (e k.1)
    by (inr k) = k.0

number_after : (n m : ℕ) → nat_eq (suc n) (suc m) ≡ nat_eq n m
number_after n m = by (eqb_tells n m)
  where
    by : ((n == m) ≡ true) × (n ≡ m) ⊎ ((n == m) ≡ false) × (n ≢ m) → nat_eq (suc n) (suc m) ≡ nat_eq n m
    by (inl k) = number_itself (suc n) (suc m) (ap suc k.1) ∙ sym k.0
    by (inr k) = other_number (suc n) (suc m) (λ e. k.1 (omega arith)) ∙ sym k.0

-- ---- the test tells it

mutual
  -- what the test takes for the same is the same
  pub same-tells : (n m : Nameless) → same n m ≡ true → n ≡ m
  same-tells (atom a) (atom b) h = ap atom (tree_cmp-equal a b (equal_order (tree_cmp a b) h))
  same-tells (atom a) (free r) h = absurd (true≢false (sym h))
  same-tells (atom a) (bound e l) h = absurd (true≢false (sym h))
  same-tells (atom a) blank h = absurd (true≢false (sym h))
  same-tells (atom a) (head r) h = absurd (true≢false (sym h))
  same-tells (atom a) (several ms) h = absurd (true≢false (sym h))
  same-tells (free s) (atom b) h = absurd (true≢false (sym h))
  same-tells (free s) (free r) h = ap free (same_name s r h)
  same-tells (free s) (bound e l) h = absurd (true≢false (sym h))
  same-tells (free s) blank h = absurd (true≢false (sym h))
  same-tells (free s) (head r) h = absurd (true≢false (sym h))
  same-tells (free s) (several ms) h = absurd (true≢false (sym h))
  same-tells (bound d k) (atom b) h = absurd (true≢false (sym h))
  same-tells (bound d k) (free r) h = absurd (true≢false (sym h))
  same-tells (bound d k) (bound e l) h = let p = same_number d e (and_first (nat_eq d e) (nat_eq k l) h) in let q = same_number k l (and_second (nat_eq d e) (nat_eq k l) h) in λ i. bound (p i) (q i)
  same-tells (bound d k) blank h = absurd (true≢false (sym h))
  same-tells (bound d k) (head r) h = absurd (true≢false (sym h))
  same-tells (bound d k) (several ms) h = absurd (true≢false (sym h))
  same-tells blank (atom b) h = absurd (true≢false (sym h))
  same-tells blank (free r) h = absurd (true≢false (sym h))
  same-tells blank (bound e l) h = absurd (true≢false (sym h))
  same-tells blank blank h = refl
  same-tells blank (head r) h = absurd (true≢false (sym h))
  same-tells blank (several ms) h = absurd (true≢false (sym h))
  same-tells (head s) (atom b) h = absurd (true≢false (sym h))
  same-tells (head s) (free r) h = absurd (true≢false (sym h))
  same-tells (head s) (bound e l) h = absurd (true≢false (sym h))
  same-tells (head s) blank h = absurd (true≢false (sym h))
  same-tells (head s) (head r) h = ap head (same_name s r h)
  same-tells (head s) (several ms) h = absurd (true≢false (sym h))
  same-tells (several ns) (atom b) h = absurd (true≢false (sym h))
  same-tells (several ns) (free r) h = absurd (true≢false (sym h))
  same-tells (several ns) (bound e l) h = absurd (true≢false (sym h))
  same-tells (several ns) blank h = absurd (true≢false (sym h))
  same-tells (several ns) (head r) h = absurd (true≢false (sym h))
  same-tells (several ns) (several ms) h = ap several (same_items-tells ns ms h)

  pub same_items-tells : (ns ms : NamelessItems) → same_items ns ms ≡ true → ns ≡ ms
  same_items-tells none none h = refl
  same_items-tells none (more m ms) h = absurd (true≢false (sym h))
  same_items-tells (more n ns) none h = absurd (true≢false (sym h))
  same_items-tells (more n ns) (more m ms) h =
      let p = same-tells n m (and_first (same n m) (same_items ns ms) h) in
      let q = same_items-tells ns ms (and_second (same n m) (same_items ns ms) h) in
      λ i. more (p i) (q i)

mutual
  -- and each is the same as itself
  pub same-itself : (n : Nameless) → same n n ≡ true
  same-itself (atom t) = ap is_equal (tree_cmp-itself t t refl)
  same-itself (free s) = name_itself s
  same-itself (bound d k) = both (nat_eq d d) (nat_eq k k) (number_itself d d refl) (number_itself k k refl)
  same-itself blank = refl
  same-itself (head s) = name_itself s
  same-itself (several ns) = same_items-itself ns

  pub same_items-itself : (ns : NamelessItems) → same_items ns ns ≡ true
  same_items-itself none = refl
  same_items-itself (more n ns) = both (same n n) (same_items ns ns) (same-itself n) (same_items-itself ns)

-- the test is true exactly where they are equal
pub same-decides : (n m : Nameless) (b : Bool) → b ≡ same n m → IsTrue b ↔ (n ≡ m)
same-decides n m b e = (λ h. same-tells n m (sym e ∙ h), λ h. e ∙ sym (ap (same n) h) ∙ same-itself n)

-- in either order
pub same-turned : (n m : Nameless) → same n m ≡ same m n
same-turned n m = by (same n m) (same m n) refl refl
  where
    by : (a b : Bool) → same n m ≡ a → same m n ≡ b → a ≡ b
    by true true e f = refl
    by true false e f = absurd (true≢false (sym (ap (same m) (same-tells n m e) ∙ same-itself m) ∙ f))
    by false true e f = absurd (true≢false (sym (ap (same n) (same-tells m n f) ∙ same-itself n) ∙ e))
    by false false e f = refl

-- ---- items of different roles

-- it is neither blank nor a head
abbrev pub is_inner : Nameless → Bool
is_inner (atom t) = true
is_inner (free s) = true
is_inner (bound d k) = true
is_inner blank = false
is_inner (head s) = false
is_inner (several ns) = true

bound_at-inner : (d : ℕ) (o : Option ℕ) (n : Nameless) → is_inner n ≡ true → is_inner (bound_at d o n) ≡ true
bound_at-inner d None n h = h
bound_at-inner d (Some k) n h = refl

occurrence-inner : (d : ℕ) (around : List (List (List ℕ))) (s : List ℕ) → is_inner (occurrence d around s) ≡ true
occurrence-inner d [] s = refl
occurrence-inner d (names ∷ around) s = bound_at-inner d (place_in s names) (occurrence (suc d) around s) (occurrence-inner (suc d) around s)

nameless-inner : (fs : List Form) (around : List (List (List ℕ))) (t : Tree) → is_inner (nameless_in fs around t) ≡ true
nameless-inner fs around hole = refl
nameless-inner fs around (integer n) = refl
nameless-inner fs around (truth b) = refl
nameless-inner fs around (text s) = refl
nameless-inner fs around (symbol s) = occurrence-inner 0 around s
nameless-inner fs around (list m ts) = refl

head-apart : (s : List ℕ) (n : Nameless) → is_inner n ≡ true → same (head s) n ≡ false
head-apart s (atom t) h = refl
head-apart s (free r) h = refl
head-apart s (bound d k) h = refl
head-apart s blank h = refl
head-apart s (head r) h = absurd (true≢false (sym h))
head-apart s (several ns) h = refl

blank-apart : (n : Nameless) → is_inner n ≡ true → same blank n ≡ false
blank-apart (atom t) h = refl
blank-apart (free r) h = refl
blank-apart (bound d k) h = refl
blank-apart blank h = absurd (true≢false (sym h))
blank-apart (head r) h = refl
blank-apart (several ns) h = refl

-- a head is no binder
pub head-binder : (s : List ℕ) (t : Tree) → same (head s) (blanked t) ≡ false
head-binder s hole = refl
head-binder s (integer n) = refl
head-binder s (truth b) = refl
head-binder s (text r) = refl
head-binder s (symbol r) = refl
head-binder s (list m ts) = refl

-- and nothing else
pub head-other : (fs : List Form) (around : List (List (List ℕ))) (s : List ℕ) (t : Tree) → same (head s) (nameless_in fs around t) ≡ false
head-other fs around s t = head-apart s (nameless_in fs around t) (nameless-inner fs around t)

-- an occurrence is no list
bound_at-no_list : (ns : NamelessItems) (d : ℕ) (o : Option ℕ) (n : Nameless) → same (several ns) n ≡ false → same (several ns) (bound_at d o n) ≡ false
bound_at-no_list ns d None n h = h
bound_at-no_list ns d (Some k) n h = refl

occurrence-no_list : (ns : NamelessItems) (d : ℕ) (around : List (List (List ℕ))) (s : List ℕ) → same (several ns) (occurrence d around s) ≡ false
occurrence-no_list ns d [] s = refl
occurrence-no_list ns d (names ∷ around) s =
    bound_at-no_list ns d (place_in s names) (occurrence (suc d) around s) (occurrence-no_list ns (suc d) around s)

-- the first item of a list is no blank
first-no_blank : (fs : List Form) (around : List (List (List ℕ))) (t : Tree) (ts : Trees)
    → same blank (nameless_item fs around (first_role (roles fs (cons t ts))) t) ≡ false
first-no_blank fs around t ts = by (headed_by fs t)
  where
    plain_one : same blank (nameless_in fs around t) ≡ false
    plain_one = blank-apart (nameless_in fs around t) (nameless-inner fs around t)

    by_instance : (ps : List Place) (b : Bool) → same blank (nameless_item fs around (first_role (if b then of_head ∷ place_roles ps ts ps else of_plain ∷ plain_roles ts)) t) ≡ false
    by_instance ps true = refl
    by_instance ps false = plain_one

    by : (o : Option (List Place)) → same blank (nameless_item fs around (first_role (roles_by o ts)) t) ≡ false
    by None = plain_one
    by (Some ps) = by_instance ps (is_instance ps ts)

-- a binder place is like another item where both are the empty list
pub binder-other : (fs : List Form) (around : List (List (List ℕ))) (t u : Tree) → (is_empty t && is_empty u) ≡ same (blanked t) (nameless_in fs around u)
binder-other fs around hole u = sym (blank-apart (nameless_in fs around u) (nameless-inner fs around u))
binder-other fs around (integer n) u = sym (blank-apart (nameless_in fs around u) (nameless-inner fs around u))
binder-other fs around (truth b) u = sym (blank-apart (nameless_in fs around u) (nameless-inner fs around u))
binder-other fs around (text s) u = sym (blank-apart (nameless_in fs around u) (nameless-inner fs around u))
binder-other fs around (symbol s) u = sym (blank-apart (nameless_in fs around u) (nameless-inner fs around u))
binder-other fs around (list m nil) hole = refl
binder-other fs around (list m nil) (integer n) = refl
binder-other fs around (list m nil) (truth b) = refl
binder-other fs around (list m nil) (text s) = refl
binder-other fs around (list m nil) (symbol s) = sym (occurrence-no_list none 0 around s)
binder-other fs around (list m nil) (list k nil) = refl
binder-other fs around (list m nil) (list k (cons u us)) = refl
binder-other fs around (list m (cons t ts)) hole = refl
binder-other fs around (list m (cons t ts)) (integer n) = refl
binder-other fs around (list m (cons t ts)) (truth b) = refl
binder-other fs around (list m (cons t ts)) (text s) = refl
binder-other fs around (list m (cons t ts)) (symbol s) = sym (occurrence-no_list (blanks (cons t ts)) 0 around s)
binder-other fs around (list m (cons t ts)) (list k nil) = refl
binder-other fs around (list m (cons t ts)) (list k (cons u us)) =
    sym (ap (λ (b : Bool). b && same_items (blanks ts) (nameless_among fs around (other_roles (roles fs (cons u us))) us)) (first-no_blank fs around u us))

-- in either order
pub other-head : (fs : List Form) (around : List (List (List ℕ))) (s : List ℕ) (t : Tree) → same (nameless_in fs around t) (head s) ≡ false
other-head fs around s t = same-turned (nameless_in fs around t) (head s) ∙ head-other fs around s t

-- a binder place is no head
pub binder-head : (s : List ℕ) (t : Tree) → same (blanked t) (head s) ≡ false
binder-head s t = same-turned (blanked t) (head s) ∙ head-binder s t

-- an item with its own tree is like a binder place only where both are the empty list
pub other-binder : (fs : List Form) (around : List (List (List ℕ))) (t u : Tree) → (is_empty u && is_empty t) ≡ same (nameless_in fs around t) (blanked u)
other-binder fs around t u = binder-other fs around u t ∙ same-turned (blanked u) (nameless_in fs around t)

-- blanks are the same where they are as many
pub same-blanks : (ts us : List Tree) → same_items (blanks (trees ts)) (blanks (trees us)) ≡ nat_eq (length ts) (length us)
same-blanks [] [] = refl
same-blanks [] (u ∷ us) = sym (other_number 0 (suc (length us)) (λ e. absurd (omega arith)))
same-blanks (t ∷ ts) [] = sym (other_number (suc (length ts)) 0 (λ e. absurd (omega arith)))
same-blanks (t ∷ ts) (u ∷ us) = same-blanks ts us ∙ sym (number_after (length ts) (length us))

-- ---- lengths

length-mapped : {A B : Type 0} (f : A → B) (xs : List A) → length (map f xs) ≡ length xs
length-mapped f [] = refl
length-mapped f (x ∷ xs) = ap suc (length-mapped f xs)

same-lengths : (fs : List Form) (one two : List (List (List ℕ))) (rs qs : List Role) (ts us : List Tree)
    → same_items (nameless_among fs one rs (trees ts)) (nameless_among fs two qs (trees us)) ≡ true → length ts ≡ length us
same-lengths fs one two rs qs [] [] h = refl
same-lengths fs one two rs qs [] (u ∷ us) h = absurd (true≢false (sym h))
same-lengths fs one two rs qs (t ∷ ts) [] h = absurd (true≢false (sym h))
same-lengths fs one two rs qs (t ∷ ts) (u ∷ us) h =
    ap suc (same-lengths fs one two (other_roles rs) (other_roles qs) ts us
    (and_second (same (nameless_item fs one (first_role rs) t) (nameless_item fs two (first_role qs) u))
    (same_items (nameless_among fs one (other_roles rs) (trees ts)) (nameless_among fs two (other_roles qs) (trees us))) h))

-- lists of other lengths are not the same
pub other_lengths : {A B : Type 0} (f : A → Tree) (g : B → Tree) (fs : List Form) (one two : List (List (List ℕ))) (rs qs : List Role) (xs : List A) (ys : List B)
    → (length xs ≡ length ys → ⊥) → false ≡ same_items (nameless_among fs one rs (trees (map f xs))) (nameless_among fs two qs (trees (map g ys)))
other_lengths f g fs one two rs qs xs ys h = by (same_items (nameless_among fs one rs (trees (map f xs))) (nameless_among fs two qs (trees (map g ys)))) refl
  where
    by : (b : Bool) → same_items (nameless_among fs one rs (trees (map f xs))) (nameless_among fs two qs (trees (map g ys))) ≡ b → false ≡ b
    by true e = absurd (h (sym (length-mapped f xs) ∙ same-lengths fs one two rs qs (map f xs) (map g ys) e ∙ length-mapped g ys))
    by false e = refl

-- ---- terms

-- the empty list has no items
pub empty-list : (l : Contents) (xs : List Term) → map tree_of xs ≡ l.items → nat_eq (length xs) 0 ≡ is_empty (contents_tree l)
empty-list l xs e = by xs ∙ ap (λ (ts : List Tree). is_empty (list l.mark (trees ts))) e
  where
    by : (ys : List Term) → nat_eq (length ys) 0 ≡ is_empty (list l.mark (trees (map tree_of ys)))
    by [] = refl
    by (y ∷ ys) = other_number (suc (length ys)) 0 (λ e. absurd (omega arith))

-- lists of binders are the same where they are as long
pub same-binder_lists : (l k : Contents) (xs ys : List Term) → map tree_of xs ≡ l.items → map tree_of ys ≡ k.items
    → nat_eq (length xs) (length ys) ≡ same (blanked (contents_tree l)) (blanked (contents_tree k))
same-binder_lists l k xs ys e f =
    (λ i. nat_eq (sym (length-mapped tree_of xs) i) (sym (length-mapped tree_of ys) i)) ∙ sym (same-blanks (map tree_of xs) (map tree_of ys))
    ∙ (λ i. same_items (blanks (trees (e i))) (blanks (trees (f i))))

-- ---- atoms

bound_at-no_atom : (t : Tree) (d : ℕ) (o : Option ℕ) (n : Nameless) → same (atom t) n ≡ false → same (atom t) (bound_at d o n) ≡ false
bound_at-no_atom t d None n h = h
bound_at-no_atom t d (Some k) n h = refl

-- an occurrence is no atom
occurrence-no_atom : (t : Tree) (d : ℕ) (around : List (List (List ℕ))) (s : List ℕ) → same (atom t) (occurrence d around s) ≡ false
occurrence-no_atom t d [] s = refl
occurrence-no_atom t d (names ∷ around) s =
    bound_at-no_atom t d (place_in s names) (occurrence (suc d) around s) (occurrence-no_atom t (suc d) around s)

-- two atoms are compared as trees
pub atoms-same : (fs : List Form) (one two : List (List (List ℕ))) (t u : Tree) → is_atom t ≡ true → is_atom u ≡ true
    → is_equal (tree_cmp t u) ≡ same (nameless_in fs one t) (nameless_in fs two u)
atoms-same fs one two hole hole h k = refl
atoms-same fs one two hole (integer l) h k = refl
atoms-same fs one two hole (truth c) h k = refl
atoms-same fs one two hole (text r) h k = refl
atoms-same fs one two hole (symbol r) h k = absurd (true≢false (sym k))
atoms-same fs one two hole (list l us) h k = absurd (true≢false (sym k))
atoms-same fs one two (integer n) hole h k = refl
atoms-same fs one two (integer n) (integer l) h k = refl
atoms-same fs one two (integer n) (truth c) h k = refl
atoms-same fs one two (integer n) (text r) h k = refl
atoms-same fs one two (integer n) (symbol r) h k = absurd (true≢false (sym k))
atoms-same fs one two (integer n) (list l us) h k = absurd (true≢false (sym k))
atoms-same fs one two (truth b) hole h k = refl
atoms-same fs one two (truth b) (integer l) h k = refl
atoms-same fs one two (truth b) (truth c) h k = refl
atoms-same fs one two (truth b) (text r) h k = refl
atoms-same fs one two (truth b) (symbol r) h k = absurd (true≢false (sym k))
atoms-same fs one two (truth b) (list l us) h k = absurd (true≢false (sym k))
atoms-same fs one two (text s) hole h k = refl
atoms-same fs one two (text s) (integer l) h k = refl
atoms-same fs one two (text s) (truth c) h k = refl
atoms-same fs one two (text s) (text r) h k = refl
atoms-same fs one two (text s) (symbol r) h k = absurd (true≢false (sym k))
atoms-same fs one two (text s) (list l us) h k = absurd (true≢false (sym k))
atoms-same fs one two (symbol s) u h k = absurd (true≢false (sym h))
atoms-same fs one two (list m ts) u h k = absurd (true≢false (sym h))

-- an atom is like nothing else
pub atom-other : (fs : List Form) (one two : List (List (List ℕ))) (t u : Tree) → is_atom t ≡ true → is_atom u ≡ false
    → false ≡ same (nameless_in fs one t) (nameless_in fs two u)
atom-other fs one two hole hole h k = absurd (true≢false k)
atom-other fs one two hole (integer l) h k = absurd (true≢false k)
atom-other fs one two hole (truth c) h k = absurd (true≢false k)
atom-other fs one two hole (text r) h k = absurd (true≢false k)
atom-other fs one two hole (symbol r) h k = sym (occurrence-no_atom hole 0 two r)
atom-other fs one two hole (list l us) h k = refl
atom-other fs one two (integer n) hole h k = absurd (true≢false k)
atom-other fs one two (integer n) (integer l) h k = absurd (true≢false k)
atom-other fs one two (integer n) (truth c) h k = absurd (true≢false k)
atom-other fs one two (integer n) (text r) h k = absurd (true≢false k)
atom-other fs one two (integer n) (symbol r) h k = sym (occurrence-no_atom (integer n) 0 two r)
atom-other fs one two (integer n) (list l us) h k = refl
atom-other fs one two (truth b) hole h k = absurd (true≢false k)
atom-other fs one two (truth b) (integer l) h k = absurd (true≢false k)
atom-other fs one two (truth b) (truth c) h k = absurd (true≢false k)
atom-other fs one two (truth b) (text r) h k = absurd (true≢false k)
atom-other fs one two (truth b) (symbol r) h k = sym (occurrence-no_atom (truth b) 0 two r)
atom-other fs one two (truth b) (list l us) h k = refl
atom-other fs one two (text s) hole h k = absurd (true≢false k)
atom-other fs one two (text s) (integer l) h k = absurd (true≢false k)
atom-other fs one two (text s) (truth c) h k = absurd (true≢false k)
atom-other fs one two (text s) (text r) h k = absurd (true≢false k)
atom-other fs one two (text s) (symbol r) h k = sym (occurrence-no_atom (text s) 0 two r)
atom-other fs one two (text s) (list l us) h k = refl
atom-other fs one two (symbol s) u h k = absurd (true≢false (sym h))
atom-other fs one two (list m ts) u h k = absurd (true≢false (sym h))

-- nor is an occurrence
pub symbol-atom : (around : List (List (List ℕ))) (s : List ℕ) (t : Tree) → false ≡ same (occurrence 0 around s) (atom t)
symbol-atom around s t = sym (same-turned (occurrence 0 around s) (atom t) ∙ occurrence-no_atom t 0 around s)

-- a symbol is no list
pub symbol-list : (around : List (List (List ℕ))) (s : List ℕ) (ns : NamelessItems) → false ≡ same (occurrence 0 around s) (several ns)
symbol-list around s ns = sym (same-turned (occurrence 0 around s) (several ns) ∙ occurrence-no_list ns 0 around s)

-- and a list is no symbol
pub list-symbol : (around : List (List (List ℕ))) (s : List ℕ) (ns : NamelessItems) → false ≡ same (several ns) (occurrence 0 around s)
list-symbol around s ns = sym (occurrence-no_list ns 0 around s)
