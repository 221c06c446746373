-- One binder of an instance renamed.
use Rattle.std.proofs.Common.{◌≡◌, ℕ, suc, ◌+◌, max, Bool, true, false, ◌||◌, ◌&&◌, not, List, [], ◌∷◌, map, Option, refl, sym, ap, ◌∙◌, subst, true≢false, if◌then◌else◌, bytes_eq}
use Rattle.std.specs.List.{list_any}
use Rattle.rdx_term.specs.Tree.{Tree, hole, integer, truth, text, symbol, list, Trees, nil, cons, tree_depth, trees_depth, tree_nodes, trees_nodes}
use Rattle.rdx_alpha.specs.Forms.{Form}
use Rattle.rdx_alpha.specs.Instances.{is_head, Role, of_head, of_binder, of_plain, of_body, roles, first_role, other_roles}
use Rattle.rdx_alpha.specs.Free.{is_free_as, is_free, is_free_among}
use Rattle.rdx_alpha.specs.Nameless.{blank, several, more, place_in, bound_at, occurrence, around_item, blanks, blanked, nameless_as, nameless_in, nameless_among}
use Rattle.rdx_alpha.specs.Substitution.{symbols_in, symbols_among, renamed_symbol, renamed_symbols, renamed_binder, with_new_as, with_new, captures_as, captures}
use Rattle.rdx_alpha.proofs.NameFacts.{or_left, or_right, or_second, and_first, and_second, both, not_true, not_both, same_name, names_turned, none_of_first, none_of_second, none_of_both, bound_here, swapped, swapped_among, swapped_other, swapped_itself, swapped_place, swapped_none}
use Rattle.rdx_alpha.proofs.NewNames.{role_swapped, DoesNotBind, DoNotBind}
use Rattle.rdx_alpha.proofs.Renaming.{IsProperAs, IsProper, AreProper, renamed, renamed-depth, renamed-nodes, renamed-proper, renamed-free, renamed-nameless, Renames}

-- ---- free names are symbols

free_item-symbol : (fs : List Form) (s : List ℕ) (r : Role) (t : Tree) → list_any (bytes_eq s) (symbols_in t) ≡ false
    → (list_any (bytes_eq s) (symbols_in t) ≡ false → is_free fs s t ≡ false) → is_free_as s r (is_free fs s t) ≡ false
free_item-symbol fs s of_head t h g = refl
free_item-symbol fs s of_binder t h g = refl
free_item-symbol fs s of_plain t h g = g h
free_item-symbol fs s (of_body names) t h g = by (list_any (bytes_eq s) names)
  where
    by : (p : Bool) → (not p && is_free fs s t) ≡ false
    by true = refl
    by false = g h

-- what is no symbol of a tree is not free in it
mutual
  -- what is no symbol of a tree is not free in it
  pub not_free : (fs : List Form) (s : List ℕ) (t : Tree) → list_any (bytes_eq s) (symbols_in t) ≡ false → is_free fs s t ≡ false
  not_free fs s hole h = refl
  not_free fs s (integer k) h = refl
  not_free fs s (truth a) h = refl
  not_free fs s (text r) h = refl
  not_free fs s (symbol r) h = names_turned s r false (or_left (bytes_eq s r) false h)
  not_free fs s (list m ts) h = not_free_among fs s (roles fs ts) ts h

  pub not_free_among : (fs : List Form) (s : List ℕ) (rs : List Role) (ts : Trees) → list_any (bytes_eq s) (symbols_among ts) ≡ false
      → is_free_among fs s rs ts ≡ false
  not_free_among fs s rs nil h = refl
  not_free_among fs s rs (cons t ts) h =
      let e = free_item-symbol fs s (first_role rs) t (none_of_first s (symbols_in t) (symbols_among ts) h) (not_free fs s t) in
      let f = not_free_among fs s (other_roles rs) ts (none_of_second s (symbols_in t) (symbols_among ts) h) in
      λ i. e i || f i

-- a name that is free in a tree is none that is no symbol of it
free_differs : (fs : List Form) (c s : List ℕ) (t : Tree) → list_any (bytes_eq c) (symbols_in t) ≡ false → is_free fs s t ≡ true → bytes_eq c s ≡ false
free_differs fs c s t h f = by (bytes_eq c s) refl
  where
    by : (p : Bool) → bytes_eq c s ≡ p → bytes_eq c s ≡ false
    by true e = absurd (not_both (is_free fs s t) f (not_free fs s t (subst (λ (y : List ℕ). list_any (bytes_eq y) (symbols_in t) ≡ false) (same_name c s e) h)))
    by false e = e

-- a name that is one of some is none that is not
pub among_differs : (c b : List ℕ) (names : List (List ℕ)) → list_any (bytes_eq c) names ≡ false → list_any (bytes_eq b) names ≡ true → bytes_eq c b ≡ false
among_differs c b names h g = by (bytes_eq c b) refl
  where
    by : (p : Bool) → bytes_eq c b ≡ p → bytes_eq c b ≡ false
    by true e = absurd (not_both (list_any (bytes_eq b) names) g (subst (λ (y : List ℕ). list_any (bytes_eq y) names ≡ false) (same_name c b e) h))
    by false e = e

-- ---- the items with b renamed to c

-- where in bodies only names are replaced
abbrev pub with_renamed_as : List Form → List ℕ → List ℕ → Role → Tree → Tree
with_renamed_as fs b c r t = with_new_as (λ y w u. renamed fs b c u) b c r t

abbrev pub with_renamed : List Form → List ℕ → List ℕ → List Role → Trees → Trees
with_renamed fs b c rs ts = with_new (λ y w u. renamed fs b c u) b c rs ts

-- binders stay blanks
blanks-renamed : (b c : List ℕ) (ts : Trees) → blanks (renamed_symbols b c ts) ≡ blanks ts
blanks-renamed b c nil = refl
blanks-renamed b c (cons t ts) = ap (more blank) (blanks-renamed b c ts)

blank_still : (b c s : List ℕ) (p : Bool) → blanked (if p then symbol c else symbol s) ≡ blank
blank_still b c s true = refl
blank_still b c s false = refl

blanked-renamed : (b c : List ℕ) (t : Tree) → blanked (renamed_binder b c t) ≡ blanked t
blanked-renamed b c hole = refl
blanked-renamed b c (integer n) = refl
blanked-renamed b c (truth a) = refl
blanked-renamed b c (text s) = refl
blanked-renamed b c (symbol s) = blank_still b c s (bytes_eq s b)
blanked-renamed b c (list m ts) = ap several (blanks-renamed b c ts)

-- in a body that refers to b, c means what b meant
body-renames : (fs : List Form) (b c : List ℕ) (names : List (List ℕ)) (t : Tree) (around : List (List (List ℕ))) → list_any (bytes_eq c) names ≡ false
    → list_any (bytes_eq c) (symbols_in t) ≡ false → list_any (bytes_eq b) names ≡ true
    → Renames b c (names ∷ around) (map (swapped b c) names ∷ around) (λ s. is_free fs s t ≡ true)
body-renames fs b c names t around q h e = record {
  others = λ s f k d.
      let p : place_in s (map (swapped b c) names) ≡ place_in s names =
      ap (λ (y : List ℕ). place_in y (map (swapped b c) names)) (sym (swapped_other b c s k)) ∙ swapped_place b c s names (free_differs fs c s t h f) q in
      ap (λ (o : Option ℕ). bound_at d o (occurrence (suc d) around s)) p;
  new = λ d.
      let p : place_in c (map (swapped b c) names) ≡ place_in b names =
      ap (λ (y : List ℕ). place_in y (map (swapped b c) names)) (sym (swapped_itself b c)) ∙ swapped_place b c b names (among_differs c b names q e) q in
      ap (λ (o : Option ℕ). bound_at d o (occurrence (suc d) around c)) p ∙ bound_here d b names (occurrence (suc d) around c) (occurrence (suc d) around b) e;
}

item_new-nameless : (fs : List Form) (b c : List ℕ) → is_head fs c ≡ false → (r : Role) (t : Tree) (around : List (List (List ℕ)))
    → DoesNotBind c r → IsProperAs r (IsProper fs t) → list_any (bytes_eq c) (symbols_in t) ≡ false
    → nameless_as (role_swapped b c r) (with_renamed_as fs b c r t) (nameless_in fs (around_item (role_swapped b c r) around) (with_renamed_as fs b c r t))
    ≡ nameless_as r t (nameless_in fs (around_item r around) t)
item_new-nameless fs b c n of_head t around q p h = refl
item_new-nameless fs b c n of_binder t around q p h = blanked-renamed b c t
item_new-nameless fs b c n of_plain t around q p h = refl
item_new-nameless fs b c n (of_body names) t around q p h = by (list_any (bytes_eq b) names) refl
  where
    by : (a : Bool) → list_any (bytes_eq b) names ≡ a
        → nameless_in fs (map (swapped b c) names ∷ around) (if a then renamed fs b c t else t) ≡ nameless_in fs (names ∷ around) t
    by true e = renamed-nameless fs b c n t (names ∷ around) (map (swapped b c) names ∷ around) p h (body-renames fs b c names t around q h e)
    by false e = ap (λ (ns : List (List ℕ)). nameless_in fs (ns ∷ around) t) (swapped_none b c names e)

-- the items are the same without names
pub new-nameless : (fs : List Form) (b c : List ℕ) → is_head fs c ≡ false → (rs : List Role) (ts : Trees) (around : List (List (List ℕ)))
    → DoNotBind c rs → AreProper fs rs ts → list_any (bytes_eq c) (symbols_among ts) ≡ false
    → nameless_among fs around (map (role_swapped b c) rs) (with_renamed fs b c rs ts) ≡ nameless_among fs around rs ts
new-nameless fs b c n rs nil around q p h = refl
new-nameless fs b c n [] (cons t ts) around q p h =
    ap (more (nameless_in fs around t)) (new-nameless fs b c n [] ts around q p.1 (none_of_second c (symbols_in t) (symbols_among ts) h))
new-nameless fs b c n (r ∷ rs) (cons t ts) around q p h =
    let e = item_new-nameless fs b c n r t around q.0 p.0 (none_of_first c (symbols_in t) (symbols_among ts) h) in
    let f = new-nameless fs b c n rs ts around q.1 p.1 (none_of_second c (symbols_in t) (symbols_among ts) h) in
    λ i. more (e i) (f i)

-- ---- what is free in them

-- of the names of a body those but b and c
others_bound : (x b c : List ℕ) (names : List (List ℕ)) → bytes_eq x b ≡ false → bytes_eq c x ≡ false → list_any (bytes_eq c) names ≡ false
    → list_any (bytes_eq x) (map (swapped b c) names) ≡ list_any (bytes_eq x) names
others_bound x b c names xb cx q =
    ap (λ (y : List ℕ). list_any (bytes_eq y) (map (swapped b c) names)) (sym (swapped_other b c x xb)) ∙ swapped_among b c x names cx q

body_still_free : (fs : List Form) (x b c : List ℕ) → is_head fs c ≡ false → bytes_eq x b ≡ false → bytes_eq c x ≡ false → (t : Tree) → IsProper fs t
    → (p : Bool) → is_free fs x (if p then renamed fs b c t else t) ≡ is_free fs x t
body_still_free fs x b c n xb cx t h true = renamed-free fs x b c n xb (names_turned c x false cx) t h
body_still_free fs x b c n xb cx t h false = refl

item_new-free : (fs : List Form) (x b c : List ℕ) → is_head fs c ≡ false → bytes_eq x b ≡ false → bytes_eq c x ≡ false → (r : Role) (t : Tree)
    → DoesNotBind c r → IsProperAs r (IsProper fs t)
    → is_free_as x (role_swapped b c r) (is_free fs x (with_renamed_as fs b c r t)) ≡ is_free_as x r (is_free fs x t)
item_new-free fs x b c n xb cx of_head t q p = refl
item_new-free fs x b c n xb cx of_binder t q p = refl
item_new-free fs x b c n xb cx of_plain t q p = refl
item_new-free fs x b c n xb cx (of_body names) t q p =
    let e = others_bound x b c names xb cx q in
    let f = body_still_free fs x b c n xb cx t p (list_any (bytes_eq b) names) in
    λ i. not (e i) && f i

-- a binder renamed leaves the symbol x free where it was
pub new-free : (fs : List Form) (x b c : List ℕ) → is_head fs c ≡ false → bytes_eq x b ≡ false → bytes_eq c x ≡ false → (rs : List Role) (ts : Trees)
    → DoNotBind c rs → AreProper fs rs ts
    → is_free_among fs x (map (role_swapped b c) rs) (with_renamed fs b c rs ts) ≡ is_free_among fs x rs ts
new-free fs x b c n xb cx rs nil q p = refl
new-free fs x b c n xb cx [] (cons t ts) q p = ap (λ (a : Bool). is_free fs x t || a) (new-free fs x b c n xb cx [] ts q p.1)
new-free fs x b c n xb cx (r ∷ rs) (cons t ts) q p =
    let e = item_new-free fs x b c n xb cx r t q.0 p.0 in
    let f = new-free fs x b c n xb cx rs ts q.1 p.1 in
    λ i. e i || f i

-- ---- their size

symbol_size : (f : Tree → ℕ) (k : ℕ) → ((s : List ℕ) → f (symbol s) ≡ k) → (b c s : List ℕ) (p : Bool) → f (if p then symbol c else symbol s) ≡ k
symbol_size f k h b c s true = h c
symbol_size f k h b c s false = h s

symbol-depth : (b c : List ℕ) (t : Tree) → tree_depth (renamed_symbol b c t) ≡ tree_depth t
symbol-depth b c hole = refl
symbol-depth b c (integer n) = refl
symbol-depth b c (truth a) = refl
symbol-depth b c (text s) = refl
symbol-depth b c (symbol s) = symbol_size tree_depth 0 (λ r. refl) b c s (bytes_eq s b)
symbol-depth b c (list m ts) = refl

-- symbols renamed keep depths
pub symbols-depth : (b c : List ℕ) (ts : Trees) → trees_depth (renamed_symbols b c ts) ≡ trees_depth ts
symbols-depth b c nil = refl
symbols-depth b c (cons t ts) = let e = symbol-depth b c t in let f = symbols-depth b c ts in λ i. max (e i) (f i)

-- so does a binder place
pub binder-depth : (b c : List ℕ) (t : Tree) → tree_depth (renamed_binder b c t) ≡ tree_depth t
binder-depth b c hole = refl
binder-depth b c (integer n) = refl
binder-depth b c (truth a) = refl
binder-depth b c (text s) = refl
binder-depth b c (symbol s) = symbol_size tree_depth 0 (λ r. refl) b c s (bytes_eq s b)
binder-depth b c (list m ts) = ap (λ d. d + 1) (symbols-depth b c ts)

symbol-nodes : (b c : List ℕ) (t : Tree) → tree_nodes (renamed_symbol b c t) ≡ tree_nodes t
symbol-nodes b c hole = refl
symbol-nodes b c (integer n) = refl
symbol-nodes b c (truth a) = refl
symbol-nodes b c (text s) = refl
symbol-nodes b c (symbol s) = symbol_size tree_nodes 1 (λ r. refl) b c s (bytes_eq s b)
symbol-nodes b c (list m ts) = refl

-- symbols renamed keep the number of nodes
pub symbols-nodes : (b c : List ℕ) (ts : Trees) → trees_nodes (renamed_symbols b c ts) ≡ trees_nodes ts
symbols-nodes b c nil = refl
symbols-nodes b c (cons t ts) = let e = symbol-nodes b c t in let f = symbols-nodes b c ts in λ i. e i + f i

-- so does a binder place
pub binder-nodes : (b c : List ℕ) (t : Tree) → tree_nodes (renamed_binder b c t) ≡ tree_nodes t
binder-nodes b c hole = refl
binder-nodes b c (integer n) = refl
binder-nodes b c (truth a) = refl
binder-nodes b c (text s) = refl
binder-nodes b c (symbol s) = symbol_size tree_nodes 1 (λ r. refl) b c s (bytes_eq s b)
binder-nodes b c (list m ts) = ap (λ d. d + 1) (symbols-nodes b c ts)

item_new-size : (f : Tree → ℕ) (fs : List Form) (b c : List ℕ) → ((t : Tree) → f (renamed_binder b c t) ≡ f t) → ((t : Tree) → f (renamed fs b c t) ≡ f t)
    → (r : Role) (t : Tree) → f (with_renamed_as fs b c r t) ≡ f t
item_new-size f fs b c h g of_head t = refl
item_new-size f fs b c h g of_binder t = h t
item_new-size f fs b c h g of_plain t = refl
item_new-size f fs b c h g (of_body names) t = by (list_any (bytes_eq b) names)
  where
    by : (p : Bool) → f (if p then renamed fs b c t else t) ≡ f t
    by true = g t
    by false = refl

-- a binder renamed keeps the depth of the items
pub new-depth : (fs : List Form) (b c : List ℕ) (rs : List Role) (ts : Trees) → trees_depth (with_renamed fs b c rs ts) ≡ trees_depth ts
new-depth fs b c rs nil = refl
new-depth fs b c rs (cons t ts) =
    let e = item_new-size tree_depth fs b c (binder-depth b c) (renamed-depth fs b c) (first_role rs) t in
    let f = new-depth fs b c (other_roles rs) ts in
    λ i. max (e i) (f i)

-- and the number of their nodes
pub new-nodes : (fs : List Form) (b c : List ℕ) (rs : List Role) (ts : Trees) → trees_nodes (with_renamed fs b c rs ts) ≡ trees_nodes ts
new-nodes fs b c rs nil = refl
new-nodes fs b c rs (cons t ts) =
    let e = item_new-size tree_nodes fs b c (binder-nodes b c) (renamed-nodes fs b c) (first_role rs) t in
    let f = new-nodes fs b c (other_roles rs) ts in
    λ i. e i + f i

-- ---- they stay well headed

item_new-proper : (fs : List Form) (b c : List ℕ) → is_head fs c ≡ false → (r : Role) (t : Tree) → IsProperAs r (IsProper fs t)
    → IsProperAs (role_swapped b c r) (IsProper fs (with_renamed_as fs b c r t))
item_new-proper fs b c n of_head t p = tt
item_new-proper fs b c n of_binder t p = tt
item_new-proper fs b c n of_plain t p = p
item_new-proper fs b c n (of_body names) t p = by (list_any (bytes_eq b) names)
  where
    by : (a : Bool) → IsProper fs (if a then renamed fs b c t else t)
    by true = renamed-proper fs b c n t p
    by false = p

-- and leaves them proper
pub new-proper : (fs : List Form) (b c : List ℕ) → is_head fs c ≡ false → (rs : List Role) (ts : Trees) → AreProper fs rs ts
    → AreProper fs (map (role_swapped b c) rs) (with_renamed fs b c rs ts)
new-proper fs b c n rs nil p = tt
new-proper fs b c n [] (cons t ts) p = (p.0, new-proper fs b c n [] ts p.1)
new-proper fs b c n (r ∷ rs) (cons t ts) p = (item_new-proper fs b c n r t p.0, new-proper fs b c n rs ts p.1)

-- ---- what no body captures

-- Where x is free in a body that doesn't bind x, of the body's names only those that are still to be looked at may be free in v.
abbrev pub IsSafeAs : List Form → List ℕ → Tree → List (List ℕ) → Role → Tree → Type 0
IsSafeAs fs x v rest of_head t = Unit {0}
IsSafeAs fs x v rest of_binder t = Unit {0}
IsSafeAs fs x v rest of_plain t = Unit {0}
IsSafeAs fs x v rest (of_body names) t =
    (s : List ℕ) → list_any (bytes_eq s) names ≡ true → list_any (bytes_eq s) rest ≡ false → list_any (bytes_eq x) names ≡ false → is_free fs x t ≡ true
    → is_free fs s v ≡ false

abbrev pub AreSafe : List Form → List ℕ → Tree → List (List ℕ) → List Role → Trees → Type 0
AreSafe fs x v rest rs nil = Unit {0}
AreSafe fs x v rest rs (cons t ts) = IsSafeAs fs x v rest (first_role rs) t × AreSafe fs x v rest (other_roles rs) ts

-- a name among those with b replaced by c is c, or it is another of the names
swapped_from : (b c s : List ℕ) (names : List (List ℕ)) → list_any (bytes_eq s) (map (swapped b c) names) ≡ true → bytes_eq s c ≡ false
    → (list_any (bytes_eq s) names ≡ true) × (bytes_eq s b ≡ false)
swapped_from b c s [] h g = absurd (true≢false (sym h))
swapped_from b c s (y ∷ ys) h g = by (bytes_eq y b) refl h (λ k. swapped_from b c s ys k g)
  where
    later : (p : Bool) → (list_any (bytes_eq s) ys ≡ true) × (bytes_eq s b ≡ false) → ((p || list_any (bytes_eq s) ys) ≡ true) × (bytes_eq s b ≡ false)
    later p r = (or_second p (list_any (bytes_eq s) ys) r.0, r.1)

    here_or_later : bytes_eq y b ≡ false → (p : Bool) → bytes_eq s y ≡ p → (p || list_any (bytes_eq s) (map (swapped b c) ys)) ≡ true
        → (list_any (bytes_eq s) (map (swapped b c) ys) ≡ true → (list_any (bytes_eq s) ys ≡ true) × (bytes_eq s b ≡ false))
        → ((p || list_any (bytes_eq s) ys) ≡ true) × (bytes_eq s b ≡ false)
    here_or_later e true f k r = (refl, ap (λ (z : List ℕ). bytes_eq z b) (same_name s y f) ∙ e)
    here_or_later e false f k r = r k

    by : (a : Bool) → bytes_eq y b ≡ a → (bytes_eq s (if a then c else y) || list_any (bytes_eq s) (map (swapped b c) ys)) ≡ true
        → (list_any (bytes_eq s) (map (swapped b c) ys) ≡ true → (list_any (bytes_eq s) ys ≡ true) × (bytes_eq s b ≡ false))
        → ((bytes_eq s y || list_any (bytes_eq s) ys) ≡ true) × (bytes_eq s b ≡ false)
    by true e k r = later (bytes_eq s y) (r (sym (ap (λ (p : Bool). p || list_any (bytes_eq s) (map (swapped b c) ys)) g) ∙ k))
    by false e k r = here_or_later e (bytes_eq s y) refl k r

item_new-safe : (fs : List Form) (x : List ℕ) (v : Tree) (rest : List (List ℕ)) (b c : List ℕ) → is_head fs c ≡ false → bytes_eq x b ≡ false → bytes_eq c x ≡ false
    → list_any (bytes_eq c) (symbols_in v) ≡ false → (r : Role) (t : Tree) → DoesNotBind c r → IsProperAs r (IsProper fs t)
    → IsSafeAs fs x v (b ∷ rest) r t → IsSafeAs fs x v rest (role_swapped b c r) (with_renamed_as fs b c r t)
item_new-safe fs x v rest b c n xb cx cv of_head t q p h = tt
item_new-safe fs x v rest b c n xb cx cv of_binder t q p h = tt
item_new-safe fs x v rest b c n xb cx cv of_plain t q p h = tt
item_new-safe fs x v rest b c n xb cx cv (of_body names) t q p h = λ s m o k f. by s m o k f (bytes_eq s c) refl
  where
    by : (s : List ℕ) → list_any (bytes_eq s) (map (swapped b c) names) ≡ true → list_any (bytes_eq s) rest ≡ false
        → list_any (bytes_eq x) (map (swapped b c) names) ≡ false → is_free fs x (with_renamed_as fs b c (of_body names) t) ≡ true
        → (a : Bool) → bytes_eq s c ≡ a → is_free fs s v ≡ false
    by s m o k f true e = subst (λ (y : List ℕ). is_free fs y v ≡ false) (sym (same_name s c e)) (not_free fs c v cv)
    by s m o k f false e =
        let r = swapped_from b c s names m e in
        h s r.0 (none_of_both s (b ∷ []) rest (ap (λ (a : Bool). a || false) r.1) o) (sym (others_bound x b c names xb cx q) ∙ k)
        (sym (body_still_free fs x b c n xb cx t p (list_any (bytes_eq b) names)) ∙ f)

-- once a binder is renamed, only binders that come may capture
pub new-safe : (fs : List Form) (x : List ℕ) (v : Tree) (rest : List (List ℕ)) (b c : List ℕ) → is_head fs c ≡ false → bytes_eq x b ≡ false → bytes_eq c x ≡ false
    → list_any (bytes_eq c) (symbols_in v) ≡ false → (rs : List Role) (ts : Trees) → DoNotBind c rs → AreProper fs rs ts
    → AreSafe fs x v (b ∷ rest) rs ts → AreSafe fs x v rest (map (role_swapped b c) rs) (with_renamed fs b c rs ts)
new-safe fs x v rest b c n xb cx cv rs nil q p h = tt
new-safe fs x v rest b c n xb cx cv [] (cons t ts) q p h = (tt, new-safe fs x v rest b c n xb cx cv [] ts q p.1 h.1)
new-safe fs x v rest b c n xb cx cv (r ∷ rs) (cons t ts) q p h =
    (item_new-safe fs x v rest b c n xb cx cv r t q.0 p.0 h.0, new-safe fs x v rest b c n xb cx cv rs ts q.1 p.1 h.1)

-- ---- where b is not renamed

item_old-safe : (fs : List Form) (x : List ℕ) (v : Tree) (rest : List (List ℕ)) (b : List ℕ) (r : Role) (t : Tree)
    → (is_free fs b v ≡ true → captures_as fs x b r t ≡ false) → IsSafeAs fs x v (b ∷ rest) r t → IsSafeAs fs x v rest r t
item_old-safe fs x v rest b of_head t g h = tt
item_old-safe fs x v rest b of_binder t g h = tt
item_old-safe fs x v rest b of_plain t g h = tt
item_old-safe fs x v rest b (of_body names) t g h = λ s m o k f. by s m o k f (bytes_eq s b) refl
  where
    caught : list_any (bytes_eq b) names ≡ true → list_any (bytes_eq x) names ≡ false → is_free fs x t ≡ true → (a : Bool) → is_free fs b v ≡ a → is_free fs b v ≡ false
    caught m k f true e =
        absurd (not_both (captures_as fs x b (of_body names) t)
        (both (list_any (bytes_eq b) names) (not (list_any (bytes_eq x) names) && is_free fs x t) m (both (not (list_any (bytes_eq x) names)) (is_free fs x t) (ap not k) f))
        (g e))
    caught m k f false e = e

    by : (s : List ℕ) → list_any (bytes_eq s) names ≡ true → list_any (bytes_eq s) rest ≡ false → list_any (bytes_eq x) names ≡ false → is_free fs x t ≡ true
        → (a : Bool) → bytes_eq s b ≡ a → is_free fs s v ≡ false
    by s m o k f true e =
        let d : s ≡ b = same_name s b e in
        subst (λ (y : List ℕ). is_free fs y v ≡ false) (sym d)
        (caught (subst (λ (y : List ℕ). list_any (bytes_eq y) names ≡ true) d m) k f (is_free fs b v) refl)
    by s m o k f false e = h s m (none_of_both s (b ∷ []) rest (ap (λ (a : Bool). a || false) e) o) k f

-- so once one was passed over that captures nothing
pub old-safe : (fs : List Form) (x : List ℕ) (v : Tree) (rest : List (List ℕ)) (b : List ℕ) (rs : List Role) (ts : Trees)
    → (is_free fs b v ≡ true → captures fs x b rs ts ≡ false) → AreSafe fs x v (b ∷ rest) rs ts → AreSafe fs x v rest rs ts
old-safe fs x v rest b rs nil g h = tt
old-safe fs x v rest b rs (cons t ts) g h = (
  item_old-safe fs x v rest b (first_role rs) t (λ f. or_left (captures_as fs x b (first_role rs) t) (captures fs x b (other_roles rs) ts) (g f)) h.0,
  old-safe fs x v rest b (other_roles rs) ts (λ f. or_right (captures_as fs x b (first_role rs) t) (captures fs x b (other_roles rs) ts) (g f)) h.1,
)

-- ---- a binder that is renamed is not x

item_captures-differs : (fs : List Form) (x b : List ℕ) (r : Role) (t : Tree) → captures_as fs x b r t ≡ true → bytes_eq x b ≡ false
item_captures-differs fs x b of_head t h = absurd (true≢false (sym h))
item_captures-differs fs x b of_binder t h = absurd (true≢false (sym h))
item_captures-differs fs x b of_plain t h = absurd (true≢false (sym h))
item_captures-differs fs x b (of_body names) t h =
    let m = and_first (list_any (bytes_eq b) names) (not (list_any (bytes_eq x) names) && is_free fs x t) h in
    let k = and_second (list_any (bytes_eq b) names) (not (list_any (bytes_eq x) names) && is_free fs x t) h in
    among_differs x b names (not_true (list_any (bytes_eq x) names) (and_first (not (list_any (bytes_eq x) names)) (is_free fs x t) k)) m

-- a binder that captures is not x
pub captures-differs : (fs : List Form) (x b : List ℕ) (rs : List Role) (ts : Trees) → captures fs x b rs ts ≡ true → bytes_eq x b ≡ false
captures-differs fs x b rs nil h = absurd (true≢false (sym h))
captures-differs fs x b rs (cons t ts) h = by (captures_as fs x b (first_role rs) t) refl h (captures-differs fs x b (other_roles rs) ts)
  where
    by : (a : Bool) → captures_as fs x b (first_role rs) t ≡ a → (a || captures fs x b (other_roles rs) ts) ≡ true
        → (captures fs x b (other_roles rs) ts ≡ true → bytes_eq x b ≡ false) → bytes_eq x b ≡ false
    by true e k r = item_captures-differs fs x b (first_role rs) t e
    by false e k r = r k
