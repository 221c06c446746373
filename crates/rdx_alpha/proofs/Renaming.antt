-- A name replaced by one that is no symbol of a tree.
use Rattle.std.proofs.Common.{◌≡◌, ℕ, zero, suc, ◌+◌, ◌<◌, max, Bool, true, false, ◌||◌, ◌&&◌, not, List, [], ◌∷◌, Option, Some, None, refl, sym, ap, ◌∙◌, subst, true≢false, if◌then◌else◌, bytes_eq, arith}
use Rattle.std.specs.List.{list_any}
use Rattle.rdx_term.specs.Tree.{Tree, hole, integer, truth, text, symbol, list, Trees, nil, cons, tree_depth, trees_depth, tree_nodes, trees_nodes}
use Rattle.rdx_term.specs.Building.{list_of}
use Rattle.rdx_alpha.specs.Forms.{Form}
use Rattle.rdx_alpha.specs.Instances.{is_head, places_of, headed_by, is_well_headed, Role, of_head, of_binder, of_plain, of_body, roles, first_role, other_roles}
use Rattle.rdx_alpha.specs.Free.{is_free_as, is_free, is_free_among}
use Rattle.rdx_alpha.specs.Nameless.{several, more, bound_at, occurrence, around_item, nameless_as, nameless_in, nameless_among}
use Rattle.rdx_alpha.specs.Substitution.{changed_as, changed, symbols_in, symbols_among, captures, with_new, new_name, renamed_if_free, all_renamed, binders_as, binders_of, substituted_within}
use Rattle.rdx_alpha.proofs.NameFacts.{or_first, or_second, both, not_both, name_itself, same_name, names_turned, none_of_first, none_of_second, none_of_both, or_left, or_right, no_place}
use Rattle.rdx_alpha.proofs.Roles.{changed-roles}
use Rattle.rdx_alpha.proofs.NewNames.{DoesNotBind, DoNotBind, roles_do_not_bind, none_of_binders}
use Rattle.rdx_alpha.proofs.Agreement.{hidden_or_same, nameless-agrees}

-- ---- trees in which each list is well headed

-- so in an item with this role, of which it is known whether it is so by itself
abbrev pub IsProperAs : Role → Type 0 → Type 0
IsProperAs of_head P = Unit {0}
IsProperAs of_binder P = Unit {0}
IsProperAs of_plain P = P
IsProperAs (of_body names) P = P

-- each list that is no binder place is headed by no form's head, or is an instance
abbrev mutual
  pub IsProper : List Form → Tree → Type 0
  IsProper fs hole = Unit {0}
  IsProper fs (integer n) = Unit {0}
  IsProper fs (truth b) = Unit {0}
  IsProper fs (text s) = Unit {0}
  IsProper fs (symbol s) = Unit {0}
  IsProper fs (list m ts) = (is_well_headed fs ts ≡ true) × AreProper fs (roles fs ts) ts

  pub AreProper : List Form → List Role → Trees → Type 0
  AreProper fs rs nil = Unit {0}
  AreProper fs rs (cons t ts) = IsProperAs (first_role rs) (IsProper fs t) × AreProper fs (other_roles rs) ts

-- ---- a name replaced

-- c for each free b, with no other change
abbrev mutual
  pub renamed : List Form → List ℕ → List ℕ → Tree → Tree
  renamed fs b c hole = hole
  renamed fs b c (integer n) = integer n
  renamed fs b c (truth a) = truth a
  renamed fs b c (text s) = text s
  renamed fs b c (symbol s) = if bytes_eq s b then symbol c else symbol s
  renamed fs b c (list m ts) = list_of (renamed_among fs b c (roles fs ts) ts)

  pub renamed_among : List Form → List ℕ → List ℕ → List Role → Trees → Trees
  renamed_among fs b c rs nil = nil
  renamed_among fs b c rs (cons t ts) = cons (changed_as b (first_role rs) t (renamed fs b c t)) (renamed_among fs b c (other_roles rs) ts)

renamed_among-changed : (fs : List Form) (b c : List ℕ) (rs : List Role) (ts : Trees) → renamed_among fs b c rs ts ≡ changed (renamed fs b c) b rs ts
renamed_among-changed fs b c rs nil = refl
renamed_among-changed fs b c rs (cons t ts) = ap (cons (changed_as b (first_role rs) t (renamed fs b c t))) (renamed_among-changed fs b c (other_roles rs) ts)

-- what is no head has no places
pub no_places : (fs : List Form) (k : List ℕ) → is_head fs k ≡ false → places_of fs k ≡ None
no_places [] k h = refl
no_places (f ∷ fs) k h = by (bytes_eq k f.head) h (no_places fs k)
  where
    by : (b : Bool) → (b || is_head fs k) ≡ false → (is_head fs k ≡ false → places_of fs k ≡ None) → (if b then Some f.places else places_of fs k) ≡ None
    by true e r = absurd (true≢false e)
    by false e r = r e

-- what is headed by no form's head still isn't
pub renamed-unheaded : (fs : List Form) (b c : List ℕ) → is_head fs c ≡ false → (t : Tree) → headed_by fs t ≡ None → headed_by fs (renamed fs b c t) ≡ None
renamed-unheaded fs b c n hole h = refl
renamed-unheaded fs b c n (integer k) h = refl
renamed-unheaded fs b c n (truth a) h = refl
renamed-unheaded fs b c n (text s) h = refl
renamed-unheaded fs b c n (symbol s) h = by (bytes_eq s b)
  where
    by : (p : Bool) → headed_by fs (if p then symbol c else symbol s) ≡ None
    by true = no_places fs c n
    by false = h
renamed-unheaded fs b c n (list m ts) h = refl

-- a list keeps the roles of its items, and is well headed
pub renamed-roles : (fs : List Form) (b c : List ℕ) (ts : Trees) → is_head fs c ≡ false → is_well_headed fs ts ≡ true
    → (roles fs (renamed_among fs b c (roles fs ts) ts) ≡ roles fs ts) × (is_well_headed fs (renamed_among fs b c (roles fs ts) ts) ≡ true)
renamed-roles fs b c ts n w =
    subst (λ (us : Trees). (roles fs us ≡ roles fs ts) × (is_well_headed fs us ≡ true)) (sym (renamed_among-changed fs b c (roles fs ts) ts))
    (changed-roles fs (renamed fs b c) b ts (renamed-unheaded fs b c n) w)

-- ---- what stays

item-proper : (fs : List Form) (b : List ℕ) (r : Role) (t u : Tree) → IsProperAs r (IsProper fs t) → (IsProper fs t → IsProper fs u)
    → IsProperAs r (IsProper fs (changed_as b r t u))
item-proper fs b of_head t u h g = tt
item-proper fs b of_binder t u h g = tt
item-proper fs b of_plain t u h g = g h
item-proper fs b (of_body names) t u h g = by (list_any (bytes_eq b) names)
  where
    by : (p : Bool) → IsProper fs (if p then t else u)
    by true = h
    by false = g h

mutual
  -- c for b, where c is no head, leaves a tree proper
  pub renamed-proper : (fs : List Form) (b c : List ℕ) → is_head fs c ≡ false → (t : Tree) → IsProper fs t → IsProper fs (renamed fs b c t)
  renamed-proper fs b c n hole h = tt
  renamed-proper fs b c n (integer k) h = tt
  renamed-proper fs b c n (truth a) h = tt
  renamed-proper fs b c n (text s) h = tt
  renamed-proper fs b c n (symbol s) h = by (bytes_eq s b)
    where
      by : (p : Bool) → IsProper fs (if p then symbol c else symbol s)
      by true = tt
      by false = tt
  renamed-proper fs b c n (list m ts) h =
      let e = renamed-roles fs b c ts n h.0 in
      (e.1, subst (λ (rs : List Role). AreProper fs rs (renamed_among fs b c (roles fs ts) ts)) (sym e.0) (renamed_among-proper fs b c n (roles fs ts) ts h.1))

  renamed_among-proper : (fs : List Form) (b c : List ℕ) → is_head fs c ≡ false → (rs : List Role) (ts : Trees) → AreProper fs rs ts
      → AreProper fs rs (renamed_among fs b c rs ts)
  renamed_among-proper fs b c n rs nil h = tt
  renamed_among-proper fs b c n rs (cons t ts) h =
      (item-proper fs b (first_role rs) t (renamed fs b c t) h.0 (renamed-proper fs b c n t), renamed_among-proper fs b c n (other_roles rs) ts h.1)

-- the depth and the nodes
pub changed_as-measure : (f : Tree → ℕ) (b : List ℕ) (r : Role) (t u : Tree) → f u ≡ f t → f (changed_as b r t u) ≡ f t
changed_as-measure f b of_head t u h = refl
changed_as-measure f b of_binder t u h = refl
changed_as-measure f b of_plain t u h = h
changed_as-measure f b (of_body names) t u h = by (list_any (bytes_eq b) names)
  where
    by : (p : Bool) → f (if p then t else u) ≡ f t
    by true = refl
    by false = h

mutual
  -- and as deep
  pub renamed-depth : (fs : List Form) (b c : List ℕ) (t : Tree) → tree_depth (renamed fs b c t) ≡ tree_depth t
  renamed-depth fs b c hole = refl
  renamed-depth fs b c (integer k) = refl
  renamed-depth fs b c (truth a) = refl
  renamed-depth fs b c (text s) = refl
  renamed-depth fs b c (symbol s) = by (bytes_eq s b)
    where
      by : (p : Bool) → tree_depth (if p then symbol c else symbol s) ≡ 0
      by true = refl
      by false = refl
  renamed-depth fs b c (list m ts) = ap (λ d. d + 1) (renamed_among-depth fs b c (roles fs ts) ts)

  renamed_among-depth : (fs : List Form) (b c : List ℕ) (rs : List Role) (ts : Trees) → trees_depth (renamed_among fs b c rs ts) ≡ trees_depth ts
  renamed_among-depth fs b c rs nil = refl
  renamed_among-depth fs b c rs (cons t ts) =
      let e = changed_as-measure tree_depth b (first_role rs) t (renamed fs b c t) (renamed-depth fs b c t) in
      let f = renamed_among-depth fs b c (other_roles rs) ts in
      λ i. max (e i) (f i)

mutual
  -- and with as many nodes
  pub renamed-nodes : (fs : List Form) (b c : List ℕ) (t : Tree) → tree_nodes (renamed fs b c t) ≡ tree_nodes t
  renamed-nodes fs b c hole = refl
  renamed-nodes fs b c (integer k) = refl
  renamed-nodes fs b c (truth a) = refl
  renamed-nodes fs b c (text s) = refl
  renamed-nodes fs b c (symbol s) = by (bytes_eq s b)
    where
      by : (p : Bool) → tree_nodes (if p then symbol c else symbol s) ≡ 1
      by true = refl
      by false = refl
  renamed-nodes fs b c (list m ts) = ap (λ d. d + 1) (renamed_among-nodes fs b c (roles fs ts) ts)

  renamed_among-nodes : (fs : List Form) (b c : List ℕ) (rs : List Role) (ts : Trees) → trees_nodes (renamed_among fs b c rs ts) ≡ trees_nodes ts
  renamed_among-nodes fs b c rs nil = refl
  renamed_among-nodes fs b c rs (cons t ts) =
      let e = changed_as-measure tree_nodes b (first_role rs) t (renamed fs b c t) (renamed-nodes fs b c t) in
      let f = renamed_among-nodes fs b c (other_roles rs) ts in
      λ i. e i + f i

-- which other names are free
item-free : (fs : List Form) (x b : List ℕ) (r : Role) (t u : Tree) → is_free fs x u ≡ is_free fs x t
    → is_free_as x r (is_free fs x (changed_as b r t u)) ≡ is_free_as x r (is_free fs x t)
item-free fs x b of_head t u h = refl
item-free fs x b of_binder t u h = refl
item-free fs x b of_plain t u h = h
item-free fs x b (of_body names) t u h = by (list_any (bytes_eq b) names)
  where
    by : (p : Bool) → is_free_as x (of_body names) (is_free fs x (if p then t else u)) ≡ is_free_as x (of_body names) (is_free fs x t)
    by true = refl
    by false = ap (is_free_as x (of_body names)) h

mutual
  -- and other symbols free where they were
  pub renamed-free : (fs : List Form) (x b c : List ℕ) → is_head fs c ≡ false → bytes_eq x b ≡ false → bytes_eq x c ≡ false → (t : Tree) → IsProper fs t
      → is_free fs x (renamed fs b c t) ≡ is_free fs x t
  renamed-free fs x b c n xb xc hole h = refl
  renamed-free fs x b c n xb xc (integer k) h = refl
  renamed-free fs x b c n xb xc (truth a) h = refl
  renamed-free fs x b c n xb xc (text s) h = refl
  renamed-free fs x b c n xb xc (symbol s) h = by (bytes_eq s b) refl
    where
      by : (p : Bool) → bytes_eq s b ≡ p → is_free fs x (if p then symbol c else symbol s) ≡ bytes_eq s x
      by true e = names_turned x c false xc ∙ sym (ap (λ (y : List ℕ). bytes_eq y x) (same_name s b e) ∙ names_turned x b false xb)
      by false e = refl
  renamed-free fs x b c n xb xc (list m ts) h =
      ap (λ (rs : List Role). is_free_among fs x rs (renamed_among fs b c (roles fs ts) ts)) (renamed-roles fs b c ts n h.0).0
      ∙ renamed_among-free fs x b c n xb xc (roles fs ts) ts h.1

  renamed_among-free : (fs : List Form) (x b c : List ℕ) → is_head fs c ≡ false → bytes_eq x b ≡ false → bytes_eq x c ≡ false → (rs : List Role) (ts : Trees)
      → AreProper fs rs ts → is_free_among fs x rs (renamed_among fs b c rs ts) ≡ is_free_among fs x rs ts
  renamed_among-free fs x b c n xb xc rs nil h = refl
  renamed_among-free fs x b c n xb xc rs (cons t ts) h =
      let e = item-free_proper fs x b (first_role rs) t (renamed fs b c t) h.0 (renamed-free fs x b c n xb xc t) in
      let f = renamed_among-free fs x b c n xb xc (other_roles rs) ts h.1 in
      λ i. e i || f i
    where
      item-free_proper : (fs : List Form) (x b : List ℕ) (r : Role) (t u : Tree) → IsProperAs r (IsProper fs t) → (IsProper fs t → is_free fs x u ≡ is_free fs x t)
          → is_free_as x r (is_free fs x (changed_as b r t u)) ≡ is_free_as x r (is_free fs x t)
      item-free_proper fs x b of_head t u h g = refl
      item-free_proper fs x b of_binder t u h g = refl
      item-free_proper fs x b of_plain t u h g = g h
      item-free_proper fs x b (of_body names) t u h g = item-free fs x b (of_body names) t u (g h)

-- ---- without names

-- What b means among the first bodies, c means among the others, and each other name that is free means the same.
pub record Renames (b c : List ℕ) (one two : List (List (List ℕ))) (IsFree : List ℕ → Type 0) : Type 0 where
  pub others : (s : List ℕ) → IsFree s → bytes_eq s b ≡ false → (d : ℕ) → occurrence d two s ≡ occurrence d one s
  pub new : (d : ℕ) → occurrence d two c ≡ occurrence d one b

item-renamed : (fs : List Form) (b c : List ℕ) (r : Role) (t u : Tree) (one two : List (List (List ℕ))) → DoesNotBind c r → IsProperAs r (IsProper fs t)
    → Renames b c one two (λ s. is_free_as s r (is_free fs s t) ≡ true)
    → (IsProper fs t → Renames b c (around_item r one) (around_item r two) (λ s. is_free fs s t ≡ true)
    → nameless_in fs (around_item r two) u ≡ nameless_in fs (around_item r one) t)
    → nameless_as r (changed_as b r t u) (nameless_in fs (around_item r two) (changed_as b r t u)) ≡ nameless_as r t (nameless_in fs (around_item r one) t)
item-renamed fs b c of_head t u one two q p h g = refl
item-renamed fs b c of_binder t u one two q p h g = refl
item-renamed fs b c of_plain t u one two q p h g = g p h
item-renamed fs b c (of_body names) t u one two q p h g = by (list_any (bytes_eq b) names) refl
  where
    free_around : (s : List ℕ) → is_free fs s t ≡ true → list_any (bytes_eq s) names ≡ false → is_free_as s (of_body names) (is_free fs s t) ≡ true
    free_around s f e = both (not (list_any (bytes_eq s) names)) (is_free fs s t) (ap not e) f

    other_name : (s : List ℕ) → list_any (bytes_eq b) names ≡ true → list_any (bytes_eq s) names ≡ false → (a : Bool) → bytes_eq s b ≡ a → bytes_eq s b ≡ false
    other_name s e f true k = absurd (not_both (list_any (bytes_eq b) names) e (subst (λ (y : List ℕ). list_any (bytes_eq y) names ≡ false) (same_name s b k) f))
    other_name s e f false k = k

    by : (a : Bool) → list_any (bytes_eq b) names ≡ a → nameless_in fs (names ∷ two) (if a then t else u) ≡ nameless_in fs (names ∷ one) t
    by true e =
        nameless-agrees fs t (names ∷ two) (names ∷ one)
        (λ s f. hidden_or_same names two one s (λ k. h.others s (free_around s f k) (other_name s e k (bytes_eq s b) refl)))
    by false e = g p (record {
      others = λ s f k. hidden_or_same names two one s (λ l. h.others s (free_around s f l) k);
      new = λ d. ap (λ (o : Option ℕ). bound_at d o (occurrence (suc d) two c)) (no_place c names q) ∙ h.new (suc d)
          ∙ sym (ap (λ (o : Option ℕ). bound_at d o (occurrence (suc d) one b)) (no_place b names e));
    })

-- where c is no symbol of a tree, it stays the same without names
mutual
  -- c for b gives the same without names, among bodies where c means what b meant
  pub renamed-nameless : (fs : List Form) (b c : List ℕ) → is_head fs c ≡ false → (t : Tree) (one two : List (List (List ℕ))) → IsProper fs t
      → list_any (bytes_eq c) (symbols_in t) ≡ false → Renames b c one two (λ s. is_free fs s t ≡ true)
      → nameless_in fs two (renamed fs b c t) ≡ nameless_in fs one t
  renamed-nameless fs b c n hole one two p q h = refl
  renamed-nameless fs b c n (integer k) one two p q h = refl
  renamed-nameless fs b c n (truth a) one two p q h = refl
  renamed-nameless fs b c n (text s) one two p q h = refl
  renamed-nameless fs b c n (symbol s) one two p q h = by (bytes_eq s b) refl
    where
      by : (a : Bool) → bytes_eq s b ≡ a → nameless_in fs two (if a then symbol c else symbol s) ≡ occurrence 0 one s
      by true e = h.new 0 ∙ sym (ap (occurrence 0 one) (same_name s b e))
      by false e = h.others s (name_itself s) e 0
  renamed-nameless fs b c n (list m ts) one two p q h =
      ap several (ap (λ (rs : List Role). nameless_among fs two rs (renamed_among fs b c (roles fs ts) ts)) (renamed-roles fs b c ts n p.0).0
      ∙ renamed_among-nameless fs b c n (roles fs ts) ts one two (roles_do_not_bind fs c ts q) p.1 q h)

  pub renamed_among-nameless : (fs : List Form) (b c : List ℕ) → is_head fs c ≡ false → (rs : List Role) (ts : Trees) (one two : List (List (List ℕ)))
      → DoNotBind c rs → AreProper fs rs ts
      → list_any (bytes_eq c) (symbols_among ts) ≡ false → Renames b c one two (λ s. is_free_among fs s rs ts ≡ true)
      → nameless_among fs two rs (renamed_among fs b c rs ts) ≡ nameless_among fs one rs ts
  renamed_among-nameless fs b c n rs nil one two o p q h = refl
  renamed_among-nameless fs b c n [] (cons t ts) one two o p q h =
      let e = item-renamed fs b c of_plain t (renamed fs b c t) one two tt p.0
      (record {
        others = λ s f. h.others s (or_first (is_free fs s t) (is_free_among fs s [] ts) f);
        new = h.new;
      }) (λ k l. renamed-nameless fs b c n t one two k (none_of_first c (symbols_in t) (symbols_among ts) q) l) in
      let g = renamed_among-nameless fs b c n [] ts one two tt p.1 (none_of_second c (symbols_in t) (symbols_among ts) q)
      (record {
        others = λ s f. h.others s (or_second (is_free fs s t) (is_free_among fs s [] ts) f);
        new = h.new;
      }) in
      λ i. more (e i) (g i)
  renamed_among-nameless fs b c n (r ∷ rs) (cons t ts) one two o p q h =
      let e = item-renamed fs b c r t (renamed fs b c t) one two o.0 p.0
      (record {
        others = λ s f. h.others s (or_first (is_free_as s r (is_free fs s t)) (is_free_among fs s rs ts) f);
        new = h.new;
      }) (λ k l. renamed-nameless fs b c n t (around_item r one) (around_item r two) k (none_of_first c (symbols_in t) (symbols_among ts) q) l) in
      let g = renamed_among-nameless fs b c n rs ts one two o.1 p.1 (none_of_second c (symbols_in t) (symbols_among ts) q)
      (record {
        others = λ s f. h.others s (or_second (is_free_as s r (is_free fs s t)) (is_free_among fs s rs ts) f);
        new = h.new;
      }) in
      λ i. more (e i) (g i)

-- ---- substitution of such a name

-- no binder is renamed where c is none of them
nothing_renamed : (S : List ℕ → Tree → Tree → Tree) (fs : List Form) (b c : List ℕ) (bs : List (List ℕ)) (ts : Trees) → list_any (bytes_eq c) bs ≡ false
    → all_renamed S fs b (symbol c) bs ts ≡ ts
nothing_renamed S fs b c [] ts h = refl
nothing_renamed S fs b c (y ∷ ys) ts h =
    let e : renamed_if_free S fs b (symbol c) y ts ≡ ts =
    ap (λ (p : Bool). if p && captures fs b y (roles fs ts) ts then with_new S y (new_name fs b (symbol c) ts y) (roles fs ts) ts else ts)
    (or_left (bytes_eq c y) (list_any (bytes_eq c) ys) h) in
    ap (all_renamed S fs b (symbol c) ys) e ∙ nothing_renamed S fs b c ys ts (or_right (bytes_eq c y) (list_any (bytes_eq c) ys) h)

none_as : (c : List ℕ) (r : Role) (t : Tree) → list_any (bytes_eq c) (symbols_in t) ≡ false → list_any (bytes_eq c) (binders_as r t) ≡ false
none_as c of_head t h = refl
none_as c of_binder t h = none_of_binders c t h
none_as c of_plain t h = refl
none_as c (of_body names) t h = refl

-- what is no symbol of some items is none of their binders
pub none_of_binders_of : (c : List ℕ) (rs : List Role) (ts : Trees) → list_any (bytes_eq c) (symbols_among ts) ≡ false → list_any (bytes_eq c) (binders_of rs ts) ≡ false
none_of_binders_of c rs nil h = refl
none_of_binders_of c rs (cons t ts) h =
    none_of_both c (binders_as (first_role rs) t) (binders_of (other_roles rs) ts)
    (none_as c (first_role rs) t (none_of_first c (symbols_in t) (symbols_among ts) h))
    (none_of_binders_of c (other_roles rs) ts (none_of_second c (symbols_in t) (symbols_among ts) h))

-- Of a list only names are replaced, where this is so of its items.
renamed_items : (fs : List Form) (b c : List ℕ) (g : Tree → Tree) (n : ℕ)
    → ((t : Tree) → tree_depth t < n → list_any (bytes_eq c) (symbols_in t) ≡ false → g t ≡ renamed fs b c t) → (rs : List Role) (ts : Trees)
    → trees_depth ts < n → list_any (bytes_eq c) (symbols_among ts) ≡ false → changed g b rs ts ≡ renamed_among fs b c rs ts
renamed_items fs b c g n h rs nil l q = refl
renamed_items fs b c g n h rs (cons t ts) l q =
    let e = h t (omega arith) (none_of_first c (symbols_in t) (symbols_among ts) q) in
    let f = renamed_items fs b c g n h (other_roles rs) ts (omega arith) (none_of_second c (symbols_in t) (symbols_among ts) q) in
    λ i. cons (changed_as b (first_role rs) t (e i)) (f i)

-- A name that is no symbol of a tree is put for another without any other change.
pub renamed_by_substitution : (fs : List Form) (b c : List ℕ) (n : ℕ) (t : Tree) → tree_depth t < n → list_any (bytes_eq c) (symbols_in t) ≡ false
    → substituted_within n fs b (symbol c) t ≡ renamed fs b c t
renamed_by_substitution fs b c zero t l q = absurd (omega arith)
renamed_by_substitution fs b c (suc n) hole l q = refl
renamed_by_substitution fs b c (suc n) (integer k) l q = refl
renamed_by_substitution fs b c (suc n) (truth a) l q = refl
renamed_by_substitution fs b c (suc n) (text s) l q = refl
renamed_by_substitution fs b c (suc n) (symbol s) l q = refl
renamed_by_substitution fs b c (suc n) (list m ts) l q =
    let S : List ℕ → Tree → Tree → Tree = substituted_within n fs in
    ap (λ (us : Trees). list_of (changed (S b (symbol c)) b (roles fs us) us))
    (nothing_renamed S fs b c (binders_of (roles fs ts) ts) ts (none_of_binders_of c (roles fs ts) ts q))
    ∙ ap list_of (renamed_items fs b c (S b (symbol c)) n (renamed_by_substitution fs b c n) (roles fs ts) ts (omega arith) q)
