-- All binders of an instance renamed, as substitution has it.
use Rattle.std.proofs.Common.{◌≡◌, ℕ, suc, ◌+◌, ◌<◌, ◌≤◌, ◌^◌, Bool, true, false, ◌||◌, ◌&&◌, List, [], ◌∷◌, ◌++◌, map, length, Option, Some, refl, sym, ap, ◌∙◌, subst, if◌then◌else◌, bytes_eq, nat_eq, arith}
use Rattle.std.proofs.lemmas.List.{length-append}
use Rattle.std.specs.List.{list_any}
use Rattle.rdx_term.specs.Tree.{Tree, hole, integer, truth, text, symbol, list, Trees, nil, cons, tree_depth, trees_depth, tree_nodes, trees_nodes}
use Rattle.rdx_lang.proofs.VariantLaws.{first_is_free}
use Rattle.rdx_alpha.specs.Forms.{Place, binder, binders, plain, body, Form}
use Rattle.rdx_alpha.specs.Instances.{is_head, headed_by, names_at, all_names, names_from, bound_names, is_instance, Role, of_head, of_binder, of_plain, of_body, place_roles, plain_roles, roles_by, roles, first_role, other_roles}
use Rattle.rdx_alpha.specs.Free.{is_free, is_free_among}
use Rattle.rdx_alpha.specs.Nameless.{nameless_among}
use Rattle.rdx_alpha.specs.Substitution.{symbols_in, symbols_among, heads, new_name, with_new_as, with_new, captures, renamed_if_free, all_renamed, binders_of, substituted_within}
use Rattle.rdx_alpha.proofs.NameFacts.{or_left, or_right, not_both, none_of_first, none_of_second, none_of_both}
use Rattle.rdx_alpha.proofs.Roles.{instance_roles}
use Rattle.rdx_alpha.proofs.NewNames.{role_swapped, new-place_roles, new-instance, none_of_all, places_do_not_bind}
use Rattle.rdx_alpha.proofs.Renaming.{AreProper, renamed, renamed_by_substitution}
use Rattle.rdx_alpha.proofs.OneName.{with_renamed, new-nameless, new-free, new-depth, new-nodes, new-proper, AreSafe, new-safe, old-safe, captures-differs}

-- ---- new names

-- there are no more symbols than nodes
mutual
  symbols_few : (t : Tree) → length (symbols_in t) ≤ tree_nodes t
  symbols_few hole = omega arith
  symbols_few (integer n) = omega arith
  symbols_few (truth b) = omega arith
  symbols_few (text s) = omega arith
  symbols_few (symbol s) = omega arith
  symbols_few (list m ts) = let h : length (symbols_among ts) ≤ trees_nodes ts = all_symbols_few ts in omega arith

  all_symbols_few : (ts : Trees) → length (symbols_among ts) ≤ trees_nodes ts
  all_symbols_few nil = omega arith
  all_symbols_few (cons t ts) =
      let h : length (symbols_in t) ≤ tree_nodes t = symbols_few t in
      let g : length (symbols_among ts) ≤ trees_nodes ts = all_symbols_few ts in
      let e : length (symbols_in t ++ symbols_among ts) ≡ length (symbols_in t) + length (symbols_among ts) = length-append (symbols_in t) (symbols_among ts) in
      omega arith

length-heads : (fs : List Form) → length (heads fs) ≡ length fs
length-heads [] = refl
length-heads (f ∷ fs) = ap suc (length-heads fs)

head_among : (fs : List Form) (c : List ℕ) → list_any (bytes_eq c) (heads fs) ≡ is_head fs c
head_among [] c = refl
head_among (f ∷ fs) c = ap (λ (b : Bool). bytes_eq c f.head || b) (head_among fs c)

-- c is no symbol of the items or of v, not x, and no head
pub record IsNew (fs : List Form) (x : List ℕ) (v : Tree) (ts : Trees) (c : List ℕ) : Type 0 where
  pub of_items : list_any (bytes_eq c) (symbols_among ts) ≡ false
  pub of_value : list_any (bytes_eq c) (symbols_in v) ≡ false
  pub of_name : bytes_eq c x ≡ false
  pub no_head : is_head fs c ≡ false

-- so is the new name
pub new_name-new : (fs : List Form) (x : List ℕ) (v : Tree) (ts : Trees) (b : List ℕ) → trees_nodes ts + tree_nodes v + length fs + 1 < 10 ^ 64
    → IsNew fs x v ts (new_name fs x v ts b)
new_name-new fs x v ts b small =
    let all : List (List ℕ) = symbols_among ts ++ symbols_in v in
    let behind : List (List ℕ) = x ∷ heads fs in
    let e : length (all ++ behind) ≡ length all + length behind = length-append all behind in
    let f : length all ≡ length (symbols_among ts) + length (symbols_in v) = length-append (symbols_among ts) (symbols_in v) in
    let g : length (symbols_among ts) ≤ trees_nodes ts = all_symbols_few ts in
    let h : length (symbols_in v) ≤ tree_nodes v = symbols_few v in
    let k : length (heads fs) ≡ length fs = length-heads fs in
    let few : length (all ++ behind) < 10 ^ 64 = omega arith in
    let c : List ℕ = new_name fs x v ts b in
    let none : list_any (bytes_eq c) (all ++ behind) ≡ false = (first_is_free b (all ++ behind) few).free in
    let first : list_any (bytes_eq c) all ≡ false = none_of_first c all behind none in
    let second : list_any (bytes_eq c) behind ≡ false = none_of_second c all behind none in
    record {
      of_items = none_of_first c (symbols_among ts) (symbols_in v) first;
      of_value = none_of_second c (symbols_among ts) (symbols_in v) first;
      of_name = or_left (bytes_eq c x) (list_any (bytes_eq c) (heads fs)) second;
      no_head = sym (head_among fs c) ∙ or_right (bytes_eq c x) (list_any (bytes_eq c) (heads fs)) second;
    }

-- ---- one binder

-- in bodies substitution only replaces names
new_item : (fs : List Form) (b c : List ℕ) (n : ℕ) (r : Role) (t : Tree) → tree_depth t < n → list_any (bytes_eq c) (symbols_in t) ≡ false
    → with_new_as (substituted_within n fs) b c r t ≡ with_new_as (λ y w u. renamed fs b c u) b c r t
new_item fs b c n of_head t l q = refl
new_item fs b c n of_binder t l q = refl
new_item fs b c n of_plain t l q = refl
new_item fs b c n (of_body names) t l q = ap (λ (u : Tree). if list_any (bytes_eq b) names then u else t) (renamed_by_substitution fs b c n t l q)

new_items : (fs : List Form) (b c : List ℕ) (n : ℕ) (rs : List Role) (ts : Trees) → trees_depth ts < n → list_any (bytes_eq c) (symbols_among ts) ≡ false
    → with_new (substituted_within n fs) b c rs ts ≡ with_renamed fs b c rs ts
new_items fs b c n rs nil l q = refl
new_items fs b c n rs (cons t ts) l q =
    let e = new_item fs b c n (first_role rs) t (omega arith) (none_of_first c (symbols_in t) (symbols_among ts) q) in
    let f = new_items fs b c n (other_roles rs) ts (omega arith) (none_of_second c (symbols_in t) (symbols_among ts) q) in
    λ i. cons (e i) (f i)

-- What is kept of the items behind the head k of an instance while the binders in `rest` are still to be looked at.
pub record IsReady (fs : List Form) (x : List ℕ) (v : Tree) (ps : List Place) (n : ℕ) (k : Tree) (rest : List (List ℕ)) (us : Trees) : Type 0 where
  pub instance : is_instance ps us ≡ true
  pub proper : AreProper fs (place_roles ps us ps) us
  pub small : trees_nodes (cons k us) + tree_nodes v + length fs + 1 < 10 ^ 64
  pub shallow : trees_depth us < n
  pub safe : AreSafe fs x v rest (place_roles ps us ps) us

-- the items are as others were
pub record IsAlike (fs : List Form) (x : List ℕ) (ps : List Place) (us vs : Trees) : Type 0 where
  pub without_names : (around : List (List (List ℕ))) → nameless_among fs around (place_roles ps vs ps) vs ≡ nameless_among fs around (place_roles ps us ps) us
  pub same_free : is_free_among fs x (place_roles ps vs ps) vs ≡ is_free_among fs x (place_roles ps us ps) us

-- the roles in an instance
pub roles_of_instance : (fs : List Form) (ps : List Place) (k : Tree) (us : Trees) → headed_by fs k ≡ Some ps → is_instance ps us ≡ true
    → roles fs (cons k us) ≡ of_head ∷ place_roles ps us ps
roles_of_instance fs ps k us h i = ap (λ (o : Option (List Place)). roles_by o us) h ∙ instance_roles ps us i

-- what one binder makes of the items
pub record OneMore (fs : List Form) (x : List ℕ) (v : Tree) (ps : List Place) (n : ℕ) (k : Tree) (rest : List (List ℕ)) (us : Trees) (made : Trees) : Type 0 where
  pub items : Trees
  pub is : made ≡ cons k items
  pub ready : IsReady fs x v ps n k rest items
  pub alike : IsAlike fs x ps us items

renamed_one : (fs : List Form) (x : List ℕ) (v : Tree) (ps : List Place) (n : ℕ) (k : Tree) (b : List ℕ) (rest : List (List ℕ)) (us : Trees) (c : List ℕ)
    → IsNew fs x v (cons k us) c → IsReady fs x v ps n k (b ∷ rest) us → captures fs x b (place_roles ps us ps) us ≡ true
    → OneMore fs x v ps n k rest us (cons k (with_new (substituted_within n fs) b c (place_roles ps us ps) us))
renamed_one fs x v ps n k b rest us c new ready captured =
    let R : List Role = place_roles ps us ps in
    let vs : Trees = with_renamed fs b c R us in
    let q : list_any (bytes_eq c) (symbols_among us) ≡ false = none_of_second c (symbols_in k) (symbols_among us) new.of_items in
    let same : with_new (substituted_within n fs) b c R us ≡ vs = new_items fs b c n R us ready.shallow q in
    let xb : bytes_eq x b ≡ false = captures-differs fs x b R us captured in
    let unbound = places_do_not_bind c ps us q in
    let swap : place_roles ps vs ps ≡ map (role_swapped b c) R = new-place_roles (λ y w u. renamed fs b c u) b c ps us in
    let deep : trees_depth vs ≡ trees_depth us = new-depth fs b c R us in
    let large : trees_nodes vs ≡ trees_nodes us = new-nodes fs b c R us in
    let l : trees_depth us < n = ready.shallow in
    let s : trees_nodes (cons k us) + tree_nodes v + length fs + 1 < 10 ^ 64 = ready.small in
    record {
      items = vs;
      is = ap (cons k) same;
      ready = record {
        instance = new-instance (λ y w u. renamed fs b c u) b c ps us (none_of_all c ps us q) ∙ ready.instance;
        proper = subst (λ (rs : List Role). AreProper fs rs vs) (sym swap) (new-proper fs b c new.no_head R us ready.proper);
        small = omega arith;
        shallow = omega arith;
        safe = subst (λ (rs : List Role). AreSafe fs x v rest rs vs) (sym swap)
            (new-safe fs x v rest b c new.no_head xb new.of_name new.of_value R us unbound ready.proper ready.safe);
      };
      alike = record {
        without_names = λ around. ap (λ (rs : List Role). nameless_among fs around rs vs) swap ∙ new-nameless fs b c new.no_head R us around unbound ready.proper q;
        same_free = ap (λ (rs : List Role). is_free_among fs x rs vs) swap ∙ new-free fs x b c new.no_head xb new.of_name R us unbound ready.proper;
      };
    }

kept_one : (fs : List Form) (x : List ℕ) (v : Tree) (ps : List Place) (n : ℕ) (k : Tree) (b : List ℕ) (rest : List (List ℕ)) (us : Trees)
    → IsReady fs x v ps n k (b ∷ rest) us → (is_free fs b v ≡ true → captures fs x b (place_roles ps us ps) us ≡ false)
    → OneMore fs x v ps n k rest us (cons k us)
kept_one fs x v ps n k b rest us ready uncaught = record {
  items = us;
  is = refl;
  ready = record {
    instance = ready.instance;
    proper = ready.proper;
    small = ready.small;
    shallow = ready.shallow;
    safe = old-safe fs x v rest b (place_roles ps us ps) us uncaught ready.safe;
  };
  alike = record { without_names = λ around. refl; same_free = refl };
}

one_more : (fs : List Form) (x : List ℕ) (v : Tree) (ps : List Place) (n : ℕ) (k : Tree) → headed_by fs k ≡ Some ps → (b : List ℕ) (rest : List (List ℕ)) (us : Trees)
    → IsReady fs x v ps n k (b ∷ rest) us → OneMore fs x v ps n k rest us (renamed_if_free (substituted_within n fs) fs x v b (cons k us))
one_more fs x v ps n k h b rest us ready =
    let R : List Role = place_roles ps us ps in
    let c : List ℕ = new_name fs x v (cons k us) b in
    let new : IsNew fs x v (cons k us) c = new_name-new fs x v (cons k us) b ready.small in
    let e : roles fs (cons k us) ≡ of_head ∷ R = roles_of_instance fs ps k us h ready.instance in
    subst (λ (rs : List Role). OneMore fs x v ps n k rest us
    (if is_free fs b v && captures fs x b rs (cons k us) then with_new (substituted_within n fs) b c rs (cons k us) else cons k us)) (sym e)
    (by (is_free fs b v) (captures fs x b R us) refl refl new ready)
  where
    by : (p q : Bool) → is_free fs b v ≡ p → captures fs x b (place_roles ps us ps) us ≡ q → IsNew fs x v (cons k us) (new_name fs x v (cons k us) b)
        → IsReady fs x v ps n k (b ∷ rest) us
        → OneMore fs x v ps n k rest us (if p && q then cons k (with_new (substituted_within n fs) b (new_name fs x v (cons k us) b) (place_roles ps us ps) us) else cons k us)
    by true true e f new ready = renamed_one fs x v ps n k b rest us (new_name fs x v (cons k us) b) new ready f
    by true false e f new ready = kept_one fs x v ps n k b rest us ready (λ g. f)
    by false q e f new ready = kept_one fs x v ps n k b rest us ready (λ g. absurd (not_both (is_free fs b v) g e))

-- ---- all of them

-- the walk along the binders: each leaves the items alike, and ready for those that come
pub all_more : (fs : List Form) (x : List ℕ) (v : Tree) (ps : List Place) (n : ℕ) (k : Tree) → headed_by fs k ≡ Some ps → (bs : List (List ℕ)) (us : Trees)
    → IsReady fs x v ps n k bs us → OneMore fs x v ps n k [] us (all_renamed (substituted_within n fs) fs x v bs (cons k us))
all_more fs x v ps n k h [] us ready =
    record { items = us; is = refl; ready = ready; alike = record { without_names = λ around. refl; same_free = refl } }
all_more fs x v ps n k h (b ∷ bs) us ready =
    let one = one_more fs x v ps n k h b bs us ready in
    let others = all_more fs x v ps n k h bs one.items one.ready in
    record {
      items = others.items;
      is = ap (all_renamed (substituted_within n fs) fs x v bs) one.is ∙ others.is;
      ready = others.ready;
      alike = record {
        without_names = λ around. others.alike.without_names around ∙ one.alike.without_names around;
        same_free = others.alike.same_free ∙ one.alike.same_free;
      };
    }

-- ---- where it begins

-- items without roles have no binders
no_binders : (ts : Trees) → binders_of [] ts ≡ []
no_binders nil = refl
no_binders (cons t ts) = no_binders ts

-- nor have plain items
pub no_plain_binders : (ts : Trees) → binders_of (plain_roles ts) ts ≡ []
no_plain_binders nil = refl
no_plain_binders (cons t ts) = no_plain_binders ts

binders-names : (all : List Place) (items : Trees) (ps : List Place) (ts : Trees) → binders_of (place_roles all items ps) ts ≡ all_names ps ts
binders-names all items [] ts = no_binders ts
binders-names all items (binder ∷ ps) nil = refl
binders-names all items (binders ∷ ps) nil = refl
binders-names all items (plain ∷ ps) nil = refl
binders-names all items (body js ∷ ps) nil = refl
binders-names all items (binder ∷ ps) (cons t ts) = ap (λ (n : List (List ℕ)). names_at binder t ++ n) (binders-names all items ps ts)
binders-names all items (binders ∷ ps) (cons t ts) = ap (λ (n : List (List ℕ)). names_at binders t ++ n) (binders-names all items ps ts)
binders-names all items (plain ∷ ps) (cons t ts) = binders-names all items ps ts
binders-names all items (body js ∷ ps) (cons t ts) = binders-names all items ps ts

none_chosen : (s : List ℕ) (p : Bool) (xs : List (List ℕ)) → list_any (bytes_eq s) xs ≡ false → list_any (bytes_eq s) (if p then xs else []) ≡ false
none_chosen s true xs h = h
none_chosen s false xs h = refl

-- a body binds binders of the instance alone
bound-names : (s : List ℕ) (js : List ℕ) (j : ℕ) (ps : List Place) (ts : Trees) → list_any (bytes_eq s) (all_names ps ts) ≡ false
    → list_any (bytes_eq s) (names_from js j ps ts) ≡ false
bound-names s js j [] ts h = refl
bound-names s js j (p ∷ ps) nil h = refl
bound-names s js j (p ∷ ps) (cons t ts) h =
    none_of_both s (if list_any (nat_eq j) js then names_at p t else []) (names_from js (suc j) ps ts)
    (none_chosen s (list_any (nat_eq j) js) (names_at p t) (none_of_first s (names_at p t) (all_names ps ts) h))
    (bound-names s js (suc j) ps ts (none_of_second s (names_at p t) (all_names ps ts) h))

safe_from : (fs : List Form) (x : List ℕ) (v : Tree) (rest : List (List ℕ)) (all : List Place) (items : Trees)
    → ((s : List ℕ) (js : List ℕ) → list_any (bytes_eq s) rest ≡ false → list_any (bytes_eq s) (bound_names js all items) ≡ false) → (ps : List Place) (ts : Trees)
    → AreSafe fs x v rest (place_roles all items ps) ts
safe_from fs x v rest all items h [] nil = tt
safe_from fs x v rest all items h [] (cons t ts) = (tt, safe_from fs x v rest all items h [] ts)
safe_from fs x v rest all items h (binder ∷ ps) nil = tt
safe_from fs x v rest all items h (binders ∷ ps) nil = tt
safe_from fs x v rest all items h (plain ∷ ps) nil = tt
safe_from fs x v rest all items h (body js ∷ ps) nil = tt
safe_from fs x v rest all items h (binder ∷ ps) (cons t ts) = (tt, safe_from fs x v rest all items h ps ts)
safe_from fs x v rest all items h (binders ∷ ps) (cons t ts) = (tt, safe_from fs x v rest all items h ps ts)
safe_from fs x v rest all items h (plain ∷ ps) (cons t ts) = (tt, safe_from fs x v rest all items h ps ts)
safe_from fs x v rest all items h (body js ∷ ps) (cons t ts) = (
  λ s m o k f. absurd (not_both (list_any (bytes_eq s) (bound_names js all items)) m (h s js o)),
  safe_from fs x v rest all items h ps ts,
)

-- before any binder was looked at, all are still to be looked at
pub safe_at_first : (fs : List Form) (x : List ℕ) (v : Tree) (ps : List Place) (us : Trees)
    → AreSafe fs x v (binders_of (place_roles ps us ps) us) (place_roles ps us ps) us
safe_at_first fs x v ps us =
    safe_from fs x v (binders_of (place_roles ps us ps) us) ps us
    (λ s js o. bound-names s js 0 ps us (subst (λ (ns : List (List ℕ)). list_any (bytes_eq s) ns ≡ false) (binders-names ps us ps us) o)) ps us
