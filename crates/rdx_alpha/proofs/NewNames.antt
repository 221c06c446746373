-- Which roles items have where one binder has a new name.
use Rattle.std.proofs.Common.{◌≡◌, ℕ, suc, Bool, true, false, ◌&&◌, List, [], ◌∷◌, ◌++◌, map, Option, Some, None, refl, sym, ap, ◌∙◌, if◌then◌else◌, bytes_eq, nat_eq}
use Rattle.std.proofs.lemmas.List.{map-append}
use Rattle.std.specs.List.{list_any}
use Rattle.rdx_term.specs.Tree.{Tree, hole, integer, truth, text, symbol, list, Trees, nil, cons}
use Rattle.rdx_alpha.specs.Forms.{Place, binder, binders, plain, body, Form}
use Rattle.rdx_alpha.specs.Instances.{headed_by, symbol_name, symbol_names, binder_names, names_at, all_names, names_from, bound_names, is_symbol, are_symbols, is_symbol_list, fits, are_distinct, is_instance, Role, of_head, of_binder, of_plain, of_body, place_roles, plain_roles, roles_by, roles}
use Rattle.rdx_alpha.specs.Substitution.{renamed_symbol, renamed_symbols, renamed_binder, with_new, symbols_in, symbols_among}
use Rattle.rdx_alpha.proofs.NameFacts.{swapped, swapped_distinct, none_of_first, none_of_second, none_of_both}

-- ---- binder places

-- a symbol stays one
symbol_still : (b c s : List ℕ) (p : Bool) → is_symbol (if p then symbol c else symbol s) ≡ true
symbol_still b c s true = refl
symbol_still b c s false = refl

symbol-renamed : (b c : List ℕ) (t : Tree) → is_symbol (renamed_symbol b c t) ≡ is_symbol t
symbol-renamed b c hole = refl
symbol-renamed b c (integer n) = refl
symbol-renamed b c (truth a) = refl
symbol-renamed b c (text s) = refl
symbol-renamed b c (symbol s) = symbol_still b c s (bytes_eq s b)
symbol-renamed b c (list m ts) = refl

symbols-renamed : (b c : List ℕ) (ts : Trees) → are_symbols (renamed_symbols b c ts) ≡ are_symbols ts
symbols-renamed b c nil = refl
symbols-renamed b c (cons t ts) = let e = symbol-renamed b c t in let f = symbols-renamed b c ts in λ i. e i && f i

binder-symbol : (b c : List ℕ) (t : Tree) → is_symbol (renamed_binder b c t) ≡ is_symbol t
binder-symbol b c hole = refl
binder-symbol b c (integer n) = refl
binder-symbol b c (truth a) = refl
binder-symbol b c (text s) = refl
binder-symbol b c (symbol s) = symbol_still b c s (bytes_eq s b)
binder-symbol b c (list m ts) = refl

list_still : (b c s : List ℕ) (p : Bool) → is_symbol_list (if p then symbol c else symbol s) ≡ false
list_still b c s true = refl
list_still b c s false = refl

binder-symbol_list : (b c : List ℕ) (t : Tree) → is_symbol_list (renamed_binder b c t) ≡ is_symbol_list t
binder-symbol_list b c hole = refl
binder-symbol_list b c (integer n) = refl
binder-symbol_list b c (truth a) = refl
binder-symbol_list b c (text s) = refl
binder-symbol_list b c (symbol s) = list_still b c s (bytes_eq s b)
binder-symbol_list b c (list m ts) = symbols-renamed b c ts

-- its names are those it had with b replaced by c
name_still : (b c s : List ℕ) (p : Bool) → symbol_name (if p then symbol c else symbol s) ≡ (if p then c else s) ∷ []
name_still b c s true = refl
name_still b c s false = refl

symbol_name-renamed : (b c : List ℕ) (t : Tree) → symbol_name (renamed_symbol b c t) ≡ map (swapped b c) (symbol_name t)
symbol_name-renamed b c hole = refl
symbol_name-renamed b c (integer n) = refl
symbol_name-renamed b c (truth a) = refl
symbol_name-renamed b c (text s) = refl
symbol_name-renamed b c (symbol s) = name_still b c s (bytes_eq s b)
symbol_name-renamed b c (list m ts) = refl

symbol_names-renamed : (b c : List ℕ) (ts : Trees) → symbol_names (renamed_symbols b c ts) ≡ map (swapped b c) (symbol_names ts)
symbol_names-renamed b c nil = refl
symbol_names-renamed b c (cons t ts) =
    let e = symbol_name-renamed b c t in
    let f = symbol_names-renamed b c ts in
    (λ i. e i ++ f i) ∙ sym (map-append (swapped b c) (symbol_name t) (symbol_names ts))

binder_name_still : (b c s : List ℕ) (p : Bool) → binder_names (if p then symbol c else symbol s) ≡ (if p then c else s) ∷ []
binder_name_still b c s true = refl
binder_name_still b c s false = refl

-- a binder place with b renamed has c among its names, in the place of b
pub binder_names-renamed : (b c : List ℕ) (t : Tree) → binder_names (renamed_binder b c t) ≡ map (swapped b c) (binder_names t)
binder_names-renamed b c hole = refl
binder_names-renamed b c (integer n) = refl
binder_names-renamed b c (truth a) = refl
binder_names-renamed b c (text s) = refl
binder_names-renamed b c (symbol s) = binder_name_still b c s (bytes_eq s b)
binder_names-renamed b c (list m ts) = symbol_names-renamed b c ts

-- ---- instances

new-fits : (S : List ℕ → Tree → Tree → Tree) (b c : List ℕ) (all : List Place) (items : Trees) (ps : List Place) (ts : Trees)
    → fits ps (with_new S b c (place_roles all items ps) ts) ≡ fits ps ts
new-fits S b c all items [] nil = refl
new-fits S b c all items [] (cons t ts) = refl
new-fits S b c all items (binder ∷ ps) nil = refl
new-fits S b c all items (binders ∷ ps) nil = refl
new-fits S b c all items (plain ∷ ps) nil = refl
new-fits S b c all items (body js ∷ ps) nil = refl
new-fits S b c all items (binder ∷ ps) (cons t ts) =
    let e = binder-symbol b c t in let f = new-fits S b c all items ps ts in λ i. e i && f i
new-fits S b c all items (binders ∷ ps) (cons t ts) =
    let e = binder-symbol_list b c t in let f = new-fits S b c all items ps ts in λ i. e i && f i
new-fits S b c all items (plain ∷ ps) (cons t ts) = new-fits S b c all items ps ts
new-fits S b c all items (body js ∷ ps) (cons t ts) = new-fits S b c all items ps ts

two_lists : (b c : List ℕ) (xs ys xs' ys' : List (List ℕ)) → xs' ≡ map (swapped b c) xs → ys' ≡ map (swapped b c) ys → xs' ++ ys' ≡ map (swapped b c) (xs ++ ys)
two_lists b c xs ys xs' ys' e f = (λ i. e i ++ f i) ∙ sym (map-append (swapped b c) xs ys)

new-all_names : (S : List ℕ → Tree → Tree → Tree) (b c : List ℕ) (all : List Place) (items : Trees) (ps : List Place) (ts : Trees)
    → all_names ps (with_new S b c (place_roles all items ps) ts) ≡ map (swapped b c) (all_names ps ts)
new-all_names S b c all items [] ts = refl
new-all_names S b c all items (binder ∷ ps) nil = refl
new-all_names S b c all items (binders ∷ ps) nil = refl
new-all_names S b c all items (plain ∷ ps) nil = refl
new-all_names S b c all items (body js ∷ ps) nil = refl
new-all_names S b c all items (binder ∷ ps) (cons t ts) =
    two_lists b c (binder_names t) (all_names ps ts) _ _ (binder_names-renamed b c t) (new-all_names S b c all items ps ts)
new-all_names S b c all items (binders ∷ ps) (cons t ts) =
    two_lists b c (binder_names t) (all_names ps ts) _ _ (binder_names-renamed b c t) (new-all_names S b c all items ps ts)
new-all_names S b c all items (plain ∷ ps) (cons t ts) = new-all_names S b c all items ps ts
new-all_names S b c all items (body js ∷ ps) (cons t ts) = new-all_names S b c all items ps ts

chosen_names : (b c : List ℕ) (p : Bool) (xs xs' : List (List ℕ)) → xs' ≡ map (swapped b c) xs → (if p then xs' else []) ≡ map (swapped b c) (if p then xs else [])
chosen_names b c true xs xs' e = e
chosen_names b c false xs xs' e = refl

new-names_from : (S : List ℕ → Tree → Tree → Tree) (b c : List ℕ) (all : List Place) (items : Trees) (js : List ℕ) (k : ℕ) (ps : List Place) (ts : Trees)
    → names_from js k ps (with_new S b c (place_roles all items ps) ts) ≡ map (swapped b c) (names_from js k ps ts)
new-names_from S b c all items js k [] ts = refl
new-names_from S b c all items js k (binder ∷ ps) nil = refl
new-names_from S b c all items js k (binders ∷ ps) nil = refl
new-names_from S b c all items js k (plain ∷ ps) nil = refl
new-names_from S b c all items js k (body ls ∷ ps) nil = refl
new-names_from S b c all items js k (binder ∷ ps) (cons t ts) =
    two_lists b c (if list_any (nat_eq k) js then binder_names t else []) (names_from js (suc k) ps ts) _ _
    (chosen_names b c (list_any (nat_eq k) js) (binder_names t) _ (binder_names-renamed b c t)) (new-names_from S b c all items js (suc k) ps ts)
new-names_from S b c all items js k (binders ∷ ps) (cons t ts) =
    two_lists b c (if list_any (nat_eq k) js then binder_names t else []) (names_from js (suc k) ps ts) _ _
    (chosen_names b c (list_any (nat_eq k) js) (binder_names t) _ (binder_names-renamed b c t)) (new-names_from S b c all items js (suc k) ps ts)
new-names_from S b c all items js k (plain ∷ ps) (cons t ts) =
    two_lists b c (if list_any (nat_eq k) js then [] else []) (names_from js (suc k) ps ts) _ _
    (chosen_names b c (list_any (nat_eq k) js) [] [] refl) (new-names_from S b c all items js (suc k) ps ts)
new-names_from S b c all items js k (body ls ∷ ps) (cons t ts) =
    two_lists b c (if list_any (nat_eq k) js then [] else []) (names_from js (suc k) ps ts) _ _
    (chosen_names b c (list_any (nat_eq k) js) [] [] refl) (new-names_from S b c all items js (suc k) ps ts)

-- a role with b renamed to c
abbrev pub role_swapped : List ℕ → List ℕ → Role → Role
role_swapped b c of_head = of_head
role_swapped b c of_binder = of_binder
role_swapped b c of_plain = of_plain
role_swapped b c (of_body names) = of_body (map (swapped b c) names)

roles_swapped : (b c : List ℕ) (all : List Place) (items others : Trees) → ((js : List ℕ) → bound_names js all others ≡ map (swapped b c) (bound_names js all items))
    → (ps : List Place) → place_roles all others ps ≡ map (role_swapped b c) (place_roles all items ps)
roles_swapped b c all items others h [] = refl
roles_swapped b c all items others h (binder ∷ ps) = ap (λ rs. of_binder ∷ rs) (roles_swapped b c all items others h ps)
roles_swapped b c all items others h (binders ∷ ps) = ap (λ rs. of_binder ∷ rs) (roles_swapped b c all items others h ps)
roles_swapped b c all items others h (plain ∷ ps) = ap (λ rs. of_plain ∷ rs) (roles_swapped b c all items others h ps)
roles_swapped b c all items others h (body js ∷ ps) =
    let e = h js in
    let f = roles_swapped b c all items others h ps in
    λ i. of_body (e i) ∷ f i

-- the roles with a new name
pub new-place_roles : (S : List ℕ → Tree → Tree → Tree) (b c : List ℕ) (ps : List Place) (ts : Trees)
    → place_roles ps (with_new S b c (place_roles ps ts ps) ts) ps ≡ map (role_swapped b c) (place_roles ps ts ps)
new-place_roles S b c ps ts =
    roles_swapped b c ps ts (with_new S b c (place_roles ps ts ps) ts) (λ js. new-names_from S b c ps ts js 0 ps ts) ps

-- an instance stays one where the new name is none of its names
pub new-instance : (S : List ℕ → Tree → Tree → Tree) (b c : List ℕ) (ps : List Place) (ts : Trees) → list_any (bytes_eq c) (all_names ps ts) ≡ false
    → is_instance ps (with_new S b c (place_roles ps ts ps) ts) ≡ is_instance ps ts
new-instance S b c ps ts h =
    let e = new-fits S b c ps ts ps ts in
    let f = ap are_distinct (new-all_names S b c ps ts ps ts) ∙ swapped_distinct b c (all_names ps ts) h in
    λ i. e i && f i

-- ---- names are symbols

-- what is no symbol of a tree is none of the names in it
none_of_name : (c : List ℕ) (t : Tree) → list_any (bytes_eq c) (symbols_in t) ≡ false → list_any (bytes_eq c) (symbol_name t) ≡ false
none_of_name c hole h = h
none_of_name c (integer n) h = h
none_of_name c (truth a) h = h
none_of_name c (text s) h = h
none_of_name c (symbol s) h = h
none_of_name c (list m ts) h = refl

none_of_names : (c : List ℕ) (ts : Trees) → list_any (bytes_eq c) (symbols_among ts) ≡ false → list_any (bytes_eq c) (symbol_names ts) ≡ false
none_of_names c nil h = h
none_of_names c (cons t ts) h =
    none_of_both c (symbol_name t) (symbol_names ts) (none_of_name c t (none_of_first c (symbols_in t) (symbols_among ts) h))
    (none_of_names c ts (none_of_second c (symbols_in t) (symbols_among ts) h))

-- what is no symbol of a tree is no binder in it
pub none_of_binders : (c : List ℕ) (t : Tree) → list_any (bytes_eq c) (symbols_in t) ≡ false → list_any (bytes_eq c) (binder_names t) ≡ false
none_of_binders c hole h = h
none_of_binders c (integer n) h = h
none_of_binders c (truth a) h = h
none_of_binders c (text s) h = h
none_of_binders c (symbol s) h = h
none_of_binders c (list m ts) h = none_of_names c ts h

none_at : (c : List ℕ) (p : Place) (t : Tree) → list_any (bytes_eq c) (symbols_in t) ≡ false → list_any (bytes_eq c) (names_at p t) ≡ false
none_at c binder t h = none_of_binders c t h
none_at c binders t h = none_of_binders c t h
none_at c plain t h = refl
none_at c (body js) t h = refl

-- what is no symbol of the items is none of the names that they bind
pub none_of_all : (c : List ℕ) (ps : List Place) (ts : Trees) → list_any (bytes_eq c) (symbols_among ts) ≡ false → list_any (bytes_eq c) (all_names ps ts) ≡ false
none_of_all c [] ts h = refl
none_of_all c (p ∷ ps) nil h = refl
none_of_all c (p ∷ ps) (cons t ts) h =
    none_of_both c (names_at p t) (all_names ps ts) (none_at c p t (none_of_first c (symbols_in t) (symbols_among ts) h))
    (none_of_all c ps ts (none_of_second c (symbols_in t) (symbols_among ts) h))

none_chosen : (c : List ℕ) (p : Bool) (xs : List (List ℕ)) → list_any (bytes_eq c) xs ≡ false → list_any (bytes_eq c) (if p then xs else []) ≡ false
none_chosen c true xs h = h
none_chosen c false xs h = refl

none_from : (c : List ℕ) (js : List ℕ) (k : ℕ) (ps : List Place) (ts : Trees) → list_any (bytes_eq c) (symbols_among ts) ≡ false
    → list_any (bytes_eq c) (names_from js k ps ts) ≡ false
none_from c js k [] ts h = refl
none_from c js k (p ∷ ps) nil h = refl
none_from c js k (p ∷ ps) (cons t ts) h =
    none_of_both c (if list_any (nat_eq k) js then names_at p t else []) (names_from js (suc k) ps ts)
    (none_chosen c (list_any (nat_eq k) js) (names_at p t) (none_at c p t (none_of_first c (symbols_in t) (symbols_among ts) h)))
    (none_from c js (suc k) ps ts (none_of_second c (symbols_in t) (symbols_among ts) h))

-- no body binds this name
abbrev pub DoesNotBind : List ℕ → Role → Type 0
DoesNotBind c of_head = Unit {0}
DoesNotBind c of_binder = Unit {0}
DoesNotBind c of_plain = Unit {0}
DoesNotBind c (of_body names) = list_any (bytes_eq c) names ≡ false

abbrev pub DoNotBind : List ℕ → List Role → Type 0
DoNotBind c [] = Unit {0}
DoNotBind c (r ∷ rs) = DoesNotBind c r × DoNotBind c rs

none_bound : (c : List ℕ) (all : List Place) (items : Trees) → list_any (bytes_eq c) (symbols_among items) ≡ false → (ps : List Place)
    → DoNotBind c (place_roles all items ps)
none_bound c all items h [] = tt
none_bound c all items h (binder ∷ ps) = (tt, none_bound c all items h ps)
none_bound c all items h (binders ∷ ps) = (tt, none_bound c all items h ps)
none_bound c all items h (plain ∷ ps) = (tt, none_bound c all items h ps)
none_bound c all items h (body js ∷ ps) = (none_from c js 0 all items h, none_bound c all items h ps)

-- what is no symbol of the places of an instance is bound by no body of it
pub places_do_not_bind : (c : List ℕ) (ps : List Place) (ts : Trees) → list_any (bytes_eq c) (symbols_among ts) ≡ false → DoNotBind c (place_roles ps ts ps)
places_do_not_bind c ps ts h = none_bound c ps ts h ps

plain_do_not_bind : (c : List ℕ) (ts : Trees) → DoNotBind c (plain_roles ts)
plain_do_not_bind c nil = tt
plain_do_not_bind c (cons t ts) = (tt, plain_do_not_bind c ts)

-- so of a list
pub roles_do_not_bind : (fs : List Form) (c : List ℕ) (ts : Trees) → list_any (bytes_eq c) (symbols_among ts) ≡ false → DoNotBind c (roles fs ts)
roles_do_not_bind fs c nil h = tt
roles_do_not_bind fs c (cons t us) h = by (headed_by fs t)
  where
    chosen : (ps : List Place) (p : Bool) → DoNotBind c (place_roles ps us ps) → DoNotBind c (if p then of_head ∷ place_roles ps us ps else of_plain ∷ plain_roles us)
    chosen ps true g = (tt, g)
    chosen ps false g = (tt, plain_do_not_bind c us)

    by : (o : Option (List Place)) → DoNotBind c (roles_by o us)
    by None = (tt, plain_do_not_bind c us)
    by (Some ps) = chosen ps (is_instance ps us) (places_do_not_bind c ps us (none_of_second c (symbols_in t) (symbols_among us) h))
