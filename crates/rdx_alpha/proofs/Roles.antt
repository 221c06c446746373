-- Which roles items have stays where neither heads nor binders change.
use Rattle.std.proofs.Common.{◌≡◌, ℕ, suc, Bool, true, ◌&&◌, List, [], ◌∷◌, ◌++◌, Option, Some, None, refl, sym, ap, ◌∙◌, subst, if◌then◌else◌, nat_eq}
use Rattle.std.specs.List.{list_any}
use Rattle.rdx_term.specs.Tree.{Tree, Trees, nil, cons}
use Rattle.rdx_alpha.specs.Forms.{Place, binder, binders, plain, body, Form}
use Rattle.rdx_alpha.specs.Instances.{headed_by, names_at, all_names, names_from, bound_names, fits_place, fits, are_distinct, is_instance, is_well_headed_by, is_well_headed, Role, of_head, of_binder, of_plain, of_body, place_roles, plain_roles, roles_by, roles}
use Rattle.rdx_alpha.specs.Substitution.{changed}

-- ---- items that change but for heads and binders

changed-fits : (g : Tree → Tree) (x : List ℕ) (all : List Place) (items : Trees) (ps : List Place) (ts : Trees)
    → fits ps (changed g x (place_roles all items ps) ts) ≡ fits ps ts
changed-fits g x all items [] nil = refl
changed-fits g x all items [] (cons t ts) = refl
changed-fits g x all items (binder ∷ ps) nil = refl
changed-fits g x all items (binders ∷ ps) nil = refl
changed-fits g x all items (plain ∷ ps) nil = refl
changed-fits g x all items (body js ∷ ps) nil = refl
changed-fits g x all items (binder ∷ ps) (cons t ts) = ap (λ (b : Bool). fits_place binder t && b) (changed-fits g x all items ps ts)
changed-fits g x all items (binders ∷ ps) (cons t ts) = ap (λ (b : Bool). fits_place binders t && b) (changed-fits g x all items ps ts)
changed-fits g x all items (plain ∷ ps) (cons t ts) = changed-fits g x all items ps ts
changed-fits g x all items (body js ∷ ps) (cons t ts) = changed-fits g x all items ps ts

changed-all_names : (g : Tree → Tree) (x : List ℕ) (all : List Place) (items : Trees) (ps : List Place) (ts : Trees)
    → all_names ps (changed g x (place_roles all items ps) ts) ≡ all_names ps ts
changed-all_names g x all items [] ts = refl
changed-all_names g x all items (binder ∷ ps) nil = refl
changed-all_names g x all items (binders ∷ ps) nil = refl
changed-all_names g x all items (plain ∷ ps) nil = refl
changed-all_names g x all items (body js ∷ ps) nil = refl
changed-all_names g x all items (binder ∷ ps) (cons t ts) = ap (λ (n : List (List ℕ)). names_at binder t ++ n) (changed-all_names g x all items ps ts)
changed-all_names g x all items (binders ∷ ps) (cons t ts) = ap (λ (n : List (List ℕ)). names_at binders t ++ n) (changed-all_names g x all items ps ts)
changed-all_names g x all items (plain ∷ ps) (cons t ts) = changed-all_names g x all items ps ts
changed-all_names g x all items (body js ∷ ps) (cons t ts) = changed-all_names g x all items ps ts

changed-names_from : (g : Tree → Tree) (x : List ℕ) (all : List Place) (items : Trees) (js : List ℕ) (k : ℕ) (ps : List Place) (ts : Trees)
    → names_from js k ps (changed g x (place_roles all items ps) ts) ≡ names_from js k ps ts
changed-names_from g x all items js k [] ts = refl
changed-names_from g x all items js k (binder ∷ ps) nil = refl
changed-names_from g x all items js k (binders ∷ ps) nil = refl
changed-names_from g x all items js k (plain ∷ ps) nil = refl
changed-names_from g x all items js k (body ls ∷ ps) nil = refl
changed-names_from g x all items js k (binder ∷ ps) (cons t ts) =
    ap (λ (n : List (List ℕ)). (if list_any (nat_eq k) js then names_at binder t else []) ++ n) (changed-names_from g x all items js (suc k) ps ts)
changed-names_from g x all items js k (binders ∷ ps) (cons t ts) =
    ap (λ (n : List (List ℕ)). (if list_any (nat_eq k) js then names_at binders t else []) ++ n) (changed-names_from g x all items js (suc k) ps ts)
changed-names_from g x all items js k (plain ∷ ps) (cons t ts) =
    ap (λ (n : List (List ℕ)). (if list_any (nat_eq k) js then [] else []) ++ n) (changed-names_from g x all items js (suc k) ps ts)
changed-names_from g x all items js k (body ls ∷ ps) (cons t ts) =
    ap (λ (n : List (List ℕ)). (if list_any (nat_eq k) js then [] else []) ++ n) (changed-names_from g x all items js (suc k) ps ts)

-- roles depend on the names alone that bodies bind
pub place_roles-same : (all : List Place) (items others : Trees) → ((js : List ℕ) → bound_names js all others ≡ bound_names js all items) → (ps : List Place)
    → place_roles all others ps ≡ place_roles all items ps
place_roles-same all items others h [] = refl
place_roles-same all items others h (binder ∷ ps) = ap (λ rs. of_binder ∷ rs) (place_roles-same all items others h ps)
place_roles-same all items others h (binders ∷ ps) = ap (λ rs. of_binder ∷ rs) (place_roles-same all items others h ps)
place_roles-same all items others h (plain ∷ ps) = ap (λ rs. of_plain ∷ rs) (place_roles-same all items others h ps)
place_roles-same all items others h (body js ∷ ps) =
    let e = h js in
    let f = place_roles-same all items others h ps in
    λ i. of_body (e i) ∷ f i

-- an instance whose plain items and bodies change is one still
pub changed-instance : (g : Tree → Tree) (x : List ℕ) (ps : List Place) (ts : Trees) → is_instance ps (changed g x (place_roles ps ts ps) ts) ≡ is_instance ps ts
changed-instance g x ps ts =
    let e = changed-fits g x ps ts ps ts in
    let f = ap are_distinct (changed-all_names g x ps ts ps ts) in
    λ i. e i && f i

-- and its items have the roles that they had
pub changed-place_roles : (g : Tree → Tree) (x : List ℕ) (ps : List Place) (ts : Trees)
    → place_roles ps (changed g x (place_roles ps ts ps) ts) ps ≡ place_roles ps ts ps
changed-place_roles g x ps ts =
    place_roles-same ps ts (changed g x (place_roles ps ts ps) ts) (λ js. changed-names_from g x ps ts js 0 ps ts) ps

-- ---- whole lists

-- the roles of an instance
pub instance_roles : (ps : List Place) (ts : Trees) → is_instance ps ts ≡ true → roles_by (Some ps) ts ≡ of_head ∷ place_roles ps ts ps
instance_roles ps ts e = ap (λ (b : Bool). if b then of_head ∷ place_roles ps ts ps else of_plain ∷ plain_roles ts) e

plain_roles-changed : (g : Tree → Tree) (x : List ℕ) (ts : Trees) → plain_roles (changed g x (plain_roles ts) ts) ≡ plain_roles ts
plain_roles-changed g x nil = refl
plain_roles-changed g x (cons t ts) = ap (λ (rs : List Role). of_plain ∷ rs) (plain_roles-changed g x ts)

-- a well headed list still is one, and its items have the same roles
pub changed-roles : (fs : List Form) (g : Tree → Tree) (x : List ℕ) (ts : Trees) → ((t : Tree) → headed_by fs t ≡ None → headed_by fs (g t) ≡ None)
    → is_well_headed fs ts ≡ true
    → (roles fs (changed g x (roles fs ts) ts) ≡ roles fs ts) × (is_well_headed fs (changed g x (roles fs ts) ts) ≡ true)
changed-roles fs g x nil h w = (refl, refl)
changed-roles fs g x (cons t us) h w = by (headed_by fs t) refl w
  where
    by : (o : Option (List Place)) → headed_by fs t ≡ o → is_well_headed_by o us ≡ true
        → (roles fs (changed g x (roles_by o us) (cons t us)) ≡ roles_by o us) × (is_well_headed fs (changed g x (roles_by o us) (cons t us)) ≡ true)
    by None e i = (
      ap (λ (o : Option (List Place)). roles_by o (changed g x (plain_roles us) us)) (h t e) ∙ ap (λ (rs : List Role). of_plain ∷ rs) (plain_roles-changed g x us),
      ap (λ (o : Option (List Place)). is_well_headed_by o (changed g x (plain_roles us) us)) (h t e),
    )
    by (Some ps) e i =
        let rs : List Role = place_roles ps us ps in
        let vs : Trees = changed g x rs us in
        let j : is_instance ps vs ≡ true = changed-instance g x ps us ∙ i in
        let k : roles_by (headed_by fs t) vs ≡ of_head ∷ rs =
        ap (λ (o : Option (List Place)). roles_by o vs) e ∙ instance_roles ps vs j ∙ ap (λ (qs : List Role). of_head ∷ qs) (changed-place_roles g x ps us) in
        let l : is_well_headed_by (headed_by fs t) vs ≡ true = ap (λ (o : Option (List Place)). is_well_headed_by o vs) e ∙ j in
        subst (λ (qs : List Role). (roles fs (changed g x qs (cons t us)) ≡ qs) × (is_well_headed fs (changed g x qs (cons t us)) ≡ true))
        (sym (instance_roles ps us i)) (k, l)
