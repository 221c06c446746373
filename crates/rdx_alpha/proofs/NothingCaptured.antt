-- Substitution captures nothing.
use Rattle.std.proofs.Common.{◌≡◌, ℕ, zero, suc, ◌+◌, ◌<◌, ◌^◌, Bool, true, false, not, List, [], ◌∷◌, length, Option, Some, None, refl, sym, ap, ◌∙◌, subst, if◌then◌else◌, bytes_eq, arith}
use Rattle.std.specs.List.{list_any}
use Rattle.rdx_term.specs.Tree.{Tree, hole, integer, truth, text, symbol, list, Trees, nil, cons, tree_depth, trees_depth, tree_nodes, trees_nodes}
use Rattle.rdx_alpha.specs.Forms.{Place, Form}
use Rattle.rdx_alpha.specs.Instances.{is_head, places_of, headed_by, is_instance, is_well_headed_by, is_well_headed, Role, of_head, of_binder, of_plain, of_body, place_roles, plain_roles, roles_by, roles, first_role, other_roles}
use Rattle.rdx_alpha.specs.Binding.{or_else, first_wrong, first_wrong_among, head_that_is}
use Rattle.rdx_alpha.specs.Free.{is_free_as, is_free, is_free_among}
use Rattle.rdx_alpha.specs.Nameless.{free, several, more, bound_at, occurrence, around_item, nameless_as, nameless_in, nameless_among, nameless, put_for, put_for_all}
use Rattle.rdx_alpha.specs.Substitution.{changed_as, changed, all_renamed, binders_of, with_binders_renamed, substituted_items, substituted_within, substituted}
use Rattle.rdx_alpha.proofs.Marking.{marked-nameless}
use Rattle.rdx_alpha.specs.Laws.{CapturesNothing}
use Rattle.rdx_alpha.proofs.NameFacts.{or_first, or_second, both, not_both, name_itself, same_name, no_place}
use Rattle.rdx_alpha.proofs.Roles.{changed-roles}
use Rattle.rdx_alpha.proofs.Agreement.{nameless-agrees, put-blanked, put-head, put-other, nameless-stays, stays_bound}
use Rattle.rdx_alpha.proofs.Renaming.{IsProperAs, IsProper, AreProper, no_places}
use Rattle.rdx_alpha.proofs.OneName.{IsSafeAs, AreSafe}
use Rattle.rdx_alpha.proofs.AllNames.{IsReady, roles_of_instance, all_more, no_plain_binders, safe_at_first}

-- ---- what is asked of the bodies around

-- where x is free, no body around binds a name that is free in v
abbrev pub IsApart : List Form → Tree → List (List (List ℕ)) → Bool → Type 0
IsApart fs v around is_there = is_there ≡ true → (s : List ℕ) → is_free fs s v ≡ true → (d : ℕ) → occurrence d around s ≡ free s

-- no body around binds x
abbrev pub IsUnbound : List ℕ → List (List (List ℕ)) → Type 0
IsUnbound x around = (d : ℕ) → occurrence d around x ≡ free x

-- the names of the forms and of both trees are few
abbrev pub IsSmall : List Form → Tree → ℕ → Type 0
IsSmall fs v nodes = nodes + tree_nodes v + length fs + 1 < 10 ^ 64

-- the law for trees that are less deep than n
abbrev pub HoldsBelow : List Form → List ℕ → Tree → ℕ → Type 0
HoldsBelow fs x v n = (t : Tree) (around : List (List (List ℕ))) → IsProper fs t → tree_depth t < n → IsSmall fs v (tree_nodes t)
    → IsApart fs v around (is_free fs x t) → IsUnbound x around
    → nameless_in fs around (substituted_within n fs x v t) ≡ put_for x (nameless fs v) (nameless_in fs around t)

-- ---- items whose binders are renamed

-- one more body around, which doesn't bind x
apart_inside : (fs : List Form) (x : List ℕ) (v t : Tree) (names : List (List ℕ)) (around : List (List (List ℕ))) → IsSafeAs fs x v [] (of_body names) t
    → list_any (bytes_eq x) names ≡ false → IsApart fs v around (is_free_as x (of_body names) (is_free fs x t)) → IsApart fs v (names ∷ around) (is_free fs x t)
apart_inside fs x v t names around safe e h f s g d = by (list_any (bytes_eq s) names) refl
  where
    by : (a : Bool) → list_any (bytes_eq s) names ≡ a → occurrence d (names ∷ around) s ≡ free s
    by true k = absurd (not_both (is_free fs s v) g (safe s k refl e f))
    by false k =
        ap (λ (o : Option ℕ). bound_at d o (occurrence (suc d) around s)) (no_place s names k)
        ∙ h (both (not (list_any (bytes_eq x) names)) (is_free fs x t) (ap not e) f) s g (suc d)

unbound_inside : (x : List ℕ) (names : List (List ℕ)) (around : List (List (List ℕ))) → list_any (bytes_eq x) names ≡ false → IsUnbound x around
    → IsUnbound x (names ∷ around)
unbound_inside x names around e h d = ap (λ (o : Option ℕ). bound_at d o (occurrence (suc d) around x)) (no_place x names e) ∙ h (suc d)

item-holds : (fs : List Form) (x : List ℕ) (v : Tree) (n : ℕ) → HoldsBelow fs x v n → (r : Role) (t : Tree) (around : List (List (List ℕ)))
    → IsProperAs r (IsProper fs t) → IsSafeAs fs x v [] r t → tree_depth t < n → IsSmall fs v (tree_nodes t)
    → IsApart fs v around (is_free_as x r (is_free fs x t)) → IsUnbound x around
    → nameless_as r (changed_as x r t (substituted_within n fs x v t)) (nameless_in fs (around_item r around) (changed_as x r t (substituted_within n fs x v t)))
    ≡ put_for x (nameless fs v) (nameless_as r t (nameless_in fs (around_item r around) t))
item-holds fs x v n g of_head t around p s l k h u = sym (put-head x (nameless fs v) t)
item-holds fs x v n g of_binder t around p s l k h u = sym (put-blanked x (nameless fs v) t)
item-holds fs x v n g of_plain t around p s l k h u = g t around p l k h u
item-holds fs x v n g (of_body names) t around p s l k h u = by (list_any (bytes_eq x) names) refl
  where
    by : (a : Bool) → list_any (bytes_eq x) names ≡ a
        → nameless_in fs (names ∷ around) (if a then t else substituted_within n fs x v t) ≡ put_for x (nameless fs v) (nameless_in fs (names ∷ around) t)
    by true e = sym (nameless-stays fs x (nameless fs v) t (names ∷ around) (stays_bound x (nameless fs v) names around e))
    by false e = g t (names ∷ around) p l k (apart_inside fs x v t names around s e h) (unbound_inside x names around e u)

items-hold : (fs : List Form) (x : List ℕ) (v : Tree) (n : ℕ) → HoldsBelow fs x v n → (rs : List Role) (ts : Trees) (around : List (List (List ℕ)))
    → AreProper fs rs ts → AreSafe fs x v [] rs ts → trees_depth ts < n → IsSmall fs v (trees_nodes ts)
    → IsApart fs v around (is_free_among fs x rs ts) → IsUnbound x around
    → nameless_among fs around rs (changed (substituted_within n fs x v) x rs ts) ≡ put_for_all x (nameless fs v) (nameless_among fs around rs ts)
items-hold fs x v n g rs nil around p s l k h u = refl
items-hold fs x v n g rs (cons t ts) around p s l k h u =
    let e = item-holds fs x v n g (first_role rs) t around p.0 s.0 (omega arith) (omega arith)
    (λ a. h (or_first (is_free_as x (first_role rs) (is_free fs x t)) (is_free_among fs x (other_roles rs) ts) a)) u in
    let f = items-hold fs x v n g (other_roles rs) ts around p.1 s.1 (omega arith) (omega arith)
    (λ a. h (or_second (is_free_as x (first_role rs) (is_free fs x t)) (is_free_among fs x (other_roles rs) ts) a)) u in
    λ i. more (e i) (f i)

-- ---- lists

-- what is headed by no form's head still isn't, where v is no head
still_unheaded : (fs : List Form) (x : List ℕ) (v : Tree) → headed_by fs v ≡ None → (n : ℕ) (t : Tree) → headed_by fs t ≡ None
    → headed_by fs (substituted_within n fs x v t) ≡ None
still_unheaded fs x v o zero t h = h
still_unheaded fs x v o (suc n) hole h = refl
still_unheaded fs x v o (suc n) (integer k) h = refl
still_unheaded fs x v o (suc n) (truth a) h = refl
still_unheaded fs x v o (suc n) (text s) h = refl
still_unheaded fs x v o (suc n) (symbol s) h = by (bytes_eq s x)
  where
    by : (p : Bool) → headed_by fs (if p then v else symbol s) ≡ None
    by true = o
    by false = h
still_unheaded fs x v o (suc n) (list m ts) h = refl

-- plain items capture nothing
plain_items_safe : (fs : List Form) (x : List ℕ) (v : Tree) (ts : Trees) → AreSafe fs x v [] (plain_roles ts) ts
plain_items_safe fs x v nil = tt
plain_items_safe fs x v (cons t ts) = (tt, plain_items_safe fs x v ts)

-- items whose binders are renamed, as a list
list-holds : (fs : List Form) (x : List ℕ) (v : Tree) (n : ℕ) → HoldsBelow fs x v n → headed_by fs v ≡ None → (ts : Trees) (around : List (List (List ℕ)))
    → is_well_headed fs ts ≡ true → AreProper fs (roles fs ts) ts → AreSafe fs x v [] (roles fs ts) ts → trees_depth ts < n → IsSmall fs v (trees_nodes ts)
    → IsApart fs v around (is_free_among fs x (roles fs ts) ts) → IsUnbound x around
    → nameless_among fs around (roles fs (substituted_items (substituted_within n fs) fs x v ts)) (substituted_items (substituted_within n fs) fs x v ts)
    ≡ put_for_all x (nameless fs v) (nameless_among fs around (roles fs ts) ts)
list-holds fs x v n g o ts around w p s l k h u =
    ap (λ (rs : List Role). nameless_among fs around rs (changed (substituted_within n fs x v) x (roles fs ts) ts))
    (changed-roles fs (substituted_within n fs x v) x ts (still_unheaded fs x v o n) w).0
    ∙ items-hold fs x v n g (roles fs ts) ts around p s l k h u

-- where the items are plain, no binder is renamed
plain_list-holds : (fs : List Form) (x : List ℕ) (v : Tree) (n : ℕ) → HoldsBelow fs x v n → headed_by fs v ≡ None → (ts : Trees) (around : List (List (List ℕ)))
    → roles fs ts ≡ plain_roles ts → is_well_headed fs ts ≡ true → AreProper fs (roles fs ts) ts → trees_depth ts < n → IsSmall fs v (trees_nodes ts)
    → IsApart fs v around (is_free_among fs x (roles fs ts) ts) → IsUnbound x around
    → let us : Trees = substituted_items (substituted_within n fs) fs x v (with_binders_renamed (substituted_within n fs) fs x v ts) in
    nameless_among fs around (roles fs us) us ≡ put_for_all x (nameless fs v) (nameless_among fs around (roles fs ts) ts)
plain_list-holds fs x v n g o ts around e w p l k h u =
    let same : with_binders_renamed (substituted_within n fs) fs x v ts ≡ ts =
    ap (λ (bs : List (List ℕ)). all_renamed (substituted_within n fs) fs x v bs ts) (ap (λ (rs : List Role). binders_of rs ts) e ∙ no_plain_binders ts) in
    ap (λ (vs : Trees). nameless_among fs around (roles fs (substituted_items (substituted_within n fs) fs x v vs)) (substituted_items (substituted_within n fs) fs x v vs)) same
    ∙ list-holds fs x v n g o ts around w p (subst (λ (rs : List Role). AreSafe fs x v [] rs ts) (sym e) (plain_items_safe fs x v ts)) l k h u

instance-holds : (fs : List Form) (x : List ℕ) (v : Tree) (n : ℕ) → HoldsBelow fs x v n → headed_by fs v ≡ None → (ps : List Place) (k : Tree) (us : Trees)
    (around : List (List (List ℕ))) → headed_by fs k ≡ Some ps → is_instance ps us ≡ true
    → AreProper fs (roles fs (cons k us)) (cons k us) → trees_depth (cons k us) < n → IsSmall fs v (trees_nodes (cons k us))
    → IsApart fs v around (is_free_among fs x (roles fs (cons k us)) (cons k us)) → IsUnbound x around
    → let ws : Trees = substituted_items (substituted_within n fs) fs x v (with_binders_renamed (substituted_within n fs) fs x v (cons k us)) in
    nameless_among fs around (roles fs ws) ws ≡ put_for_all x (nameless fs v) (nameless_among fs around (roles fs (cons k us)) (cons k us))
instance-holds fs x v n g o ps k us around e i p l s h u =
    let S : List ℕ → Tree → Tree → Tree = substituted_within n fs in
    let R : List Role = place_roles ps us ps in
    let is_roles : roles fs (cons k us) ≡ of_head ∷ R = roles_of_instance fs ps k us e i in
    let proper : AreProper fs (of_head ∷ R) (cons k us) = subst (λ (rs : List Role). AreProper fs rs (cons k us)) is_roles p in
    let ready : IsReady fs x v ps n k (binders_of R us) us =
    record { instance = i; proper = proper.1; small = s; shallow = omega arith; safe = safe_at_first fs x v ps us } in
    let all = all_more fs x v ps n k e (binders_of R us) us ready in
    let vs : Trees = all.items in
    let T : List Role = place_roles ps vs ps in
    let new_roles : roles fs (cons k vs) ≡ of_head ∷ T = roles_of_instance fs ps k vs e all.ready.instance in
    let renamed : with_binders_renamed S fs x v (cons k us) ≡ cons k vs =
    ap (λ (rs : List Role). all_renamed S fs x v (binders_of rs (cons k us)) (cons k us)) is_roles ∙ all.is in
    let well : is_well_headed fs (cons k vs) ≡ true = ap (λ (q : Option (List Place)). is_well_headed_by q vs) e ∙ all.ready.instance in
    let free_same : is_free_among fs x (roles fs (cons k vs)) (cons k vs) ≡ is_free_among fs x (roles fs (cons k us)) (cons k us) =
    ap (λ (rs : List Role). is_free_among fs x rs (cons k vs)) new_roles ∙ all.alike.same_free
    ∙ sym (ap (λ (rs : List Role). is_free_among fs x rs (cons k us)) is_roles) in
    let nameless_same : nameless_among fs around (roles fs (cons k vs)) (cons k vs) ≡ nameless_among fs around (roles fs (cons k us)) (cons k us) =
    ap (λ (rs : List Role). nameless_among fs around rs (cons k vs)) new_roles
    ∙ ap (more (nameless_as of_head k (nameless_in fs around k))) (all.alike.without_names around)
    ∙ sym (ap (λ (rs : List Role). nameless_among fs around rs (cons k us)) is_roles) in
    let small_now : trees_nodes (cons k vs) + tree_nodes v + length fs + 1 < 10 ^ 64 = all.ready.small in
    let shallow_now : trees_depth vs < n = all.ready.shallow in
    let held = list-holds fs x v n g o (cons k vs) around well
    (subst (λ (rs : List Role). AreProper fs rs (cons k vs)) (sym new_roles) (tt, all.ready.proper))
    (subst (λ (rs : List Role). AreSafe fs x v [] rs (cons k vs)) (sym new_roles) (tt, all.ready.safe)) (omega arith) small_now
    (λ a. h (sym free_same ∙ a)) u in
    ap (λ (ys : Trees). nameless_among fs around (roles fs (substituted_items S fs x v ys)) (substituted_items S fs x v ys)) renamed
    ∙ held ∙ ap (put_for_all x (nameless fs v)) nameless_same

any_list-holds : (fs : List Form) (x : List ℕ) (v : Tree) (n : ℕ) → HoldsBelow fs x v n → headed_by fs v ≡ None → (ts : Trees) (around : List (List (List ℕ)))
    → is_well_headed fs ts ≡ true → AreProper fs (roles fs ts) ts → trees_depth ts < n → IsSmall fs v (trees_nodes ts)
    → IsApart fs v around (is_free_among fs x (roles fs ts) ts) → IsUnbound x around
    → let us : Trees = substituted_items (substituted_within n fs) fs x v (with_binders_renamed (substituted_within n fs) fs x v ts) in
    nameless_among fs around (roles fs us) us ≡ put_for_all x (nameless fs v) (nameless_among fs around (roles fs ts) ts)
any_list-holds fs x v n g o nil around w p l k h u = refl
any_list-holds fs x v n g o (cons t us) around w p l k h u = by (headed_by fs t) refl w
  where
    by : (q : Option (List Place)) → headed_by fs t ≡ q → is_well_headed_by q us ≡ true
        → let ws : Trees = substituted_items (substituted_within n fs) fs x v (with_binders_renamed (substituted_within n fs) fs x v (cons t us)) in
        nameless_among fs around (roles fs ws) ws ≡ put_for_all x (nameless fs v) (nameless_among fs around (roles fs (cons t us)) (cons t us))
    by None e i = plain_list-holds fs x v n g o (cons t us) around (ap (λ (q : Option (List Place)). roles_by q us) e) w p l k h u
    by (Some ps) e i = instance-holds fs x v n g o ps t us around e i p l k h u

-- ---- trees

-- an occurrence of x gives v, and another name stays
symbol-holds : (fs : List Form) (x : List ℕ) (v : Tree) (s : List ℕ) (around : List (List (List ℕ))) → IsApart fs v around (bytes_eq s x) → IsUnbound x around
    → nameless_in fs around (if bytes_eq s x then v else symbol s) ≡ put_for x (nameless fs v) (occurrence 0 around s)
symbol-holds fs x v s around h u = by (bytes_eq s x) refl
  where
    by : (a : Bool) → bytes_eq s x ≡ a → nameless_in fs around (if a then v else symbol s) ≡ put_for x (nameless fs v) (occurrence 0 around s)
    by true e =
        let is_free_x : occurrence 0 around s ≡ free x = ap (occurrence 0 around) (same_name s x e) ∙ u 0 in
        nameless-agrees fs v around [] (λ r f d. h e r f d)
        ∙ sym (ap (put_for x (nameless fs v)) is_free_x ∙ ap (λ (b : Bool). if b then nameless fs v else free x) (name_itself x))
    by false e = sym (put-other x (nameless fs v) s e 0 around)

-- the law for each number of uses of the rule, by induction
pub holds_below : (fs : List Form) (x : List ℕ) (v : Tree) → headed_by fs v ≡ None → (n : ℕ) → HoldsBelow fs x v n
holds_below fs x v o zero t around p l k h u = absurd (omega arith)
holds_below fs x v o (suc n) hole around p l k h u = refl
holds_below fs x v o (suc n) (integer i) around p l k h u = refl
holds_below fs x v o (suc n) (truth b) around p l k h u = refl
holds_below fs x v o (suc n) (text s) around p l k h u = refl
holds_below fs x v o (suc n) (symbol s) around p l k h u = symbol-holds fs x v s around h u
holds_below fs x v o (suc n) (list m ts) around p l k h u =
    ap several (any_list-holds fs x v n (holds_below fs x v o n) o ts around p.0 p.1 (omega arith) (omega arith) h u)

-- ---- the law

-- where no list is wrong, each is well headed
no_first : (t u : Option Tree) → or_else t u ≡ None → t ≡ None
no_first None u h = refl
no_first (Some t) u h = h

no_second : (t u : Option Tree) → or_else t u ≡ None → u ≡ None
no_second None u h = h
no_second (Some t) u h = cc

proper_as : (r : Role) (P : Type 0) → P → IsProperAs r P
proper_as of_head P p = tt
proper_as of_binder P p = tt
proper_as of_plain P p = p
proper_as (of_body names) P p = p

mutual
  -- a tree that is not refused is proper
  pub proper_where_none_wrong : (fs : List Form) (t : Tree) → first_wrong fs t ≡ None → IsProper fs t
  proper_where_none_wrong fs hole h = tt
  proper_where_none_wrong fs (integer n) h = tt
  proper_where_none_wrong fs (truth b) h = tt
  proper_where_none_wrong fs (text s) h = tt
  proper_where_none_wrong fs (symbol s) h = tt
  proper_where_none_wrong fs (list m ts) h =
      by (is_well_headed fs ts) refl h (all_proper_where_none_wrong fs (roles fs ts) ts)
    where
      by : (a : Bool) → is_well_headed fs ts ≡ a → (if a then first_wrong_among fs ts else Some (list m ts)) ≡ None
          → (first_wrong_among fs ts ≡ None → AreProper fs (roles fs ts) ts) → (is_well_headed fs ts ≡ true) × AreProper fs (roles fs ts) ts
      by true e k r = (e, r k)
      by false e k r = cc

  pub all_proper_where_none_wrong : (fs : List Form) (rs : List Role) (ts : Trees) → first_wrong_among fs ts ≡ None → AreProper fs rs ts
  all_proper_where_none_wrong fs rs nil h = tt
  all_proper_where_none_wrong fs rs (cons t ts) h = (
    proper_as (first_role rs) (IsProper fs t) (proper_where_none_wrong fs t (no_first (first_wrong fs t) (first_wrong_among fs ts) h)),
    all_proper_where_none_wrong fs (other_roles rs) ts (no_second (first_wrong fs t) (first_wrong_among fs ts) h),
  )

-- what is no head heads nothing
unheaded_where_no_head : (fs : List Form) (v : Tree) → head_that_is fs v ≡ None → headed_by fs v ≡ None
unheaded_where_no_head fs hole h = refl
unheaded_where_no_head fs (integer n) h = refl
unheaded_where_no_head fs (truth b) h = refl
unheaded_where_no_head fs (text s) h = refl
unheaded_where_no_head fs (symbol s) h = by (is_head fs s) refl h
  where
    by : (a : Bool) → is_head fs s ≡ a → (if a then Some s else None) ≡ None → places_of fs s ≡ None
    by true e k = cc
    by false e k = no_places fs s e
unheaded_where_no_head fs (list m ts) h = refl

-- the law: with enough uses of the rule, and marked anew
pub captures_nothing : CapturesNothing
captures_nothing fs x v t small h o =
    marked-nameless fs [] (substituted fs x v t) ∙ holds_below fs x v (unheaded_where_no_head fs v o) (suc (tree_depth t)) t [] (proper_where_none_wrong fs t h) (omega arith) small (λ f s g d. refl) (λ d. refl)
