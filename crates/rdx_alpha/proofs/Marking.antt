-- Marking lists anew keeps all but marks, and changes nothing where there are fewer than two holes.
use Rattle.std.proofs.Common.{◌≡◌, ◌≢◌, ℕ, suc, ◌+◌, ◌<◌, ◌≤◌, ◌==◌, max, Bool, true, false, ◌&&◌, List, [], ◌∷◌, ◌++◌, Option, Some, None, refl, sym, ap, ◌∙◌, if◌then◌else◌, nat_eq, ◌⊎◌, inl, inr, arith}
use Rattle.std.specs.List.{list_any}
use Rattle.std.proofs.lemmas.Bool.Decides.{eqb_tells}
use Rattle.rdx_term.specs.Tree.{Tree, hole, integer, truth, text, symbol, list, Trees, nil, cons, tree_depth, trees_depth, tree_nodes, trees_nodes, tree_holes, trees_holes}
use Rattle.rdx_term.specs.Building.{hole_place, mark_for, list_of}
use Rattle.rdx_term.specs.Context.{MarkFits, IsMarked, AreMarked}
use Rattle.rdx_term.specs.Limits.{KeepsLimits}
use Rattle.rdx_term.proofs.Trees.{context_at-holes, context_at-place}
use Rattle.rdx_alpha.specs.Forms.{Place, binder, binders, plain, body, Form}
use Rattle.rdx_alpha.specs.Instances.{headed_by, symbol_name, symbol_names, binder_names, names_at, all_names, names_from, is_symbol, are_symbols, fits_place, fits, are_distinct, Role, of_head, of_binder, of_plain, of_body, place_roles, plain_roles, roles_by, roles, first_role, other_roles}
use Rattle.rdx_alpha.specs.Nameless.{Nameless, several, more, blank, blanks, blanked, head, head_text, nameless_as, around_item, nameless_in, nameless_among}
use Rattle.rdx_alpha.specs.Marks.{marked_anew, all_marked_anew}
use Rattle.rdx_alpha.proofs.Roles.{place_roles-same}

-- ---- limits

mutual
  -- marked anew, a tree is as deep
  pub marked-depth : (t : Tree) → tree_depth (marked_anew t) ≡ tree_depth t
  marked-depth hole = refl
  marked-depth (integer n) = refl
  marked-depth (truth b) = refl
  marked-depth (text s) = refl
  marked-depth (symbol s) = refl
  marked-depth (list m ts) = ap (λ (d : ℕ). d + 1) (all_marked-depth ts)

  pub all_marked-depth : (ts : Trees) → trees_depth (all_marked_anew ts) ≡ trees_depth ts
  all_marked-depth nil = refl
  all_marked-depth (cons t ts) = λ i. max (marked-depth t i) (all_marked-depth ts i)

mutual
  -- and has as many nodes
  pub marked-nodes : (t : Tree) → tree_nodes (marked_anew t) ≡ tree_nodes t
  marked-nodes hole = refl
  marked-nodes (integer n) = refl
  marked-nodes (truth b) = refl
  marked-nodes (text s) = refl
  marked-nodes (symbol s) = refl
  marked-nodes (list m ts) = ap (λ (d : ℕ). d + 1) (all_marked-nodes ts)

  pub all_marked-nodes : (ts : Trees) → trees_nodes (all_marked_anew ts) ≡ trees_nodes ts
  all_marked-nodes nil = refl
  all_marked-nodes (cons t ts) = λ i. marked-nodes t i + all_marked-nodes ts i

-- it is within the limits where the tree is
pub marked-limits : (m : Option ℕ) (ts : Trees) → tree_depth (list m ts) ≤ 500 → tree_nodes (list m ts) ≤ 4_000_000 → KeepsLimits (list_of (all_marked_anew ts))
marked-limits m ts d n =
    let e : trees_depth (all_marked_anew ts) ≡ trees_depth ts = all_marked-depth ts in
    let f : trees_nodes (all_marked_anew ts) ≡ trees_nodes ts = all_marked-nodes ts in
    record { shallow = omega arith; small = omega arith }

-- ---- few holes

one_mark : (m : Option ℕ) (ts : Trees) → MarkFits m ts → trees_holes ts < 2 → ((trees_holes ts == 1) ≡ true) × (trees_holes ts ≡ 1) ⊎ ((trees_holes ts == 1) ≡ false) × (trees_holes ts ≢ 1)
    → mark_for ts ≡ m
one_mark None ts f l (inl h) = absurd (f h.1)
one_mark None ts f l (inr h) = ap (λ (b : Bool). if b then Some (hole_place ts) else None) h.0
one_mark (Some k) ts f l (inl h) = ap (λ (b : Bool). if b then Some (hole_place ts) else None) h.0 ∙ ap Some (sym (context_at-place ts k f h.1))
one_mark (Some k) ts f l (inr h) = absurd (let a : 1 ≤ trees_holes ts = context_at-holes ts k f in h.1 (omega arith))

mutual
  -- with fewer than two holes, a tree that is marked as terms are is marked so already
  pub few_holes-marked : (t : Tree) → IsMarked t → tree_holes t < 2 → t ≡ marked_anew t
  few_holes-marked hole m l = refl
  few_holes-marked (integer n) m l = refl
  few_holes-marked (truth b) m l = refl
  few_holes-marked (text s) m l = refl
  few_holes-marked (symbol s) m l = refl
  few_holes-marked (list k ts) m l =
      let e : ts ≡ all_marked_anew ts = few_holes-all_marked ts m.1 l in
      ap (λ (n : Option ℕ). list n ts) (sym (one_mark k ts m.0 l (eqb_tells (trees_holes ts) 1))) ∙ ap list_of e

  pub few_holes-all_marked : (ts : Trees) → AreMarked ts → trees_holes ts < 2 → ts ≡ all_marked_anew ts
  few_holes-all_marked nil m l = refl
  few_holes-all_marked (cons t ts) m l =
      let e : t ≡ marked_anew t = few_holes-marked t m.0 (omega arith) in
      let f : ts ≡ all_marked_anew ts = few_holes-all_marked ts m.1 (omega arith) in
      λ i. cons (e i) (f i)

-- ---- names and roles

marked-head : (fs : List Form) (t : Tree) → headed_by fs (marked_anew t) ≡ headed_by fs t
marked-head fs hole = refl
marked-head fs (integer n) = refl
marked-head fs (truth b) = refl
marked-head fs (text s) = refl
marked-head fs (symbol s) = refl
marked-head fs (list m ts) = refl

marked-symbol : (t : Tree) → is_symbol (marked_anew t) ≡ is_symbol t
marked-symbol hole = refl
marked-symbol (integer n) = refl
marked-symbol (truth b) = refl
marked-symbol (text s) = refl
marked-symbol (symbol s) = refl
marked-symbol (list m ts) = refl

marked-symbols : (ts : Trees) → are_symbols (all_marked_anew ts) ≡ are_symbols ts
marked-symbols nil = refl
marked-symbols (cons t ts) = λ i. marked-symbol t i && marked-symbols ts i

marked-symbol_name : (t : Tree) → symbol_name (marked_anew t) ≡ symbol_name t
marked-symbol_name hole = refl
marked-symbol_name (integer n) = refl
marked-symbol_name (truth b) = refl
marked-symbol_name (text s) = refl
marked-symbol_name (symbol s) = refl
marked-symbol_name (list m ts) = refl

marked-symbol_names : (ts : Trees) → symbol_names (all_marked_anew ts) ≡ symbol_names ts
marked-symbol_names nil = refl
marked-symbol_names (cons t ts) = λ i. marked-symbol_name t i ++ marked-symbol_names ts i

marked-binder_names : (t : Tree) → binder_names (marked_anew t) ≡ binder_names t
marked-binder_names hole = refl
marked-binder_names (integer n) = refl
marked-binder_names (truth b) = refl
marked-binder_names (text s) = refl
marked-binder_names (symbol s) = refl
marked-binder_names (list m ts) = marked-symbol_names ts

marked-names_at : (p : Place) (t : Tree) → names_at p (marked_anew t) ≡ names_at p t
marked-names_at binder t = marked-binder_names t
marked-names_at binders t = marked-binder_names t
marked-names_at plain t = refl
marked-names_at (body js) t = refl

marked-fits_place : (p : Place) (t : Tree) → fits_place p (marked_anew t) ≡ fits_place p t
marked-fits_place binder t = marked-symbol t
marked-fits_place binders hole = refl
marked-fits_place binders (integer n) = refl
marked-fits_place binders (truth b) = refl
marked-fits_place binders (text s) = refl
marked-fits_place binders (symbol s) = refl
marked-fits_place binders (list m ts) = marked-symbols ts
marked-fits_place plain t = refl
marked-fits_place (body js) t = refl

marked-fits : (ps : List Place) (ts : Trees) → fits ps (all_marked_anew ts) ≡ fits ps ts
marked-fits [] nil = refl
marked-fits [] (cons t ts) = refl
marked-fits (p ∷ ps) nil = refl
marked-fits (p ∷ ps) (cons t ts) = λ i. marked-fits_place p t i && marked-fits ps ts i

marked-all_names : (ps : List Place) (ts : Trees) → all_names ps (all_marked_anew ts) ≡ all_names ps ts
marked-all_names [] ts = refl
marked-all_names (p ∷ ps) nil = refl
marked-all_names (p ∷ ps) (cons t ts) = λ i. marked-names_at p t i ++ marked-all_names ps ts i

marked-names_from : (js : List ℕ) (k : ℕ) (ps : List Place) (ts : Trees) → names_from js k ps (all_marked_anew ts) ≡ names_from js k ps ts
marked-names_from js k [] ts = refl
marked-names_from js k (p ∷ ps) nil = refl
marked-names_from js k (p ∷ ps) (cons t ts) =
    λ i. (if list_any (nat_eq k) js then marked-names_at p t i else []) ++ marked-names_from js (suc k) ps ts i

marked-plain_roles : (ts : Trees) → plain_roles (all_marked_anew ts) ≡ plain_roles ts
marked-plain_roles nil = refl
marked-plain_roles (cons t ts) = ap (λ (rs : List Role). of_plain ∷ rs) (marked-plain_roles ts)

marked-roles_by : (o : Option (List Place)) (ts : Trees) → roles_by o (all_marked_anew ts) ≡ roles_by o ts
marked-roles_by None ts = ap (λ (rs : List Role). of_plain ∷ rs) (marked-plain_roles ts)
marked-roles_by (Some ps) ts =
    let e : fits ps (all_marked_anew ts) ≡ fits ps ts = marked-fits ps ts in
    let f : are_distinct (all_names ps (all_marked_anew ts)) ≡ are_distinct (all_names ps ts) = ap are_distinct (marked-all_names ps ts) in
    let g : place_roles ps (all_marked_anew ts) ps ≡ place_roles ps ts ps = place_roles-same ps ts (all_marked_anew ts) (λ js. marked-names_from js 0 ps ts) ps in
    let h : plain_roles (all_marked_anew ts) ≡ plain_roles ts = marked-plain_roles ts in
    λ i. if e i && f i then of_head ∷ g i else of_plain ∷ h i

-- items have the same roles
pub marked-roles : (fs : List Form) (ts : Trees) → roles fs (all_marked_anew ts) ≡ roles fs ts
marked-roles fs nil = refl
marked-roles fs (cons t ts) = ap (λ (o : Option (List Place)). roles_by o (all_marked_anew ts)) (marked-head fs t) ∙ marked-roles_by (headed_by fs t) ts

-- ---- without names

marked-head_text : (t : Tree) → head_text (marked_anew t) ≡ head_text t
marked-head_text hole = refl
marked-head_text (integer n) = refl
marked-head_text (truth b) = refl
marked-head_text (text s) = refl
marked-head_text (symbol s) = refl
marked-head_text (list m ts) = refl

marked-blanks : (ts : Trees) → blanks (all_marked_anew ts) ≡ blanks ts
marked-blanks nil = refl
marked-blanks (cons t ts) = ap (more blank) (marked-blanks ts)

marked-blanked : (t : Tree) → blanked (marked_anew t) ≡ blanked t
marked-blanked hole = refl
marked-blanked (integer n) = refl
marked-blanked (truth b) = refl
marked-blanked (text s) = refl
marked-blanked (symbol s) = refl
marked-blanked (list m ts) = ap several (marked-blanks ts)

marked-as : (r : Role) (t : Tree) (n : Nameless) → nameless_as r (marked_anew t) n ≡ nameless_as r t n
marked-as of_head t n = ap head (marked-head_text t)
marked-as of_binder t n = marked-blanked t
marked-as of_plain t n = refl
marked-as (of_body names) t n = refl

mutual
  -- without names no marks are left
  pub marked-nameless : (fs : List Form) (around : List (List (List ℕ))) (t : Tree) → nameless_in fs around (marked_anew t) ≡ nameless_in fs around t
  marked-nameless fs around hole = refl
  marked-nameless fs around (integer n) = refl
  marked-nameless fs around (truth b) = refl
  marked-nameless fs around (text s) = refl
  marked-nameless fs around (symbol s) = refl
  marked-nameless fs around (list m ts) =
      ap several (ap (λ (rs : List Role). nameless_among fs around rs (all_marked_anew ts)) (marked-roles fs ts) ∙ marked-among fs around (roles fs ts) ts)

  pub marked-among : (fs : List Form) (around : List (List (List ℕ))) (rs : List Role) (ts : Trees)
      → nameless_among fs around rs (all_marked_anew ts) ≡ nameless_among fs around rs ts
  marked-among fs around rs nil = refl
  marked-among fs around rs (cons t ts) =
      let e = marked-nameless fs (around_item (first_role rs) around) t in
      let f = marked-as (first_role rs) t in
      let g = marked-among fs around (other_roles rs) ts in
      λ i. more (f (e i) i) (g i)
