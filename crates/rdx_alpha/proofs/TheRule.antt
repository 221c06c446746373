-- Substitution meets its rule: how often the rule is used does not matter, where it is used more often than the tree is deep.
use Rattle.std.proofs.Common.{◌≡◌, ℕ, zero, suc, ◌+◌, ◌<◌, ◌≤◌, max, Bool, true, false, ◌&&◌, List, [], ◌∷◌, refl, ap, ◌∙◌, if◌then◌else◌, bytes_eq, arith}
use Rattle.std.specs.List.{list_any}
use Rattle.rdx_term.specs.Tree.{Tree, hole, integer, truth, text, symbol, list, Trees, nil, cons, tree_depth, trees_depth, tree_nodes, trees_nodes}
use Rattle.rdx_term.specs.Building.{list_of}
use Rattle.rdx_alpha.specs.Forms.{Form}
use Rattle.rdx_alpha.specs.Instances.{Role, of_head, of_binder, of_plain, of_body, roles, first_role, other_roles}
use Rattle.rdx_alpha.specs.Free.{is_free}
use Rattle.rdx_alpha.specs.Substitution.{with_new_as, with_new, captures, new_name, renamed_if_free, all_renamed, binders_of, changed_as, changed, with_binders_renamed, substituted_items, substituted_by, substituted_within, substituted}
use Rattle.rdx_alpha.specs.Laws.{MeetsTheRule}
use Rattle.rdx_alpha.proofs.OneName.{binder-depth, binder-nodes}
use Rattle.rdx_alpha.proofs.Renaming.{changed_as-measure}

-- ---- a symbol put for a symbol keeps the depth

-- so S
abbrev pub KeepsDepth : (List ℕ → Tree → Tree → Tree) → Type 0
KeepsDepth S = (b c : List ℕ) (t : Tree) → tree_depth (S b (symbol c) t) ≡ tree_depth t

item_new-depth : (S : List ℕ → Tree → Tree → Tree) → KeepsDepth S → (b c : List ℕ) (r : Role) (t : Tree) → tree_depth (with_new_as S b c r t) ≡ tree_depth t
item_new-depth S h b c of_head t = refl
item_new-depth S h b c of_binder t = binder-depth b c t
item_new-depth S h b c of_plain t = refl
item_new-depth S h b c (of_body names) t = by (list_any (bytes_eq b) names)
  where
    by : (p : Bool) → tree_depth (if p then S b (symbol c) t else t) ≡ tree_depth t
    by true = h b c t
    by false = refl

with_new-depth : (S : List ℕ → Tree → Tree → Tree) → KeepsDepth S → (b c : List ℕ) (rs : List Role) (ts : Trees) → trees_depth (with_new S b c rs ts) ≡ trees_depth ts
with_new-depth S h b c rs nil = refl
with_new-depth S h b c rs (cons t ts) =
    let e = item_new-depth S h b c (first_role rs) t in
    let f = with_new-depth S h b c (other_roles rs) ts in
    λ i. max (e i) (f i)

-- a binder renamed keeps depths, if what renames in bodies does
pub renamed_if_free-depth : (S : List ℕ → Tree → Tree → Tree) → KeepsDepth S → (fs : List Form) (x : List ℕ) (v : Tree) (b : List ℕ) (ts : Trees)
    → trees_depth (renamed_if_free S fs x v b ts) ≡ trees_depth ts
renamed_if_free-depth S h fs x v b ts = by (is_free fs b v && captures fs x b (roles fs ts) ts)
  where
    by : (p : Bool) → trees_depth (if p then with_new S b (new_name fs x v ts b) (roles fs ts) ts else ts) ≡ trees_depth ts
    by true = with_new-depth S h b (new_name fs x v ts b) (roles fs ts) ts
    by false = refl

-- so do all binders
pub all_renamed-depth : (S : List ℕ → Tree → Tree → Tree) → KeepsDepth S → (fs : List Form) (x : List ℕ) (v : Tree) (bs : List (List ℕ)) (ts : Trees)
    → trees_depth (all_renamed S fs x v bs ts) ≡ trees_depth ts
all_renamed-depth S h fs x v [] ts = refl
all_renamed-depth S h fs x v (b ∷ bs) ts = all_renamed-depth S h fs x v bs (renamed_if_free S fs x v b ts) ∙ renamed_if_free-depth S h fs x v b ts

changed-depth : (g : Tree → Tree) → ((t : Tree) → tree_depth (g t) ≡ tree_depth t) → (x : List ℕ) (rs : List Role) (ts : Trees)
    → trees_depth (changed g x rs ts) ≡ trees_depth ts
changed-depth g h x rs nil = refl
changed-depth g h x rs (cons t ts) =
    let e = changed_as-measure tree_depth x (first_role rs) t (g t) (h t) in
    let f = changed-depth g h x (other_roles rs) ts in
    λ i. max (e i) (f i)

symbol_depth : (b c s : List ℕ) (p : Bool) → tree_depth (if p then symbol c else symbol s) ≡ 0
symbol_depth b c s true = refl
symbol_depth b c s false = refl

-- a symbol put for a symbol keeps depths, however often the rule is used
pub keeps_depth : (n : ℕ) (fs : List Form) → KeepsDepth (substituted_within n fs)
keeps_depth zero fs b c t = refl
keeps_depth (suc n) fs b c hole = refl
keeps_depth (suc n) fs b c (integer k) = refl
keeps_depth (suc n) fs b c (truth a) = refl
keeps_depth (suc n) fs b c (text s) = refl
keeps_depth (suc n) fs b c (symbol s) = symbol_depth b c s (bytes_eq s b)
keeps_depth (suc n) fs b c (list m ts) =
    let S : List ℕ → Tree → Tree → Tree = substituted_within n fs in
    let us : Trees = with_binders_renamed S fs b (symbol c) ts in
    ap (λ (d : ℕ). d + 1) (changed-depth (S b (symbol c)) (keeps_depth n fs b c) b (roles fs us) us
    ∙ all_renamed-depth S (keeps_depth n fs) fs b (symbol c) (binders_of (roles fs ts) ts) ts)

-- ---- and the nodes

-- so S
abbrev pub KeepsNodes : (List ℕ → Tree → Tree → Tree) → Type 0
KeepsNodes S = (b c : List ℕ) (t : Tree) → tree_nodes (S b (symbol c) t) ≡ tree_nodes t

item_new-nodes : (S : List ℕ → Tree → Tree → Tree) → KeepsNodes S → (b c : List ℕ) (r : Role) (t : Tree) → tree_nodes (with_new_as S b c r t) ≡ tree_nodes t
item_new-nodes S h b c of_head t = refl
item_new-nodes S h b c of_binder t = binder-nodes b c t
item_new-nodes S h b c of_plain t = refl
item_new-nodes S h b c (of_body names) t = by (list_any (bytes_eq b) names)
  where
    by : (p : Bool) → tree_nodes (if p then S b (symbol c) t else t) ≡ tree_nodes t
    by true = h b c t
    by false = refl

with_new-nodes : (S : List ℕ → Tree → Tree → Tree) → KeepsNodes S → (b c : List ℕ) (rs : List Role) (ts : Trees) → trees_nodes (with_new S b c rs ts) ≡ trees_nodes ts
with_new-nodes S h b c rs nil = refl
with_new-nodes S h b c rs (cons t ts) =
    let e = item_new-nodes S h b c (first_role rs) t in
    let f = with_new-nodes S h b c (other_roles rs) ts in
    λ i. e i + f i

renamed_if_free-nodes : (S : List ℕ → Tree → Tree → Tree) → KeepsNodes S → (fs : List Form) (x : List ℕ) (v : Tree) (b : List ℕ) (ts : Trees)
    → trees_nodes (renamed_if_free S fs x v b ts) ≡ trees_nodes ts
renamed_if_free-nodes S h fs x v b ts = by (is_free fs b v && captures fs x b (roles fs ts) ts)
  where
    by : (p : Bool) → trees_nodes (if p then with_new S b (new_name fs x v ts b) (roles fs ts) ts else ts) ≡ trees_nodes ts
    by true = with_new-nodes S h b (new_name fs x v ts b) (roles fs ts) ts
    by false = refl

all_renamed-nodes : (S : List ℕ → Tree → Tree → Tree) → KeepsNodes S → (fs : List Form) (x : List ℕ) (v : Tree) (bs : List (List ℕ)) (ts : Trees)
    → trees_nodes (all_renamed S fs x v bs ts) ≡ trees_nodes ts
all_renamed-nodes S h fs x v [] ts = refl
all_renamed-nodes S h fs x v (b ∷ bs) ts = all_renamed-nodes S h fs x v bs (renamed_if_free S fs x v b ts) ∙ renamed_if_free-nodes S h fs x v b ts

changed-nodes : (g : Tree → Tree) → ((t : Tree) → tree_nodes (g t) ≡ tree_nodes t) → (x : List ℕ) (rs : List Role) (ts : Trees)
    → trees_nodes (changed g x rs ts) ≡ trees_nodes ts
changed-nodes g h x rs nil = refl
changed-nodes g h x rs (cons t ts) =
    let e = changed_as-measure tree_nodes x (first_role rs) t (g t) (h t) in
    let f = changed-nodes g h x (other_roles rs) ts in
    λ i. e i + f i

symbol_nodes : (b c s : List ℕ) (p : Bool) → tree_nodes (if p then symbol c else symbol s) ≡ 1
symbol_nodes b c s true = refl
symbol_nodes b c s false = refl

-- and the number of nodes
pub keeps_nodes : (n : ℕ) (fs : List Form) → KeepsNodes (substituted_within n fs)
keeps_nodes zero fs b c t = refl
keeps_nodes (suc n) fs b c hole = refl
keeps_nodes (suc n) fs b c (integer k) = refl
keeps_nodes (suc n) fs b c (truth a) = refl
keeps_nodes (suc n) fs b c (text s) = refl
keeps_nodes (suc n) fs b c (symbol s) = symbol_nodes b c s (bytes_eq s b)
keeps_nodes (suc n) fs b c (list m ts) =
    let S : List ℕ → Tree → Tree → Tree = substituted_within n fs in
    let us : Trees = with_binders_renamed S fs b (symbol c) ts in
    ap (λ (d : ℕ). d + 1) (changed-nodes (S b (symbol c)) (keeps_nodes n fs b c) b (roles fs us) us
    ∙ all_renamed-nodes S (keeps_nodes n fs) fs b (symbol c) (binders_of (roles fs ts) ts) ts)

-- ---- the rule depends on smaller trees alone

-- both give the same for trees that are less deep than n
abbrev pub AgreeBelow : ℕ → (List ℕ → Tree → Tree → Tree) → (List ℕ → Tree → Tree → Tree) → Type 0
AgreeBelow n S T = (x : List ℕ) (v t : Tree) → tree_depth t < n → S x v t ≡ T x v t

same_new_item : (n : ℕ) (S T : List ℕ → Tree → Tree → Tree) → AgreeBelow n S T → (b c : List ℕ) (r : Role) (t : Tree) → tree_depth t < n
    → with_new_as S b c r t ≡ with_new_as T b c r t
same_new_item n S T h b c of_head t l = refl
same_new_item n S T h b c of_binder t l = refl
same_new_item n S T h b c of_plain t l = refl
same_new_item n S T h b c (of_body names) t l = ap (λ (u : Tree). if list_any (bytes_eq b) names then u else t) (h b (symbol c) t l)

same_new_items : (n : ℕ) (S T : List ℕ → Tree → Tree → Tree) → AgreeBelow n S T → (b c : List ℕ) (rs : List Role) (ts : Trees) → trees_depth ts < n
    → with_new S b c rs ts ≡ with_new T b c rs ts
same_new_items n S T h b c rs nil l = refl
same_new_items n S T h b c rs (cons t ts) l =
    let e = same_new_item n S T h b c (first_role rs) t (omega arith) in
    let f = same_new_items n S T h b c (other_roles rs) ts (omega arith) in
    λ i. cons (e i) (f i)

same_renamed : (n : ℕ) (S T : List ℕ → Tree → Tree → Tree) → AgreeBelow n S T → KeepsDepth T → (fs : List Form) (x : List ℕ) (v : Tree) (bs : List (List ℕ)) (ts : Trees)
    → trees_depth ts < n → all_renamed S fs x v bs ts ≡ all_renamed T fs x v bs ts
same_renamed n S T h k fs x v [] ts l = refl
same_renamed n S T h k fs x v (b ∷ bs) ts l =
    let e : renamed_if_free S fs x v b ts ≡ renamed_if_free T fs x v b ts =
    ap (λ (us : Trees). if is_free fs b v && captures fs x b (roles fs ts) ts then us else ts) (same_new_items n S T h b (new_name fs x v ts b) (roles fs ts) ts l) in
    let d : trees_depth (renamed_if_free T fs x v b ts) ≡ trees_depth ts = renamed_if_free-depth T k fs x v b ts in
    ap (all_renamed S fs x v bs) e ∙ same_renamed n S T h k fs x v bs (renamed_if_free T fs x v b ts) (omega arith)

same_changed : (n : ℕ) (S T : List ℕ → Tree → Tree → Tree) → AgreeBelow n S T → (x : List ℕ) (v : Tree) (rs : List Role) (ts : Trees) → trees_depth ts < n
    → changed (S x v) x rs ts ≡ changed (T x v) x rs ts
same_changed n S T h x v rs nil l = refl
same_changed n S T h x v rs (cons t ts) l =
    let e = h x v t (omega arith) in
    let f = same_changed n S T h x v (other_roles rs) ts (omega arith) in
    λ i. cons (changed_as x (first_role rs) t (e i)) (f i)

-- the rule gives the same of two substitutions that agree below the depth of the tree
pub same_by_rule : (n : ℕ) (S T : List ℕ → Tree → Tree → Tree) → AgreeBelow n S T → KeepsDepth T → (fs : List Form) (x : List ℕ) (v t : Tree)
    → tree_depth t ≤ n → substituted_by S fs x v t ≡ substituted_by T fs x v t
same_by_rule n S T h k fs x v hole l = refl
same_by_rule n S T h k fs x v (integer i) l = refl
same_by_rule n S T h k fs x v (truth b) l = refl
same_by_rule n S T h k fs x v (text s) l = refl
same_by_rule n S T h k fs x v (symbol s) l = refl
same_by_rule n S T h k fs x v (list m ts) l =
    let us : Trees = with_binders_renamed T fs x v ts in
    let e : with_binders_renamed S fs x v ts ≡ us = same_renamed n S T h k fs x v (binders_of (roles fs ts) ts) ts (omega arith) in
    let d : trees_depth us ≡ trees_depth ts = all_renamed-depth T k fs x v (binders_of (roles fs ts) ts) ts in
    ap (λ (vs : Trees). list_of (substituted_items S fs x v vs)) e ∙ ap list_of (same_changed n S T h x v (roles fs us) us (omega arith))

-- ---- how often the rule is used

-- more uses than the tree is deep give all the same
pub often_enough : (fs : List Form) (n m : ℕ) (x : List ℕ) (v t : Tree) → tree_depth t < n → tree_depth t < m
    → substituted_within n fs x v t ≡ substituted_within m fs x v t
often_enough fs zero m x v t l k = absurd (omega arith)
often_enough fs (suc n) zero x v t l k = absurd (omega arith)
often_enough fs (suc n) (suc m) x v t l k =
    same_by_rule (tree_depth t) (substituted_within n fs) (substituted_within m fs)
    (λ y w u p. often_enough fs n m y w u (omega arith) (omega arith)) (keeps_depth m fs) fs x v t (omega arith)

-- the law: one use more is no other substitution
pub meets_the_rule : MeetsTheRule
meets_the_rule fs x v t =
    same_by_rule (tree_depth t) (substituted_within (tree_depth t) fs) (substituted fs)
    (λ y w u p. often_enough fs (tree_depth t) (suc (tree_depth u)) y w u p (omega arith))
    (λ b c u. keeps_depth (suc (tree_depth u)) fs b c u) fs x v t (omega arith)

-- ---- what the code asks

-- substitution of a symbol keeps the depth and the nodes
pub substituted_keeps_depth : (fs : List Form) → KeepsDepth (substituted fs)
substituted_keeps_depth fs b c u = keeps_depth (suc (tree_depth u)) fs b c u

-- a symbol put for a symbol keeps the number of nodes
pub substituted_keeps_nodes : (fs : List Form) → KeepsNodes (substituted fs)
substituted_keeps_nodes fs b c u = keeps_nodes (suc (tree_depth u)) fs b c u

-- renaming binders keeps the depth of the items
pub binders_renamed-depth : (fs : List Form) (x : List ℕ) (v : Tree) (ts : Trees)
    → trees_depth (with_binders_renamed (substituted fs) fs x v ts) ≡ trees_depth ts
binders_renamed-depth fs x v ts = all_renamed-depth (substituted fs) (substituted_keeps_depth fs) fs x v (binders_of (roles fs ts) ts) ts
