-- Substitution under binding forms that captures nothing, after Curry and Feys, "Combinatory Logic" (1958), for one binder, and the Redex
-- reference, `substitute`, for binding forms.
--
-- The rule for a tree speaks of substitution in smaller trees. `substituted_by` has the rule, with what it takes smaller trees to give as its
-- argument `S`. `substituted` is what comes of the rule used again and again, and meets it with itself as `S`.
use Rattle.std.specs.Prelude.{ℕ, zero, suc, Bool, false, ◌||◌, ◌&&◌, not, List, [], ◌∷◌, ◌++◌, map, bytes_eq, if◌then◌else◌}
use Rattle.std.specs.List.{list_any}
use Rattle.rdx_term.specs.Tree.{Tree, hole, integer, truth, text, symbol, list, Trees, nil, cons, tree_depth}
use Rattle.rdx_term.specs.Building.{list_of}
use Rattle.rdx_lang.specs.Variants.{first_variant}
use Rattle.rdx_alpha.specs.Forms.{Form}
use Rattle.rdx_alpha.specs.Instances.{Role, of_head, of_binder, of_plain, of_body, roles, first_role, other_roles, binder_names}
use Rattle.rdx_alpha.specs.Free.{is_free}

-- ---- new names

-- all symbols of a tree, also heads and binders, in order
abbrev mutual
  pub symbols_in : Tree → List (List ℕ)
  symbols_in hole = []
  symbols_in (integer n) = []
  symbols_in (truth b) = []
  symbols_in (text s) = []
  symbols_in (symbol s) = s ∷ []
  symbols_in (list m ts) = symbols_among ts

  pub symbols_among : Trees → List (List ℕ)
  symbols_among nil = []
  symbols_among (cons t ts) = symbols_in t ++ symbols_among ts

-- the heads of forms
abbrev pub heads : List Form → List (List ℕ)
heads fs = map (λ f. f.head) fs

-- what no new name in an instance with these items may be, where v is put for x: a symbol of the instance or of v, x, or a head
abbrev pub taken : List Form → List ℕ → Tree → Trees → List (List ℕ)
taken fs x v ts = symbols_among ts ++ symbols_in v ++ x ∷ heads fs

-- The new name for the binder b of the instance: the first of b1, b2 and so on, or of b!1, b!2 and so on, that is not taken. b itself is a symbol of
-- the instance and so is taken.
abbrev pub new_name : List Form → List ℕ → Tree → Trees → List ℕ → List ℕ
new_name fs x v ts b = first_variant b (taken fs x v ts)

-- ---- renaming one binder

-- the symbol b as c, and all else as it is
abbrev pub renamed_symbol : List ℕ → List ℕ → Tree → Tree
renamed_symbol b c hole = hole
renamed_symbol b c (integer n) = integer n
renamed_symbol b c (truth a) = truth a
renamed_symbol b c (text s) = text s
renamed_symbol b c (symbol s) = if bytes_eq s b then symbol c else symbol s
renamed_symbol b c (list m ts) = list m ts

abbrev pub renamed_symbols : List ℕ → List ℕ → Trees → Trees
renamed_symbols b c nil = nil
renamed_symbols b c (cons t ts) = cons (renamed_symbol b c t) (renamed_symbols b c ts)

-- a binder place, in which c replaces b
abbrev pub renamed_binder : List ℕ → List ℕ → Tree → Tree
renamed_binder b c hole = hole
renamed_binder b c (integer n) = integer n
renamed_binder b c (truth a) = truth a
renamed_binder b c (text s) = text s
renamed_binder b c (symbol s) = if bytes_eq s b then symbol c else symbol s
renamed_binder b c (list m ts) = list_of (renamed_symbols b c ts)

-- an item with b renamed to c: c replaces b in its binder place, and in the bodies that refer to b by substitution
abbrev pub with_new_as : (List ℕ → Tree → Tree → Tree) → List ℕ → List ℕ → Role → Tree → Tree
with_new_as S b c of_head t = t
with_new_as S b c of_binder t = renamed_binder b c t
with_new_as S b c of_plain t = t
with_new_as S b c (of_body names) t = if list_any (bytes_eq b) names then S b (symbol c) t else t

-- so each of the items
abbrev pub with_new : (List ℕ → Tree → Tree → Tree) → List ℕ → List ℕ → List Role → Trees → Trees
with_new S b c rs nil = nil
with_new S b c rs (cons t ts) = cons (with_new_as S b c (first_role rs) t) (with_new S b c (other_roles rs) ts)

-- ---- which binders are renamed

-- the item is a body that refers to b, doesn't bind x and has x free in it
abbrev pub captures_as : List Form → List ℕ → List ℕ → Role → Tree → Bool
captures_as fs x b of_head t = false
captures_as fs x b of_binder t = false
captures_as fs x b of_plain t = false
captures_as fs x b (of_body names) t = list_any (bytes_eq b) names && (not (list_any (bytes_eq x) names) && is_free fs x t)

-- one of the items is such a body
abbrev pub captures : List Form → List ℕ → List ℕ → List Role → Trees → Bool
captures fs x b rs nil = false
captures fs x b rs (cons t ts) = captures_as fs x b (first_role rs) t || captures fs x b (other_roles rs) ts

-- The items of an instance with b renamed, where b is free in v and there is such a body, and else as they are.
abbrev pub renamed_if_free : (List ℕ → Tree → Tree → Tree) → List Form → List ℕ → Tree → List ℕ → Trees → Trees
renamed_if_free S fs x v b ts =
    if is_free fs b v && captures fs x b (roles fs ts) ts then with_new S b (new_name fs x v ts b) (roles fs ts) ts else ts

-- so for each of these binders, one after the other
abbrev pub all_renamed : (List ℕ → Tree → Tree → Tree) → List Form → List ℕ → Tree → List (List ℕ) → Trees → Trees
all_renamed S fs x v [] ts = ts
all_renamed S fs x v (b ∷ bs) ts = all_renamed S fs x v bs (renamed_if_free S fs x v b ts)

-- the binders of an item with this role
abbrev pub binders_as : Role → Tree → List (List ℕ)
binders_as of_head t = []
binders_as of_binder t = binder_names t
binders_as of_plain t = []
binders_as (of_body names) t = []

-- those of an instance with these items, in written order; a list that is no instance has none
abbrev pub binders_of : List Role → Trees → List (List ℕ)
binders_of rs nil = []
binders_of rs (cons t ts) = binders_as (first_role rs) t ++ binders_of (other_roles rs) ts

-- ---- substitution

-- an item t, for which u is put where what stands in it changes: not for a head or in a binder place, and not in a body that binds x
abbrev pub changed_as : List ℕ → Role → Tree → Tree → Tree
changed_as x of_head t u = t
changed_as x of_binder t u = t
changed_as x of_plain t u = u
changed_as x (of_body names) t u = if list_any (bytes_eq x) names then t else u

-- each of the items so, where S is what is put
abbrev pub changed : (Tree → Tree) → List ℕ → List Role → Trees → Trees
changed S x rs nil = nil
changed S x rs (cons t ts) = cons (changed_as x (first_role rs) t (S t)) (changed S x (other_roles rs) ts)

-- The items of a list with v put for x: binders are renamed first, and then v is put for x in each item that changes.
abbrev pub substituted_items : (List ℕ → Tree → Tree → Tree) → List Form → List ℕ → Tree → Trees → Trees
substituted_items S fs x v ts = changed (S x v) x (roles fs ts) ts

abbrev pub with_binders_renamed : (List ℕ → Tree → Tree → Tree) → List Form → List ℕ → Tree → Trees → Trees
with_binders_renamed S fs x v ts = all_renamed S fs x v (binders_of (roles fs ts) ts) ts

-- The rule: an occurrence of x gives v, and other atoms stay. A list that is no instance gives the list of what its items give; in an instance
-- binders are renamed first, and a body that binds x stays. The lists that are made are marked as `list` marks them.
abbrev pub substituted_by : (List ℕ → Tree → Tree → Tree) → List Form → List ℕ → Tree → Tree → Tree
substituted_by S fs x v hole = hole
substituted_by S fs x v (integer n) = integer n
substituted_by S fs x v (truth b) = truth b
substituted_by S fs x v (text s) = text s
substituted_by S fs x v (symbol s) = if bytes_eq s x then v else symbol s
substituted_by S fs x v (list m ts) = list_of (substituted_items S fs x v (with_binders_renamed S fs x v ts))

-- the rule used n times
abbrev pub substituted_within : ℕ → List Form → List ℕ → Tree → Tree → Tree
substituted_within zero fs x v t = t
substituted_within (suc n) fs x v t = substituted_by (substituted_within n fs) fs x v t

-- The tree t with v put for each free x, binders renamed where they would bind a free symbol of v. The rule is used once more than t is deep.
abbrev pub substituted : List Form → List ℕ → Tree → Tree → Tree
substituted fs x v t = substituted_within (suc (tree_depth t)) fs x v t
