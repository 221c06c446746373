use Rattle.std.proofs.Common.{◌≡◌, ◌++◌, ◌∷◌, List, [], length, take, drop, ◌/◌, Vec, ℕ, sym, subst}
use Rattle.std.proofs.lemmas.Result.{IfOk-weaker}
use Rattle.std.specs.declared.alloc.Global.{Global}
use Rattle.rdx_lang.proofs.Collecting.{listing_across_none}
use Rattle.rdx_lang.specs.Bindings.{Binding, no_names}
use Rattle.rdx_lang.specs.Join.{IsJoin}
use Rattle.rdx_lang.specs.Listing.{IsListing}
use Rattle.rdx_lang.specs.Members.{In}
use Rattle.rdx_lang.specs.Order.{binding_cmp}
use Rattle.rdx_lang.specs.Shown.{bindings_of}
use Rattle.rdx_lang.specs.declared.binding.Binding as code
use Rattle.rdx_bind.specs.Combining.{JoinsAcross, rows_of}
use Rattle.rdx_bind.proofs.AcrossRows.{bindings_are_maps, rows_are_maps, listing_one, listing_parts, map_none, map_one, map_parts}
use Rattle.rdx_bind.proofs.rows.+joins_across.Goals as goal

pub returns-in-empty : goal.returns-in-empty
returns-in-empty t c =
    let e : rows_of c.args.rows.now ≡ [] = map_none (λ (row : Vec code.Binding Global). bindings_of row.items) c.args.rows.now c.in-empty.len_below in
    IfOk-weaker c.empty_where.result _ _ (λ v f. subst (λ (rows : List (List Binding)). IsListing binding_cmp (bindings_of v.items) (JoinsAcross rows)) (sym e) (listing_across_none IsJoin no_names (bindings_of v.items) f)) c.empty_where.ensures

pub returns-in_ok-shared_bindings-in-len1 : goal.returns-in_ok-shared_bindings-in-len1
returns-in_ok-shared_bindings-in-len1 t c =
    let row : List Binding = bindings_of c.row-item.result.items in
    let e : rows_of c.args.rows.now ≡ row ∷ [] = map_one (λ (r : Vec code.Binding Global). bindings_of r.items) c.args.rows.now c.row-item.result c.in-len1.len_at_least c.in-len1.len_below c.row-item.is in
    let f : bindings_of c.in_ok-shared_bindings-in-len1.field-0.items ≡ row = rw c.deref.ensures.value at c.in_ok-shared_bindings-in-len1.ensures in
    IfOk-weaker c.listing.result _ _ (λ v l. subst (λ (rows : List (List Binding)). IsListing binding_cmp (bindings_of v.items) (JoinsAcross rows)) (sym e)
    (listing_one row (bindings_of v.items) (bindings_are_maps c.row-item.result.items) (subst (λ (bs : List Binding). IsListing binding_cmp (bindings_of v.items) (λ b. In b bs)) f l))) c.listing.ensures

pub returns-in_ok-behind-in_default : goal.returns-in_ok-behind-in_default
returns-in_ok-behind-in_default t c =
    let half : ℕ = length c.args.rows.now / 2 in
    let xs : List (List Binding) = rows_of (take half c.args.rows.now) in
    let ys : List (List Binding) = rows_of (drop half c.args.rows.now) in
    let e : rows_of c.args.rows.now ≡ xs ++ ys = map_parts (λ (r : Vec code.Binding Global). bindings_of r.items) half c.args.rows.now in
    let bs : List Binding = bindings_of c.in_ok-before-in_default.before.items in
    let cs : List Binding = bindings_of c.in_ok-behind-in_default.behind.items in
    let l : IsListing binding_cmp bs (JoinsAcross xs) = rw c.split_at.ensures.front at c.in_ok-before-in_default.ensures in
    let m : IsListing binding_cmp cs (JoinsAcross ys) = rw c.split_at.ensures.back at c.in_ok-behind-in_default.ensures in
    IfOk-weaker c.joins_of.result _ _ (λ v n. subst (λ (rows : List (List Binding)). IsListing binding_cmp (bindings_of v.items) (JoinsAcross rows)) (sym e)
    (listing_parts xs ys bs cs (bindings_of v.items) (rows_are_maps (take half c.args.rows.now)) l m n)) c.joins_of.ensures
