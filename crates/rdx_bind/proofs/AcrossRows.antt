-- Joins across rows that come in two parts: what comes across all is joined of what comes across each part, and the binding of no name
-- adds nothing.
use Rattle.std.proofs.Common.{◌≡◌, ◌∙◌, List, [], ◌∷◌, ◌++◌, ◌<◌, ◌≤◌, length, get_or, map, take, drop, ℕ, Vec, refl, sym, ap, subst, arith}
use Rattle.std.proofs.lemmas.List.{map-append, take-append-drop}
use Rattle.std.specs.declared.alloc.Global.{Global}
use Rattle.rdx_lang.proofs.Collecting.{listing_of, only}
use Rattle.rdx_lang.proofs.JoinLaws.{join_ascends, no_names-ascends, unit_left, unit_left-only, unit_right, unit_right-only}
use Rattle.rdx_lang.proofs.Joins.{joined_first, joined_last}
use Rattle.rdx_lang.proofs.MemberLaws.{in-map}
use Rattle.rdx_lang.specs.Ascending.{IsAscending}
use Rattle.rdx_lang.specs.Bindings.{Binding, no_names, HasAscendingNames}
use Rattle.rdx_lang.specs.Collecting.{across_none, across_row}
use Rattle.rdx_lang.specs.Join.{IsJoin}
use Rattle.rdx_lang.specs.Listing.{IsListing}
use Rattle.rdx_lang.specs.Members.{In, here, there}
use Rattle.rdx_lang.specs.Order.{binding_cmp}
use Rattle.rdx_lang.specs.Shown.{binding_of, bindings_of}
use Rattle.rdx_lang.specs.declared.binding.Binding as code
use Rattle.rdx_bind.specs.Combining.{Joined, JoinsAcross, rows_of}

-- ---- finite maps

-- each of the bindings is a finite map
abbrev pub AreMaps : List Binding → Type 0
AreMaps bs = (b : Binding) → In b bs → HasAscendingNames b

-- each binding of each row is a finite map
abbrev pub RowsAreMaps : List (List Binding) → Type 0
RowsAreMaps rows = (row : List Binding) → In row rows → AreMaps row

-- the bindings of the code are finite maps
pub bindings_are_maps : (bs : List code.Binding) → AreMaps (bindings_of bs)
bindings_are_maps bs b h = let k = in-map binding_of bs b h in subst HasAscendingNames (sym k.2) (k.0.ascending, k.0.sets)

-- so are those of rows
pub rows_are_maps : (rows : List (Vec code.Binding Global)) → RowsAreMaps (rows_of rows)
rows_are_maps rows row h =
    let k = in-map (λ (r : Vec code.Binding Global). bindings_of r.items) rows row h in
    subst AreMaps (sym k.2) (bindings_are_maps k.0.items)

-- what comes across rows is a finite map
pub across_map : (rows : List (List Binding)) (b : Binding) → JoinsAcross rows b → HasAscendingNames b
across_map [] b across_none = no_names-ascends
across_map (row ∷ rows) b (across_row i a j) = join_ascends j

-- ---- no name

-- no name alone, joined with a listing of maps, is that listing
pub listing_unit_left : (firsts others : List Binding) → firsts ≡ no_names ∷ [] → AreMaps others → IsAscending binding_cmp others → IsListing binding_cmp others (Joined firsts others)
listing_unit_left firsts others e h k = subst (λ (cs : List Binding). IsListing binding_cmp others (Joined cs others)) (sym e) (record {
  ascending = k;
  sound = λ b i. record { from = no_names; among = here refl; by = record { from = b; among = i; by = unit_left b (h b i) } };
  complete = complete;
})
  where
    complete : (b : Binding) → Joined (no_names ∷ []) others b → In b others
    complete b a =
        let j : IsJoin no_names a.by.from b = subst (λ (c : Binding). IsJoin c a.by.from b) (only a.among) a.by.by in
        subst (λ (c : Binding). In c others) (sym (unit_left-only (h a.by.from a.by.among) j)) a.by.among

-- a listing of maps, joined with no name alone, is that listing
pub listing_unit_right : (firsts others : List Binding) → others ≡ no_names ∷ [] → AreMaps firsts → IsAscending binding_cmp firsts → IsListing binding_cmp firsts (Joined firsts others)
listing_unit_right firsts others e h k = subst (λ (cs : List Binding). IsListing binding_cmp firsts (Joined firsts cs)) (sym e) (record {
  ascending = k;
  sound = λ b i. record { from = b; among = i; by = record { from = no_names; among = here refl; by = unit_right b (h b i) } };
  complete = complete;
})
  where
    complete : (b : Binding) → Joined firsts (no_names ∷ []) b → In b firsts
    complete b a =
        let j : IsJoin a.from no_names b = subst (λ (c : Binding). IsJoin a.from c b) (only a.by.among) a.by.by in
        subst (λ (c : Binding). In c firsts) (sym (unit_right-only (h a.from a.among) j)) a.among

-- ---- one row

-- what comes across one row is a binding of it
pub across_one : (row : List Binding) (b : Binding) → AreMaps row → JoinsAcross (row ∷ []) b → In b row
across_one row b h (across_row {x = x} i across_none j) = subst (λ (c : Binding). In c row) (sym (unit_right-only (h x i) j)) i

-- each binding of a row comes across it
pub one_across : (row : List Binding) (b : Binding) → AreMaps row → In b row → JoinsAcross (row ∷ []) b
one_across row b h i = across_row i across_none (unit_right b (h b i))

-- the listing of one row
pub listing_one : (row bs : List Binding) → AreMaps row → IsListing binding_cmp bs (λ b. In b row) → IsListing binding_cmp bs (JoinsAcross (row ∷ []))
listing_one row bs h l = listing_of (λ b i. one_across row b h i) (λ b a. across_one row b h a) l

-- ---- two parts

-- b is joined of what comes across the first rows and across the others
pub record AcrossBoth (firsts others : List (List Binding)) (b : Binding) : Type 0 where
  pub first : Binding
  pub other : Binding
  pub across_firsts : JoinsAcross firsts first
  pub across_others : JoinsAcross others other
  pub joined : IsJoin first other b

-- what comes across all comes of both parts
pub across_parts : (xs ys : List (List Binding)) (b : Binding) → RowsAreMaps xs → JoinsAcross (xs ++ ys) b → AcrossBoth xs ys b
across_parts [] ys b h a = record { first = no_names; other = b; across_firsts = across_none; across_others = a; joined = unit_left b (across_map ys b a) }
across_parts (row ∷ xs) ys b h (across_row {x = x} {y = y} i a j) =
    let k : AcrossBoth xs ys y = across_parts xs ys y (λ r m. h r (there m)) a in
    let l = joined_first x k.first k.other y b (h row (here refl) x i) (across_map xs k.first k.across_firsts) k.joined j in
    record { first = l.0; other = k.other; across_firsts = across_row i k.across_firsts l.1; across_others = k.across_others; joined = l.2 }

-- what comes of both parts comes across all
pub parts_across : (xs ys : List (List Binding)) (c d b : Binding) → JoinsAcross xs c → JoinsAcross ys d → IsJoin c d b → JoinsAcross (xs ++ ys) b
parts_across [] ys c d b across_none a j = subst (JoinsAcross ys) (sym (unit_left-only (across_map ys d a) j)) a
parts_across (row ∷ xs) ys c d b (across_row {x = x} {y = y} i r k) a j =
    let l = joined_last x y d c b (across_map xs y r) (across_map ys d a) k j in
    across_row i (parts_across xs ys y d l.0 r a l.1) l.2

-- the listing across all rows, from those across both parts
pub listing_parts : (xs ys : List (List Binding)) (bs cs ds : List Binding) → RowsAreMaps xs → IsListing binding_cmp bs (JoinsAcross xs) → IsListing binding_cmp cs (JoinsAcross ys)
    → IsListing binding_cmp ds (Joined bs cs) → IsListing binding_cmp ds (JoinsAcross (xs ++ ys))
listing_parts xs ys bs cs ds h l m n = listing_of joined parted n
  where
    joined : (b : Binding) → Joined bs cs b → JoinsAcross (xs ++ ys) b
    joined b a = parts_across xs ys a.from a.by.from b (l.sound a.from a.among) (m.sound a.by.from a.by.among) a.by.by

    parted : (b : Binding) → JoinsAcross (xs ++ ys) b → Joined bs cs b
    parted b a =
        let k : AcrossBoth xs ys b = across_parts xs ys b h a in
        record { from = k.first; among = l.complete k.first k.across_firsts; by = record { from = k.other; among = m.complete k.other k.across_others; by = k.joined } }

-- ---- images of lists

-- of no member
pub map_none : {A B : Type 0} (f : A → B) (xs : List A) → length xs < 1 → map f xs ≡ []
map_none f [] h = refl
map_none f (x ∷ xs) h = absurd (omega arith)

-- of one member
pub map_one : {A B : Type 0} (f : A → B) (xs : List A) (x : A) → 1 ≤ length xs → length xs < 2 → x ≡ get_or xs 0 x → map f xs ≡ f x ∷ []
map_one f [] x h k e = absurd (omega arith)
map_one f (y ∷ []) x h k e = ap (λ z. f z ∷ []) (sym e)
map_one f (y ∷ z ∷ xs) x h k e = absurd (omega arith)

-- of a part at the beginning, and of the rest
pub map_parts : {A B : Type 0} (f : A → B) (n : ℕ) (xs : List A) → map f xs ≡ map f (take n xs) ++ map f (drop n xs)
map_parts f n xs = ap (map f) (sym (take-append-drop n xs)) ∙ map-append f (take n xs) (drop n xs)
