-- What turns bind, from exact lists of what the repetition binds.
use Rattle.std.proofs.Common.{◌≡◌, ◌∙◌, ℕ, zero, suc, ◌+◌, ◌-◌, ◌<◌, ◌⊎◌, inl, inr, List, [], ◌∷◌, ◌++◌, length, get_or, map, take, drop}
use Rattle.std.proofs.Common.{Option, Bool as Truth, refl, sym, ap, subst, arith}
use Rattle.std.proofs.lemmas.List.{get_or-map, take-map, drop-map}
use Rattle.rdx_lang.proofs.JoinLaws.{one_join, unit_right, unit_right-only}
use Rattle.rdx_lang.proofs.Collecting.{In_along, no_member, only}
use Rattle.rdx_lang.proofs.MemberLaws.{in-append, append-left, append-right, in-map, map-in}
use Rattle.rdx_lang.specs.Bindings.{Binding, bound_names, no_names}
use Rattle.rdx_lang.specs.Collecting.{Adds, Arises, Combined, HasExactly}
use Rattle.rdx_lang.specs.Join.{IsJoin}
use Rattle.rdx_lang.specs.Members.{In, here, there}
use Rattle.rdx_lang.specs.Shown.{bindings_of}
use Rattle.rdx_bind.specs.Choices.{ArePlain, NoneEmpty, Repeats, RepeatsWith, RowsBind}
use Rattle.rdx_bind.specs.Combining.{Joined}
use Rattle.rdx_bind.specs.Ends.{no_row, row_at, rows_around, rows_around_at, IsSpotWith, SplitsCell, SplitsNext, SplitsCellAt}
use Rattle.rdx_bind.specs.Ends.{SplitsNextAt}
use Rattle.rdx_bind.specs.Rows.{SplitRow, all_matches, split_row_of, split_rows_of}
use Rattle.rdx_bind.specs.Spots.{Spot, spots_of}
use Rattle.rdx_bind.specs.Turns.{BindExactly, PlainWhere}
use Rattle.rdx_bind.specs.declared.rows.Row as code
use Rattle.rdx_bind.proofs.AcrossRows.{AreMaps}

-- ---- joins

-- joins with one of what the repetition binds
pub joined_repeats : {xs : List (List ℕ)} {x : Option (List ℕ)} {rows : List (List Binding)} {firsts others : List Binding} (b : Binding) →
    HasExactly firsts (Repeats xs x rows) → Joined firsts others b → RepeatsWith xs x rows others b
joined_repeats b h a =
    record { collected = a.from; repeated = h.sound a.from a.among; other = a.by.from; among = a.by.among; joined = a.by.by }

-- are what it binds with what comes behind it
pub repeats_joined : {xs : List (List ℕ)} {x : Option (List ℕ)} {rows : List (List Binding)} {firsts others : List Binding} (b : Binding) →
    HasExactly firsts (Repeats xs x rows) → RepeatsWith xs x rows others b → Joined firsts others b
repeats_joined b h r =
    record { from = r.collected; among = h.complete r.collected r.repeated; by = record { from = r.other; among = r.among; by = r.joined } }

-- ---- names

-- a member of the first ones is one of all
pub take-in : {A : Type 0} (n : ℕ) (xs : List A) (x : A) → In x (take n xs) → In x xs
take-in zero xs x i = no_member i
take-in (suc n) [] x i = no_member i
take-in (suc n) (y ∷ xs) x (here e) = here e
take-in (suc n) (y ∷ xs) x (there i) = there (take-in n xs x i)

-- so is one of the others
pub drop-in : {A : Type 0} (n : ℕ) (xs : List A) (x : A) → In x (drop n xs) → In x xs
drop-in zero xs x i = i
drop-in (suc n) [] x i = no_member i
drop-in (suc n) (y ∷ xs) x i = there (drop-in n xs x i)

-- cells among those that bind exactly these names bind them
pub rows_bind : (xs : List (List ℕ)) (cells some : List SplitRow) → BindExactly xs cells →
    ((cell : SplitRow) → In cell some → In cell cells) → RowsBind xs (all_matches some)
rows_bind xs cells some h f row b i j =
    let k = in-map (λ (cell : SplitRow). cell.matches) some row i in
    h.matches k.0 b (f k.0 k.1) (In_along row k.0.matches k.2 j)

-- cells among those without mismatch names have none
pub plain_among : (plain : Truth) (cells some : List SplitRow) → PlainWhere plain cells → ((cell : SplitRow) → In cell some → In cell cells)
    → PlainWhere plain some
plain_among plain cells some h f t row i =
    let k = in-map (λ (cell : SplitRow). cell.matches) some row i in
    subst ArePlain (sym k.2) (h t k.0.matches (map-in (λ (cell : SplitRow). cell.matches) cells k.0 (f k.0 k.1)))

-- so do the cells from a place on
pub drop_binds : (xs : List (List ℕ)) (cells : List code.Row) (n : ℕ) → BindExactly xs (split_rows_of cells) →
    BindExactly xs (split_rows_of (drop n cells))
drop_binds xs cells n h = record {
  matches = λ cell c i j. h.matches cell c (among cell i) j;
  spots = λ cell s i j. h.spots cell s (among cell i) j;
}
  where
    among : (cell : SplitRow) → In cell (split_rows_of (drop n cells)) → In cell (split_rows_of cells)
    among cell i =
        drop-in n (split_rows_of cells) cell (In_along (split_rows_of (drop n cells)) (drop n (split_rows_of cells)) (sym (drop-map split_row_of n cells)) i)

-- nor have the first of them
pub take_plain : (plain : Truth) (cells : List code.Row) (n : ℕ) → PlainWhere plain (split_rows_of cells) → PlainWhere plain (split_rows_of (take n cells))
take_plain plain cells n h = plain_among plain (split_rows_of cells) (split_rows_of (take n cells)) h
    (λ cell i. take-in n (split_rows_of cells) cell (In_along (split_rows_of (take n cells)) (take n (split_rows_of cells)) (sym (take-map split_row_of n cells)) i))

-- nor those from a place on
pub drop_plain : (plain : Truth) (cells : List code.Row) (n : ℕ) → PlainWhere plain (split_rows_of cells) → PlainWhere plain (split_rows_of (drop n cells))
drop_plain plain cells n h = plain_among plain (split_rows_of cells) (split_rows_of (drop n cells)) h
    (λ cell i. drop-in n (split_rows_of cells) cell (In_along (split_rows_of (drop n cells)) (drop n (split_rows_of cells)) (sym (drop-map split_row_of n cells)) i))

-- so do cells with a turn between them that does
pub around_bind : (xs : List (List ℕ)) (before : List SplitRow) (c : Binding) (between : List SplitRow) →
    RowsBind xs (all_matches before) → bound_names c ≡ xs → RowsBind xs (all_matches between) →
    RowsBind xs (rows_around before c between)
around_bind xs before c between f e g row b i j = by_place (in-append (all_matches before) ((c ∷ []) ∷ all_matches between) row i)
  where
    behind : In row ((c ∷ []) ∷ all_matches between) → bound_names b ≡ xs
    behind (here k) = ap bound_names (only (In_along row (c ∷ []) k j)) ∙ e
    behind (there k) = g row b k j

    by_place : In row (all_matches before) ⊎ In row ((c ∷ []) ∷ all_matches between) → bound_names b ≡ xs
    by_place (inl k) = f row b k j
    by_place (inr k) = behind k

-- ---- spots

-- a spot with a join is fixed by its path and what is joined
pub one_spot_with : (s : Spot) (c d : Binding) (q r : Spot) → IsSpotWith s c d q → IsSpotWith s c d r → q ≡ r
one_spot_with s c d q r h g = same_spot (h.path ∙ sym g.path) (one_join c d q.binding r.binding h.joined g.joined)
  where
    same_spot : q.path ≡ r.path → q.binding ≡ r.binding → q ≡ r
    same_spot e f = λ i. record { path = e i; binding = f i }

-- spots with joins of what the repetition binds and what comes behind it
pub split_cell_joins : {xs : List (List ℕ)} {x : Option (List ℕ)} {before between : List SplitRow} {others firsts : List Binding} {s : Spot} (r : Spot) →
    HasExactly firsts (Repeats xs x (rows_around before s.binding between)) → Combined (IsSpotWith s) firsts others r → SplitsCell xs x before between others s r
split_cell_joins r h a = record {
  path = a.by.by.path;
  repeated =
      record { collected = a.from; repeated = h.sound a.from a.among; other = a.by.from; among = a.by.among; joined = a.by.by.joined };
}

pub joins_split_cell : {xs : List (List ℕ)} {x : Option (List ℕ)} {before between : List SplitRow} {others firsts : List Binding} {s : Spot} (r : Spot) →
    HasExactly firsts (Repeats xs x (rows_around before s.binding between)) → SplitsCell xs x before between others s r → Combined (IsSpotWith s) firsts others r
joins_split_cell r h p = record {
  from = p.repeated.collected;
  among = h.complete p.repeated.collected p.repeated.repeated;
  by = record { from = p.repeated.other; among = p.repeated.among; by = record { path = p.path; joined = p.repeated.joined } };
}

-- the same with what is bound where the list is split behind the cells
pub split_next_joins : {xs : List (List ℕ)} {x : Option (List ℕ)} {before : List SplitRow} {firsts : List Binding} {s : Spot} (r : Spot) →
    HasExactly firsts (Repeats xs x (all_matches before)) → Combined (IsSpotWith s) firsts (s.binding ∷ []) r → SplitsNext xs x before s r
split_next_joins r h a = record {
  path = a.by.by.path;
  repeated =
      record { collected = a.from; repeated = h.sound a.from a.among; other = a.by.from; among = a.by.among; joined = a.by.by.joined };
}

pub joins_split_next : {xs : List (List ℕ)} {x : Option (List ℕ)} {before : List SplitRow} {firsts : List Binding} {s : Spot} (r : Spot) →
    HasExactly firsts (Repeats xs x (all_matches before)) → SplitsNext xs x before s r → Combined (IsSpotWith s) firsts (s.binding ∷ []) r
joins_split_next r h p = record {
  from = p.repeated.collected;
  among = h.complete p.repeated.collected p.repeated.repeated;
  by = record { from = p.repeated.other; among = p.repeated.among; by = record { path = p.path; joined = p.repeated.joined } };
}

-- ---- places

-- what stands at a place is a member
pub at_place : {A : Type 0} (xs : List A) (i : ℕ) (d : A) → i < length xs → In (get_or xs i d) xs
at_place [] i d h = absurd (omega arith)
at_place (x ∷ xs) zero d h = here refl
at_place (x ∷ xs) (suc i) d h = there (at_place xs i d (omega arith))

-- so is its image one of the images
pub item_in : {A B : Type 0} (f : A → B) (xs : List A) (i : ℕ) (x : A) → i < length xs → x ≡ get_or xs i x → In (f x) (map f xs)
item_in f xs i x h e = subst (λ (y : _). In (f y) (map f xs)) (sym e) (map-in f xs (get_or xs i x) (at_place xs i x h))

-- the row of the code at a place
pub row_found : (rows : List code.Row) (n : ℕ) (d : code.Row) → n < length rows →
    row_at n (split_rows_of rows) ≡ split_row_of (get_or rows n d)
row_found rows n d h = get_or-map split_row_of rows n d no_row h

-- the first rows of the code
pub first_rows : (rows : List code.Row) (n : ℕ) → split_rows_of (take n rows) ≡ take n (split_rows_of rows)
first_rows rows n = sym (take-map split_row_of n rows)

-- those between two places
pub rows_between : (rows : List code.Row) (m n : ℕ) → split_rows_of (take n (drop m rows)) ≡ take n (drop m (split_rows_of rows))
rows_between rows m n = first_rows (drop m rows) n ∙ ap (λ (r : List SplitRow). take n r) (sym (drop-map split_row_of m rows))

-- what binds no name adds nothing
pub joined_unit : (firsts others : List Binding) → others ≡ no_names ∷ [] → AreMaps firsts → HasExactly firsts (Joined firsts others)
joined_unit firsts others e h = subst (λ (cs : List Binding). HasExactly firsts (Joined firsts cs)) (sym e) (record {
  sound = λ b i. record { from = b; among = i; by = record { from = no_names; among = here refl; by = unit_right b (h b i) } };
  complete = complete;
})
  where
    complete : (b : Binding) → Joined firsts (no_names ∷ []) b → In b firsts
    complete b a =
        let j : IsJoin a.from no_names b = subst (λ (c : Binding). IsJoin a.from c b) (only a.by.among) a.by.by in
        subst (λ (c : Binding). In c firsts) (sym (unit_right-only (h a.from a.among) j)) a.among

-- the members of another list are added
pub adds_members : {A : Type 0} (xs ys all : List A) → all ≡ xs ++ ys → Adds (λ x. In x ys) xs all
adds_members xs ys all e x = (
  λ i. in-append xs ys x (In_along all (xs ++ ys) e i),
  elim [ inl i ↦ In_along (xs ++ ys) all (sym e) (append-left xs ys x i) | inr i ↦ In_along (xs ++ ys) all (sym e) (append-right xs ys x i) ],
)

-- ---- spots of rows of the code

-- the cells before and between bind the names, and so does the spot
pub around_rows_bind : (xs : List (List ℕ)) (cells : List code.Row) (m n : ℕ) (d : code.Row) (s : Spot) →
    BindExactly xs (split_rows_of cells) → m < length cells →
    In s (spots_of (get_or cells m d).spots.items) → RowsBind xs (rows_around (split_rows_of (take m cells)) s.binding (split_rows_of (take n (drop (m + 1) cells))))
around_rows_bind xs cells m n d s h k i =
    let all : List SplitRow = split_rows_of cells in
    let before : List SplitRow = split_rows_of (take m cells) in
    let between : List SplitRow = split_rows_of (take n (drop (m + 1) cells)) in
    let r : code.Row = get_or cells m d in
    around_bind xs before s.binding between
    (rows_bind xs all before h (λ cell j. take-in m all cell (In_along before (take m all) (first_rows cells m) j)))
    (h.spots (split_row_of r) s (map-in split_row_of cells r (at_place cells m d k)) i)
    (rows_bind xs all between h (λ cell j. drop-in (m + 1) all cell (take-in n (drop (m + 1) all) cell (In_along between (take n (drop (m + 1) all)) (rows_between cells (m + 1) n) j))))

-- none of them is empty
pub around_rows_full : (cells : List code.Row) (m n : ℕ) (c : Binding) → NoneEmpty (rows_around_at (split_rows_of cells) m n c) →
    NoneEmpty (rows_around (split_rows_of (take m cells)) c (split_rows_of (take (n - (m + 1)) (drop (m + 1) cells))))
around_rows_full cells m n c h =
    let between : List SplitRow = split_rows_of (take (n - (m + 1)) (drop (m + 1) cells)) in
    subst (λ (rows : List SplitRow). NoneEmpty (rows_around rows c between)) (sym (first_rows cells m))
    (subst (λ (rows : List SplitRow). NoneEmpty (rows_around (take m (split_rows_of cells)) c rows)) (sym (rows_between cells (m + 1) (n - (m + 1)))) h)

module _ (xs : List (List ℕ)) (x : Option (List ℕ)) (cells nexts : List code.Row) (found : List Spot) where
  -- what is found with rows of the code are the spots at the place
  pub split_cell_at : (m n : ℕ) (d e : code.Row) → m < length cells → n < length nexts →
      HasExactly found (Arises (SplitsCell xs x (split_rows_of (take m cells)) (split_rows_of (take (n - (m + 1)) (drop (m + 1) cells))) (bindings_of (get_or nexts n e).matches.items))
      (spots_of (get_or cells m d).spots.items)) → HasExactly found (SplitsCellAt xs x (split_rows_of cells) (split_rows_of nexts) m n)
  split_cell_at m n d e h k a =
      let before : List SplitRow = take m (split_rows_of cells) in
      let between : List SplitRow = take (n - (m + 1)) (drop (m + 1) (split_rows_of cells)) in
      let other : code.Row = get_or nexts n e in
      let cell : code.Row = get_or cells m d in
      let b =
      subst (λ (rows : List SplitRow). HasExactly found (Arises (SplitsCell xs x rows (split_rows_of (take (n - (m + 1)) (drop (m + 1) cells))) (bindings_of other.matches.items))
      (spots_of cell.spots.items))) (first_rows cells m) a in
      let c =
      subst (λ (rows : List SplitRow). HasExactly found (Arises (SplitsCell xs x before rows (bindings_of other.matches.items)) (spots_of cell.spots.items))) (rows_between cells (m + 1) (n - (m + 1))) b in
      let f =
      subst (λ (row : SplitRow). HasExactly found (Arises (SplitsCell xs x before between row.matches) (spots_of cell.spots.items))) (sym (row_found nexts n e k)) c in
      subst (λ (row : SplitRow). HasExactly found (Arises (SplitsCell xs x before between (row_at n (split_rows_of nexts)).matches) row.spots)) (sym (row_found cells m d h)) f

  -- what is found behind the cells are the spots there
  pub split_next_at : (n : ℕ) (d : code.Row) → n < length nexts →
      HasExactly found (Arises (SplitsNext xs x (split_rows_of (take n cells))) (spots_of (get_or nexts n d).spots.items))
      → HasExactly found (SplitsNextAt xs x (split_rows_of cells) (split_rows_of nexts) n)
  split_next_at n d k a =
      let next : code.Row = get_or nexts n d in
      let b =
      subst (λ (rows : List SplitRow). HasExactly found (Arises (SplitsNext xs x rows) (spots_of next.spots.items))) (first_rows cells n) a in
      subst (λ (row : SplitRow). HasExactly found (Arises (SplitsNext xs x (take n (split_rows_of cells))) row.spots)) (sym (row_found nexts n d k)) b
