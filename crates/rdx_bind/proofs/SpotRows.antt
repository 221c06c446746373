-- Spots across rows that come in two parts: a part is split, and joined with what the other part binds.
use Rattle.std.proofs.Common.{◌≡◌, ◌∙◌, ◌⊎◌, inl, inr, List, [], ◌∷◌, ◌++◌, refl, sym, subst}
use Rattle.std.proofs.lemmas.List.{map-append}
use Rattle.rdx_lang.proofs.Collecting.{In_along, only}
use Rattle.rdx_lang.proofs.JoinLaws.{one_join, join_ascends, turned_join, unit_right, unit_right-only}
use Rattle.rdx_lang.proofs.Joins.{joined_first, joined_last}
use Rattle.rdx_lang.proofs.MemberLaws.{in-map, in-append, append-left, append-right}
use Rattle.rdx_lang.specs.Bindings.{Binding, no_names, HasAscendingNames}
use Rattle.rdx_lang.specs.Collecting.{Combined, HasExactly, across_none, across_row}
use Rattle.rdx_lang.specs.Join.{IsJoin}
use Rattle.rdx_lang.specs.Members.{In, here, there}
use Rattle.rdx_bind.specs.Combining.{JoinsAcross}
use Rattle.rdx_bind.specs.Rows.{SplitRow, all_matches, SpotsAcross, across_here, across_behind, split_row_of, split_rows_of, JoinedSpot, JoinedSpots}
use Rattle.rdx_bind.specs.Spots.{Spot, spot_of, spots_of}
use Rattle.rdx_bind.specs.declared.rows.Row as code
use Rattle.rdx_bind.specs.declared.spots.Spot as code_spot
use Rattle.rdx_bind.proofs.Extended.{one_spot}
use Rattle.rdx_bind.proofs.AcrossRows.{AreMaps, RowsAreMaps, bindings_are_maps, across_map, AcrossBoth, across_parts, parts_across}

-- ---- finite maps

-- what each of the spots binds is a finite map
abbrev pub SpotsAreMaps : List Spot → Type 0
SpotsAreMaps spots = (s : Spot) → In s spots → HasAscendingNames s.binding

-- all that the row binds is
pub record IsMapRow (row : SplitRow) : Type 0 where
  pub matches : AreMaps row.matches
  pub spots : SpotsAreMaps row.spots

-- all that the rows bind is
abbrev pub AreMapRows : List SplitRow → Type 0
AreMapRows rows = (row : SplitRow) → In row rows → IsMapRow row

-- what spots of the code bind is a finite map
pub spots_are_maps : (spots : List code_spot.Spot) → SpotsAreMaps (spots_of spots)
spots_are_maps spots s h = let k = in-map spot_of spots s h in subst (λ (z : Spot). HasAscendingNames z.binding) (sym k.2) (k.0.binding.ascending, k.0.binding.sets)

-- so is what rows of the code bind
pub split_rows_are_maps : (rows : List code.Row) → AreMapRows (split_rows_of rows)
split_rows_are_maps rows row h =
    let k = in-map split_row_of rows row h in
    subst IsMapRow (sym k.2) (record { matches = bindings_are_maps k.0.matches.items; spots = spots_are_maps k.0.spots.items })

-- what the rows bind where they match
pub matches_are_maps : (rows : List SplitRow) → AreMapRows rows → RowsAreMaps (all_matches rows)
matches_are_maps rows h ms i b j =
    let k = in-map (λ (r : SplitRow). r.matches) rows ms i in
    (h k.0 k.1).matches b (In_along ms k.0.matches k.2 j)

-- what a spot of rows binds
across_spot_map : (rows : List SplitRow) (r : Spot) → SpotsAcross rows r → HasAscendingNames r.binding
across_spot_map (row ∷ rows) r (across_here i a p) = join_ascends p.joined
across_spot_map (row ∷ rows) r (across_behind i q j e) = join_ascends j
across_spot_map [] r h = elim h [ ]

-- ---- two parts

-- r is split of one of two parts, and joined with what the other binds
pub record SplitFirst (firsts others : List SplitRow) (r : Spot) : Type 0 where
  pub spot : Spot
  pub within : SpotsAcross firsts spot
  pub other : Binding
  pub across : JoinsAcross (all_matches others) other
  pub by : JoinedSpot spot other r

pub record SplitOther (firsts others : List SplitRow) (r : Spot) : Type 0 where
  pub spot : Spot
  pub within : SpotsAcross others spot
  pub first : Binding
  pub across : JoinsAcross (all_matches firsts) first
  pub by : JoinedSpot spot first r

-- what the rows of two parts bind where they match
pub matches_append : (xs ys : List SplitRow) → all_matches (xs ++ ys) ≡ all_matches xs ++ all_matches ys
matches_append xs ys = map-append (λ (r : SplitRow). r.matches) xs ys

module _ (row : SplitRow) (xs ys : List SplitRow) (h : AreMapRows (row ∷ xs)) where
  -- the rows behind the first
  rest_maps : AreMapRows xs
  rest_maps r i = h r (there i)

  -- the first row is split
  here_parts : (s r : Spot) (d : Binding) → In s row.spots → JoinsAcross (all_matches (xs ++ ys)) d → JoinedSpot s d r → SplitFirst (row ∷ xs) ys r
  here_parts s r d i a p =
      let k : AcrossBoth (all_matches xs) (all_matches ys) d = across_parts (all_matches xs) (all_matches ys) d (matches_are_maps xs rest_maps) (subst (λ (m : List (List Binding)). JoinsAcross m d) (matches_append xs ys) a) in
      let l = joined_first s.binding k.first k.other d r.binding ((h row (here refl)).spots s i) (across_map (all_matches xs) k.first k.across_firsts) k.joined p.joined in
      record {
        spot = record { path = r.path; binding = l.0 };
        within = across_here i k.across_firsts (record { joined = l.1; path = p.path });
        other = k.other;
        across = k.across_others;
        by = record { joined = l.2; path = refl };
      }

  -- a row of the first part, behind the first row, is split
  behind_first : (c : Binding) (s r : Spot) → In c row.matches → IsJoin c s.binding r.binding → r.path ≡ s.path → SplitFirst xs ys s → SplitFirst (row ∷ xs) ys r
  behind_first c s r i j e p =
      let l = joined_first c p.spot.binding p.other s.binding r.binding ((h row (here refl)).matches c i) (across_spot_map xs p.spot p.within) p.by.joined j in
      record {
        spot = record { path = r.path; binding = l.0 };
        within = across_behind i p.within l.1 (e ∙ p.by.path);
        other = p.other;
        across = p.across;
        by = record { joined = l.2; path = refl };
      }

  -- a row of the other part is split
  behind_other : (c : Binding) (s r : Spot) → In c row.matches → IsJoin c s.binding r.binding → r.path ≡ s.path → SplitOther xs ys s → SplitOther (row ∷ xs) ys r
  behind_other c s r i j e p =
      let t : IsJoin p.first p.spot.binding s.binding = turned_join p.spot.binding p.first s.binding p.by.joined in
      let l = joined_first c p.first p.spot.binding s.binding r.binding ((h row (here refl)).matches c i) (across_map (all_matches xs) p.first p.across) t j in
      record {
        spot = p.spot;
        within = p.within;
        first = l.0;
        across = across_row i p.across l.1;
        by = record { joined = turned_join l.0 p.spot.binding r.binding l.2; path = e ∙ p.by.path };
      }

-- a spot of all rows is one of the first part or of the other
pub spots_parts : (xs ys : List SplitRow) (r : Spot) → AreMapRows xs → SpotsAcross (xs ++ ys) r → SplitFirst xs ys r ⊎ SplitOther xs ys r
spots_parts [] ys r h q =
    inr (record { spot = r; within = q; first = no_names; across = across_none; by = record { joined = unit_right r.binding (across_spot_map ys r q); path = refl } })
spots_parts (row ∷ xs) ys r h (across_here {s = s} {d = d} i a p) = inl (here_parts row xs ys h s r d i a p)
spots_parts (row ∷ xs) ys r h (across_behind {s = s} {c = c} i q j e) =
    elim (spots_parts xs ys s (λ t k. h t (there k)) q)
    [ inl p ↦ inl (behind_first row xs ys h c s r i j e p) | inr p ↦ inr (behind_other row xs ys h c s r i j e p) ]

-- ---- and back

-- a spot of the first part, joined with what the other binds
pub parts_first : (xs ys : List SplitRow) (s r : Spot) (d : Binding) → SpotsAcross xs s → JoinsAcross (all_matches ys) d → JoinedSpot s d r → SpotsAcross (xs ++ ys) r
parts_first [] ys s r d h a p = elim h [ ]
parts_first (row ∷ xs) ys s r d (across_here {s = t} {d = c} i b q) a p =
    let l = joined_last t.binding c d s.binding r.binding (across_map (all_matches xs) c b) (across_map (all_matches ys) d a) q.joined p.joined in
    let m : JoinsAcross (all_matches xs ++ all_matches ys) l.0 = parts_across (all_matches xs) (all_matches ys) c d l.0 b a l.1 in
    across_here i (subst (λ (ms : List (List Binding)). JoinsAcross ms l.0) (sym (matches_append xs ys)) m) (record { joined = l.2; path = p.path ∙ q.path })
parts_first (row ∷ xs) ys s r d (across_behind {s = t} {c = c} i q j e) a p =
    let l = joined_last c t.binding d s.binding r.binding (across_spot_map xs t q) (across_map (all_matches ys) d a) j p.joined in
    let u : Spot = record { path = t.path; binding = l.0 } in
    across_behind i (parts_first xs ys t u d q a (record { joined = l.1; path = refl })) l.2 (p.path ∙ e)

-- a spot of the other part, joined with what the first binds
pub parts_other : (xs ys : List SplitRow) (s r : Spot) (c : Binding) → SpotsAcross ys s → JoinsAcross (all_matches xs) c → JoinedSpot s c r → SpotsAcross (xs ++ ys) r
parts_other [] ys s r c q across_none p =
    let same : s ≡ r = one_spot s r (sym p.path) (sym (unit_right-only (across_spot_map ys s q) p.joined)) in
    subst (SpotsAcross ys) same q
parts_other (row ∷ xs) ys s r c q (across_row {x = x} {y = y} i a k) p =
    let t : IsJoin c s.binding r.binding = turned_join s.binding c r.binding p.joined in
    let l = joined_last x y s.binding c r.binding (across_map (all_matches xs) y a) (across_spot_map ys s q) k t in
    let u : Spot = record { path = s.path; binding = l.0 } in
    across_behind i (parts_other xs ys s u y q a (record { joined = turned_join y s.binding l.0 l.1; path = refl })) l.2 p.path

-- ---- lists with exactly the spots

-- the spots of all rows, from those of both parts
pub exactly_parts : (xs ys : List SplitRow) (before behind found more all : List Spot) → AreMapRows xs
    → HasExactly before (SpotsAcross xs) → HasExactly behind (SpotsAcross ys) → HasExactly found (JoinedSpots before ys) → HasExactly more (JoinedSpots behind xs)
    → all ≡ found ++ more → HasExactly all (SpotsAcross (xs ++ ys))
exactly_parts xs ys before behind found more all h b c f k e = record { sound = λ r i. sound r (in-append found more r (In_along all (found ++ more) e i)); complete = λ r q. In_along (found ++ more) all (sym e) (complete r (spots_parts xs ys r h q)) }
  where
    sound : (r : Spot) → In r found ⊎ In r more → SpotsAcross (xs ++ ys) r
    sound r (inl i) = let p : JoinedSpots before ys r = f.sound r i in parts_first xs ys p.spot r p.others (b.sound p.spot p.among) p.across p.by
    sound r (inr i) = let p : JoinedSpots behind xs r = k.sound r i in parts_other xs ys p.spot r p.others (c.sound p.spot p.among) p.across p.by

    complete : (r : Spot) → SplitFirst xs ys r ⊎ SplitOther xs ys r → In r (found ++ more)
    complete r (inl p) = append-left found more r (f.complete r (record { spot = p.spot; among = b.complete p.spot p.within; others = p.other; across = p.across; by = p.by }))
    complete r (inr p) = append-right found more r (k.complete r (record { spot = p.spot; among = c.complete p.spot p.within; others = p.first; across = p.across; by = p.by }))

-- a spot of a row is one across it alone
pub one_spot_across : (row : SplitRow) (r : Spot) → SpotsAreMaps row.spots → In r row.spots → SpotsAcross (row ∷ []) r
one_spot_across row r h i = across_here i across_none (record { joined = unit_right r.binding (h r i); path = refl })

-- and no other
pub across_one_spot : (row : SplitRow) (r : Spot) → SpotsAreMaps row.spots → SpotsAcross (row ∷ []) r → In r row.spots
across_one_spot row r h (across_here {s = s} i across_none p) =
    let same : s ≡ r = one_spot s r (sym p.path) (sym (unit_right-only (h s i) p.joined)) in
    subst (λ (z : Spot). In z row.spots) same i
across_one_spot row r h (across_behind i q j e) = elim q [ ]

-- the spots of one row
pub exactly_one : (row : SplitRow) (all : List Spot) → SpotsAreMaps row.spots → all ≡ row.spots → HasExactly all (SpotsAcross (row ∷ []))
exactly_one row all h e = record {
  sound = λ r i. one_spot_across row r h (In_along all row.spots e i);
  complete = λ r q. In_along row.spots all (sym e) (across_one_spot row r h q);
}

-- a spot, joined with a binding, is one spot at most
pub one_joined : (s r t : Spot) (d : Binding) → JoinedSpot s d r → JoinedSpot s d t → r ≡ t
one_joined s r t d p q = one_spot r t (p.path ∙ sym q.path) (one_join s.binding d r.binding t.binding p.joined q.joined)

-- spots, joined with no name alone, are the same
pub exactly_unit : (spots : List Spot) (others : List Binding) → SpotsAreMaps spots → others ≡ no_names ∷ [] → HasExactly spots (Combined JoinedSpot spots others)
exactly_unit spots others h e = subst (λ (bs : List Binding). HasExactly spots (Combined JoinedSpot spots bs)) (sym e) (record { sound = sound; complete = complete })
  where
    sound : (r : Spot) → In r spots → Combined JoinedSpot spots (no_names ∷ []) r
    sound r i = record { from = r; among = i; by = record { from = no_names; among = here refl; by = record { joined = unit_right r.binding (h r i); path = refl } } }

    complete : (r : Spot) → Combined JoinedSpot spots (no_names ∷ []) r → In r spots
    complete r a =
        let p : JoinedSpot a.from no_names r = subst (λ (c : Binding). JoinedSpot a.from c r) (only a.by.among) a.by.by in
        let same : a.from ≡ r = one_spot a.from r (sym p.path) (sym (unit_right-only (h a.from a.among) p.joined)) in
        subst (λ (z : Spot). In z spots) same a.among
