-- The rows of a list: what each part of it binds where it matches, and the spots where it splits its terms, by their paths in the list. Where
-- the list is split, one part is, and all others match.
use Rattle.std.specs.Prelude.{◌≡◌, List, ◌∷◌, map}
use Rattle.rdx_lang.specs.Bindings.{Binding}
use Rattle.rdx_lang.specs.Join.{IsJoin}
use Rattle.rdx_lang.specs.Members.{In}
use Rattle.rdx_lang.specs.Shown.{bindings_of}
use Rattle.rdx_bind.specs.Combining.{JoinsAcross}
use Rattle.rdx_bind.specs.Spots.{Spot, spots_of}
use Rattle.rdx_bind.specs.declared.rows.Row as code

-- what a part binds where it matches its terms, and the spots where it splits them
pub record SplitRow : Type 0 where
  pub matches : List Binding
  pub spots : List Spot

-- what each row binds where it matches
abbrev pub all_matches : List SplitRow → List (List Binding)
all_matches rows = map (λ row. row.matches) rows

-- r is s, and binds besides what d binds
pub record JoinedSpot (s : Spot) (d : Binding) (r : Spot) : Type 0 where
  pub joined : IsJoin s.binding d r.binding
  pub path : r.path ≡ s.path

-- r is the spot of a list: one row is split, all others match, and what they bind is joined
pub data SpotsAcross : List SplitRow → Spot → Type 0 where
  across_here : {row : SplitRow} {rows : List SplitRow} {s r : Spot} {d : Binding} →
      In s row.spots → JoinsAcross (all_matches rows) d → JoinedSpot s d r → SpotsAcross (row ∷ rows) r
  across_behind : {row : SplitRow} {rows : List SplitRow} {s r : Spot} {c : Binding} →
      In c row.matches → SpotsAcross rows s → IsJoin c s.binding r.binding → r.path ≡ s.path → SpotsAcross (row ∷ rows) r

-- the row that a row of the code stands for
abbrev pub split_row_of : code.Row → SplitRow
split_row_of row = record { matches = bindings_of row.matches.items; spots = spots_of row.spots.items }

-- rows in their order
abbrev pub split_rows_of : List code.Row → List SplitRow
split_rows_of rows = map split_row_of rows

-- ---- parts of a list

-- r is one of the spots, and binds besides what all the rows bind where they match
pub record JoinedSpots (spots : List Spot) (rows : List SplitRow) (r : Spot) : Type 0 where
  pub spot : Spot
  pub among : In spot spots
  pub others : Binding
  pub across : JoinsAcross (all_matches rows) others
  pub by : JoinedSpot spot others r
