-- The rows of patterns that match by the term alone.
use Rattle.std.specs.Prelude.{Bool, true, false, List, [], ◌∷◌, if◌then◌else◌}
use Rattle.rdx_lang.specs.Bindings.{no_names}
use Rattle.rdx_bind.specs.Rows.{SplitRow}
use Rattle.rdx_bind.specs.Spots.{Spot}

-- the empty binding, or none, and no spots
abbrev pub plain_row : Bool → SplitRow
plain_row holds = record { matches = if holds then no_names ∷ [] else []; spots = [] }

-- the spots of the hole, where splits are asked for: the root alone
abbrev pub hole_spots : Bool → List Spot
hole_spots true = record { path = []; binding = no_names } ∷ []
hole_spots false = []
