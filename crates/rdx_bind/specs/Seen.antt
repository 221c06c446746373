-- What is seen of a spot: its path, and its names without its mismatch names.
use Rattle.std.specs.Prelude.{◌≡◌, List, []}
use Rattle.rdx_lang.specs.Bindings.{visible}
use Rattle.rdx_lang.specs.Members.{In}
use Rattle.rdx_bind.specs.Spots.{Spot}

-- what is seen of the spot
abbrev pub visible_spot : Spot → Spot
visible_spot s = record { path = s.path; binding = visible s.binding }

-- none of the spots has a mismatch name
abbrev pub SpotsArePlain : List Spot → Type 0
SpotsArePlain ss = (s : Spot) → In s ss → s.binding.differs ≡ []
