-- The paths that paths of the code stand for.
use Rattle.std.specs.Prelude.{ℕ, List, [], ◌∷◌}
use Rattle.rdx_bind.specs.declared.trail.Trail.{Trail, Here, Within'}

-- the places, from the root on
abbrev pub trail_of : Trail → List ℕ
trail_of Here = []
trail_of (Within' rc digest place rest) = place ∷ trail_of rest
