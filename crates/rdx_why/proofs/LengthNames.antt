-- The name of which length names are made.
use Rattle.std.proofs.Common.{◌≡◌, true, [], ◌∷◌, refl}
use Rattle.std.specs.Str.{chars}
use Rattle.rdx_term.specs.Spelling.{is_name}

-- n is a name
pub n-is_name : is_name (110 ∷ []) ≡ true
unfolding chars
n-is_name = refl
