-- The items of a list of data.
use Rattle.std.proofs.Common.{◌≡◌, List, [], ◌∷◌, refl, ap}
use Rattle.rdx_sexp.specs.Sexp.{Sexp, sexps}
use Rattle.rdx_patterns.specs.Parts.{listed}

-- the data of a list, listed again
pub listed-sexps : (ds : List Sexp) → listed (sexps ds) ≡ ds
listed-sexps [] = refl
listed-sexps (d ∷ ds) = ap (λ es. d ∷ es) (listed-sexps ds)
