-- The definitions of a language that are of no cross nonterminal.
use Rattle.std.proofs.Common.{◌≡◌, ℕ, List, [], ◌∷◌, refl, ap}
use Rattle.std.specs.Prelude.{◌||◌}
use Rattle.rdx_lang.specs.Crosses.{plain_definitions}
use Rattle.rdx_lang.specs.Patterns.{Definition}
use Rattle.rdx_lang.specs.References.{is_same, is_among}
use Rattle.rdx_lang.specs.declared.pattern.Ref.TheVariants.{Nt, Cross}
use Rattle.rdx_patterns.specs.Found.{heads}

-- a nonterminal that is no cross nonterminal is among them where it is among all
pub is_among-plain : (ds : List Definition) (z : List ℕ) → is_among (Nt z) (heads (plain_definitions ds)) ≡ is_among (Nt z) (heads ds)
is_among-plain [] z = refl
is_among-plain ((Nt w, ps) ∷ ds) z = ap (λ b. is_same (Nt z) (Nt w) || b) (is_among-plain ds z)
is_among-plain ((Cross w v, ps) ∷ ds) z = is_among-plain ds z
