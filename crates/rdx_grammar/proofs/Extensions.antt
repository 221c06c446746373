-- The definitions of a form that extends no language.
use Rattle.std.proofs.Common.{◌≡◌, List, [], ◌∷◌, refl, ap}
use Rattle.rdx_lang.specs.Patterns.{Definition}
use Rattle.rdx_grammar.specs.Extension.{added, extended}
use Rattle.rdx_grammar.specs.Languages.{empty_language}

-- all are added where the base has none
added-none : (new : List Definition) → added [] new ≡ new
added-none [] = refl
added-none (d ∷ ds) = ap (λ (x : List Definition). d ∷ x) (added-none ds)

-- they are the new ones alone
pub extended-empty : (new : List Definition) → extended empty_language new ≡ new
extended-empty new = added-none new
