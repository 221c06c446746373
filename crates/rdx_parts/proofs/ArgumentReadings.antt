-- What the arguments of a conclusion or a premise are read as, one by one.
use Rattle.std.proofs.Common.{◌≡◌, ◌++◌, ℕ, Bool, true, false, not, List, [], ◌∷◌, ◌⊎◌, inl, inr, map, refl, ap}
use Rattle.rdx_sexp.specs.Sexp.{Sexp}
use Rattle.rdx_lang.specs.PatternView.{just, items_of}
use Rattle.rdx_lang.specs.Patterns as trees
use Rattle.rdx_lang.specs.Patterns.{Items}
use Rattle.rdx_patterns.specs.Reading.{reading}
use Rattle.rdx_patterns.specs.declared.patterns.position.Position.TheVariants.{Query}
use Rattle.rdx_parts.specs.Arguments.{data_at}
use Rattle.rdx_parts.specs.ExtraReading.{items_reading}
use Rattle.rdx_parts.proofs.ArgumentLists.{data-end}

-- where flags or data end, no templates are left
pub templates-end : (f : Bool → Bool) (bs : List Bool) (ds : List Sexp) → (bs ≡ []) ⊎ (ds ≡ []) → data_at (map not (map f bs)) ds ≡ []
templates-end f bs ds (inl h) = data-end not (map f bs) ds (inl (ap (map f) h))
templates-end f bs ds (inr h) = data-end not (map f bs) ds (inr h)

-- what the first pattern is read as, before the others
pub mapped-first : {A : Type 0} (v : Sexp → A) (b : Bool) (bs : List Bool) (d : Sexp) (ds : List Sexp)
    → map v (data_at (b ∷ bs) (d ∷ ds)) ≡ map v (data_at (b ∷ []) (d ∷ [])) ++ map v (data_at bs ds)
mapped-first v true bs d ds = refl
mapped-first v false bs d ds = refl

-- an item for each pattern
pub items-each : (ns : List (List ℕ)) (ds : List Sexp) → items_of (map (λ d. just (reading ns Query d)) ds) ≡ items_reading ns ds
items-each ns [] = refl
items-each ns (d ∷ ds) = ap (λ (ps : Items). trees.one (reading ns Query d) ps) (items-each ns ds)
