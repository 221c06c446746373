-- Marks of definitions, one at a time.
use Rattle.std.proofs.Common.{◌≡◌, ℕ, zero, suc, ◌+◌, ◌<◌, ◌≤◌, Bool, true, false, List, [], ◌∷◌, length, drop, get_or, map, refl, sym, ap, arith, add-one, None}
use Rattle.rdx_lang.specs.Patterns.{Definition}
use Rattle.rdx_gen.specs.Inside.Refs.{first_where}
use Rattle.rdx_gen.specs.NameRules.{first_in_definitions, first_in_alternatives, or_else}

nothing_first : (bs : List Bool) → first_in_definitions bs [] ≡ None
nothing_first [] = refl
nothing_first (b ∷ bs) = refl

pub first_step : {A : Type 0} (f : A → Definition) (bs : List Bool) (ds : List A) (i : ℕ) (d : A) → i < length ds → d ≡ get_or ds i d
    → first_in_definitions (drop i bs) (map f (drop i ds)) ≡ or_else (first_where (get_or bs i false) (f d).1) (first_in_definitions (drop (i + 1) bs) (map f (drop (i + 1) ds)))
first_step f bs [] i d h e = absurd (omega arith)
first_step f [] (c ∷ ds) zero d h e = refl
first_step f (true ∷ bs) (c ∷ ds) zero d h e = ap (λ z. or_else (first_in_alternatives (f z).1) (first_in_definitions bs (map f ds))) (sym e)
first_step f (false ∷ bs) (c ∷ ds) zero d h e = refl
first_step f [] (c ∷ ds) (suc i) d h e = rw add-one refl
first_step f (b ∷ bs) (c ∷ ds) (suc i) d h e = let k = first_step f bs ds i d (omega arith) e in rw add-one (rw add-one at k)

pub first_last : {A : Type 0} (f : A → Definition) (bs : List Bool) (ds : List A) (i : ℕ) → length ds ≤ i → first_in_definitions (drop i bs) (map f (drop i ds)) ≡ None
first_last f [] [] zero h = refl
first_last f (b ∷ bs) [] zero h = refl
first_last f [] [] (suc i) h = refl
first_last f (b ∷ bs) [] (suc i) h = nothing_first (drop i bs)
first_last f [] (c ∷ ds) zero h = refl
first_last f (b ∷ bs) (c ∷ ds) zero h = absurd (omega arith)
first_last f [] (c ∷ ds) (suc i) h = refl
first_last f (b ∷ bs) (c ∷ ds) (suc i) h = first_last f bs ds i (omega arith)
