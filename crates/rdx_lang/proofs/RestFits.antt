-- What is left of uses that are met one after the other: whether it fits to those that were met.
use Rattle.std.proofs.Common.{◌≡◌, Bool, true, false, List, [], ◌∷◌, refl, sym, ◌∙◌, ap}
use Rattle.std.proofs.Math.Bool.{and-false}
use Rattle.std.proofs.lemmas.Cmp.{nat_eq_equiv, nat_list_eq_equiv}
use Rattle.std.specs.Cmp.{bool_eq_equiv}
use Rattle.std.specs.List.{list_all}
use Rattle.std.specs.Prelude.{◌&&◌, ◌||◌, not}
use Rattle.rdx_lang.specs.Depths.{Use, agree, all_agree, is_shallow}
use Rattle.rdx_lang.specs.Collecting.{Adds}
use Rattle.rdx_lang.proofs.Passing.{all_pass, one_more_passes, both_pass}

-- one use agrees with another as that does with it
agree-turned : (u v : Use) → agree u v ≡ agree v u
agree-turned u v =
    λ i. not (nat_list_eq_equiv.symm u.name v.name i) || (nat_eq_equiv.symm u.depth v.depth i && bool_eq_equiv.symm u.is_length v.is_length i)

-- these uses agree with all that were met, and with each other, and their depths are below the limit
abbrev pub rest_fits : List Use → List Use → Bool
rest_fits met us = list_all (λ u. list_all (agree u) met) us && (all_agree us && list_all is_shallow us)

-- where nothing was met, the uses fit by themselves
pub rest_fits-start : (us : List Use) → rest_fits [] us ≡ (all_agree us && list_all is_shallow us)
rest_fits-start us = ap (λ b. b && (all_agree us && list_all is_shallow us)) (all_pass (λ u. true) us (λ u i. refl))

-- what is too deep does not fit
pub rest_fits-deep : (met us : List Use) (u : Use) → is_shallow u ≡ false → rest_fits met (u ∷ us) ≡ false
rest_fits-deep met us u h =
    (λ i. list_all (λ v. list_all (agree v) met) (u ∷ us) && (all_agree (u ∷ us) && (h i && list_all is_shallow us)))
    ∙ ap (λ b. list_all (λ v. list_all (agree v) met) (u ∷ us) && b) (and-false (all_agree (u ∷ us)))
    ∙ and-false (list_all (λ v. list_all (agree v) met) (u ∷ us))

-- what disagrees with something that was met does not fit
pub rest_fits-apart : (met us : List Use) (u : Use) → list_all (agree u) met ≡ false → rest_fits met (u ∷ us) ≡ false
rest_fits-apart met us u h =
    ap (λ b. (b && list_all (λ v. list_all (agree v) met) us) && (all_agree (u ∷ us) && list_all is_shallow (u ∷ us))) h

-- once one more was met, the others have to agree with it as well
pub rest_fits-met : (old new us : List Use) (u : Use) → Adds (λ v. v ≡ u) old new → list_all (agree u) old ≡ true
    → is_shallow u ≡ true → rest_fits old (u ∷ us) ≡ rest_fits new us
rest_fits-met old new us u m h s =
    (λ i. (h i && list_all (λ v. list_all (agree v) old) us) && ((list_all (agree u) us && all_agree us) && (s i && list_all is_shallow us)))
    ∙ moved (list_all (λ v. list_all (agree v) old) us) (list_all (agree u) us) (all_agree us) (list_all is_shallow us)
    ∙ ap (λ b. b && (all_agree us && list_all is_shallow us))
    (sym (both_pass (λ v. list_all (agree v) new) (λ v. list_all (agree v) old) (agree u) each us))
  where
    each : (v : Use) → list_all (agree v) new ≡ (list_all (agree v) old && agree u v)
    each v = one_more_passes (agree v) old new u m ∙ ap (λ b. list_all (agree v) old && b) (agree-turned v u)

    moved : (a b c d : Bool) → (a && ((b && c) && d)) ≡ ((a && b) && (c && d))
    moved true true c d = refl
    moved true false c d = refl
    moved false b c d = refl
