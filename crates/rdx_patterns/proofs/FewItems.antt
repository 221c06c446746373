-- Lists of few data.
use Rattle.std.proofs.Common.{◌≡◌, ◌<◌, length, get_or, Bool, false, List, [], ◌∷◌, refl, ap, arith, if◌then◌else◌}
use Rattle.std.specs.Prelude.{codes}
use Rattle.rdx_sexp.specs.Sexp.{Sexp, sexps}
use Rattle.rdx_patterns.specs.Ends.{end_of}
use Rattle.rdx_patterns.specs.Parts.{is_word}
use Rattle.rdx_patterns.specs.PatternChecks.{second_text}
use Rattle.rdx_patterns.specs.Reading.{name_in}

-- of fewer than two there is no second one
pub second_text-none : (ds : List Sexp) → length ds < 2 → [] ≡ second_text (sexps ds)
second_text-none [] h = refl
second_text-none (d ∷ []) h = refl
second_text-none (d ∷ e ∷ ds) h = absurd (omega (arith, h))

-- of two of which the first is another word there is no end
pub end_of-other : (ds : List Sexp) (d : Sexp) → length ds ≡ 2 → is_word (codes "cross") (get_or ds 0 d) ≡ false → end_of (sexps ds) ≡ []
end_of-other [] d h e = refl
end_of-other (c ∷ []) d h e = refl
end_of-other (c ∷ b ∷ []) d h e = ap (λ (t : Bool). if t then name_in b else []) e
end_of-other (c ∷ b ∷ a ∷ ds) d h e = refl

-- nor of more or fewer
pub end_of-none : (ds : List Sexp) → (length ds ≡ 2 → ⊥) → end_of (sexps ds) ≡ []
end_of-none [] h = refl
end_of-none (c ∷ []) h = refl
end_of-none (c ∷ b ∷ []) h = absurd (h refl)
end_of-none (c ∷ b ∷ a ∷ ds) h = refl
