-- Lists of data, by how many there are.
use Rattle.std.proofs.Common.{◌≡◌, suc, length, true, false, List, [], ◌∷◌, refl, sym, ap, arith, ne_eqb}
use Rattle.std.specs.Prelude.{◌==◌}
use Rattle.rdx_sexp.specs.Sexp.{Sexp, sexps}
use Rattle.rdx_templates.specs.HostHeads.{count}
use Rattle.rdx_templates.specs.TemplateHeads.{is_pair, is_triple}

-- two
pub is_pair-length : (ds : List Sexp) → is_pair (sexps ds) ≡ (length ds == 2)
is_pair-length [] = refl
is_pair-length (a ∷ []) = refl
is_pair-length (a ∷ b ∷ []) = refl
is_pair-length (a ∷ b ∷ c ∷ ds) = sym (ne_eqb (length (a ∷ b ∷ c ∷ ds)) 2 (omega arith))

-- three
pub is_triple-three : (ds : List Sexp) → length ds ≡ 3 → is_triple (sexps ds) ≡ true
is_triple-three [] e = absurd (omega (arith, e))
is_triple-three (a ∷ []) e = absurd (omega (arith, e))
is_triple-three (a ∷ b ∷ []) e = absurd (omega (arith, e))
is_triple-three (a ∷ b ∷ c ∷ []) e = refl
is_triple-three (a ∷ b ∷ c ∷ d ∷ ds) e = absurd (omega (arith, e))

-- another number than three
pub is_triple-other : (ds : List Sexp) → (length ds ≡ 3 → ⊥) → is_triple (sexps ds) ≡ false
is_triple-other [] n = refl
is_triple-other (a ∷ []) n = refl
is_triple-other (a ∷ b ∷ []) n = refl
is_triple-other (a ∷ b ∷ c ∷ []) n = absurd (n refl)
is_triple-other (a ∷ b ∷ c ∷ d ∷ ds) n = refl

-- so many
pub count-length : (ds : List Sexp) → count (sexps ds) ≡ length ds
count-length [] = refl
count-length (d ∷ ds) = ap suc (count-length ds)
