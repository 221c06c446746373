-- The alternative that is chosen. No public contract cites it.
use Rattle.std.specs.Prelude.{◌≡◌, ℕ, List, [], ◌∷◌}
use Rattle.rdx_lang.specs.Patterns.{Pattern, Language}
use Rattle.rdx_lang.specs.declared.pattern.Ref.{Ref}
use Rattle.rdx_deriv.specs.Uses.{IsAlternativeAt}

-- the choice is one place, at which p is an alternative of x
pub record IsChosen (L : Language) (x : Ref) (ks : List ℕ) (p : Pattern) : Type 0 where
  pub place : ℕ
  pub alternative : IsAlternativeAt L x place p
  pub choice : ks ≡ place ∷ []
