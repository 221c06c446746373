-- A datum is one pattern at most, or it has one refusal.
use Rattle.std.proofs.Common.{◌≡◌, Option, Some, None, refl, sym, ◌∙◌, ◌⊎◌, inl, inr}
use Rattle.std.specs.Prelude.{IsSome}
use Rattle.rdx_patterns.specs.Refusal.{refusal_of}
use Rattle.rdx_patterns.specs.Laws.{OnePattern, OnePatternRefusal, NeverBothPattern, NeverNeitherPattern}
use Rattle.rdx_patterns.specs.PatternRefusal.{pattern_refusal}

-- what is some value is one
pub same_some : {A : Type 0} (o : Option A) (x y : A) → o ≡ Some x → o ≡ Some y → x ≡ y
same_some o x y e f = cc

-- it is none or some
pub not_some : {A : Type 0} (o : Option A) (x : A) → o ≡ None → o ≡ Some x → ⊥
not_some o x e f = absurd cc

pub one_pattern : OnePattern
one_pattern ns d c e a b = a.1 ∙ sym b.1

pub one_pattern_refusal : OnePatternRefusal
one_pattern_refusal ns d r q e f = same_some (pattern_refusal ns d) (refusal_of r) (refusal_of q) e f

pub never_both_pattern : NeverBothPattern
never_both_pattern ns d c r a e = not_some (pattern_refusal ns d) (refusal_of r) a.0 e

-- a refusal, or none
none_or_some : {A : Type 0} (o : Option A) → (o ≡ None) ⊎ IsSome o
none_or_some None = inl refl
none_or_some (Some x) = inr refl

pub never_neither_pattern : NeverNeitherPattern
never_neither_pattern ns d = none_or_some (pattern_refusal ns d)
