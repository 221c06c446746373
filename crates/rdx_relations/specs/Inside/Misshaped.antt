-- Whether a refusal is that of what has not its shape.
use Rattle.std.specs.Prelude.{Bool, true, false, Option, Some, None}
use Rattle.rdx_patterns.specs.Refusal.{Refusal}
use Rattle.rdx_patterns.specs.declared.shape.fault.DefKind.{DefKind}
use Rattle.rdx_patterns.specs.declared.shape.fault.DefKind.TheVariants.{Shape, UnknownLanguage, Duplicate, BadName, BadPattern, EllipsisDepth, LeftRecursive, UnknownName, EllipsisVariable, RacketEscape, Mode}

-- the check is that of shapes
abbrev pub is_of_shape : DefKind → Bool
is_of_shape Shape = true
is_of_shape UnknownLanguage = false
is_of_shape Duplicate = false
is_of_shape BadName = false
is_of_shape BadPattern = false
is_of_shape EllipsisDepth = false
is_of_shape LeftRecursive = false
is_of_shape UnknownName = false
is_of_shape EllipsisVariable = false
is_of_shape RacketEscape = false
is_of_shape Mode = false

-- there is a refusal, and it is by that check
abbrev pub is_misshaped : Option Refusal → Bool
is_misshaped None = false
is_misshaped (Some r) = is_of_shape r.kind
