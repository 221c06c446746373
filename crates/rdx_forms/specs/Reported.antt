-- Which of two refusals is reported: the one by the check with the lesser number.
use Rattle.std.specs.Prelude.{ℕ, Option, Some, None, nat_lt, if◌then◌else◌}
use Rattle.rdx_patterns.specs.Refusal.{Refusal}
use Rattle.rdx_patterns.specs.declared.shape.fault.DefKind.{DefKind}
use Rattle.rdx_patterns.specs.declared.shape.fault.DefKind.TheVariants.{Shape, UnknownLanguage, Duplicate, BadName, BadPattern, EllipsisDepth, LeftRecursive, UnknownName, EllipsisVariable, RacketEscape, Mode}

-- the number of a check
abbrev pub number : DefKind → ℕ
number Shape = 1
number UnknownLanguage = 2
number Duplicate = 3
number BadName = 4
number BadPattern = 5
number EllipsisDepth = 6
number LeftRecursive = 7
number UnknownName = 8
number EllipsisVariable = 9
number RacketEscape = 10
number Mode = 11

-- of two refusals the one by the check with the lesser number; the first, where both are by one
abbrev pub earlier_of : Refusal → Refusal → Refusal
earlier_of r q = if nat_lt (number q.kind) (number r.kind) then q else r

-- of two, where there are some
abbrev pub earlier : Option Refusal → Option Refusal → Option Refusal
earlier None o = o
earlier (Some r) None = Some r
earlier (Some r) (Some q) = Some (earlier_of r q)
