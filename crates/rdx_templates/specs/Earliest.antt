-- Which of several places is reported: the one that comes first in the file. What a file says stands in the order of its places, but what shorthand
-- stands for does not, since the parts of a shortcut and those of a case stand in one another there.
use Rattle.std.specs.Prelude.{Bool, ◌&&◌, ◌||◌, List, [], ◌∷◌, Option, Some, None, nat_eq, nat_lt, if◌then◌else◌}
use Rattle.rdx_base.specs.declared.place.Place.{Place}
use Rattle.rdx_sexp.specs.Sexp.{Sexp, span_of}

-- where a datum begins
abbrev pub start : Sexp → Place
start d = (span_of d).start

-- the first place comes before the second
abbrev pub is_before : Place → Place → Bool
is_before p q = nat_lt p.line q.line || (nat_eq p.line q.line && nat_lt p.column q.column)

-- one thing, or another that begins earlier
abbrev pub earlier : {A : Type 0} → (A → Place) → A → Option A → Option A
earlier at x None = Some x
earlier at x (Some y) = if is_before (at y) (at x) then Some y else Some x

-- the earlier of two; the first, where both begin at one place
abbrev pub lesser : {A : Type 0} → (A → Place) → Option A → Option A → Option A
lesser at None o = o
lesser at (Some x) o = earlier at x o

-- the earliest of a list; the first of those that begin at one place
abbrev pub earliest : {A : Type 0} → (A → Place) → List A → Option A
earliest at [] = None
earliest at (x ∷ xs) = earlier at x (earliest at xs)
