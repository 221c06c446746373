-- The order of binding in a clause or a rule: its pattern first, and then its extras, one after the other; each template sees the names of
-- what stands before it, and the result sees all of them.
use Rattle.std.specs.Prelude.{ℕ, Bool, not, ◌&&◌, List, [], ◌∷◌, ◌++◌, bytes_eq, nat_eq}
use Rattle.std.specs.List.{list_any}
use Rattle.rdx_lang.specs.Depths.{Use, uses, name_use}
use Rattle.rdx_lang.specs.Fitting.{Bound}
use Rattle.rdx_lang.specs.Patterns.{Pattern}
use Rattle.rdx_lang.specs.Programs.{Extra, such_as, provided, holds, fresh}

-- the use binds x, at depth d; a length name is bound, but at no depth
abbrev pub binds : Use → List ℕ → ℕ → Bool
binds u x d = not u.is_length && (bytes_eq u.name x && nat_eq u.depth d)

-- one of these uses does
abbrev pub bound_by : List Use → Bound
bound_by us x d = list_any (λ u. binds u x d) us

-- the uses in an extra
abbrev pub extra_uses : Extra → List Use
extra_uses (such_as p t) = uses 0 p
extra_uses (provided h) = []
extra_uses (holds q) = uses 0 q.outputs
extra_uses (fresh x) = name_use 0 x ∷ []

-- those in extras, in their order
abbrev pub extras_uses : List Extra → List Use
extras_uses [] = []
extras_uses (e ∷ es) = extra_uses e ++ extras_uses es

-- those in a pattern and its extras, in the order of binding
abbrev pub case_uses : Pattern → List Extra → List Use
case_uses p es = uses 0 p ++ extras_uses es
