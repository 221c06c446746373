-- The names that are bound where a template stands, in the order of binding, each with its depth.
use Rattle.std.specs.Prelude.{ℕ, Bool, ◌&&◌, List, [], ◌∷◌, Option, Some, None, bytes_eq, nat_eq, if◌then◌else◌}
use Rattle.std.specs.List.{list_any}

-- names with their depths
abbrev pub Bound : Type 0
Bound = List (List ℕ × ℕ)

-- the depth with which x is bound: the one that it has first
abbrev pub depth_of : Bound → List ℕ → Option ℕ
depth_of [] x = None
depth_of (e ∷ es) x = if bytes_eq e.0 x then Some e.1 else depth_of es x

-- x is bound with the depth n
abbrev pub is_bound : Bound → List ℕ → ℕ → Bool
is_bound bs x n = list_any (λ e. bytes_eq e.0 x && nat_eq e.1 n) bs
