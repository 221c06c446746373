-- The depths with which names are bound.
use Rattle.std.proofs.Common.{◌≡◌, ◌++◌, ℕ, Bool, true, false, List, [], ◌∷◌, Option, Some, None, refl, eq-eqb, if◌then◌else◌}
use Rattle.std.specs.Prelude.{◌&&◌, ◌||◌, bytes_eq, nat_eq}
use Rattle.rdx_patterns.proofs.Tests.{or_left}
use Rattle.rdx_templates.specs.Bound.{Bound, depth_of, is_bound}

-- at one name
at_name : (b : Bool) (m n : ℕ) (o : Option ℕ) (c : Bool) → (o ≡ Some n → c ≡ true) → (let p : Option ℕ = if b then Some m else o in p) ≡ Some n → ((b && nat_eq m n) || c) ≡ true
at_name true m n o c f e = let g : m ≡ n = cc in or_left (nat_eq m n) c (eq-eqb m n g)
at_name false m n o c f e = f e

-- a name has the depth that it has first
pub depth-bound : (bs : Bound) (x : List ℕ) (n : ℕ) → depth_of bs x ≡ Some n → is_bound bs x n ≡ true
depth-bound [] x n e = absurd cc
depth-bound (b ∷ bs) x n e = at_name (bytes_eq b.0 x) b.1 n (depth_of bs x) (is_bound bs x n) (λ f. depth-bound bs x n f) e

-- with one more in front, where it has a depth
some_first : (b : Bool) (m n : ℕ) (o p : Option ℕ) → (o ≡ Some n → p ≡ Some n) → (let q : Option ℕ = if b then Some m else o in q) ≡ Some n
    → (let r : Option ℕ = if b then Some m else p in r) ≡ Some n
some_first true m n o p f e = e
some_first false m n o p f e = f e

-- where it has none
none_first : (b : Bool) (m : ℕ) (o p q : Option ℕ) → (o ≡ None → p ≡ q) → (let r : Option ℕ = if b then Some m else o in r) ≡ None
    → (let r : Option ℕ = if b then Some m else p in r) ≡ q
none_first true m o p q f e = absurd cc
none_first false m o p q f e = f e

-- the depth that a name has among some names it has with others behind them
pub depth_before : (es fs : Bound) (x : List ℕ) (n : ℕ) → depth_of es x ≡ Some n → depth_of (es ++ fs) x ≡ Some n
depth_before [] fs x n e = absurd cc
depth_before (b ∷ es) fs x n e = some_first (bytes_eq b.0 x) b.1 n (depth_of es x) (depth_of (es ++ fs) x) (λ f. depth_before es fs x n f) e

-- where it has none there, it has the one that it has among the others
pub depth_behind : (es fs : Bound) (x : List ℕ) → depth_of es x ≡ None → depth_of (es ++ fs) x ≡ depth_of fs x
depth_behind [] fs x e = refl
depth_behind (b ∷ es) fs x e = none_first (bytes_eq b.0 x) b.1 (depth_of es x) (depth_of (es ++ fs) x) (depth_of fs x) (λ f. depth_behind es fs x f) e
