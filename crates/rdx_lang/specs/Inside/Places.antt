-- The place of a name among pairs whose names ascend.
use Rattle.std.specs.Prelude.{◌≡◌, ◌<◌, ◌≤◌, ℕ, List, length}
use Rattle.std.specs.List.{AllWithin, HoldsAt}
use Rattle.std.specs.declared.cmp.Ordering.TheVariants.{Less, Greater}
use Rattle.rdx_lang.specs.Bindings.{name_cmp}

-- the pair at place i has the name x
pub record IsNameAt {V : Type 0} (ps : List (List ℕ × V)) (x : List ℕ) (i : ℕ) : Type 0 where
  pub within : i < length ps
  pub name : HoldsAt (λ (p : List ℕ × V). p.0 ≡ x) ps i

-- a pair of the name x would stand at place i: the names before are below it, and those from there on above
pub record IsGapFor {V : Type 0} (ps : List (List ℕ × V)) (x : List ℕ) (i : ℕ) : Type 0 where
  pub within : i ≤ length ps
  pub before : AllWithin (λ (p : List ℕ × V). name_cmp p.0 x ≡ Less) ps 0 i
  pub behind : AllWithin (λ (p : List ℕ × V). name_cmp p.0 x ≡ Greater) ps i (length ps)
