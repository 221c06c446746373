-- Bound names that are found by their texts.
use Rattle.std.specs.Prelude.{◌≡◌, ℕ, List, Option, IsTrue, is_some}
use Rattle.std.specs.BTreeMap.{BTreeMap, get_by}
use Rattle.std.specs.Borrow.{Bor}
use Rattle.std.specs.Cmp.Lexicographic.{slice_cmp}
use Rattle.std.specs.Ordering.{nat_cmp}
use Rattle.rdx_term.specs.Spelling.{is_name}
use Rattle.rdx_templates.specs.Bound.{Bound, depth_of}

-- the depth that a map has at a text
abbrev pub depth_in : BTreeMap (Bor (List ℕ)) ℕ → List ℕ → Option ℕ
depth_in m x = get_by (λ k. slice_cmp nat_cmp x k.now) m

-- each text has in the map the depth that it has first among these, and is a name where it has one
abbrev pub FindsDepths : Bound → BTreeMap (Bor (List ℕ)) ℕ → Type 0
FindsDepths bs m = (x : List ℕ) → (depth_in m x ≡ depth_of bs x) × (IsTrue (is_some (depth_of bs x)) → IsTrue (is_name x))

-- so many of the bound names behind the first one are looked through one by one; those behind them are in a map
abbrev pub few : ℕ
few = 8
