-- Nodes of a derivation that are begun, and those that wait for others. No public contract cites it.
use Rattle.std.specs.Prelude.{◌≡◌, List, [], ◌∷◌, ◌++◌, map, reverse}
use Rattle.rdx_lang.specs.Members.{In}
use Rattle.rdx_lang.specs.Programs.{Program}
use Rattle.rdx_deriv.specs.Derivations.{Goal, derivations}
use Rattle.rdx_deriv.specs.DerivationView.{derivation_of, goal_of, goals_of}
use Rattle.rdx_deriv.specs.Holds.{IsNode, AllHold}
use Rattle.rdx_why.specs.Inside.Steps.{IsOnTheWay}
use Rattle.rdx_why.specs.declared.explaining.Frame.{Frame}

-- the goals that are left, in the order in which they stand under the node
abbrev pub goals_left : Frame → List Goal
goals_left f = reverse (map goal_of f.left.items)

-- what is done holds, what is left is on the way, and the node is a use of its rule from the goals of both with these between
pub record IsPartly (P : Program) (f : Frame) (gs : List Goal) : Type 0 where
  pub node : IsNode P (goal_of f.goal) f.choice.items (goals_of f.done.items ++ (gs ++ goals_left f))
  pub hold : AllHold P (derivations (map derivation_of f.done.items))
  pub left : (g : Goal) → In g (goals_left f) → IsOnTheWay P g

-- a node that is begun
abbrev pub IsBegun : Program → Frame → Type 0
IsBegun P f = IsPartly P f []

-- the last of these waits for the goal g, and each other for the goal of the next one; the first one's goal is asked, or g where there are none
abbrev pub Wait : Program → Goal → List Frame → Goal → Type 0
Wait P asked [] g = asked ≡ g
Wait P asked (f ∷ fs) g = (asked ≡ goal_of f.goal) × ((h : Goal) × IsPartly P f (h ∷ []) × Wait P h fs g)
