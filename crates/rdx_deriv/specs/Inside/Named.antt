-- The test of a node of a derivation. No public contract cites it.
use Rattle.std.specs.Prelude.{Bool, List}
use Rattle.rdx_lang.specs.Programs.{Program}
use Rattle.rdx_deriv.specs.Derivations.{Derivation, root, roots, chosen, under, derivations}
use Rattle.rdx_deriv.specs.Holds.{IsNode, AllHold}
use Rattle.rdx_deriv.specs.Inside.Decides.{Decides}

-- the test of the node at the root of a derivation decides
abbrev pub IsNodeOf : Bool → Program → Derivation → Type 0
IsNodeOf r P d = Decides r (roots (under d)) (IsNode P (root d) (chosen d) (roots (under d)))

-- each of the derivations holds
abbrev pub EachHolds : Program → List Derivation → Type 0
EachHolds P ds = AllHold P (derivations ds)
