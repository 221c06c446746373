-- Derivations whose lines are still to be written, those of each level in one slice. No public contract cites it.
use Rattle.std.specs.Prelude.{ℕ, ◌+◌, ◌*◌, List, [], ◌∷◌, ◌++◌, map}
use Rattle.std.specs.Borrow.{Bor}
use Rattle.rdx_lang.specs.Programs.{Program}
use Rattle.rdx_deriv.specs.Derivations.{Derivations, derivations}
use Rattle.rdx_deriv.specs.DerivationView.{derivation_of}
use Rattle.rdx_deriv.specs.Lines.{all_lines}
use Rattle.rdx_deriv.specs.Inside.Worklists.{derivations_nodes}
use Rattle.rdx_deriv.specs.declared.deriv.Deriv as code_deriv

-- what stands in the slices
abbrev pub stacked : List (Bor (List code_deriv.Deriv)) → List Derivations
stacked ss = map (λ s. derivations (map derivation_of s.now)) ss

-- the lines of all of them, the deepest level first; that of the first slice is n
abbrev pub pending : Program → ℕ → List Derivations → List ℕ
pending P n [] = []
pending P n (s ∷ ss) = pending P (n + 1) ss ++ all_lines P n s

-- what is left to do
abbrev pub stack_weight : List Derivations → ℕ
stack_weight [] = 0
stack_weight (s ∷ ss) = (2 * derivations_nodes s + 1) + stack_weight ss
