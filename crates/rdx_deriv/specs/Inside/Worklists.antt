-- Derivations that are still to be looked at. No public contract cites it.
use Rattle.std.specs.Prelude.{ℕ, ◌+◌, List, map}
use Rattle.std.specs.Borrow.{Bor}
use Rattle.rdx_deriv.specs.Derivations.{Derivation, Derivations, node, none, more, derivations}
use Rattle.rdx_deriv.specs.DerivationView.{derivation_of}
use Rattle.rdx_deriv.specs.declared.deriv.Deriv as code_deriv

-- what stands in the list
abbrev pub listed : List (Bor code_deriv.Deriv) → List Derivation
listed ds = map (λ d. derivation_of d.now) ds

abbrev mutual
  -- how many nodes a derivation has
  pub derivation_nodes : Derivation → ℕ
  derivation_nodes (node g ks ds) = derivations_nodes ds + 1

  -- how many the derivations have
  pub derivations_nodes : Derivations → ℕ
  derivations_nodes none = 0
  derivations_nodes (more d ds) = derivation_nodes d + derivations_nodes ds

-- how many they have together
abbrev pub listed_nodes : List Derivation → ℕ
listed_nodes ds = derivations_nodes (derivations ds)
