-- A list of derivations that are still to be looked at, in place of a recursion.
use Rattle.std.proofs.Common.{◌≡◌, ◌+◌, ◌<◌, List, [], ◌∷◌, ◌++◌, sym, ◌∙◌, ap, arith}
use Rattle.rdx_deriv.specs.Derivations.{Derivation, Derivations, node, derivations, under}
use Rattle.rdx_deriv.specs.Inside.Worklists.{derivation_nodes, derivations_nodes, listed_nodes}

both_nodes : (ds es : List Derivation) → listed_nodes (ds ++ es) ≡ listed_nodes ds + listed_nodes es
both_nodes [] es = omega arith
both_nodes (d ∷ ds) es = omega (arith, both_nodes ds es)

-- with each turn there are fewer nodes on the list
pub nodes_fall : (ds old us new : List Derivation) (d : Derivation) → old ≡ ds ++ d ∷ [] → derivations us ≡ under d → new ≡ ds ++ us → listed_nodes new < listed_nodes old
nodes_fall ds old us new d e f n =
    let a : listed_nodes old ≡ listed_nodes ds + listed_nodes (d ∷ []) = ap listed_nodes e ∙ both_nodes ds (d ∷ []) in
    let b : listed_nodes new ≡ listed_nodes ds + listed_nodes us = ap listed_nodes n ∙ both_nodes ds us in
    let c : derivation_nodes d ≡ listed_nodes us + 1 = at_node d f in
    omega arith
  where
    at_node : (g : Derivation) → derivations us ≡ under g → derivation_nodes g ≡ listed_nodes us + 1
    at_node (node g ks fs) k = ap (λ (xs : Derivations). derivations_nodes xs + 1) (sym k)
