-- Derivations that are dropped, one after the other, in place of a recursion.
use Rattle.std.proofs.Common.{◌≡◌, ℕ, ◌+◌, ◌<◌, true, false, Bool, List, [], ◌∷◌, ◌++◌, map, refl, sym, ◌∙◌, ap, arith}
use Rattle.std.specs.Prelude.{if◌then◌else◌, max}
use denote.Param.Weighed.{most, most-append}
use Rattle.rdx_deriv.specs.Derivations.{Derivation, Derivations, node, derivations, under}
use Rattle.rdx_deriv.specs.DerivationView.{derivation_of}
use Rattle.rdx_deriv.specs.Inside.Worklists.{derivation_nodes, derivations_nodes}
use Rattle.rdx_deriv.specs.declared.deriv.Deriv as code_deriv

-- the nodes of what stands in a list
abbrev pub nodes_in : List code_deriv.Deriv → ℕ
nodes_in ds = derivations_nodes (derivations (map derivation_of ds))

both_lists : (ds es : List code_deriv.Deriv) → nodes_in (ds ++ es) ≡ nodes_in ds + nodes_in es
both_lists [] es = omega arith
both_lists (d ∷ ds) es = let k = both_lists ds es in omega arith

at_root : (d : Derivation) → derivation_nodes d ≡ derivations_nodes (under d) + 1
at_root (node g ks ds) = refl

module _ (ds old us new : List code_deriv.Deriv) (d : code_deriv.Deriv) (e : old ≡ ds ++ d ∷ []) (f : derivations (map derivation_of us) ≡ under (derivation_of d)) where
  -- what is appended, or not
  pub falls : (r : Bool) → new ≡ (if r then ds ++ us else ds) → nodes_in new < nodes_in old
  falls true n =
      let a : nodes_in old ≡ nodes_in ds + nodes_in (d ∷ []) = ap nodes_in e ∙ both_lists ds (d ∷ []) in
      let b : nodes_in new ≡ nodes_in ds + nodes_in us = ap nodes_in n ∙ both_lists ds us in
      let c : derivation_nodes (derivation_of d) ≡ nodes_in us + 1 = at_root (derivation_of d) ∙ ap (λ (v : Derivations). derivations_nodes v + 1) (sym f) in
      omega arith
  falls false n =
      let a : nodes_in old ≡ nodes_in ds + nodes_in (d ∷ []) = ap nodes_in e ∙ both_lists ds (d ∷ []) in
      let b : nodes_in new ≡ nodes_in ds = ap nodes_in n in
      let c : derivation_nodes (derivation_of d) ≡ nodes_in us + 1 = at_root (derivation_of d) ∙ ap (λ (v : Derivations). derivations_nodes v + 1) (sym f) in
      omega arith

-- the largest of what is left stays below a bound
pub most_kept : {X : Type 0} (μ : X → ℕ) (n : ℕ) (ds old us new : List X) (d : X) (r : Bool) → old ≡ ds ++ d ∷ [] → most μ us < μ d
    → new ≡ (if r then ds ++ us else ds) → most μ old < n → most μ new < n
most_kept μ n ds old us new d true e h f k =
    let a : most μ old ≡ max (most μ ds) (most μ (d ∷ [])) = ap (most μ) e ∙ most-append μ ds (d ∷ []) in
    let b : most μ new ≡ max (most μ ds) (most μ us) = ap (most μ) f ∙ most-append μ ds us in
    omega arith
most_kept μ n ds old us new d false e h f k =
    let a : most μ old ≡ max (most μ ds) (most μ (d ∷ [])) = ap (most μ) e ∙ most-append μ ds (d ∷ []) in
    let b : most μ new ≡ most μ ds = ap (most μ) f in
    omega arith

-- what could not be appended is below it too
pub under_less : {X : Type 0} (μ : X → ℕ) (n : ℕ) (ds old us other : List X) (d : X) (r : Bool) → old ≡ ds ++ d ∷ [] → most μ us < μ d
    → other ≡ (if r then [] else us) → most μ old < n → most μ other < n
under_less μ n ds old us other d true e h f k = let b : most μ other ≡ 0 = ap (most μ) f in omega arith
under_less μ n ds old us other d false e h f k =
    let a : most μ old ≡ max (most μ ds) (most μ (d ∷ [])) = ap (most μ) e ∙ most-append μ ds (d ∷ []) in
    let b : most μ other ≡ most μ us = ap (most μ) f in
    omega arith
