-- Derivations, as plain data: what is derived, by which choice, and the derivations that it is derived from.
use Rattle.std.specs.Prelude.{ℕ, List, [], ◌∷◌}
use Rattle.rdx_term.specs.Tree.{Tree}
use Rattle.rdx_lang.specs.Bindings.{Binding}
use Rattle.rdx_lang.specs.Patterns.{Pattern}

-- what is derived: in the language of this name, that a pattern matches a term and binds this, or that it splits the term into a context and a
-- part and binds this; or that the judgement of this name has these outputs for these inputs, both as lists
pub data Goal : Type 0 where
  matched : List ℕ → Pattern → Tree → Binding → Goal
  split : List ℕ → Pattern → Tree → Tree → Tree → Binding → Goal
  judged : List ℕ → Tree → Tree → Goal

mutual
  -- what is derived, the choice, and what stands under it
  pub data Derivation : Type 0 where
    node : Goal → List ℕ → Derivations → Derivation

  -- derivations in their order
  pub data Derivations : Type 0 where
    none : Derivations
    more : Derivation → Derivations → Derivations

-- the same derivations
abbrev pub derivations : List Derivation → Derivations
derivations [] = none
derivations (d ∷ ds) = more d (derivations ds)

-- what is derived in the end
abbrev pub root : Derivation → Goal
root (node g ks ds) = g

-- what each derives in the end
abbrev pub roots : Derivations → List Goal
roots none = []
roots (more d ds) = root d ∷ roots ds

-- its choice
abbrev pub chosen : Derivation → List ℕ
chosen (node g ks ds) = ks

-- what stands right under it
abbrev pub under : Derivation → Derivations
under (node g ks ds) = ds
