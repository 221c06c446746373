-- The laws of ids. They are proved, as the clauses of `laws`.
use Rattle.std.specs.Prelude.{◌≡◌, ◌↔◌, ℕ, ◌<◌, List, length}
use Rattle.rdx_term.specs.Tree.{Tree}
use Rattle.rdx_store.specs.Stored.{tree_by_id, AreDistinct, Extends}

-- what one step keeps and then another, both keep together
abbrev pub StepsExtend : Type 0
StepsExtend = (ts us vs : List Tree) → Extends ts us → Extends us vs → Extends ts vs

-- an id keeps its term
abbrev pub IdsKeepTheirTerms : Type 0
IdsKeepTheirTerms = (ts us : List Tree) (i : ℕ) → Extends ts us → i < length ts → tree_by_id us i ≡ tree_by_id ts i

-- an id that was given before and one that is given now are equal exactly where their terms are
abbrev pub IdsTellTermsApart : Type 0
IdsTellTermsApart =
    (ts us : List Tree) (i j : ℕ) → Extends ts us → AreDistinct us → i < length ts → j < length us
    → (i ≡ j) ↔ (tree_by_id ts i ≡ tree_by_id us j)
