-- What is appended where terms are compared.
use Rattle.std.proofs.Common.{◌≡◌, ℕ, ◌++◌, true, false, List, refl}
use Rattle.rdx_term.specs.Tree.{Tree}
use Rattle.rdx_answer.specs.Inside.Appending.{Appends}
use Rattle.rdx_answer.specs.Tests.{SameTerms, AreDistinct, Compares, same_terms, other_terms, failure_text, verdict_line}

-- that the test passes
pub passes : (found wanted : List Tree) (before after : List ℕ) → SameTerms found wanted → after ≡ before ++ verdict_line true
    → Appends (Compares found wanted) before after true
passes found wanted before after s e = record { text = verdict_line true; answer = same_terms s refl refl; gained = e }

-- or that it fails, with both
pub fails : (found wanted got want : List Tree) (before after : List ℕ) → (SameTerms found wanted → ⊥)
    → AreDistinct found got → AreDistinct wanted want → after ≡ before ++ failure_text got want → Appends (Compares found wanted) before after false
fails found wanted got want before after n g w e =
    record { text = failure_text got want; answer = other_terms got want n g w refl refl; gained = e }
