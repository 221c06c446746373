-- Why a term is not put for a name, as it is written.
use Rattle.std.specs.Prelude.{◌≡◌, ℕ, List, ◌++◌}
use Rattle.rdx_alpha.specs.declared.fault.AlphaFault.{AlphaFault}
use Rattle.rdx_alpha.specs.declared.fault.AlphaFault.TheVariants.{NotBinding, HeadName, TooDeep, TooLarge, NoMemory}
use Rattle.rdx_answer.specs.AlphaAnswers.{Outcome, not_binding, head_name, too_deep, too_large, outcome_line}
use Rattle.rdx_term.specs.View.{tree_of}

-- after holds what before held, and then the line of the fault; want of memory has none
abbrev pub Stops : AlphaFault → List ℕ → List ℕ → Type 0
Stops (NotBinding w) before after = after ≡ before ++ outcome_line (not_binding (tree_of w))
Stops (HeadName k) before after = after ≡ before ++ outcome_line (head_name k)
Stops TooDeep before after = after ≡ before ++ outcome_line too_deep
Stops TooLarge before after = after ≡ before ++ outcome_line too_large
Stops NoMemory before after = ⊥
