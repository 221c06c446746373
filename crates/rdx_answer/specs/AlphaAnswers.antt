-- The answers to queries under binding forms, from the definitions of terms without bound names and of substitution alone.
use Rattle.std.specs.Prelude.{◌≡◌, ℕ, Bool, true, false, nat_lt, List, ◌++◌, Option, Some, None, codes, IsTrue, IsFalse, if◌then◌else◌}
use Rattle.rdx_term.specs.Text.{tree_text}
use Rattle.rdx_term.specs.Tree.{Tree, hole, integer, truth, text as string, symbol, list, tree_depth, tree_nodes}
use Rattle.rdx_alpha.specs.Answers.{Compares, first_wrong_of}
use Rattle.rdx_alpha.specs.Binding.{head_that_is}
use Rattle.rdx_alpha.specs.Forms.{Form}
use Rattle.rdx_alpha.specs.Marks.{substitution}
use Rattle.rdx_answer.specs.AnswerText.{value_line}

-- ---- what is written

-- whether two terms are alpha equivalent
abbrev pub alpha_line : Bool → List ℕ
alpha_line true = codes "alpha #t\n"
alpha_line false = codes "alpha #f\n"

-- `fault NotBinding u`: a list that is headed by the head of a form, and is no instance of it
abbrev pub not_binding_line : Tree → List ℕ
not_binding_line u = codes "fault NotBinding " ++ tree_text u ++ codes "\n"

-- ---- alpha equivalence

-- `alpha-equivalent?` writes whether two terms are the same without the names that are bound in them; or which list in them is no instance, and
-- then something stays unmet
pub data IsAlikeAnswer (fs : List Form) (t u : Tree) (text : List ℕ) (met : Bool) : Type 0 where
  tells_alike : (b : Bool) → Compares fs t u b → text ≡ alpha_line b → IsTrue met → IsAlikeAnswer fs t u text met
  no_instance : (w : Tree) → first_wrong_of fs t u ≡ Some w → text ≡ not_binding_line w → IsFalse met → IsAlikeAnswer fs t u text met

-- ---- substitution

-- what comes of putting a term for a name: a term, or why there is none
pub data Outcome : Type 0 where
  made : Tree → Outcome
  not_name : Tree → Outcome
  not_binding : Tree → Outcome
  head_name : List ℕ → Outcome
  too_deep : Outcome
  too_large : Outcome

-- this tree, where it keeps the limits of terms
abbrev pub within_limits : Tree → Outcome
within_limits u = if nat_lt 500 (tree_depth u) then too_deep else if nat_lt 4_000_000 (tree_nodes u) then too_large else made u

-- of v, put for the name x in t, where it may be the head of a form
abbrev pub outcome_headed : List Form → Tree → List ℕ → Tree → Option (List ℕ) → Outcome
outcome_headed fs t x v None = within_limits (substitution fs x v t)
outcome_headed fs t x v (Some k) = head_name k

-- of v, put for the name x in t, where a list in t or else in v may be no instance
abbrev pub outcome_bound : List Form → Tree → List ℕ → Tree → Option Tree → Outcome
outcome_bound fs t x v None = outcome_headed fs t x v (head_that_is fs v)
outcome_bound fs t x v (Some w) = not_binding w

-- of v, put for a term in t: that has to be a symbol
abbrev pub outcome : List Form → Tree → Tree → Tree → Outcome
outcome fs t hole v = not_name hole
outcome fs t (integer n) v = not_name (integer n)
outcome fs t (truth b) v = not_name (truth b)
outcome fs t (string s) v = not_name (string s)
outcome fs t (symbol x) v = outcome_bound fs t x v (first_wrong_of fs t v)
outcome fs t (list m ts) v = not_name (list m ts)

-- the line of what comes
abbrev pub outcome_line : Outcome → List ℕ
outcome_line (made u) = value_line u
outcome_line (not_name u) = codes "fault NotName " ++ tree_text u ++ codes "\n"
outcome_line (not_binding u) = not_binding_line u
outcome_line (head_name k) = codes "fault HeadName " ++ k ++ codes "\n"
outcome_line too_deep = codes "fault TooDeep\n"
outcome_line too_large = codes "fault TooLarge\n"

-- a term comes, and no fault
abbrev pub is_made : Outcome → Bool
is_made (made u) = true
is_made (not_name u) = false
is_made (not_binding u) = false
is_made (head_name k) = false
is_made too_deep = false
is_made too_large = false

-- `substitute` writes what comes of putting v for x in t; where that is a fault, something stays unmet
pub record IsSubstitutedAnswer (fs : List Form) (t x v : Tree) (text : List ℕ) (met : Bool) : Type 0 where
  pub printed : text ≡ outcome_line (outcome fs t x v)
  pub is_met : met ≡ is_made (outcome fs t x v)
