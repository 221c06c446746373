-- What follows from the definitions: a goal has a derivation that holds exactly where it follows by the rules of matching, of splitting and of
-- judgements; and what a judgement is answered is the listing of the outputs that have one.
use Rattle.std.specs.Prelude.{◌≡◌, ℕ, List, Some, IsTrue}
use Rattle.rdx_term.specs.Order.{tree_cmp}
use Rattle.rdx_term.specs.Tree.{Tree}
use Rattle.rdx_lang.specs.Listing.{IsListing}
use Rattle.rdx_lang.specs.Patterns.{Language}
use Rattle.rdx_lang.specs.Programs.{Program, language_named}
use Rattle.rdx_lang.specs.Rules.{Match, Split}
use Rattle.rdx_lang.specs.Valid.{is_valid}
use Rattle.rdx_lang.specs.WellFormed.{IsWellFormed}
use Rattle.rdx_eval.specs.Answers.{value}
use Rattle.rdx_deriv.specs.Derivations.{Goal, matched, split, judged, Derivation, root}
use Rattle.rdx_deriv.specs.Holds.{Holds, Spoken}
use Rattle.rdx_deriv.specs.Judged.{Judged, calls}

-- the goal follows by the rules, in a language that the program has with each nonterminal of its pattern
abbrev pub Follows : Program → Goal → Type 0
Follows P (matched l p t b) = Spoken P l p (λ L. Match L p t b)
Follows P (split l p t C s b) = Spoken P l p (λ L. Split L p t C s b)
Follows P (judged j a o) = Judged P j a o

-- what a derivation that holds derives follows
abbrev pub WhatHoldsFollows : Type 0
WhatHoldsFollows = (P : Program) (d : Derivation) → Holds P d → Follows P (root d)

-- a derivation that holds, of this goal
pub record HasDerivation (P : Program) (g : Goal) : Type 0 where
  pub derivation : Derivation
  pub of_goal : root derivation ≡ g
  pub holds : Holds P derivation

-- the languages of the program that are named are well formed
abbrev pub HasWellFormedLanguages : Program → Type 0
HasWellFormedLanguages P = (l : List ℕ) (L : Language) → language_named P l ≡ Some L → IsWellFormed L

-- what follows has a derivation that holds, in a valid program whose languages are well formed
abbrev pub WhatFollowsHasDerivation : Type 0
WhatFollowsHasDerivation = (P : Program) (g : Goal) → HasWellFormedLanguages P → IsTrue (is_valid P) → Follows P g → HasDerivation P g

-- what a judgement is answered, where it has no fault, is the listing of the outputs that its rules have for the inputs
abbrev pub OutputsAreJudged : Type 0
OutputsAreJudged =
    (P : Program) (j : List ℕ) (a : Tree) (os : List Tree) → (calls P).outputs_of j a (value os) → IsListing tree_cmp os (Judged P j a)
