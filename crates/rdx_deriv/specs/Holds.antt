-- When a derivation holds: each of its goals speaks of what the program has, and each of its nodes is a use of its rule.
use Rattle.std.specs.Prelude.{◌≡◌, ℕ, List, Some, IsTrue}
use Rattle.rdx_lang.specs.Patterns.{Pattern, Language}
use Rattle.rdx_lang.specs.Programs.{Program, language_named}
use Rattle.rdx_lang.specs.WellFormed.{has_known_nonterminals, defined}
use Rattle.rdx_deriv.specs.Derivations.{Goal, matched, split, judged, Derivation, Derivations, node, none, more, roots}
use Rattle.rdx_deriv.specs.JudgementUses.{JudgementUse}
use Rattle.rdx_deriv.specs.Uses.{IsMatchUse, IsSplitUse}

-- R of the language of this name, which the program has, with each nonterminal of the pattern
pub record Spoken (P : Program) (l : List ℕ) (p : Pattern) (R : Language → Type 0) : Type 0 where
  pub language : Language
  pub named : language_named P l ≡ Some language
  pub known : IsTrue (has_known_nonterminals (defined language) p)
  pub here : R language

-- the goal follows by its rule from the goals gs, with the choice ks, in a language that the program has, with each nonterminal of its pattern; or
-- by a rule of its judgement, which the program has
abbrev pub IsNode : Program → Goal → List ℕ → List Goal → Type 0
IsNode P (matched l p t b) ks gs = Spoken P l p (λ L. IsMatchUse L l p t b ks gs)
IsNode P (split l p t C s b) ks gs = Spoken P l p (λ L. IsSplitUse L l p t C s b ks gs)
IsNode P (judged j a o) ks gs = JudgementUse P j a o ks gs

abbrev mutual
  -- each node of the derivation does
  pub Holds : Program → Derivation → Type 0
  Holds P (node g ks ds) = IsNode P g ks (roots ds) × AllHold P ds

  -- each node of each of the derivations does
  pub AllHold : Program → Derivations → Type 0
  AllHold P none = Unit {0}
  AllHold P (more d ds) = Holds P d × AllHold P ds
