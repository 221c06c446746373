-- The alternatives of a nonterminal, and what is known of them.
use Rattle.std.specs.Prelude.{List, [], ◌∷◌, IfSome}
use Rattle.rdx_lang.specs.Facts.{IsAtMost, IsKnown}
use Rattle.rdx_lang.specs.Patterns.{Pattern, Language}
use Rattle.rdx_lang.specs.PatternView.{patterns_of}
use Rattle.rdx_lang.specs.Rules.{AreAlternatives}
use Rattle.rdx_lang.specs.declared.pattern.Ref.{Ref}
use Rattle.rdx_direct.specs.declared.choices.Choices as choices
use Rattle.rdx_direct.specs.declared.choices.Hint as hint

-- these are the alternatives of the nonterminal x, and what is known of it and of them
pub record AreChoices (L : Language) (x : Ref) (c : choices.Choices) : Type 0 where
  pub all : AreAlternatives L x (patterns_of c.pats.now)
  pub known : IfSome c.known (λ k. IsKnown L (x, patterns_of c.pats.now) k.now)

-- this is known of the first of the patterns
abbrev pub IsHint : Language → hint.Hint → List Pattern → Type 0
IsHint L h [] = Unit {0}
IsHint L h (p ∷ ps) = IsAtMost L h.may p
