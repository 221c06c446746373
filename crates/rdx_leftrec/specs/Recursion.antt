-- What the check answers.
use Rattle.std.specs.Prelude.{◌≡◌, Result, Ok, Err}
use Rattle.rdx_lang.specs.Edges.{IsFirstRecursive}
use Rattle.rdx_lang.specs.Patterns.{Language}
use Rattle.rdx_lang.specs.declared.language.Ranks.{Ranks}
use Rattle.rdx_lang.specs.declared.pattern.Ref.{Ref}
use Rattle.rdx_leftrec.specs.declared.recursion.LeftRec.{LeftRec}
use Rattle.rdx_leftrec.specs.declared.recursion.LeftRec.TheVariants.{LeftRecursive, NoMemory}

-- the answer names the first nonterminal that reaches itself, or says that memory ran out
abbrev pub IsRecursionOf : Language → LeftRec → Type 0
IsRecursionOf L (LeftRecursive x) = IsFirstRecursive L x
IsRecursionOf L NoMemory = Unit {0}

-- the answer names this nonterminal, or says that memory ran out
abbrev pub Names : Ref → LeftRec → Type 0
Names x (LeftRecursive y) = y ≡ x
Names x NoMemory = Unit {0}

-- the result names this nonterminal, unless memory ran out
abbrev pub HasRecursion : Ref → Result Ranks LeftRec → Type 0
HasRecursion x (Ok r) = ⊥
HasRecursion x (Err e) = Names x e

-- where a nonterminal is the first that reaches itself, the result names it, unless memory ran out
abbrev pub IsNamed : Language → Result Ranks LeftRec → Type 0
IsNamed L r = (x : Ref) → IsFirstRecursive L x → HasRecursion x r
