-- What follows from the definitions, stated for the contracts of the module of laws.
use Rattle.std.specs.Prelude.{◌≡◌, ℕ, List}
use Rattle.rdx_term.specs.Tree.{Tree}
use Rattle.rdx_lang.specs.Edges.{IsFree}
use Rattle.rdx_lang.specs.Patterns.{Language}
use Rattle.rdx_lang.specs.declared.pattern.Ref.{Ref}
use Rattle.rdx_enum.specs.UpTo.{TermsUpTo}

-- the listing of the terms of a nonterminal up to a size
pub record HasTerms (L : Language) (x : Ref) (k : ℕ) : Type 0 where
  pub terms : List Tree
  pub listing : TermsUpTo L x k terms

-- in a language that is free of left recursion each nonterminal has one for each size
abbrev pub SomeTerms : Type 0
SomeTerms = (L : Language) (x : Ref) (k : ℕ) → IsFree L → HasTerms L x k

-- and in any language one at most
abbrev pub OneTerms : Type 0
OneTerms = (L : Language) (x : Ref) (k : ℕ) (ts us : List Tree) → TermsUpTo L x k ts → TermsUpTo L x k us → ts ≡ us
