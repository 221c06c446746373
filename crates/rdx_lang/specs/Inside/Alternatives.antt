-- What a nonterminal asks of its alternatives.
use Rattle.rdx_term.specs.Tree.{Tree}
use Rattle.rdx_lang.specs.Bindings.{Binding}
use Rattle.rdx_lang.specs.Patterns.{Pattern, Language}
use Rattle.rdx_lang.specs.Rules.{Match, Split, IsAlternative}
use Rattle.rdx_lang.specs.declared.pattern.Ref.{Ref}

-- some alternative of x matches t, with some binding
pub record AnyAlternative (L : Language) (x : Ref) (t : Tree) : Type 0 where
  pub pattern : Pattern
  pub alternative : IsAlternative L x pattern
  pub binding : Binding
  pub matched : Match L pattern t binding

-- some alternative of x splits t into C and s, with some binding
pub record AnySplit (L : Language) (x : Ref) (t C s : Tree) : Type 0 where
  pub pattern : Pattern
  pub alternative : IsAlternative L x pattern
  pub binding : Binding
  pub split : Split L pattern t C s binding
