-- Patterns with a name or a mismatch name, as one. No public contract cites it.
use Rattle.std.specs.Prelude.{ℕ, List}
use Rattle.rdx_term.specs.Tree.{Tree}
use Rattle.rdx_lang.specs.Bindings.{Binding}
use Rattle.rdx_lang.specs.Join.{IsJoin}
use Rattle.rdx_lang.specs.Patterns.{Pattern}
use Rattle.rdx_bind.specs.Namings.{Naming, alone}
use Rattle.rdx_deriv.specs.Derivations.{Goal, matched, split}
use Rattle.rdx_deriv.specs.Uses.{OneUnder}

-- what the inner pattern binds, joined with what the name alone binds for the term, is b
abbrev pub NamingMatch : List ℕ → Naming → Pattern → Tree → Binding → List ℕ → List Goal → Type 0
NamingMatch l n q t b ks gs = OneUnder (matched l q t) (λ c. IsJoin c (alone n t) b) ks gs

-- joined with what it binds for the context
abbrev pub NamingSplit : List ℕ → Naming → Pattern → Tree → Tree → Tree → Binding → List ℕ → List Goal → Type 0
NamingSplit l n q t C s b ks gs = OneUnder (split l q t C s) (λ c. IsJoin c (alone n C) b) ks gs
