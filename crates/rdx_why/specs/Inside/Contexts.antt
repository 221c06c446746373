-- Contexts that a binding has. No public contract cites it.
use Rattle.std.specs.Prelude.{◌≡◌, ℕ, List, Some}
use Rattle.rdx_term.specs.Tree.{Tree}
use Rattle.rdx_lang.specs.Bindings.{Binding, one, value_at}
use Rattle.rdx_lang.specs.Patterns.{Pattern, named}

-- the pattern has a name, under which the binding has this context
abbrev pub HasContext : Pattern → Binding → Tree → Type 0
HasContext p b C = (x : List ℕ) × (q : Pattern) × (p ≡ named x q) × (value_at b x ≡ Some (one C))
