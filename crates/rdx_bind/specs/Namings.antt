-- The two ways in which a pattern gives its terms a name: a name that they are bound to, and a mismatch name, under which all terms differ.
use Rattle.std.specs.Prelude.{ℕ, List}
use Rattle.rdx_term.specs.Tree.{Tree}
use Rattle.rdx_lang.specs.Bindings.{Binding, one, one_name, one_differs}
use Rattle.rdx_lang.specs.Patterns.{Pattern, named, differ}
use Rattle.rdx_bind.specs.declared.naming.Naming as code
use Rattle.rdx_bind.specs.declared.naming.Naming.TheVariants as given

-- a name, by the way in which it is given
pub data Naming : Type 0 where
  binds : List ℕ → Naming
  differs : List ℕ → Naming

-- the one that one of the code stands for
abbrev pub naming_of : code.Naming → Naming
naming_of (given.Binds x) = binds x.now
naming_of (given.Differs x) = differs x.now

-- the pattern with this name
abbrev pub under : Naming → Pattern → Pattern
under (binds x) q = named x q
under (differs x) q = differ x q

-- what the name alone binds where the pattern matches this term, or splits a term into this context
abbrev pub alone : Naming → Tree → Binding
alone (binds x) t = one_name x (one t)
alone (differs x) t = one_differs x t
