-- The numbers of the nodes of nonterminals.
use Rattle.std.specs.Prelude.{◌≡◌, ◌<◌, ℕ, List, length, Option, Some}
use Rattle.rdx_lang.specs.Patterns.{Pattern, nt}
use Rattle.rdx_lang.specs.declared.pattern.Ref.{Ref}
use Rattle.rdx_nodes.specs.Nodes.{pattern_at}
use Rattle.rdx_nodes.specs.Numbers.{number_in}
use Rattle.rdx_nodes.specs.declared.index.Index.{Index}

-- the number of this nonterminal
abbrev pub number_of : Index → Ref → Option ℕ
number_of i x = number_in i.texts i.pairs x

-- each number is that of a pattern, which is the nonterminal
pub record IsIndex (ps : List Pattern) (i : Index) : Type 0 where
  pub below : (x : Ref) (n : ℕ) → number_of i x ≡ Some n → n < length ps
  pub pattern : (x : Ref) (n : ℕ) → number_of i x ≡ Some n → pattern_at ps n ≡ nt x
