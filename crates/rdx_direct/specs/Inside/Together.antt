-- Patterns, each at a term of its own, that match together.
use Rattle.std.specs.Prelude.{List, [], ◌∷◌, map}
use Rattle.rdx_term.specs.Tree.{Tree}
use Rattle.rdx_term.specs.View.{tree_of}
use Rattle.rdx_lang.specs.Bindings.{Binding, no_names}
use Rattle.rdx_lang.specs.Join.{IsJoin}
use Rattle.rdx_lang.specs.Patterns.{Pattern, Language}
use Rattle.rdx_lang.specs.PatternView.{pattern_of}
use Rattle.rdx_lang.specs.Rules.{Match}
use Rattle.rdx_direct.specs.declared.later.Later as code

-- b is joined of what each of the patterns binds at its term
pub data Together (L : Language) : List (Pattern × Tree) → Binding → Type 0 where
  together_none : Together L [] no_names
  together_more : {p : Pattern} {t : Tree} {xs : List (Pattern × Tree)} {c d b : Binding} →
      Match L p t c → Together L xs d → IsJoin c d b → Together L ((p, t) ∷ xs) b

-- the pattern and the term that are left for later
abbrev pub pair_of : code.Later → Pattern × Tree
pair_of x = (pattern_of x.pat.now, tree_of x.term.now)

abbrev pub pairs_of : List code.Later → List (Pattern × Tree)
pairs_of xs = map pair_of xs
