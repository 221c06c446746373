-- Nonterminals in the order in which they are grown.
use Rattle.std.specs.Prelude.{ℕ, IsTrue, List, [], ◌∷◌, drop}
use Rattle.std.specs.List.Sorted.{IsNonDecreasingBy}
use Rattle.rdx_lang.specs.LeftNumbers.{above, rank_of}
use Rattle.rdx_lang.specs.Members.{In}
use Rattle.rdx_lang.specs.Nodes.{patterns_nodes}
use Rattle.rdx_lang.specs.Patterns.{Definition, Language}
use Rattle.rdx_lang.specs.Ranks.{root_ranks}
use Rattle.rdx_lang.specs.References.{is_among}
use Rattle.rdx_lang.specs.WellFormed.{defined}
use Rattle.rdx_lang.specs.declared.pattern.Ref.{Ref}
use Rattle.rdx_enum.specs.declared.ranked.Ranked.{Ranked}

-- the number and the nonterminal
abbrev pub ranking : Ranked → ℕ × Ref
ranking r = (r.number, r.name)

-- each of these nonterminals with a number above the ranks of its alternatives' roots, where the ranks of their nodes come first
abbrev pub rankings : List Definition → List ℕ → List (ℕ × Ref)
rankings [] ns = []
rankings (d ∷ ds) ns = (above (root_ranks d.1 ns), d.0) ∷ rankings ds (drop (patterns_nodes d.1) ns)

-- xs are the nonterminals of the language, those of lower rank first
pub record IsInOrder (L : Language) (ns : List ℕ) (xs : List Ref) : Type 0 where
  pub all : (x : Ref) → IsTrue (is_among x (defined L)) → In x xs
  pub each : (x : Ref) → In x xs → IsTrue (is_among x (defined L))
  pub rising : IsNonDecreasingBy (rank_of L ns) xs
