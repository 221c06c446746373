-- What is grown: rows that lack no term that a pattern matches, and no context into which it splits one.
use Rattle.std.specs.Prelude.{◌≡◌, ℕ, ◌+◌, ◌≤◌, List, Some}
use Rattle.rdx_term.specs.Tree.{Tree, list, Trees, tree_nodes, trees_nodes}
use Rattle.rdx_term.specs.Building.{list_of}
use Rattle.rdx_term.specs.Items.{put_at}
use Rattle.rdx_lang.specs.Bindings.{Binding}
use Rattle.rdx_lang.specs.Empty.{IsEmpty}
use Rattle.rdx_lang.specs.Members.{In}
use Rattle.rdx_lang.specs.Patterns.{Pattern, nt, Items, Language}
use Rattle.rdx_lang.specs.Rules.{Match, MatchItems, Split, SplitItems}
use Rattle.rdx_lang.specs.declared.pattern.Ref.{Ref}
use Rattle.rdx_enum.specs.Pool.{IsOver, AreOver}
use Rattle.rdx_enum.specs.Inside.Rows.{Rows, row_at, HaveNodes, AreSized}

-- Up to n nodes, the rows have each term over the pool that p matches, and each context into which p splits such a term. A context of one
-- node is there only where p is Empty.
pub record IsGrown (L : Language) (P : List Tree) (p : Pattern) (n : ℕ) (terms contexts : Rows) : Type 0 where
  pub matched : (t : Tree) (b : Binding) → Match L p t b → IsOver P t → tree_nodes t ≤ n → In t (row_at terms (tree_nodes t))
  pub split : (t C s : Tree) (b : Binding) → Split L p t C s b → IsOver P t → tree_nodes C ≤ n → In C (row_at contexts (tree_nodes C))
  pub sized_terms : AreSized terms
  pub sized_contexts : AreSized contexts
  pub empty : (C : Tree) → In C (row_at contexts 1) → IsEmpty L p

-- so they do for the lists whose items the items ps match
pub record AreGrown (L : Language) (P : List Tree) (ps : Items) (n : ℕ) (terms contexts : Rows) : Type 0 where
  pub matched : (ts : Trees) (b : Binding) → MatchItems L ps ts b → AreOver P ts → trees_nodes ts + 1 ≤ n → In (list_of ts) (row_at terms (trees_nodes ts + 1))
  pub split : (ts : Trees) (k : ℕ) (D s : Tree) (b : Binding) → SplitItems L ps ts k D s b → AreOver P ts → trees_nodes (put_at ts k D) + 1 ≤ n
      → In (list (Some k) (put_at ts k D)) (row_at contexts (trees_nodes (put_at ts k D) + 1))
  pub sized_terms : AreSized terms
  pub sized_contexts : AreSized contexts
  pub none : (C : Tree) → In C (row_at contexts 1) → ⊥

-- so do two rows for the terms with exactly n nodes that the nonterminal x matches, and the contexts into which it splits some
pub record IsRow (L : Language) (P : List Tree) (x : Ref) (n : ℕ) (terms contexts : List Tree) : Type 0 where
  pub matched : (t : Tree) (b : Binding) → Match L (nt x) t b → IsOver P t → tree_nodes t ≡ n → In t terms
  pub split : (t C s : Tree) (b : Binding) → Split L (nt x) t C s b → IsOver P t → tree_nodes C ≡ n → In C contexts
  pub sized_terms : HaveNodes n terms
  pub sized_contexts : HaveNodes n contexts
  pub empty : (C : Tree) → n ≡ 1 → In C contexts → IsEmpty L (nt x)
