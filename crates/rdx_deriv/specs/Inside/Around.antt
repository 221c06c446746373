-- Lists that are the same but for one item. No public contract cites it.
use Rattle.std.specs.Prelude.{◌≡◌, ℕ, ◌<◌, Bool, true, false, ◌&&◌, ◌||◌, nat_eq, ◌+◌}
use Rattle.rdx_term.specs.Tree.{Tree, Trees, nil, cons}
use Rattle.rdx_term.specs.Items.{trees_count, put_at}
use Rattle.rdx_deriv.specs.Inside.Same.{same_tree}

-- as many, and from the place i on the same but for those at the place k
abbrev pub same_at : ℕ → ℕ → Trees → Trees → Bool
same_at i k nil nil = true
same_at i k nil (cons u us) = false
same_at i k (cons t ts) nil = false
same_at i k (cons t ts) (cons u us) = (nat_eq i k || same_tree t u) && same_at (i + 1) k ts us

-- us is ts with D in place of the item at k
pub record IsPut (ts us : Trees) (k : ℕ) (D : Tree) : Type 0 where
  pub there : k < trees_count ts
  pub put : us ≡ put_at ts k D
