-- Contexts around an item of a list.
use Rattle.std.specs.Prelude.{◌≡◌, ℕ, ◌<◌, Option, Some}
use Rattle.rdx_term.specs.Tree.{Tree, list, Trees}
use Rattle.rdx_term.specs.Items.{trees_count, put_at}

-- t is a list of ts, and C is it with D at k, marked there
pub record IsAround (t C : Tree) (k : ℕ) (ts : Trees) (D : Tree) : Type 0 where
  pub mark : Option ℕ
  pub same : t ≡ list mark ts
  pub there : k < trees_count ts
  pub around : C ≡ list (Some k) (put_at ts k D)
