-- When two columns are the same.
use Rattle.std.specs.Prelude.{◌≡◌}
use Rattle.rdx_table.specs.declared.task.Column.{Column}

-- the same items, the same terms, and the same is asked
pub record IsSameColumn (a b : Column) : Type 0 where
  pub number : a.number ≡ b.number
  pub id : a.id ≡ b.id
  pub first : a.first ≡ b.first
  pub last : a.last ≡ b.last
  pub place : a.place ≡ b.place
  pub asks : a.asks.items ≡ b.asks.items
