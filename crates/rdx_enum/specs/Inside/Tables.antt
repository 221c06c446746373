-- What is known of nonterminals: a table for each, with a row for each size so far.
use Rattle.std.specs.Prelude.{◌≡◌, ℕ, zero, suc, ◌+◌, ◌<◌, List, [], ◌∷◌, length}
use Rattle.rdx_term.specs.Tree.{Tree}
use Rattle.rdx_lang.specs.Empty.{IsEmpty}
use Rattle.rdx_lang.specs.Members.{In}
use Rattle.rdx_lang.specs.Patterns.{Pattern, wild, of_kind, except, prefix, hole, lit, nt, named, differ, in_hole, hide_hole, closed, seq, Items, nil, one, many, Language}
use Rattle.rdx_lang.specs.declared.pattern.Ref.{Ref}
use Rattle.rdx_enum.specs.declared.tables.Table.{Table}
use Rattle.rdx_enum.specs.Inside.Growing.{IsRow}
use Rattle.rdx_enum.specs.Inside.Rows.{row_at}
use Rattle.rdx_enum.specs.UpTo.{MatchesSome}

-- the nonterminal of a table
abbrev pub table_name : Table → Ref
table_name t = t.name

-- how many rows a table has
abbrev pub sizes : Table → ℕ
sizes t = length t.terms.items

-- the rows of the table are those of its nonterminal, and each term in them is one that it matches
pub record IsTable (L : Language) (P : List Tree) (t : Table) : Type 0 where
  pub as_many : length t.contexts.items ≡ sizes t
  pub rows : (m : ℕ) → m < sizes t → IsRow L P t.name m (row_at t.terms.items m) (row_at t.contexts.items m)
  pub met : (m : ℕ) (u : Tree) → In u (row_at t.terms.items m) → MatchesSome L (nt t.name) u

-- all tables are such
abbrev pub AreTables : Language → List Tree → List Table → Type 0
AreTables L P ts = (t : Table) → In t ts → IsTable L P t

-- the row of the nonterminal x at the size n is there
pub record IsThere (ts : List Table) (x : Ref) (n : ℕ) : Type 0 where
  pub table : Table
  pub among : In table ts
  pub name : table.name ≡ x
  pub size : (t : Table) → In t ts → t.name ≡ x → n < sizes t

-- All rows are there that are asked for as the pattern is grown up to n nodes: those of its nonterminals at n; where something of the term is
-- taken off before, at n - 1. What stands in the hole of another pattern is asked for at n where that one is Empty.
abbrev mutual
  pub IsReady : Language → List Table → Pattern → ℕ → Type 0
  IsReady L ts wild n = Unit {0}
  IsReady L ts (of_kind k) n = Unit {0}
  IsReady L ts (except rs) n = Unit {0}
  IsReady L ts (prefix r) n = Unit {0}
  IsReady L ts hole n = Unit {0}
  IsReady L ts (lit u) n = Unit {0}
  IsReady L ts (nt x) n = IsThere ts x n
  IsReady L ts (named x q) n = IsReady L ts q n
  IsReady L ts (differ x q) n = IsReady L ts q n
  IsReady L ts (in_hole q r) n = IsReady L ts q n × (((m : ℕ) → m + 1 ≡ n → IsReady L ts r m) × (IsEmpty L q → IsReady L ts r n))
  IsReady L ts (hide_hole q) n = IsReady L ts q n
  IsReady L ts (closed q) n = IsReady L ts q n
  IsReady L ts (seq ps) n = AreReady L ts ps n

  -- so are those for the items of a list
  pub AreReady : Language → List Table → Items → ℕ → Type 0
  AreReady L ts nil n = Unit {0}
  AreReady L ts (one p ps) n = ((m : ℕ) → m + 1 ≡ n → IsReady L ts p m) × AreReady L ts ps n
  AreReady L ts (many p v ps) n = ((m : ℕ) → m + 1 ≡ n → IsReady L ts p m) × AreReady L ts ps n

-- the first i tables have n + 1 rows each, and the others n
abbrev pub AreFilled : ℕ → ℕ → List Table → Type 0
AreFilled n i [] = Unit {0}
AreFilled n zero (t ∷ ts) = (sizes t ≡ n) × AreFilled n zero ts
AreFilled n (suc i) (t ∷ ts) = (sizes t ≡ n + 1) × AreFilled n i ts
