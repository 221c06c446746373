-- Rows of terms: those with so many nodes stand in the row of that number.
use Rattle.std.specs.Prelude.{◌≡◌, ℕ, zero, suc, ◌+◌, ◌≤◌, ◌⊎◌, List, [], ◌∷◌, Some, map, Vec}
use Rattle.std.specs.declared.alloc.Global.{Global}
use Rattle.rdx_term.specs.Building.{list_of}
use Rattle.rdx_term.specs.Tree.{Tree, nil, tree_nodes}
use Rattle.rdx_term.specs.View.{tree_of}
use Rattle.rdx_term.specs.declared.term.Term.{Term}
use Rattle.rdx_lang.specs.Members.{In}
use Rattle.rdx_enum.specs.Inside.Ways.{joined}
use Rattle.rdx_enum.specs.declared.way.Way.{Way}

-- rows, as the code has them
abbrev pub Rows : Type 0
Rows = List (Vec Term Global)

-- the trees of the terms of a row
abbrev pub row_of : Vec Term Global → List Tree
row_of row = map tree_of row.items

-- the row of this number; there is none behind the last
abbrev pub row_at : Rows → ℕ → List Tree
row_at [] m = []
row_at (row ∷ rows) zero = row_of row
row_at (row ∷ rows) (suc m) = row_at rows m

-- each of them has n nodes
abbrev pub HaveNodes : ℕ → List Tree → Type 0
HaveNodes n ts = (t : Tree) → In t ts → tree_nodes t ≡ n

-- the rows have what their numbers say
abbrev pub AreSized : Rows → Type 0
AreSized rows = (m : ℕ) → HaveNodes m (row_at rows m)

-- each of the one and each of the other have at most 500 nodes together
abbrev pub Fit : List Tree → List Tree → Type 0
Fit ts us = (t u : Tree) → In t ts → In u us → tree_nodes t + tree_nodes u ≤ 500

-- out has all that old has
abbrev pub Keeps : List Tree → List Tree → Type 0
Keeps old out = (x : Tree) → In x old → In x out

-- out has what comes in this way of each two terms with so many nodes together, j of them of the one
abbrev pub CombinesAt : Way → Rows → Rows → ℕ → ℕ → List Tree → Type 0
CombinesAt w heads tails j total out =
    (i : ℕ) (t u x : Tree) → j + i ≡ total → In t (row_at heads j) → In u (row_at tails i) → joined w t u ≡ Some x → In x out

-- out has what comes in this way of each two terms with so many nodes together, those of the one from some number on
abbrev pub Combines : Way → Rows → Rows → ℕ → ℕ → List Tree → Type 0
Combines w heads tails from total out =
    (j : ℕ) → from ≤ j → CombinesAt w heads tails j total out

-- x comes in this way of two terms with so many nodes together
pub record Comes (w : Way) (heads tails : Rows) (total : ℕ) (x : Tree) : Type 0 where
  pub first : Tree
  pub second : Tree
  pub before : ℕ
  pub behind : ℕ
  pub together : before + behind ≡ total
  pub head : In first (row_at heads before)
  pub tail : In second (row_at tails behind)
  pub gives : joined w first second ≡ Some x

-- out has what old has, and no other than what comes so
abbrev pub HasOnly : Way → Rows → Rows → ℕ → List Tree → List Tree → Type 0
HasOnly w heads tails total old out = (x : Tree) → In x out → In x old ⊎ Comes w heads tails total x

-- Each row up to n has all of that row of base, and what comes of two terms whose nodes are together as many and some more; there is nothing
-- else.
pub record AreCombined (w : Way) (more : ℕ) (base heads tails : Rows) (n : ℕ) (rows : Rows) : Type 0 where
  pub kept : (m : ℕ) → m ≤ n → Keeps (row_at base m) (row_at rows m)
  pub made : (m : ℕ) → m ≤ n → Combines w heads tails 0 (m + more) (row_at rows m)
  pub only : (m : ℕ) → HasOnly w heads tails (m + more) (row_at base m) (row_at rows m)
  pub sized : AreSized rows

-- Each row up to n has all of that row of base, and what comes of one of heads, with one node at least, and what is in the rows; the row of 1
-- has nothing else.
pub record AreRepeated (w : Way) (base heads : Rows) (n : ℕ) (rows : Rows) : Type 0 where
  pub kept : (m : ℕ) → m ≤ n → Keeps (row_at base m) (row_at rows m)
  pub made : (m : ℕ) → m ≤ n → Combines w heads rows 1 m (row_at rows m)
  pub ones : Keeps (row_at rows 1) (row_at base 1)
  pub sized : AreSized rows

-- the atoms P stand in the row of 1
abbrev pub HasAtoms : List Tree → ℕ → List Tree → Type 0
HasAtoms P i row = (t : Tree) → i ≡ 1 → In t P → In t row

-- so does the empty list
abbrev pub HasEmpty : ℕ → List Tree → Type 0
HasEmpty i row = i ≡ 1 → In (list_of nil) row
