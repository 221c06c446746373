-- Worked examples: a few small contexts filled. They are proved, as the clauses of `laws::worked_examples`.
use Rattle.std.specs.Prelude.{◌≡◌, ℕ, pos, Some, None, [], ◌∷◌}
use Rattle.rdx_term.specs.Tree.{Tree, hole, integer, list, nil, cons}
use Rattle.rdx_term.specs.Fill.{fill_of}
use Rattle.rdx_term.specs.Path.{path}

-- the list of two, marked at this place
abbrev pub pair_at : ℕ → Tree → Tree → Tree
pair_at k t u = list (Some k) (cons t (cons u nil))

-- the list of two without a mark
abbrev pub pair : Tree → Tree → Tree
pair t u = list None (cons t (cons u nil))

-- the integer 1
abbrev pub one : Tree
one = integer (pos 1)

-- `(hole hole)` marked at its first hole and filled with 1 is `(1 hole)`, marked at the hole that is left
abbrev pub FirstOfTwo : Type 0
FirstOfTwo = fill_of (pair_at 0 hole hole) one ≡ pair_at 1 one hole

-- marked at its second hole it is `(hole 1)`
abbrev pub SecondOfTwo : Type 0
SecondOfTwo = fill_of (pair_at 1 hole hole) one ≡ pair_at 0 hole one

-- filled with the context `(1 hole)` it stays marked at its second place
abbrev pub MarkStays : Type 0
MarkStays = fill_of (pair_at 1 hole hole) (pair_at 1 one hole) ≡ pair_at 1 hole (pair_at 1 one hole)

-- filled with `(hole hole)` without a mark, `(1 hole)` has two holes and no mark
abbrev pub MarkGoes : Type 0
MarkGoes = fill_of (pair_at 1 one hole) (pair hole hole) ≡ pair one (pair hole hole)

-- the path of `(1 (hole 1))` is the places 1 and 0
abbrev pub PathOfPair : Type 0
PathOfPair = path (pair_at 1 one (pair_at 0 hole one)) ≡ 1 ∷ 0 ∷ []
