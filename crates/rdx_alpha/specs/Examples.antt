-- Worked examples, in a language with one binding form `(lam (x ...) e)`, in which e refers to the names.
use Rattle.std.specs.Prelude.{◌≡◌, pos, List, [], ◌∷◌, None, codes}
use Rattle.rdx_term.specs.Tree.{Tree, symbol, integer, list, trees}
use Rattle.rdx_alpha.specs.Forms.{binders, body, Form}
use Rattle.rdx_alpha.specs.Nameless.{nameless}
use Rattle.rdx_alpha.specs.Marks.{substitution}

abbrev pub lam : List Form
lam = record { head = codes "lam"; places = binders ∷ body (0 ∷ []) ∷ [] } ∷ []

abbrev pub a : Tree
a = symbol (codes "a")

abbrev pub b : Tree
b = symbol (codes "b")

abbrev pub c : Tree
c = symbol (codes "c")

abbrev pub x : Tree
x = symbol (codes "x")

abbrev pub y : Tree
y = symbol (codes "y")

abbrev pub z : Tree
z = symbol (codes "z")

abbrev pub y1 : Tree
y1 = symbol (codes "y1")

abbrev pub several : List Tree → Tree
several ts = list None (trees ts)

-- `(lam (t) u)`
abbrev pub binding : Tree → Tree → Tree
binding t u = several (symbol (codes "lam") ∷ several (t ∷ []) ∷ u ∷ [])

-- `(lam (a) (a c))` and `(lam (b) (b c))` are the same without names
abbrev pub SameWithoutNames : Type 0
SameWithoutNames = nameless lam (binding a (several (a ∷ c ∷ []))) ≡ nameless lam (binding b (several (b ∷ c ∷ [])))

-- with `(y z)` for x, `(lam (y) (x y))` is `(lam (y1) ((y z) y1))`
abbrev pub RenamedBinder : Type 0
RenamedBinder =
    substitution lam (codes "x") (several (y ∷ z ∷ [])) (binding y (several (x ∷ y ∷ []))) ≡ binding y1 (several (several (y ∷ z ∷ []) ∷ y1 ∷ []))

-- with 1 for x, `(lam (x) x)` stays
abbrev pub BoundStays : Type 0
BoundStays = substitution lam (codes "x") (integer (pos 1)) (binding x x) ≡ binding x x
