-- Worked examples: what the definitions say of a few small terms. They are proved, as the clauses of `laws::worked_examples`.
use Rattle.std.specs.Prelude.{◌≡◌, ◌≢◌, ◌↔◌, ℕ, zero, suc, ◌<◌, ◌≤◌, pos, negsuc, true, false, IsTrue, [], ◌∷◌, Option, Some, None, codes}
use Rattle.std.specs.declared.cmp.Ordering.TheVariants.{Less, Greater}
use Rattle.std.specs.Bool.{IsFalse}
use Rattle.std.specs.List.{list_all, list_any}
use Rattle.rdx_term.specs.Tree.{Tree, hole, integer, truth, text, symbol, list, Trees, nil, cons, tree_depth, tree_nodes}
use Rattle.rdx_term.specs.Terms.{IsTerm, IsTooDeep, IsTooLarge}
use Rattle.rdx_term.specs.Spelling.{is_symbol_spelling, is_name}
use Rattle.rdx_term.specs.Bare.{bare}
use Rattle.rdx_term.specs.Order.{tree_cmp}
use Rattle.rdx_term.specs.Text.{tree_text}

-- ---- what lists of the examples hold

-- an integer that is not negative
abbrev pub int : ℕ → Tree
int n = integer (pos n)

-- one item
abbrev pub one : Tree → Trees
one t = cons t nil

-- two items
abbrev pub two : Tree → Tree → Trees
two t u = cons t (cons u nil)

-- three items
abbrev pub three : Tree → Tree → Tree → Trees
three t u v = cons t (cons u (cons v nil))

-- ---- the printed text

-- the list of the string `a"` with an LF behind it, of true and of -7 is printed `("a\"\n" #t -7)`
abbrev pub PrintedList : Type 0
PrintedList = tree_text (list None (three (text (codes "a\"\n")) (truth true) (integer (negsuc 6)))) ≡ codes "(\"a\\\"\\n\" #t -7)"

-- a mark is not printed: the list of the hole, the empty list and 1, marked at the hole, is printed `(hole () 1)`
abbrev pub PrintedContext : Type 0
PrintedContext = tree_text (list (Some 0) (three hole (list None nil) (int 1))) ≡ codes "(hole () 1)"

-- ---- the order

-- kinds decide before what is held: the integer 1 comes before false
abbrev pub KindsDecide : Type 0
KindsDecide = tree_cmp (int 1) (truth false) ≡ Less

-- the string "b" comes before the symbol a
abbrev pub StringsBeforeSymbols : Type 0
StringsBeforeSymbols = tree_cmp (text (codes "b")) (symbol (codes "a")) ≡ Less

-- a proper prefix is first: `(1)` comes before `(1 hole)`
abbrev pub PrefixFirst : Type 0
PrefixFirst = tree_cmp (list None (one (int 1))) (list (Some 1) (two (int 1) hole)) ≡ Less

-- items decide before the length: `(2)` comes after `(1 1)`
abbrev pub ItemsDecide : Type 0
ItemsDecide = tree_cmp (list None (one (int 2))) (list None (two (int 1) (int 1))) ≡ Greater

-- marks decide last, the unmarked list first: `(hole hole)` comes before `(hole hole)` marked at its first hole
abbrev pub UnmarkedFirst : Type 0
UnmarkedFirst = tree_cmp (list None (two hole hole)) (list (Some 0) (two hole hole)) ≡ Less

-- ---- marks

-- `(1 hole)` is a term exactly where it is marked at its hole
abbrev pub OneHole : Type 0
OneHole = (mark : Option ℕ) → IsTerm (list mark (two (int 1) hole)) ↔ (mark ≡ Some 1)

-- `(hole hole)` is a term without a mark, and also marked at either hole
abbrev pub TwoHoles : Type 0
TwoHoles = IsTerm (list None (two hole hole)) × IsTerm (list (Some 0) (two hole hole)) × IsTerm (list (Some 1) (two hole hole))

-- `((hole hole) 1)` is no term where it is marked at an item that has holes and no mark
abbrev pub MarkAtNoContext : Type 0
MarkAtNoContext = IsTerm (list (Some 0) (two (list None (two hole hole)) (int 1))) → ⊥

-- `(hole hole)` marked at its first hole and marked at its second are different terms, and the same one with marks forgotten
abbrev pub BareForgets : Type 0
BareForgets =
    (list (Some 0) (two hole hole) ≢ list (Some 1) (two hole hole))
    × (bare (list (Some 0) (two hole hole)) ≡ bare (list (Some 1) (two hole hole)))

-- ---- the spelling of names

-- these are names
abbrev pub Names : Type 0
Names = IsTrue (list_all is_name (codes "a.b" ∷ codes "..." ∷ codes "+" ∷ codes "-x" ∷ codes "->" ∷ codes "holes" ∷ []))

-- numbers and what begins like one are no names, nor are the point and numbers in letters
abbrev pub NumbersAreNoNames : Type 0
NumbersAreNoNames = IsFalse (list_any is_name (codes "1" ∷ codes "1a" ∷ codes "-.5x" ∷ codes "." ∷ codes "+inf.0" ∷ []))

-- nor is a text with a quotation of Racket's, a `#` at its beginning, a bracket, a space, or nothing in it
abbrev pub OthersAreNoNames : Type 0
OthersAreNoNames = IsFalse (list_any is_name (codes "a|b" ∷ codes "a\\b" ∷ codes "#a" ∷ codes "(a)" ∷ codes "a b" ∷ codes "" ∷ []))

-- `hole` is a symbol spelling, and no name
abbrev pub HoleIsNoName : Type 0
HoleIsNoName = IsTrue (is_symbol_spelling (codes "hole")) × IsFalse (is_name (codes "hole"))

-- ---- the depth and the nodes

-- the empty list is 1 deep and is one node
abbrev pub EmptyList : Type 0
EmptyList = (tree_depth (list None nil) ≡ 1) × (tree_nodes (list None nil) ≡ 1)

-- `((1) 2 (1))` is 2 deep and has 6 nodes, since equal items count each time
abbrev pub EqualItems : Type 0
EqualItems =
    (tree_depth (list None (three (list None (one (int 1))) (int 2) (list None (one (int 1))))) ≡ 2)
    × (tree_nodes (list None (three (list None (one (int 1))) (int 2) (list None (one (int 1))))) ≡ 6)

-- the integer 1 in so many lists of one item
abbrev pub nested : ℕ → Tree
nested zero = int 1
nested (suc n) = list None (one (nested n))

-- at most 500 such lists in one another are a term, and more are too deep
abbrev pub DepthLimit : Type 0
DepthLimit = (n : ℕ) → (IsTerm (nested n) ↔ (n ≤ 500)) × (IsTooDeep (nested n) ↔ (500 < n))

-- so many times the integer 1
abbrev pub ones : ℕ → Trees
ones zero = nil
ones (suc n) = cons (int 1) (ones n)

-- a list of at most 3,999,999 integers is a term, and one of more is too large
abbrev pub NodeLimit : Type 0
NodeLimit = (n : ℕ) → (IsTerm (list None (ones n)) ↔ (n ≤ 3_999_999)) × (IsTooLarge (list None (ones n)) ↔ (3_999_999 < n))
