-- The one printed spelling of a tree, and that of a label.
use Rattle.std.specs.Prelude.{ℕ, ◌==◌, Bool, true, false, List, [], ◌∷◌, ◌++◌, codes, if◌then◌else◌}
use Rattle.std.specs.Fmt.{signed_decimal}
use Rattle.std.specs.Str.{byte}
use Rattle.rdx_term.specs.Spelling.{is_symbol_spelling}
use Rattle.rdx_term.specs.Tree.{Tree, hole, integer, truth, text, symbol, list, Trees, nil, cons}

-- one byte of a string: `"`, `\`, LF, TAB and CR as escapes, and all else as it is
abbrev pub escaped : ℕ → List ℕ
escaped b =
    if b == byte "\"" then codes "\\\""
    else if b == byte "\\" then codes "\\\\"
    else if b == byte "\n" then codes "\\n"
    else if b == byte "\t" then codes "\\t"
    else if b == byte "\r" then codes "\\r"
    else b ∷ []

-- the bytes of a string, each so
abbrev pub all_escaped : List ℕ → List ℕ
all_escaped [] = []
all_escaped (b ∷ bs) = escaped b ++ all_escaped bs

-- a string, its bytes escaped, between quotation marks
abbrev pub string_text : List ℕ → List ℕ
string_text s = codes "\"" ++ all_escaped s ++ codes "\""

-- true as `#t`, false as `#f`
abbrev pub truth_text : Bool → List ℕ
truth_text true = codes "#t"
truth_text false = codes "#f"

-- The hole as `hole`, an integer in decimal with `-` before it where it is negative, a truth value as `#t` or `#f`, a string between
-- quotation marks, a symbol as its text, and a list in round brackets. Marks are not printed.
abbrev mutual
  pub tree_text : Tree → List ℕ
  tree_text hole = codes "hole"
  tree_text (integer n) = signed_decimal n
  tree_text (truth b) = truth_text b
  tree_text (text s) = string_text s
  tree_text (symbol s) = s
  tree_text (list m ts) = codes "(" ++ trees_text ts ++ codes ")"

  -- the items with one space between two
  pub trees_text : Trees → List ℕ
  trees_text nil = []
  trees_text (cons t ts) = tree_text t ++ spaced_text ts

  -- the later items, each with a space before it
  pub spaced_text : Trees → List ℕ
  spaced_text nil = []
  spaced_text (cons t ts) = codes " " ++ tree_text t ++ spaced_text ts

-- A label, which may be any text, as the name of a rule: as it is where it is spelled like a symbol, else as a string.
abbrev pub label_text : List ℕ → List ℕ
label_text x = if is_symbol_spelling x then x else string_text x
