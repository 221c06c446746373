-- Cross nonterminals to several ends, each end once.
use Rattle.std.specs.Prelude.{ℕ, List, [], ◌∷◌, ◌++◌, bytes_eq, if◌then◌else◌}
use Rattle.std.specs.List.{list_any}
use Rattle.rdx_lang.specs.Crosses.{new_crosses}
use Rattle.rdx_lang.specs.Patterns.{Definition, Language}

-- a language of these definitions
abbrev pub language_among : List Definition → Language
language_among ds = record { name = []; nonterminals = ds }

-- the cross nonterminals that definitions lack to each of these, but for those to what was seen
abbrev pub crosses_after : List Definition → List (List ℕ) → List (List ℕ) → List Definition
crosses_after ds seen [] = []
crosses_after ds seen (y ∷ ys) = (if list_any (bytes_eq y) seen then [] else new_crosses (language_among ds) y) ++ crosses_after ds (y ∷ seen) ys

-- the language with these definitions behind its own
abbrev pub with_definitions : Language → List Definition → Language
with_definitions L ds = record L { nonterminals = L.nonterminals ++ ds }
