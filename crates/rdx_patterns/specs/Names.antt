-- The names that patterns and languages are built from (the Redex reference manual, "Patterns" and "Languages").
use Rattle.std.specs.Prelude.{ℕ, ◌==◌, Bool, not, ◌&&◌, ◌||◌, List, [], ◌∷◌, codes, bytes_eq, nat_eq}
use Rattle.std.specs.List.{list_any, before_first, after_first, starts_with}
use Rattle.std.specs.Str.{byte}

-- one of the words
abbrev pub is_one_of : List (List ℕ) → List ℕ → Bool
is_one_of words x = list_any (λ w. bytes_eq x w) words

-- `_`
abbrev pub is_underscore : ℕ → Bool
is_underscore b = b == byte "_"

-- a suffix begins somewhere
abbrev pub has_suffix : List ℕ → Bool
has_suffix x = list_any is_underscore x

-- the text before the first `_`
abbrev pub front : List ℕ → List ℕ
front x = before_first is_underscore x

-- a symbol that is a mismatch name, where its front is a built-in name or a nonterminal: its first `_` begins `_!_`
abbrev pub is_mismatch : List ℕ → Bool
is_mismatch x = starts_with nat_eq (after_first is_underscore x) (codes "!_")

-- an ellipsis, or what looks like one
abbrev pub begins_with_dots : List ℕ → Bool
begins_with_dots x = starts_with nat_eq x (codes "...")

-- an ellipsis: `...` alone, or with a name for the number of turns behind `..._`; `..._!_` is none
abbrev pub is_ellipsis : List ℕ → Bool
is_ellipsis x = bytes_eq x (codes "...") || (starts_with nat_eq x (codes "..._") && not (starts_with nat_eq x (codes "..._!_")))

-- the words that mean something else in patterns or definitions
abbrev pub kept_words : List (List ℕ)
kept_words =
    codes "hole" ∷ codes "name" ∷ codes "in-hole" ∷ codes "hide-hole" ∷ codes "cross" ∷ codes "variable-except" ∷ codes "variable-prefix"
    ∷ codes "side-condition" ∷ codes "::=" ∷ []

-- neither what a form defines nor what is bound may have this name; that of a nonterminal or a metafunction is looked at elsewhere
abbrev pub is_bad_name : List ℕ → Bool
is_bad_name x = bytes_eq x (codes "hole") || bytes_eq x (codes "_") || begins_with_dots x

-- y stands somewhere in x
abbrev pub occurs_in : List ℕ → List ℕ → Bool
occurs_in y [] = starts_with nat_eq [] y
occurs_in y (b ∷ x) = starts_with nat_eq (b ∷ x) y || occurs_in y x

-- nothing that is bound by `(name x p)` or `fresh` may have this name: so that none is taken for a mismatch name, none has `_!_` in it
abbrev pub is_bad_bound : List ℕ → Bool
is_bad_bound x = is_bad_name x || occurs_in (codes "_!_") x
