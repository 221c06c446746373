-- The names that patterns are built from: built-in names, and the nonterminals of a language.
use Rattle.std.specs.Prelude.{ℕ, Bool, ◌||◌, List, Option, Some, None, is_some, codes, bytes_eq, if◌then◌else◌}
use Rattle.std.specs.List.{list_any}
use Rattle.rdx_lang.specs.declared.pattern.Kind.{Kind}
use Rattle.rdx_lang.specs.declared.pattern.Kind.TheVariants.{Any, Number, Natural, Integer, Real, Text, Boolean, Variable, Unmentioned}

-- what a built-in name stands for
abbrev pub kind_of : List ℕ → Option Kind
kind_of x =
    if bytes_eq x (codes "any") then Some Any
    else if bytes_eq x (codes "number") then Some Number
    else if bytes_eq x (codes "natural") then Some Natural
    else if bytes_eq x (codes "integer") then Some Integer
    else if bytes_eq x (codes "real") then Some Real
    else if bytes_eq x (codes "string") then Some Text
    else if bytes_eq x (codes "boolean") then Some Boolean
    else if bytes_eq x (codes "variable") then Some Variable
    else if bytes_eq x (codes "variable-not-otherwise-mentioned") then Some Unmentioned
    else None

-- x is one of these names
abbrev pub is_among : List (List ℕ) → List ℕ → Bool
is_among ns x = list_any (λ y. bytes_eq y x) ns

-- a built-in name, or one of these nonterminals
abbrev pub is_base : List (List ℕ) → List ℕ → Bool
is_base ns x = is_some (kind_of x) || is_among ns x
