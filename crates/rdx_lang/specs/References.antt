-- What nonterminals go by: when two are the same, and lists of them.
use Rattle.std.specs.Prelude.{Bool, true, false, not, ◌&&◌, ◌||◌, List, [], ◌∷◌, bytes_eq}
use Rattle.rdx_lang.specs.declared.pattern.Ref.{Ref}
use Rattle.rdx_lang.specs.declared.pattern.Ref.TheVariants.{Nt, Cross}

-- the same nonterminal: of one kind, and of the same names
abbrev pub is_same : Ref → Ref → Bool
is_same (Nt x) (Nt y) = bytes_eq x y
is_same (Nt x) (Cross y z) = false
is_same (Cross x w) (Nt y) = false
is_same (Cross x w) (Cross y z) = bytes_eq x y && bytes_eq w z

-- x is one of these nonterminals
abbrev pub is_among : Ref → List Ref → Bool
is_among x [] = false
is_among x (y ∷ ys) = is_same x y || is_among x ys

-- no nonterminal comes twice
abbrev pub are_distinct : List Ref → Bool
are_distinct [] = true
are_distinct (x ∷ xs) = not (is_among x xs) && are_distinct xs
