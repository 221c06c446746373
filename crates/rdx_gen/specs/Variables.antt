-- The symbols that are generated: some first ones of the sequence a to z, a1 to z1, a2 to z2 and so on.
use Rattle.std.specs.Prelude.{ℕ, zero, suc, ◌+◌, ◌/◌, ◌%◌, ◌==◌, Bool, ◌&&◌, not, List, [], ◌∷◌, ◌++◌, length, if◌then◌else◌}
use Rattle.std.specs.Fmt.{decimal}
use Rattle.rdx_term.specs.Spelling.{is_name}
use Rattle.rdx_lang.specs.Rules.{is_one_of}

-- the number behind a letter, none for 0
abbrev pub round_text : ℕ → List ℕ
round_text n = if n == 0 then [] else decimal n

-- the letter at place i of the sequence, from 0, and its number
abbrev pub in_sequence : ℕ → List ℕ
in_sequence i = (97 + i % 26) ∷ round_text (i / 26)

-- the symbol at place i, behind a prefix
abbrev pub behind_prefix : List ℕ → ℕ → List ℕ
behind_prefix r i = r ++ in_sequence i

-- it is a name, and none of these
abbrev pub is_free : List (List ℕ) → List ℕ → Bool
is_free xs s = is_name s && not (is_one_of xs s)

-- the first w that are names and none of these, among n symbols from place i on
abbrev pub first_free : List ℕ → List (List ℕ) → ℕ → ℕ → ℕ → List (List ℕ)
first_free r xs zero i n = []
first_free r xs (suc w) i zero = []
first_free r xs (suc w) i (suc n) =
    if is_free xs (behind_prefix r i) then behind_prefix r i ∷ first_free r xs w (i + 1) n else first_free r xs (suc w) (i + 1) n

-- The first five symbols behind a prefix that are names and none of these. At most one of the sequence is no name, `hole`, and at most as many
-- as there are to avoid are avoided.
abbrev pub first_five : List ℕ → List (List ℕ) → List (List ℕ)
first_five r xs = first_free r xs 5 0 (length xs + 6)
