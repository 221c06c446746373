-- The checks of a pattern, one by one: each gives all the places at which it refuses, in the order in which they stand.
use Rattle.std.specs.Prelude.{ℕ, Bool, true, false, not, ◌&&◌, ◌||◌, List, [], ◌∷◌, ◌++◌, flat_map, codes, bytes_eq, nat_eq, if◌then◌else◌}
use Rattle.std.specs.List.{list_any}
use Rattle.rdx_sexp.specs.Sexp.{Sexp, Sexps, leaf, list, nil, cons}
use Rattle.rdx_patterns.specs.Kinds.{is_among, is_base}
use Rattle.rdx_patterns.specs.Names.{is_bad_bound, begins_with_dots, is_ellipsis, has_suffix, front, is_mismatch}
use Rattle.rdx_patterns.specs.Occurrences.{Occurrence, key, binder, single, repeats, excepted, across, malformed, escape}
use Rattle.rdx_patterns.specs.Parts.{text_of, is_word}
use Rattle.rdx_patterns.specs.declared.patterns.position.Position.{Position}
use Rattle.rdx_patterns.specs.declared.patterns.position.Position.TheVariants.{Grammar, Query}

-- the datum, where this holds
abbrev pub when : Bool → Sexp → List Sexp
when b d = if b then d ∷ [] else []

-- ---- S1, Shape: a keyword stands in a pattern

-- the datum, where it is a keyword
abbrev pub keyword_fault : Occurrence → List Sexp
keyword_fault (key d) = d ∷ []
keyword_fault (binder n d) = []
keyword_fault (single n d) = []
keyword_fault (repeats n d) = []
keyword_fault (excepted d) = []
keyword_fault (across d) = []
keyword_fault (malformed d) = []
keyword_fault (escape d) = []

-- all such data
abbrev pub keyword_faults : List Occurrence → List Sexp
keyword_faults os = flat_map keyword_fault os

-- ---- S4, BadName: a name is bound that may not be

-- the symbol, where it is bound and its name may not be
abbrev pub bad_binder : Occurrence → List Sexp
bad_binder (key d) = []
bad_binder (binder n d) = when (is_bad_bound (text_of d)) d
bad_binder (single n d) = []
bad_binder (repeats n d) = []
bad_binder (excepted d) = []
bad_binder (across d) = []
bad_binder (malformed d) = []
bad_binder (escape d) = []

-- all such symbols
abbrev pub bad_binders : List Occurrence → List Sexp
bad_binders os = flat_map bad_binder os

-- ---- S5, BadPattern: a pattern means nothing, over these nonterminals

-- a symbol begins like an ellipsis, which repeats nothing where it stands as a pattern, or it has a suffix behind what is neither a built-in name nor a nonterminal; `_` is a pattern
abbrev pub is_bad_symbol : List (List ℕ) → List ℕ → Bool
is_bad_symbol ns x = begins_with_dots x || (not (bytes_eq x (codes "_")) && (has_suffix x && not (is_base ns (front x))))

-- a symbol that is excepted, or a prefix, begins like an ellipsis and is none
abbrev pub is_bad_excepted : List ℕ → Bool
is_bad_excepted x = begins_with_dots x && not (is_ellipsis x)

-- the text of the second of these, where it is a symbol
abbrev pub second_text : Sexps → List ℕ
second_text nil = []
second_text (cons d nil) = []
second_text (cons d (cons e ds)) = text_of e

-- the nonterminal that a list `(cross e)` names
abbrev pub crossed_name : Sexp → List ℕ
crossed_name (leaf a s) = []
crossed_name (list ds s) = second_text ds

-- the datum, where it is a bad symbol, a list `(cross e)` of what is none of these nonterminals, or a list without its shape
abbrev pub bad_occurrence : List (List ℕ) → Occurrence → List Sexp
bad_occurrence ns (key d) = []
bad_occurrence ns (binder n d) = []
bad_occurrence ns (single n d) = when (is_bad_symbol ns (text_of d)) d
bad_occurrence ns (repeats n d) = []
bad_occurrence ns (excepted d) = when (is_bad_excepted (text_of d)) d
bad_occurrence ns (across d) = when (not (is_among ns (crossed_name d))) d
bad_occurrence ns (malformed d) = d ∷ []
bad_occurrence ns (escape d) = []

-- all such data
abbrev pub bad_occurrences : List (List ℕ) → List Occurrence → List Sexp
bad_occurrences ns os = flat_map (bad_occurrence ns) os

-- ---- S6, EllipsisDepth: a name is bound at two depths

-- a symbol that binds a name, its text, and how many repetitions stand around it
pub record Bound : Type 0 where
  pub symbol : Sexp
  pub depth : ℕ

-- a built-in name or a nonterminal without a suffix binds its own name outside grammars alone
abbrev pub binds_itself : Position → Bool
binds_itself Grammar = false
binds_itself Query = true

-- the symbol binds its text as a pattern, over these nonterminals: one that has a suffix behind a built-in name or a nonterminal does, but for a mismatch name
abbrev pub binds : List (List ℕ) → Position → List ℕ → Bool
binds ns pos x =
    not (bytes_eq x (codes "_") || bytes_eq x (codes "hole"))
    && (if is_base ns x then binds_itself pos else (has_suffix x && (is_base ns (front x) && not (is_mismatch x))))

-- the symbol with its depth, where this holds
abbrev pub bound_when : Bool → ℕ → Sexp → List Bound
bound_when b n d = if b then record { symbol = d; depth = n } ∷ [] else []

-- what binds a name: the symbol of `(name x p)`, a symbol that is a pattern and binds its text, and an ellipsis with a length name
abbrev pub bound_by : List (List ℕ) → Position → Occurrence → List Bound
bound_by ns pos (key d) = []
bound_by ns pos (binder n d) = bound_when true n d
bound_by ns pos (single n d) = bound_when (binds ns pos (text_of d)) n d
bound_by ns pos (repeats n d) = bound_when (not (is_word (codes "...") d)) n d
bound_by ns pos (excepted d) = []
bound_by ns pos (across d) = []
bound_by ns pos (malformed d) = []
bound_by ns pos (escape d) = []

-- all that bind names
abbrev pub all_bound : List (List ℕ) → Position → List Occurrence → List Bound
all_bound ns pos os = flat_map (bound_by ns pos) os

-- both bind one name, at two depths
abbrev pub differ : Bound → Bound → Bool
differ b c = bytes_eq (text_of b.symbol) (text_of c.symbol) && not (nat_eq b.depth c.depth)

-- the symbols that differ from one before them, be it one of these
abbrev pub clashes : List Bound → List Bound → List Sexp
clashes before [] = []
clashes before (b ∷ bs) = when (list_any (differ b) before) b.symbol ++ clashes (b ∷ before) bs

-- all symbols that bind a name at another depth than one before them does
abbrev pub depth_clashes : List (List ℕ) → Position → List Occurrence → List Sexp
depth_clashes ns pos os = clashes [] (all_bound ns pos os)

-- ---- S10, RacketEscape: a list would ask Racket

-- the datum, where it is such a list
abbrev pub escape_in : Occurrence → List Sexp
escape_in (key d) = []
escape_in (binder n d) = []
escape_in (single n d) = []
escape_in (repeats n d) = []
escape_in (excepted d) = []
escape_in (across d) = []
escape_in (malformed d) = []
escape_in (escape d) = d ∷ []

-- all such data
abbrev pub escapes : List Occurrence → List Sexp
escapes os = flat_map escape_in os
