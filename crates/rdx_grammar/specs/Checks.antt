-- The checks of a form that defines a language, one by one: each gives all the places at which it refuses, in the order in which they stand.
use Rattle.std.specs.Prelude.{ℕ, Bool, true, false, not, ◌&&◌, ◌||◌, List, [], ◌∷◌, ◌++◌, flat_map, is_some, bytes_eq}
use Rattle.std.specs.List.{list_any}
use Rattle.rdx_sexp.specs.Sexp.{Sexp}
use Rattle.rdx_lang.specs.Lookup.{alternatives_of}
use Rattle.rdx_lang.specs.Patterns as model
use Rattle.rdx_lang.specs.declared.pattern.Ref.TheVariants.{Nt}
use Rattle.rdx_patterns.specs.Kinds.{kind_of}
use Rattle.rdx_patterns.specs.Names.{is_one_of, kept_words, is_bad_name, begins_with_dots, has_suffix}
use Rattle.rdx_patterns.specs.Parts.{text_of}
use Rattle.rdx_patterns.specs.PatternChecks.{when, keyword_faults, bad_binders, bad_occurrences, depth_clashes, escapes}
use Rattle.rdx_patterns.specs.declared.patterns.position.Position.TheVariants.{Grammar as InGrammar}
use Rattle.rdx_grammar.specs.Stands.{Stand, misshaped, defined, nonterminal, alternative, inherited}

-- ---- S1, Shape: a form or a definition has not its shape, or a keyword stands in a pattern

-- the datum, where it has not its shape, and the keywords
abbrev pub shape_fault : Stand → List Sexp
shape_fault (misshaped d) = d ∷ []
shape_fault (defined d) = []
shape_fault (nonterminal d) = []
shape_fault (alternative os) = keyword_faults os
shape_fault (inherited d names again) = []

-- all such data
abbrev pub shape_faults : List Stand → List Sexp
shape_faults ss = flat_map shape_fault ss

-- ---- S3, Duplicate: a nonterminal is defined twice

-- the symbol has one of these texts
abbrev pub is_seen : List (List ℕ) → Sexp → Bool
is_seen seen d = list_any (λ x. bytes_eq (text_of d) x) seen

-- the nonterminal, where its name comes among these
abbrev pub repeated : List (List ℕ) → Stand → List Sexp
repeated seen (misshaped d) = []
repeated seen (defined d) = []
repeated seen (nonterminal d) = when (is_seen seen d) d
repeated seen (alternative os) = []
repeated seen (inherited d names again) = []

-- the names that come so far, with one thing more
abbrev pub seen_with : List (List ℕ) → Stand → List (List ℕ)
seen_with seen (misshaped d) = seen
seen_with seen (defined d) = seen
seen_with seen (nonterminal d) = text_of d ∷ seen
seen_with seen (alternative os) = seen
seen_with seen (inherited d names again) = seen

-- the nonterminals whose names come among these, or among those of the nonterminals before
abbrev pub repeats : List (List ℕ) → List Stand → List Sexp
repeats seen [] = []
repeats seen (s ∷ ss) = repeated seen s ++ repeats (seen_with seen s) ss

-- ---- S4, BadName: a name is defined or bound that may not be

-- no nonterminal may have this name
abbrev pub is_bad_nonterminal : List ℕ → Bool
is_bad_nonterminal x = is_some (kind_of x) || is_one_of kept_words x || has_suffix x || begins_with_dots x

-- the symbols whose names may not be defined or bound
abbrev pub bad_name : Stand → List Sexp
bad_name (misshaped d) = []
bad_name (defined d) = when (is_bad_name (text_of d)) d
bad_name (nonterminal d) = when (is_bad_nonterminal (text_of d)) d
bad_name (alternative os) = bad_binders os
bad_name (inherited d names again) = []

-- all such symbols
abbrev pub bad_names : List Stand → List Sexp
bad_names ss = flat_map bad_name ss

-- ---- S5, BadPattern: a pattern means nothing, over a base whose alternatives may be inherited, with these nonterminals

-- there is a pattern among these
abbrev pub is_some_pattern : List model.Pattern → Bool
is_some_pattern [] = false
is_some_pattern (p ∷ ps) = true

-- each of these has alternatives in the base
abbrev pub all_inherit : model.Language → List Sexp → Bool
all_inherit base [] = true
all_inherit base (e ∷ es) = is_some_pattern (alternatives_of base (Nt (text_of e))) && all_inherit base es

-- the parts of a pattern that mean nothing, and `....` twice or of names without alternatives to inherit
abbrev pub bad_pattern : model.Language → List (List ℕ) → Stand → List Sexp
bad_pattern base ns (misshaped d) = []
bad_pattern base ns (defined d) = []
bad_pattern base ns (nonterminal d) = []
bad_pattern base ns (alternative os) = bad_occurrences ns os
bad_pattern base ns (inherited d names again) = when (again || not (all_inherit base names)) d

-- all such data
abbrev pub bad_patterns : model.Language → List (List ℕ) → List Stand → List Sexp
bad_patterns base ns ss = flat_map (bad_pattern base ns) ss

-- ---- S6, EllipsisDepth: a name is bound at two depths in one alternative, with these nonterminals

-- the symbols of an alternative that bind a name at another depth than one before them does
abbrev pub depth_clash : List (List ℕ) → Stand → List Sexp
depth_clash ns (misshaped d) = []
depth_clash ns (defined d) = []
depth_clash ns (nonterminal d) = []
depth_clash ns (alternative os) = depth_clashes ns InGrammar os
depth_clash ns (inherited d names again) = []

-- all such symbols, each alternative by itself
abbrev pub all_depth_clashes : List (List ℕ) → List Stand → List Sexp
all_depth_clashes ns ss = flat_map (depth_clash ns) ss

-- ---- S10, RacketEscape: a list in a pattern would ask Racket

-- such lists in an alternative
abbrev pub escapes_in : Stand → List Sexp
escapes_in (misshaped d) = []
escapes_in (defined d) = []
escapes_in (nonterminal d) = []
escapes_in (alternative os) = escapes os
escapes_in (inherited d names again) = []

-- all such lists
abbrev pub all_escapes : List Stand → List Sexp
all_escapes ss = flat_map escapes_in ss
