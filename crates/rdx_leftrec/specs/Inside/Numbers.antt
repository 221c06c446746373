-- Numbers of nonterminals, and the heights of patterns.
use Rattle.std.specs.Prelude.{◌+◌, ◌*◌, ℕ, max, List, [], ◌∷◌, map, slice_index}
use Rattle.rdx_lang.specs.Patterns.{Pattern, wild, of_kind, except, prefix, hole, lit, nt, named, differ, in_hole, hide_hole, closed, seq, Definition, Language}
use Rattle.rdx_lang.specs.WellFormed.{defined}
use Rattle.rdx_lang.specs.declared.pattern.Ref.{Ref}
use Rattle.rdx_leftrec.specs.Inside.Leads.{place}

-- the number of a nonterminal, where there is one for each place
abbrev pub number_at : List Ref → List ℕ → Ref → ℕ
number_at xs ns x = slice_index ns (place x xs)

-- the number of a nonterminal of the language, where there is one for each
abbrev pub number_in : Language → List ℕ → Ref → ℕ
number_in L ns = number_at (defined L) ns

-- these numbers, with room between them
abbrev pub scaled : ℕ → List ℕ → List ℕ
scaled scale ns = map (λ n. (n + 1) * scale) ns

-- how many patterns stand one in the other, at most, on a way to a nonterminal to which the pattern may lead
abbrev pub height : Pattern → ℕ
height wild = 0
height (of_kind k) = 0
height (except rs) = 0
height (prefix r) = 0
height hole = 0
height (lit u) = 0
height (nt x) = 0
height (named x q) = height q + 1
height (differ x q) = height q + 1
height (in_hole q r) = max (height q) (height r) + 1
height (hide_hole q) = height q + 1
height (closed q) = height q + 1
height (seq ps) = 0

-- the greatest height of a list of patterns
abbrev pub height_among : List Pattern → ℕ
height_among [] = 0
height_among (p ∷ ps) = max (height p) (height_among ps)

-- the greatest in definitions
abbrev pub height_in : List Definition → ℕ
height_in [] = 0
height_in (d ∷ ds) = max (height_among d.1) (height_in ds)
