-- The things in patterns that values of the code stand for.
use Rattle.std.specs.Prelude.{ℕ, List, [], ◌∷◌, Option, Some, None, map}
use Rattle.rdx_sexp.specs.Sexp.{Sexp}
use Rattle.rdx_patterns.specs.Occurrences.{Occurrence, key, binder, single, repeats, excepted, across, malformed, escape}
use Rattle.rdx_patterns.specs.PatternChecks.{Bound}
use Rattle.rdx_patterns.specs.declared.patterns.occurrences.Occurrence as code_occurrence
use Rattle.rdx_patterns.specs.declared.patterns.occurrences.Occurrence.TheVariants as variants

-- what an occurrence of the code is
abbrev pub occurrence_of : code_occurrence.Occurrence → Occurrence
occurrence_of (variants.Key d) = key d.now
occurrence_of (variants.Binder n d) = binder n d.now
occurrence_of (variants.Single n d) = single n d.now
occurrence_of (variants.Repeats n d) = repeats n d.now
occurrence_of (variants.Excepted d) = excepted d.now
occurrence_of (variants.Across d) = across d.now
occurrence_of (variants.Malformed d) = malformed d.now
occurrence_of (variants.Escape d) = escape d.now

-- and what several are, in their order
abbrev pub occurrences_of : List code_occurrence.Occurrence → List Occurrence
occurrences_of os = map occurrence_of os

-- a symbol at a depth, where there is one
abbrev pub bounds_of : Option (ℕ × Sexp) → List Bound
bounds_of None = []
bounds_of (Some x) = record { symbol = x.1; depth = x.0 } ∷ []
