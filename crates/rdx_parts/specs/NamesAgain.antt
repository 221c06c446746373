-- Which names come again in a form, by what stands in it without what is bound before: those of cases and rules, those of shortcuts, and those to be
-- made in a case that are bound in it.
use Rattle.std.specs.Prelude.{ℕ, List, [], ◌∷◌, ◌++◌, map, bytes_eq}
use Rattle.std.specs.List.{list_any}
use Rattle.rdx_sexp.specs.Sexp.{Sexp}
use Rattle.rdx_patterns.specs.Parts.{text_of}
use Rattle.rdx_patterns.specs.PatternChecks as patterns
use Rattle.rdx_patterns.specs.PatternChecks.{when}
use Rattle.rdx_parts.specs.StandChecks.{label, names_with}
use Rattle.rdx_parts.specs.Stands.{Stand, misshaped, function, judgement, asked, arrow, pattern, template, condition, plain, misfit, fresh, named, repeated, bound_among}

-- the texts of the names that symbols bind
abbrev pub texts_bound : List patterns.Bound → List (List ℕ)
texts_bound bs = map (λ b. text_of b.symbol) bs

-- a name, where it is among those of cases and rules so far, or comes again, or is to be made and among those bound in the case so far
abbrev pub name_again : List (List ℕ) → List (List ℕ) → Stand → List Sexp
name_again seen bound (misshaped d) = []
name_again seen bound (function d) = []
name_again seen bound (judgement d) = []
name_again seen bound (asked d) = []
name_again seen bound (arrow d) = []
name_again seen bound (pattern bs os) = []
name_again seen bound (template bs t) = []
name_again seen bound (condition bs h) = []
name_again seen bound (plain os) = []
name_again seen bound (misfit d n) = []
name_again seen bound (fresh bs d) = when (list_any (bytes_eq (text_of d)) bound) d
name_again seen bound (named again d) = when (list_any (bytes_eq (label d)) seen) d
name_again seen bound (repeated d) = d ∷ []

-- the names that are bound in the case so far, with one thing more; a case begins with its arrow
abbrev pub bound_with : List (List ℕ) → List (List ℕ) → Stand → List (List ℕ)
bound_with ns bound (misshaped d) = bound
bound_with ns bound (function d) = bound
bound_with ns bound (judgement d) = bound
bound_with ns bound (asked d) = bound
bound_with ns bound (arrow d) = []
bound_with ns bound (pattern bs os) = bound ++ texts_bound (bound_among ns os)
bound_with ns bound (template bs t) = bound
bound_with ns bound (condition bs h) = bound
bound_with ns bound (plain os) = bound
bound_with ns bound (misfit d n) = bound
bound_with ns bound (fresh bs d) = bound ++ text_of d ∷ []
bound_with ns bound (named again d) = bound
bound_with ns bound (repeated d) = bound

-- all of them, over these nonterminals
abbrev pub names_again : List (List ℕ) → List (List ℕ) → List (List ℕ) → List Stand → List Sexp
names_again ns seen bound [] = []
names_again ns seen bound (s ∷ ss) = name_again seen bound s ++ names_again ns (names_with seen s) (bound_with ns bound s) ss
