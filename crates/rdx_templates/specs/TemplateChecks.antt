-- The checks of a template or a host expression behind S1, one by one: each gives all the places at which it refuses, in the order in which they
-- stand.
use Rattle.std.specs.Prelude.{ℕ, Bool, false, not, List, [], ◌∷◌, Option, Some, None, flat_map, nat_lt}
use Rattle.rdx_sexp.specs.Sexp.{Sexp}
use Rattle.rdx_lang.specs.Fitting.{drives}
use Rattle.rdx_patterns.specs.Names.{begins_with_dots}
use Rattle.rdx_patterns.specs.Parts.{text_of}
use Rattle.rdx_patterns.specs.PatternChecks.{when}
use Rattle.rdx_templates.specs.Bound.{Bound, depth_of}
use Rattle.rdx_templates.specs.Scope.{Scope}
use Rattle.rdx_templates.specs.TemplateOccurrences.{TemplatePart, single, repeated, malformed, escape}
use Rattle.rdx_templates.specs.TemplateReading.{template_reading}

-- ---- S5, BadPattern: a template means nothing

-- the datum, where it is a symbol that begins like an ellipsis, which repeats nothing where it stands as a template, or a list without its shape
abbrev pub bad_part : TemplatePart → List Sexp
bad_part (single n d) = when (begins_with_dots (text_of d)) d
bad_part (repeated d) = []
bad_part (malformed d) = d ∷ []
bad_part (escape d) = []

-- all such data
abbrev pub bad_parts : List TemplatePart → List Sexp
bad_parts ps = flat_map bad_part ps

-- ---- S6, EllipsisDepth: a name stands under fewer ellipses than its depth

-- n ellipses are fewer than this depth
abbrev pub are_fewer : ℕ → Option ℕ → Bool
are_fewer n None = false
are_fewer n (Some m) = nat_lt n m

-- the symbol, where it is such a name
abbrev pub shallow_part : Bound → TemplatePart → List Sexp
shallow_part bs (single n d) = when (are_fewer n (depth_of bs (text_of d))) d
shallow_part bs (repeated d) = []
shallow_part bs (malformed d) = []
shallow_part bs (escape d) = []

-- all such symbols
abbrev pub shallow_parts : Bound → List TemplatePart → List Sexp
shallow_parts bs ps = flat_map (shallow_part bs) ps

-- ---- S9, EllipsisVariable: no name in an item drives the ellipsis that repeats it

-- the item, where it is one of these
abbrev pub undriven_part : Scope → Bound → TemplatePart → List Sexp
undriven_part S bs (single n d) = []
undriven_part S bs (repeated d) = when (not (drives 0 (template_reading S bs d))) d
undriven_part S bs (malformed d) = []
undriven_part S bs (escape d) = []

-- all such items
abbrev pub undriven_parts : Scope → Bound → List TemplatePart → List Sexp
undriven_parts S bs ps = flat_map (undriven_part S bs) ps

-- ---- S10, RacketEscape: something would ask Racket

-- the datum, where it would
abbrev pub escape_in : TemplatePart → List Sexp
escape_in (single n d) = []
escape_in (repeated d) = []
escape_in (malformed d) = []
escape_in (escape d) = d ∷ []

-- all such data
abbrev pub escapes : List TemplatePart → List Sexp
escapes ps = flat_map escape_in ps
