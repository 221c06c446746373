-- The checks of a form of a relation, a metafunction or a judgement, one by one: each gives all the places at which it refuses, in the order in which they
-- stand.
use Rattle.std.specs.Prelude.{ℕ, Bool, false, not, ◌||◌, List, [], ◌∷◌, ◌++◌, Option, Some, None, is_some, flat_map, option_map, codes, bytes_eq, nat_eq}
use Rattle.std.specs.List.{list_any}
use Rattle.rdx_base.specs.declared.place.Place.{Place}
use Rattle.rdx_sexp.specs.Sexp.{integer, truth, text, symbol, keyword, Sexp, leaf, list, span_of}
use Rattle.rdx_term.specs.Text.{label_text}
use Rattle.rdx_patterns.specs.Names.{is_one_of, begins_with_dots, is_bad_name, is_bad_bound}
use Rattle.rdx_patterns.specs.Parts.{is_word, text_of}
use Rattle.rdx_patterns.specs.PatternChecks as patterns
use Rattle.rdx_patterns.specs.PatternChecks.{when, keyword_faults, bad_binders, bad_occurrences}
use Rattle.rdx_patterns.specs.Refusal.{Refusal, unnamed, named_at}
use Rattle.rdx_patterns.specs.Refusal as refusal
use Rattle.rdx_patterns.specs.declared.shape.fault.DefKind.TheVariants.{Shape, Duplicate, BadName, BadPattern, EllipsisDepth, UnknownName, EllipsisVariable, RacketEscape, Mode}
use Rattle.rdx_templates.specs.Bound.{Bound, depth_of}
use Rattle.rdx_templates.specs.Earliest.{start, earliest}
use Rattle.rdx_templates.specs.Scope.{Scope, mode_of}
use Rattle.rdx_templates.specs.TemplateChecks.{bad_parts, shallow_parts, undriven_parts, escapes}
use Rattle.rdx_templates.specs.TemplateOccurrences.{template_parts, host_parts}
use Rattle.rdx_templates.specs.TemplateShapes.{template_shapes, host_shapes}
use Rattle.rdx_parts.specs.Stands.{Stand, misshaped, function, judgement, asked, arrow, pattern, template, condition, plain, misfit, fresh, named, repeated, bound_among, names_bound}

-- ---- S1, Shape: something has not its shape, a keyword stands in a pattern or a template, an operation has a wrong number of arguments, or a name
-- stands where none may come
abbrev pub shape_fault : Stand → List Sexp
shape_fault (misshaped d) = d ∷ []
shape_fault (function d) = []
shape_fault (judgement d) = []
shape_fault (asked d) = []
shape_fault (arrow d) = []
shape_fault (pattern bs os) = keyword_faults os
shape_fault (template bs t) = template_shapes t
shape_fault (condition bs h) = host_shapes h
shape_fault (plain os) = keyword_faults os
shape_fault (misfit d n) = []
shape_fault (fresh bs d) = []
shape_fault (named again d) = when again d
shape_fault (repeated d) = []

-- all such data
abbrev pub shape_faults : List Stand → List Sexp
shape_faults ss = flat_map shape_fault ss

-- the refusal at the earliest
abbrev pub shape_at : List Stand → Option Refusal
shape_at ss = option_map (unnamed Shape) (earliest start (shape_faults ss))

-- ---- S3, Duplicate: two cases, two rules or two shortcuts have one name, or a name is to be made that is bound

-- the text of a name: a symbol and a string with one text are one name
abbrev pub label : Sexp → List ℕ
label (leaf (integer n) s) = []
label (leaf (truth b) s) = []
label (leaf (text x) s) = x
label (leaf (symbol x) s) = x
label (leaf (keyword k) s) = []
label (list ds s) = []

-- a symbol binds the name of this one
abbrev pub is_bound_as : Sexp → patterns.Bound → Bool
is_bound_as d b = bytes_eq (text_of d) (text_of b.symbol)

-- the name, where it comes among these, or comes again, or where it is to be made and is bound before
abbrev pub repeated_name : List (List ℕ) → Stand → List Sexp
repeated_name seen (misshaped d) = []
repeated_name seen (function d) = []
repeated_name seen (judgement d) = []
repeated_name seen (asked d) = []
repeated_name seen (arrow d) = []
repeated_name seen (pattern bs os) = []
repeated_name seen (template bs t) = []
repeated_name seen (condition bs h) = []
repeated_name seen (plain os) = []
repeated_name seen (misfit d n) = []
repeated_name seen (fresh bs d) = when (list_any (is_bound_as d) bs) d
repeated_name seen (named again d) = when (list_any (λ x. bytes_eq (label d) x) seen) d
repeated_name seen (repeated d) = d ∷ []

-- the names that come so far, with one thing more
abbrev pub names_with : List (List ℕ) → Stand → List (List ℕ)
names_with seen (misshaped d) = seen
names_with seen (function d) = seen
names_with seen (judgement d) = seen
names_with seen (asked d) = seen
names_with seen (arrow d) = seen
names_with seen (pattern bs os) = seen
names_with seen (template bs t) = seen
names_with seen (condition bs h) = seen
names_with seen (plain os) = seen
names_with seen (misfit d n) = seen
names_with seen (fresh bs d) = seen
names_with seen (named again d) = label d ∷ seen
names_with seen (repeated d) = seen

-- the names that come among these, or among those before, and those to be made that are bound
abbrev pub repeated_names : List (List ℕ) → List Stand → List Sexp
repeated_names seen [] = []
repeated_names seen (s ∷ ss) = repeated_name seen s ++ repeated_names (names_with seen s) ss

-- the refusal of a second case or rule with one name, or of a name to be made
abbrev pub repeated_at : Sexp → Refusal
repeated_at d = named_at Duplicate d (label_text (label d))

-- the refusal at the earliest
abbrev pub repeated_name_at : List Stand → Option Refusal
repeated_name_at ss = option_map repeated_at (earliest start (repeated_names [] ss))

-- ---- S4, BadName: a metafunction or a judgement has a name that it may not have, or a name is bound that may not be

-- no metafunction may have this name
abbrev pub is_bad_function : List ℕ → Bool
is_bad_function x =
    is_one_of (codes "in-hole" ∷ codes "hole" ∷ codes "unquote" ∷ codes "unquote-splicing" ∷ []) x || begins_with_dots x

-- such symbols
abbrev pub bad_name : Stand → List Sexp
bad_name (misshaped d) = []
bad_name (function d) = when (is_bad_function (text_of d)) d
bad_name (judgement d) = when (is_bad_name (text_of d)) d
bad_name (asked d) = []
bad_name (arrow d) = []
bad_name (pattern bs os) = bad_binders os
bad_name (template bs t) = []
bad_name (condition bs h) = []
bad_name (plain os) = []
bad_name (misfit d n) = []
bad_name (fresh bs d) = when (is_bad_bound (text_of d)) d
bad_name (named again d) = []
bad_name (repeated d) = []

-- all of them
abbrev pub bad_names : List Stand → List Sexp
bad_names ss = flat_map bad_name ss

-- the refusal at the earliest
abbrev pub bad_name_at : List Stand → Option Refusal
bad_name_at ss = option_map (refusal.named BadName) (earliest start (bad_names ss))

-- ---- S5, BadPattern: a pattern means nothing, over these nonterminals, or a template does
abbrev pub bad_place : Scope → List (List ℕ) → Stand → List Sexp
bad_place S ns (misshaped d) = []
bad_place S ns (function d) = []
bad_place S ns (judgement d) = []
bad_place S ns (asked d) = []
bad_place S ns (arrow d) = []
bad_place S ns (pattern bs os) = bad_occurrences ns os
bad_place S ns (template bs t) = bad_parts (template_parts S bs 0 t)
bad_place S ns (condition bs h) = bad_parts (host_parts S bs 0 h)
bad_place S ns (plain os) = []
bad_place S ns (misfit d n) = []
bad_place S ns (fresh bs d) = []
bad_place S ns (named again d) = []
bad_place S ns (repeated d) = []

-- all such places
abbrev pub bad_places : Scope → List (List ℕ) → List Stand → List Sexp
bad_places S ns ss = flat_map (bad_place S ns) ss

-- the refusal at the earliest
abbrev pub bad_place_at : Scope → List (List ℕ) → List Stand → Option Refusal
bad_place_at S ns ss = option_map (unnamed BadPattern) (earliest start (bad_places S ns ss))

-- ---- S6, EllipsisDepth: a name is bound at another depth than where it is bound first, or it stands in a template under fewer ellipses than its
-- depth

-- the depth is another one, where there is one
abbrev pub is_other : ℕ → Option ℕ → Bool
is_other n None = false
is_other n (Some m) = not (nat_eq n m)

-- the symbols that bind a name at another depth than it has first, be that among these names or at a symbol before them
abbrev pub other_depths : Bound → List patterns.Bound → List Sexp
other_depths es [] = []
other_depths es (b ∷ bs) =
    when (is_other b.depth (depth_of es (text_of b.symbol))) b.symbol ++ other_depths (es ++ (text_of b.symbol, b.depth) ∷ []) bs

-- such symbols
abbrev pub depth_fault : Scope → List (List ℕ) → Stand → List Sexp
depth_fault S ns (misshaped d) = []
depth_fault S ns (function d) = []
depth_fault S ns (judgement d) = []
depth_fault S ns (asked d) = []
depth_fault S ns (arrow d) = []
depth_fault S ns (pattern bs os) = other_depths (names_bound bs) (bound_among ns os)
depth_fault S ns (template bs t) = shallow_parts bs (template_parts S bs 0 t)
depth_fault S ns (condition bs h) = shallow_parts bs (host_parts S bs 0 h)
depth_fault S ns (plain os) = []
depth_fault S ns (misfit d n) = []
depth_fault S ns (fresh bs d) = []
depth_fault S ns (named again d) = []
depth_fault S ns (repeated d) = []

-- all such symbols
abbrev pub depth_faults : Scope → List (List ℕ) → List Stand → List Sexp
depth_faults S ns ss = flat_map (depth_fault S ns) ss

-- the refusal at the earliest
abbrev pub depth_fault_at : Scope → List (List ℕ) → List Stand → Option Refusal
depth_fault_at S ns ss = option_map (refusal.named EllipsisDepth) (earliest start (depth_faults S ns ss))

-- ---- S8, UnknownName: a premise asks for what is no judgement of the file, or an arrow is none
abbrev pub unknown_name : Scope → Stand → List Sexp
unknown_name S (misshaped d) = []
unknown_name S (function d) = []
unknown_name S (judgement d) = []
unknown_name S (asked d) = when (not (is_some (mode_of S (text_of d)))) d
unknown_name S (arrow d) = when (not (is_word (codes "-->") d)) d
unknown_name S (pattern bs os) = []
unknown_name S (template bs t) = []
unknown_name S (condition bs h) = []
unknown_name S (plain os) = []
unknown_name S (misfit d n) = []
unknown_name S (fresh bs d) = []
unknown_name S (named again d) = []
unknown_name S (repeated d) = []

-- all such symbols
abbrev pub unknown_names : Scope → List Stand → List Sexp
unknown_names S ss = flat_map (unknown_name S) ss

-- the refusal at the earliest
abbrev pub unknown_name_at : Scope → List Stand → Option Refusal
unknown_name_at S ss = option_map (refusal.named UnknownName) (earliest start (unknown_names S ss))

-- ---- S9, EllipsisVariable: an ellipsis of a template is driven by no name
abbrev pub undriven_place : Scope → Stand → List Sexp
undriven_place S (misshaped d) = []
undriven_place S (function d) = []
undriven_place S (judgement d) = []
undriven_place S (asked d) = []
undriven_place S (arrow d) = []
undriven_place S (pattern bs os) = []
undriven_place S (template bs t) = undriven_parts S bs (template_parts S bs 0 t)
undriven_place S (condition bs h) = undriven_parts S bs (host_parts S bs 0 h)
undriven_place S (plain os) = []
undriven_place S (misfit d n) = []
undriven_place S (fresh bs d) = []
undriven_place S (named again d) = []
undriven_place S (repeated d) = []

-- all items that such ellipses repeat
abbrev pub undriven_places : Scope → List Stand → List Sexp
undriven_places S ss = flat_map (undriven_place S) ss

-- the refusal at the earliest
abbrev pub undriven_at : Scope → List Stand → Option Refusal
undriven_at S ss = option_map (unnamed EllipsisVariable) (earliest start (undriven_places S ss))

-- ---- S10, RacketEscape: something would ask Racket
abbrev pub escape_place : Scope → Stand → List Sexp
escape_place S (misshaped d) = []
escape_place S (function d) = []
escape_place S (judgement d) = []
escape_place S (asked d) = []
escape_place S (arrow d) = []
escape_place S (pattern bs os) = patterns.escapes os
escape_place S (template bs t) = escapes (template_parts S bs 0 t)
escape_place S (condition bs h) = escapes (host_parts S bs 0 h)
escape_place S (plain os) = []
escape_place S (misfit d n) = []
escape_place S (fresh bs d) = []
escape_place S (named again d) = []
escape_place S (repeated d) = []

-- all such data
abbrev pub escape_places : Scope → List Stand → List Sexp
escape_places S ss = flat_map (escape_place S) ss

-- the refusal at the earliest
abbrev pub escape_at : Scope → List Stand → Option Refusal
escape_at S ss = option_map (unnamed RacketEscape) (earliest start (escape_places S ss))

-- ---- S11, Mode: something does not fit the mode of a judgement, or a judgement has no mode
abbrev pub mode_fault : Stand → List (Sexp × Option Sexp)
mode_fault (misshaped d) = []
mode_fault (function d) = []
mode_fault (judgement d) = []
mode_fault (asked d) = []
mode_fault (arrow d) = []
mode_fault (pattern bs os) = []
mode_fault (template bs t) = []
mode_fault (condition bs h) = []
mode_fault (plain os) = []
mode_fault (misfit d n) = (d, n) ∷ []
mode_fault (fresh bs d) = []
mode_fault (named again d) = []
mode_fault (repeated d) = []

-- all such data, each with the name of the judgement, where there is one
abbrev pub mode_faults : List Stand → List (Sexp × Option Sexp)
mode_faults ss = flat_map mode_fault ss

-- where it begins
abbrev pub misfit_start : Sexp × Option Sexp → Place
misfit_start m = start m.0

-- the refusal of such a datum
abbrev pub misfit_at : Sexp × Option Sexp → Refusal
misfit_at m = record { kind = Mode; place = (span_of m.0).start; name = option_map text_of m.1 }

-- the refusal at the earliest
abbrev pub mode_fault_at : List Stand → Option Refusal
mode_fault_at ss = option_map misfit_at (earliest misfit_start (mode_faults ss))
