-- A check of one thing in a pattern refuses it at one place at most, so the first of its places is the earliest.
use Rattle.std.proofs.Common.{◌≡◌, ℕ, List, refl}
use Rattle.std.specs.Prelude.{not}
use Rattle.rdx_patterns.specs.Kinds.{is_among}
use Rattle.rdx_patterns.specs.Names.{is_bad_bound}
use Rattle.rdx_patterns.specs.Occurrences.{Occurrence, key, binder, single, repeats, excepted, across, malformed, escape}
use Rattle.rdx_patterns.specs.Parts.{text_of}
use Rattle.rdx_patterns.specs.PatternChecks.{bad_binder, bad_occurrence, is_bad_symbol, is_bad_excepted, crossed_name}
use Rattle.rdx_patterns.specs.Refusal.{first}
use Rattle.rdx_templates.specs.Earliest.{earliest, start}
use Rattle.rdx_templates.proofs.EarliestPlaces.{earliest-when}

-- a name that is bound and may not be
pub bad_binder_alone : (o : Occurrence) → earliest start (bad_binder o) ≡ first (bad_binder o)
bad_binder_alone (key d) = refl
bad_binder_alone (binder n d) = earliest-when start (is_bad_bound (text_of d)) d
bad_binder_alone (single n d) = refl
bad_binder_alone (repeats n d) = refl
bad_binder_alone (excepted d) = refl
bad_binder_alone (across d) = refl
bad_binder_alone (malformed d) = refl
bad_binder_alone (escape d) = refl

-- a part that means nothing
pub bad_occurrence_alone : (ns : List (List ℕ)) (o : Occurrence) → earliest start (bad_occurrence ns o) ≡ first (bad_occurrence ns o)
bad_occurrence_alone ns (key d) = refl
bad_occurrence_alone ns (binder n d) = refl
bad_occurrence_alone ns (single n d) = earliest-when start (is_bad_symbol ns (text_of d)) d
bad_occurrence_alone ns (repeats n d) = refl
bad_occurrence_alone ns (excepted d) = earliest-when start (is_bad_excepted (text_of d)) d
bad_occurrence_alone ns (across d) = earliest-when start (not (is_among ns (crossed_name d))) d
bad_occurrence_alone ns (malformed d) = refl
bad_occurrence_alone ns (escape d) = refl
