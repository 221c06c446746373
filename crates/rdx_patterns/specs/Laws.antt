-- What follows from the definitions of patterns, stated for the contracts of the module of laws.
use Rattle.std.specs.Prelude.{◌≡◌, ◌⊎◌, ℕ, ◌+◌, List, [], ◌∷◌, ◌++◌, None, IsSome, Ok, Err, map, codes, bytes_eq, if◌then◌else◌}
use Rattle.rdx_sexp.specs.Sexp.{Sexp, Sexps, leaf, list, nil, cons}
use Rattle.rdx_sexp.specs.Size.{IsSpelledSexp}
use Rattle.rdx_lang.specs.Checked.{pattern_in}
use Rattle.rdx_lang.specs.Patterns.{Pattern, wild, of_kind, except, prefix, hole, lit, nt, named, differ, in_hole, hide_hole, closed, seq, Items}
use Rattle.rdx_lang.specs.Patterns as model
use Rattle.rdx_lang.specs.declared.checked.CheckedPat.{CheckedPat}
use Rattle.rdx_patterns.specs.Answers.{ReadsPattern}
use Rattle.rdx_patterns.specs.Occurrences.{Occurrence, key, binder, single, repeats, excepted, across, malformed, escape, occurrences}
use Rattle.rdx_patterns.specs.Parts.{text_of}
use Rattle.rdx_patterns.specs.PatternRefusal.{pattern_refusal}
use Rattle.rdx_patterns.specs.Reading.{reading}
use Rattle.rdx_patterns.specs.Refusal.{refusal_of}
use Rattle.rdx_patterns.specs.declared.patterns.position.Position.{Position}
use Rattle.rdx_patterns.specs.declared.shape.fault.DefFault.TheVariants.{Refused}
use Rattle.rdx_patterns.specs.declared.shape.fault.DefRefusal.{DefRefusal}

-- ---- patterns by themselves, over these nonterminals

-- a datum is one pattern at most
abbrev pub OnePattern : Type 0
OnePattern = (ns : List (List ℕ)) (d : Sexp) (c e : CheckedPat) → ReadsPattern ns d (Ok c) → ReadsPattern ns d (Ok e) → pattern_in c ≡ pattern_in e

-- a datum has one refusal as a pattern at most
abbrev pub OnePatternRefusal : Type 0
OnePatternRefusal = (ns : List (List ℕ)) (d : Sexp) (r q : DefRefusal) → ReadsPattern ns d (Err (Refused r)) → ReadsPattern ns d (Err (Refused q)) → refusal_of r ≡ refusal_of q

-- a datum that is a pattern isn't refused as one
abbrev pub NeverBothPattern : Type 0
NeverBothPattern = (ns : List (List ℕ)) (d : Sexp) (c : CheckedPat) (r : DefRefusal) → ReadsPattern ns d (Ok c) → ReadsPattern ns d (Err (Refused r)) → ⊥

-- each datum is a pattern or refused as one
abbrev pub NeverNeitherPattern : Type 0
NeverNeitherPattern = (ns : List (List ℕ)) (d : Sexp) → (pattern_refusal ns d ≡ None) ⊎ IsSome (pattern_refusal ns d)

-- ---- the order of what stands in a pattern

-- a datum with all its parts, each before those in it
abbrev mutual
  pub all_parts : Sexp → List Sexp
  all_parts (leaf a s) = leaf a s ∷ []
  all_parts (list ds s) = list ds s ∷ all_parts_in ds

  -- the same of several data
  pub all_parts_in : Sexps → List Sexp
  all_parts_in nil = []
  all_parts_in (cons d ds) = all_parts d ++ all_parts_in ds

-- the datum that it is
abbrev pub datum_of : Occurrence → Sexp
datum_of (key d) = d
datum_of (binder n d) = d
datum_of (single n d) = d
datum_of (repeats n d) = d
datum_of (excepted d) = d
datum_of (across d) = d
datum_of (malformed d) = d
datum_of (escape d) = d

-- the first list is the second one with some members left out
pub data IsPickedFrom : List Sexp → List Sexp → Type 0 where
  none_left : IsPickedFrom [] []
  picked : {d : Sexp} {ds es : List Sexp} → IsPickedFrom ds es → IsPickedFrom (d ∷ ds) (d ∷ es)
  left_out : {d : Sexp} {ds es : List Sexp} → IsPickedFrom ds es → IsPickedFrom ds (d ∷ es)

-- what stands in a pattern stands in the order of its parts, and each part is at most one thing
abbrev pub InOrder : Type 0
InOrder = (d : Sexp) → IsPickedFrom (map datum_of (occurrences 0 d)) (all_parts d)

-- ---- the pattern that matches everything

-- how often it stands in a pattern
abbrev mutual
  pub wilds : Pattern → ℕ
  wilds wild = 1
  wilds (of_kind k) = 0
  wilds (except xs) = 0
  wilds (prefix x) = 0
  wilds hole = 0
  wilds (lit u) = 0
  wilds (nt x) = 0
  wilds (named x p) = wilds p
  wilds (differ x p) = wilds p
  wilds (in_hole p q) = wilds p + wilds q
  wilds (hide_hole p) = wilds p
  wilds (closed p) = wilds p
  wilds (seq ps) = item_wilds ps

  -- and in item patterns
  pub item_wilds : Items → ℕ
  item_wilds model.nil = 0
  item_wilds (model.one p ps) = wilds p + item_wilds ps
  item_wilds (model.many p n ps) = wilds p + item_wilds ps

-- a symbol that is a pattern is `_`, or not
abbrev pub underscore : Occurrence → ℕ
underscore (key d) = 0
underscore (binder n d) = 0
underscore (single n d) = if bytes_eq (text_of d) (codes "_") then 1 else 0
underscore (repeats n d) = 0
underscore (excepted d) = 0
underscore (across d) = 0
underscore (malformed d) = 0
underscore (escape d) = 0

-- how often `_` is a pattern
abbrev pub underscores : List Occurrence → ℕ
underscores [] = 0
underscores (o ∷ os) = underscore o + underscores os

-- in the reading of a datum that passes the checks that pattern stands for each `_`, and for nothing else
abbrev pub WildsAreWritten : Type 0
WildsAreWritten =
    (ns : List (List ℕ)) (pos : Position) (d : Sexp)
    → IsSpelledSexp d → pattern_refusal ns d ≡ None → wilds (reading ns pos d) ≡ underscores (occurrences 0 d)
