-- The checks that come before what is bound has to be known, and those of names and modes, are the same without it.
use Rattle.std.proofs.Common.{◌≡◌, ◌++◌, ◌∙◌, ℕ, Bool, true, false, [], List, ◌∷◌, map, refl, ap, ap₂}
use Rattle.std.proofs.lemmas.List.{map-append}
use Rattle.std.specs.Prelude.{Option, Some, None, flat_map, if◌then◌else◌}
use Rattle.rdx_sexp.specs.Sexp.{Sexp}
use Rattle.rdx_patterns.specs.Parts.{text_of}
use Rattle.rdx_patterns.specs.PatternChecks as patterns
use Rattle.rdx_templates.specs.Bound.{Bound}
use Rattle.rdx_templates.specs.Scope.{Scope, mode_of}
use Rattle.rdx_parts.specs.Arguments.{Arguments, is_misfit}
use Rattle.rdx_parts.specs.ExtraForms.{ExtraForm, such_that, provided, confirmed, holding, freshly, name, no_extra, ExtraPlace, form_at}
use Rattle.rdx_parts.specs.Headed.{Headed, headed}
use Rattle.rdx_parts.specs.BareStands as bare_stands
use Rattle.rdx_parts.specs.BareStands.{lone_pattern}
use Rattle.rdx_parts.specs.StandChecks.{shape_fault, shape_faults, bad_name, bad_names, unknown_name, unknown_names, mode_fault, mode_faults}
use Rattle.rdx_parts.specs.Stands.{Stand, misshaped, function, judgement, asked, arrow, pattern, template, condition, plain, misfit, fresh, named, repeated, names_bound, bound_in, flagged_stand, plain_argument, arguments_by, arguments_stand, misfits, premise_arguments, held_stands, bound_freshly, fresh_stands, bound_by_extra, extra_stands, is_named, extras_stand}

-- ---- without what is bound

-- what stands there
abbrev pub bare : Stand → Stand
bare (misshaped d) = misshaped d
bare (function d) = function d
bare (judgement d) = judgement d
bare (asked d) = asked d
bare (arrow d) = arrow d
bare (pattern bs os) = pattern [] os
bare (template bs t) = template [] t
bare (condition bs h) = condition [] h
bare (plain os) = plain os
bare (misfit d n) = misfit d n
bare (fresh bs d) = fresh [] d
bare (named again d) = named again d
bare (repeated d) = repeated d

-- of two lists
pub bare-both : (ss rs us vs : List Stand) → map bare ss ≡ us → map bare rs ≡ vs → map bare (ss ++ rs) ≡ us ++ vs
bare-both ss rs us vs e f = map-append bare ss rs ∙ ap₂ (λ (a b : List Stand). a ++ b) e f

-- of one of two
pub bare-either : (b : Bool) (ss rs us vs : List Stand) → map bare ss ≡ us → map bare rs ≡ vs → map bare (if b then ss else rs) ≡ (if b then us else vs)
bare-either true ss rs us vs e f = e
bare-either false ss rs us vs e f = f

-- nothing is bound before them
pub bare-lone : (ps : List Sexp) → map bare (map lone_pattern ps) ≡ map lone_pattern ps
bare-lone [] = refl
bare-lone (p ∷ ps) = ap (λ (ss : List Stand). lone_pattern p ∷ ss) (bare-lone ps)

-- what does not fit a mode
pub bare-misfits : (b : Bool) (d x : Sexp) → map bare (misfits b d x) ≡ misfits b d x
bare-misfits true d x = refl
bare-misfits false d x = refl

-- ---- forms

module _ (S : Scope) (ns : List (List ℕ)) where
  -- in arguments with such flags
  bare-flagged : (bs : List patterns.Bound) (es : Bound) (fs : List Bool) (ds : List Sexp) → map bare (flagged_stand ns bs es fs ds) ≡ bare_stands.flagged_stand fs ds
  bare-flagged bs es [] ds = refl
  bare-flagged bs es (f ∷ fs) [] = refl
  bare-flagged bs es (true ∷ fs) (d ∷ ds) = ap (λ (ss : List Stand). lone_pattern d ∷ ss) (bare-flagged (bs ++ bound_in ns d) es fs ds)
  bare-flagged bs es (false ∷ fs) (d ∷ ds) = ap (λ (ss : List Stand). template [] d ∷ ss) (bare-flagged bs es fs ds)

  -- without flags
  bare-plain : (ds : List Sexp) → map bare (map plain_argument ds) ≡ map plain_argument ds
  bare-plain [] = refl
  bare-plain (d ∷ ds) = ap (λ (ss : List Stand). plain_argument d ∷ ss) (bare-plain ds)

  -- in arguments
  pub bare-arguments : (bs : List patterns.Bound) (es : Bound) (a : Arguments) → map bare (arguments_stand ns bs es a) ≡ bare_stands.arguments_stand a
  bare-arguments bs es a = by_flags a.flags
    where
      by_flags : (o : Option (List Bool)) → map bare (arguments_by ns bs es o a.items) ≡ bare_stands.arguments_by o a.items
      by_flags None = bare-plain a.items
      by_flags (Some fs) = bare-flagged bs es fs a.items

  -- in what has to be a premise
  pub bare-held : (bs : List patterns.Bound) (d : Sexp) (o : Option Headed) → map bare (held_stands S ns bs d o) ≡ bare_stands.held_stands S d o
  bare-held bs d None = refl
  bare-held bs d (Some q) =
      let b = is_misfit (mode_of S (text_of q.head)) q.arguments in
      let a = premise_arguments S q in
      ap (λ (ss : List Stand). asked q.head ∷ ss)
      (bare-both (misfits b d q.head) (arguments_stand ns bs (names_bound bs) a) (misfits b d q.head) (bare_stands.arguments_stand a)
      (bare-misfits b d q.head) (bare-arguments bs (names_bound bs) a))

  -- in names to be made
  bare-fresh : (bs : List patterns.Bound) (ds : List Sexp) → map bare (fresh_stands bs ds) ≡ bare_stands.fresh_stands ds
  bare-fresh bs [] = refl
  bare-fresh bs (d ∷ ds) = ap (λ (ss : List Stand). fresh [] d ∷ ss) (bare-fresh (bs ++ bound_freshly d ∷ []) ds)

  -- in an extra
  bare-extra : (bs : List patterns.Bound) (again : Bool) (d : Sexp) (e : ExtraForm) → map bare (extra_stands S ns bs again d e) ≡ bare_stands.extra_stands S again d e
  bare-extra bs again d (such_that p t) = refl
  bare-extra bs again d (provided h) = refl
  bare-extra bs again d (confirmed t) = refl
  bare-extra bs again d (holding e) = bare-held bs e (headed e)
  bare-extra bs again d (freshly ds) = bare-fresh bs ds
  bare-extra bs again d name = refl
  bare-extra bs again d no_extra = refl

  -- in extras
  pub bare-extras : (k : ExtraPlace) (bs : List patterns.Bound) (again : Bool) (ds : List Sexp)
      → map bare (extras_stand k S ns bs again ds) ≡ bare_stands.extras_stand k S again ds
  bare-extras k bs again [] = refl
  bare-extras k bs again (d ∷ ds) =
      let e = form_at k d in
      bare-both (extra_stands S ns bs again d e) (extras_stand k S ns (bs ++ bound_by_extra S ns e) (is_named again e) ds)
      (bare_stands.extra_stands S again d e) (bare_stands.extras_stand k S (is_named again e) ds)
      (bare-extra bs again d e) (bare-extras k (bs ++ bound_by_extra S ns e) (is_named again e) ds)

-- ---- checks

-- one that is the same for each is the same for all
flat-bare : {A : Type 0} (f : Stand → List A) → ((s : Stand) → f (bare s) ≡ f s) → (ss : List Stand) → flat_map f (map bare ss) ≡ flat_map f ss
flat-bare {A} f h [] = refl
flat-bare {A} f h (s ∷ ss) = ap₂ (λ (a b : List A). a ++ b) (h s) (flat-bare f h ss)

-- shapes
shape-bare : (s : Stand) → shape_fault (bare s) ≡ shape_fault s
shape-bare (misshaped d) = refl
shape-bare (function d) = refl
shape-bare (judgement d) = refl
shape-bare (asked d) = refl
shape-bare (arrow d) = refl
shape-bare (pattern bs os) = refl
shape-bare (template bs t) = refl
shape-bare (condition bs h) = refl
shape-bare (plain os) = refl
shape-bare (misfit d n) = refl
shape-bare (fresh bs d) = refl
shape-bare (named again d) = refl
shape-bare (repeated d) = refl

pub shapes-bare : (ss : List Stand) → shape_faults (map bare ss) ≡ shape_faults ss
shapes-bare ss = flat-bare shape_fault shape-bare ss

-- names that may not be
bad_name-bare : (s : Stand) → bad_name (bare s) ≡ bad_name s
bad_name-bare (misshaped d) = refl
bad_name-bare (function d) = refl
bad_name-bare (judgement d) = refl
bad_name-bare (asked d) = refl
bad_name-bare (arrow d) = refl
bad_name-bare (pattern bs os) = refl
bad_name-bare (template bs t) = refl
bad_name-bare (condition bs h) = refl
bad_name-bare (plain os) = refl
bad_name-bare (misfit d n) = refl
bad_name-bare (fresh bs d) = refl
bad_name-bare (named again d) = refl
bad_name-bare (repeated d) = refl

pub bad_names-bare : (ss : List Stand) → bad_names (map bare ss) ≡ bad_names ss
bad_names-bare ss = flat-bare bad_name bad_name-bare ss

-- judgements that are none, and arrows
unknown_name-bare : (S : Scope) (s : Stand) → unknown_name S (bare s) ≡ unknown_name S s
unknown_name-bare S (misshaped d) = refl
unknown_name-bare S (function d) = refl
unknown_name-bare S (judgement d) = refl
unknown_name-bare S (asked d) = refl
unknown_name-bare S (arrow d) = refl
unknown_name-bare S (pattern bs os) = refl
unknown_name-bare S (template bs t) = refl
unknown_name-bare S (condition bs h) = refl
unknown_name-bare S (plain os) = refl
unknown_name-bare S (misfit d n) = refl
unknown_name-bare S (fresh bs d) = refl
unknown_name-bare S (named again d) = refl
unknown_name-bare S (repeated d) = refl

pub unknown_names-bare : (S : Scope) (ss : List Stand) → unknown_names S (map bare ss) ≡ unknown_names S ss
unknown_names-bare S ss = flat-bare (unknown_name S) (unknown_name-bare S) ss

-- what does not fit a mode
mode_fault-bare : (s : Stand) → mode_fault (bare s) ≡ mode_fault s
mode_fault-bare (misshaped d) = refl
mode_fault-bare (function d) = refl
mode_fault-bare (judgement d) = refl
mode_fault-bare (asked d) = refl
mode_fault-bare (arrow d) = refl
mode_fault-bare (pattern bs os) = refl
mode_fault-bare (template bs t) = refl
mode_fault-bare (condition bs h) = refl
mode_fault-bare (plain os) = refl
mode_fault-bare (misfit d n) = refl
mode_fault-bare (fresh bs d) = refl
mode_fault-bare (named again d) = refl
mode_fault-bare (repeated d) = refl

pub mode_faults-bare : (ss : List Stand) → mode_faults (map bare ss) ≡ mode_faults ss
mode_faults-bare ss = flat-bare mode_fault mode_fault-bare ss
