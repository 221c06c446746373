-- The refusal of a form, by two groups of checks, and of relations.
use Rattle.std.proofs.Common.{◌≡◌, ◌++◌, ◌∙◌, ℕ, List, [], ◌∷◌, Option, Some, None, map, refl, sym, ap}
use Rattle.std.specs.Prelude.{option_map}
use Rattle.rdx_sexp.specs.Sexp.{Sexp}
use Rattle.rdx_patterns.specs.Refusal.{Refusal, unnamed, named, or_else, first_refusal}
use Rattle.rdx_patterns.specs.declared.shape.fault.DefKind.TheVariants.{Shape, BadName, BadPattern, EllipsisDepth, UnknownName, EllipsisVariable, RacketEscape}
use Rattle.rdx_patterns.proofs.Firsts.{none_of}
use Rattle.rdx_templates.specs.Earliest.{start, earliest}
use Rattle.rdx_relations.specs.Inside.BareForms as bare_stands
use Rattle.rdx_relations.specs.Inside.FormOutlines.{relation_outline}
use Rattle.rdx_parts.specs.Outlines.{Outline}
use Rattle.rdx_parts.specs.ByNames.{outline_faults}
use Rattle.rdx_parts.specs.FormRefusals.{early_refusal, late_refusal, form_refusal}
use Rattle.rdx_parts.specs.NamesAgain.{names_again}
use Rattle.rdx_relations.specs.RelationForms.{RelationForm, relation_form}
use Rattle.rdx_relations.specs.RelationRefusal.{relation_refusal_by, relation_refusal}
use Rattle.rdx_relations.specs.RelationStands.{expanded_stands, shortcuts_stand}
use Rattle.rdx_templates.specs.Scope.{Scope}
use Rattle.rdx_parts.specs.StandChecks.{shape_faults, shape_at, repeated_names, repeated_at, repeated_name_at, bad_names, bad_name_at, bad_places, bad_place_at, depth_faults, depth_fault_at, unknown_names, unknown_name_at, undriven_places, undriven_at, escape_at, mode_faults, misfit_start, misfit_at, mode_fault_at}
use Rattle.rdx_parts.specs.StandRefusal.{stands_refusal}
use Rattle.rdx_parts.specs.Stands.{Stand}
use Rattle.rdx_parts.specs.declared.stands.faults.Check.{Check}
use Rattle.rdx_parts.specs.declared.stands.faults.Check.TheVariants.{Places, Depths, Driving, Escapes}
use Rattle.rdx_relations.proofs.BareForms.{bare-relation}
use Rattle.rdx_templates.proofs.EarliestPlaces.{earliest-none}
use Rattle.rdx_parts.proofs.BareChecks.{bare, shapes-bare, bad_names-bare, unknown_names-bare, mode_faults-bare}
use Rattle.rdx_parts.proofs.RepeatedNames.{again-bare, bound_places, places-none}
use Rattle.rdx_relations.proofs.TrackedNames.{relation-again}
use Rattle.rdx_relations.proofs.FormFaults.{relation-faults}
use Rattle.rdx_parts.proofs.NamesBound.{faults}

-- the first of these is that of three, or else of the others
after_three : (a b c : Option Refusal) (os : List (Option Refusal)) → first_refusal (a ∷ b ∷ c ∷ os) ≡ or_else (first_refusal (a ∷ b ∷ c ∷ [])) (first_refusal os)
after_three (Some a) b c os = refl
after_three None (Some b) c os = refl
after_three None None (Some c) os = refl
after_three None None None os = refl

-- nothing behind
pub alone : {A : Type 0} (o : Option A) → or_else o None ≡ o
alone None = refl
alone (Some x) = refl

-- the checks that have to know what is bound, and those behind them
abbrev pub late_checks : Scope → List (List ℕ) → List Stand → List (Option Refusal)
late_checks S ns ss =
    bad_place_at S ns ss ∷ depth_fault_at S ns ss ∷ unknown_name_at S ss ∷ undriven_at S ss ∷ escape_at S ss ∷ mode_fault_at ss ∷ []

-- ---- what stands in a form, and its outline

module _ (S : Scope) (ns : List (List ℕ)) (ss rs : List Stand) (o : Outline) (same : map bare ss ≡ rs)
    (again : repeated_names [] ss ≡ names_again ns [] [] ss) (alike : (k : Check) → faults k S ns ss ≡ outline_faults k S ns o) where
  -- the early checks are the same without what is bound
  early : first_refusal (shape_at ss ∷ repeated_name_at ss ∷ bad_name_at ss ∷ []) ≡ early_refusal ns rs
  early =
      (λ i.
      first_refusal
      (option_map (unnamed Shape) (earliest start (sym (shapes-bare ss) i))
      ∷ option_map repeated_at (earliest start ((again ∙ sym (again-bare ns [] [] ss)) i))
      ∷ option_map (named BadName) (earliest start (sym (bad_names-bare ss) i))
      ∷ []))
      ∙ ap (early_refusal ns) same

  -- and the late ones by the outline
  late : first_refusal (late_checks S ns ss) ≡ late_refusal S ns rs o
  late =
      (λ i.
      first_refusal
      (option_map (unnamed BadPattern) (earliest start (alike Places i))
      ∷ option_map (named EllipsisDepth) (earliest start (alike Depths i))
      ∷ option_map (named UnknownName) (earliest start (sym (unknown_names-bare S ss) i))
      ∷ option_map (unnamed EllipsisVariable) (earliest start (alike Driving i))
      ∷ option_map (unnamed RacketEscape) (earliest start (alike Escapes i))
      ∷ option_map misfit_at (earliest misfit_start (sym (mode_faults-bare ss) i))
      ∷ []))
      ∙ ap (λ (us : List Stand). late_refusal S ns us o) same

  -- both together
  pub form-refused : stands_refusal S ns ss ≡ form_refusal S ns rs o
  form-refused =
      after_three (shape_at ss) (repeated_name_at ss) (bad_name_at ss) (late_checks S ns ss)
      ∙ (λ i. or_else (early i) (late i))

-- ---- relations

-- what stands in one without shorthand, which was written with these shortcuts
pub relation-refused : (S : Scope) (ns : List (List ℕ)) (r : RelationForm) (ds : List Sexp)
    → stands_refusal S ns (expanded_stands S ns r ++ shortcuts_stand [] ds) ≡ form_refusal S ns (bare_stands.relation_stands S r ds) (relation_outline r)
relation-refused S ns r ds =
    form-refused S ns (expanded_stands S ns r ++ shortcuts_stand [] ds) (bare_stands.relation_stands S r ds) (relation_outline r) (bare-relation S ns r ds) (relation-again S ns r ds)
    (λ k. relation-faults k S ns r ds)

-- without the parts of a relation
pub no-relation : (S : Scope) (ns : List (List ℕ)) (d : Sexp) → relation_form d ≡ None → relation_refusal S ns d ≡ Some (unnamed Shape d)
no-relation S ns d e i = relation_refusal_by S ns d (e i)

-- ---- what is not refused

-- where the early checks refuse nothing, no name is bound or defined that may not be
pub early-names : (ns : List (List ℕ)) (ss : List Stand) → early_refusal ns ss ≡ None → bad_names ss ≡ []
early-names ns ss e =
    let shape = shape_at ss in
    let again = option_map repeated_at (earliest start (names_again ns [] [] ss)) in
    let bad = bad_name_at ss in
    let a = none_of shape (again ∷ bad ∷ []) e in
    let b = none_of again (bad ∷ []) a.1 in
    earliest-none start (named BadName) (bad_names ss) (none_of bad [] b.1).0

-- what no check refuses
pub record ArePassed (S : Scope) (ns : List (List ℕ)) (ss : List Stand) : Type 0 where
  pub shapes : shape_faults ss ≡ []
  pub made : bound_places ss ≡ []
  pub names : bad_names ss ≡ []
  pub places : bad_places S ns ss ≡ []
  pub depths : depth_faults S ns ss ≡ []
  pub known : unknown_names S ss ≡ []
  pub driving : undriven_places S ss ≡ []
  pub modes : mode_faults ss ≡ []

-- so it is where nothing is refused
pub stands-passed : (S : Scope) (ns : List (List ℕ)) (ss : List Stand) → stands_refusal S ns ss ≡ None → ArePassed S ns ss
stands-passed S ns ss e =
    let a = none_of (shape_at ss) (repeated_name_at ss ∷ bad_name_at ss ∷ late_checks S ns ss) e in
    let b = none_of (repeated_name_at ss) (bad_name_at ss ∷ late_checks S ns ss) a.1 in
    let c = none_of (bad_name_at ss) (late_checks S ns ss) b.1 in
    let d = none_of (bad_place_at S ns ss) (depth_fault_at S ns ss ∷ unknown_name_at S ss ∷ undriven_at S ss ∷ escape_at S ss ∷ mode_fault_at ss ∷ []) c.1 in
    let f = none_of (depth_fault_at S ns ss) (unknown_name_at S ss ∷ undriven_at S ss ∷ escape_at S ss ∷ mode_fault_at ss ∷ []) d.1 in
    let g = none_of (unknown_name_at S ss) (undriven_at S ss ∷ escape_at S ss ∷ mode_fault_at ss ∷ []) f.1 in
    let h = none_of (undriven_at S ss) (escape_at S ss ∷ mode_fault_at ss ∷ []) g.1 in
    let k = none_of (escape_at S ss) (mode_fault_at ss ∷ []) h.1 in
    let l = none_of (mode_fault_at ss) [] k.1 in
    record {
      shapes = earliest-none start (unnamed Shape) (shape_faults ss) a.0;
      made = places-none [] ss (earliest-none start repeated_at (repeated_names [] ss) b.0);
      names = earliest-none start (named BadName) (bad_names ss) c.0;
      places = earliest-none start (unnamed BadPattern) (bad_places S ns ss) d.0;
      depths = earliest-none start (named EllipsisDepth) (depth_faults S ns ss) f.0;
      known = earliest-none start (named UnknownName) (unknown_names S ss) g.0;
      driving = earliest-none start (unnamed EllipsisVariable) (undriven_places S ss) h.0;
      modes = earliest-none misfit_start misfit_at (mode_faults ss) l.0;
    }
