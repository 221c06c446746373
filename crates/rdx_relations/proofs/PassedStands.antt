-- What no check refuses, taken apart.
use Rattle.std.proofs.Common.{◌≡◌, ◌++◌, ◌∙◌, ℕ, Bool, true, false, not, List, [], ◌∷◌, map, refl, sym, ap, subst, if◌then◌else◌}
use Rattle.std.proofs.lemmas.Bool.{eqb-true}
use Rattle.std.proofs.lemmas.Grind.{flat_map-append}
use Rattle.std.proofs.lemmas.List.{map-append}
use Rattle.std.specs.Cmp.Lexicographic.{bytes_decides}
use Rattle.std.specs.List.{list_any, list_all}
use Rattle.std.specs.Prelude.{◌&&◌, ◌||◌, Option, Some, None, option_map, is_some, length, flat_map, bytes_eq, nat_eq}
use Rattle.rdx_sexp.specs.Sexp.{Sexp}
use Rattle.rdx_lang.specs.Depths.{Use}
use Rattle.rdx_lang.specs.Fitting.{fits, fits_in}
use Rattle.rdx_lang.specs.Programs.{Mode}
use Rattle.rdx_lang.specs.Scopes.{bound_by}
use Rattle.rdx_patterns.specs.Names.{begins_with_dots, is_bad_name, is_bad_bound}
use Rattle.rdx_patterns.specs.Occurrences.{Occurrence, occurrences}
use Rattle.rdx_patterns.specs.Parts.{text_of}
use Rattle.rdx_patterns.specs.PatternChecks as patterns
use Rattle.rdx_patterns.specs.PatternChecks.{keyword_faults, bad_binder, bad_binders, bad_occurrence, bad_occurrences}
use Rattle.rdx_patterns.specs.declared.patterns.position.Position.TheVariants.{Query}
use Rattle.rdx_patterns.proofs.Booleans.{and_true, and_both, or_true}
use Rattle.rdx_patterns.proofs.DepthsRead.{bound_use}
use Rattle.rdx_patterns.proofs.Firsts.{none_both, none_first}
use Rattle.rdx_patterns.proofs.SpelledNames.{bound-not_bad}
use Rattle.rdx_templates.specs.Bound.{Bound, is_bound}
use Rattle.rdx_templates.specs.Scope.{Scope, has_metafunction, mode_of}
use Rattle.rdx_templates.specs.TemplateChecks.{bad_parts, shallow_parts, undriven_parts}
use Rattle.rdx_templates.specs.TemplateOccurrences.{TemplatePart, template_parts, host_parts}
use Rattle.rdx_templates.specs.TemplateReading.{template_reading, host_reading}
use Rattle.rdx_templates.specs.TemplateShapes.{template_shapes}
use Rattle.rdx_templates.proofs.Depths.{depth-bound}
use Rattle.rdx_templates.proofs.Fitting.{template_fits, host_fits}
use Rattle.rdx_parts.specs.Arguments.{Arguments, fitting, is_misfit, data_at, data_by, patterns_in, templates_in}
use Rattle.rdx_parts.specs.ExtraReading.{templates_reading}
use Rattle.rdx_parts.specs.StandChecks.{is_bound_as, shape_fault, shape_faults, bad_name, bad_names, bad_place, bad_places, other_depths, depth_fault, depth_faults, unknown_name, unknown_names, undriven_place, undriven_places, mode_fault, mode_faults}
use Rattle.rdx_parts.specs.Stands.{Stand, asked, arrow, pattern, template, condition, fresh, bound_among, names_bound, bound_in, flagged_stand, arguments_by, arguments_stand, misfits}
use Rattle.rdx_relations.proofs.FormRefusals.{ArePassed}
use Rattle.rdx_parts.proofs.NamesBound.{named_at}
use Rattle.rdx_parts.proofs.OtherDepths.{other-both}
use Rattle.rdx_parts.proofs.RepeatedNames.{not_false, bound_place, bound_places}

-- ---- names that are bound

-- a name that does not begin with dots is bound by the uses
bound-use : (bs : List patterns.Bound) (x : List ℕ) (m : ℕ) → begins_with_dots x ≡ false → is_bound (names_bound bs) x m ≡ true → bound_by (map bound_use bs) x m ≡ true
bound-use [] x m e h = absurd cc
bound-use (b ∷ bs) x m e h =
    or_true (bytes_eq (text_of b.symbol) x && nat_eq b.depth m) (is_bound (names_bound bs) x m)
    ((not (begins_with_dots (text_of b.symbol)) && (bytes_eq (text_of b.symbol) x && nat_eq b.depth m) || bound_by (map bound_use bs) x m) ≡ true) h
    (λ f.
    let k = and_true (bytes_eq (text_of b.symbol) x) (nat_eq b.depth m) f in
    let d : begins_with_dots (text_of b.symbol) ≡ false = ap begins_with_dots ((bytes_decides (text_of b.symbol) x).0 k.0) ∙ e in
    λ i. (here (begins_with_dots (text_of b.symbol)) (bytes_eq (text_of b.symbol) x && nat_eq b.depth m) d f i) || bound_by (map bound_use bs) x m)
    (λ f. or_second (not (begins_with_dots (text_of b.symbol)) && (bytes_eq (text_of b.symbol) x && nat_eq b.depth m)) (bound_by (map bound_use bs) x m) (bound-use bs x m e f))
  where
    here : (a c : Bool) → a ≡ false → c ≡ true → (not a && c) ≡ true
    here true c f g = absurd cc
    here false c f g = g

    or_second : (a c : Bool) → c ≡ true → (a || c) ≡ true
    or_second true c f = refl
    or_second false c f = f

-- ---- modes that fit

-- the mode is known, and has as many arguments
pub record IsFit (o : Option Mode) (ds : List Sexp) : Type 0 where
  pub mode : Mode
  pub is : o ≡ Some mode
  pub fits : fitting o ds ≡ Some mode
  pub long : length mode ≡ length ds

-- so it is where it is known, and not misfit
pub mode-fits : (o : Option Mode) (ds : List Sexp) → is_some o ≡ true → is_misfit o ds ≡ false → IsFit o ds
mode-fits None ds e f = absurd cc
mode-fits (Some m) ds e f =
    let g = not_false (nat_eq (length m) (length ds)) f in
    record { mode = m; is = refl; fits = ap (λ b. if b then Some m else None) g; long = eqb-true (length m) (length ds) g }

-- ---- what is left of what passes

-- what no check refuses in a template or a host expression, by what stands in it
pub record ArePassedParts (S : Scope) (bs : List patterns.Bound) (ps : List TemplatePart) : Type 0 where
  pub places : bad_parts ps ≡ []
  pub depths : shallow_parts (names_bound bs) ps ≡ []
  pub driving : undriven_parts S (names_bound bs) ps ≡ []

-- in templates
abbrev pub ArePassedTemplates : Scope → List patterns.Bound → List Sexp → Type 0
ArePassedTemplates S bs [] = Unit {0}
ArePassedTemplates S bs (t ∷ ts) = ArePassedParts S bs (template_parts S (names_bound bs) 0 t) × ArePassedTemplates S bs ts

-- and in a pattern, behind symbols that bind names
pub record IsPassedPattern (ns : List (List ℕ)) (bs : List patterns.Bound) (os : List Occurrence) : Type 0 where
  pub names : bad_binders os ≡ []
  pub places : bad_occurrences ns os ≡ []
  pub depths : other_depths (names_bound bs) (bound_among ns os) ≡ []

-- a pattern, and another behind it
both-patterns : (ns : List (List ℕ)) (bs : List patterns.Bound) (os qs : List Occurrence) → IsPassedPattern ns bs os → IsPassedPattern ns (bs ++ bound_among ns os) qs
    → IsPassedPattern ns bs (os ++ qs)
both-patterns ns bs os qs h k = record {
  names = flat_map-append bad_binder os qs ∙ (λ i. h.names i ++ k.names i);
  places = flat_map-append (bad_occurrence ns) os qs ∙ (λ i. h.places i ++ k.places i);
  depths =
      let cs = bound_among ns os in
      let ds = bound_among ns qs in
      let e : other_depths (names_bound bs ++ names_bound cs) ds ≡ [] =
      ap (λ (es : Bound). other_depths es ds) (sym (map-append named_at bs cs)) ∙ k.depths in
      ap (other_depths (names_bound bs)) (flat_map-append (patterns.bound_by ns Query) os qs) ∙ other-both (names_bound bs) cs ds ∙ (λ i. h.depths i ++ e i);
}

module _ (S : Scope) (ns : List (List ℕ)) where
  -- two lists of what stands in a form
  pub passed-both : (ss rs : List Stand) → ArePassed S ns (ss ++ rs) → ArePassed S ns ss × ArePassed S ns rs
  passed-both ss rs h =
      let z = none_both (shape_faults ss) (shape_faults rs) (sym (flat_map-append shape_fault ss rs) ∙ h.shapes) in
      let f = none_both (bound_places ss) (bound_places rs) (sym (flat_map-append bound_place ss rs) ∙ h.made) in
      let a = none_both (bad_names ss) (bad_names rs) (sym (flat_map-append bad_name ss rs) ∙ h.names) in
      let b = none_both (bad_places S ns ss) (bad_places S ns rs) (sym (flat_map-append (bad_place S ns) ss rs) ∙ h.places) in
      let c = none_both (depth_faults S ns ss) (depth_faults S ns rs) (sym (flat_map-append (depth_fault S ns) ss rs) ∙ h.depths) in
      let k = none_both (unknown_names S ss) (unknown_names S rs) (sym (flat_map-append (unknown_name S) ss rs) ∙ h.known) in
      let d = none_both (undriven_places S ss) (undriven_places S rs) (sym (flat_map-append (undriven_place S) ss rs) ∙ h.driving) in
      let m = none_both (mode_faults ss) (mode_faults rs) (sym (flat_map-append mode_fault ss rs) ∙ h.modes) in (
        record { shapes = z.0; made = f.0; names = a.0; places = b.0; depths = c.0; known = k.0; driving = d.0; modes = m.0 },
        record { shapes = z.1; made = f.1; names = a.1; places = b.1; depths = c.1; known = k.1; driving = d.1; modes = m.1 },
      )

  -- a pattern that passes, before others
  pub pattern-first : (bs : List patterns.Bound) (os : List Occurrence) (ss : List Stand) → ArePassed S ns (pattern bs os ∷ ss) → IsPassedPattern ns bs os × ArePassed S ns ss
  pattern-first bs os ss h =
      let z = none_both (keyword_faults os) (shape_faults ss) h.shapes in
      let a = none_both (bad_binders os) (bad_names ss) h.names in
      let b = none_both (bad_occurrences ns os) (bad_places S ns ss) h.places in
      let c = none_both (other_depths (names_bound bs) (bound_among ns os)) (depth_faults S ns ss) h.depths in (
        record { names = a.0; places = b.0; depths = c.0 },
        record { shapes = z.1; made = h.made; names = a.1; places = b.1; depths = c.1; known = h.known; driving = h.driving; modes = h.modes },
      )

  -- a template does
  pub template-first : (bs : List patterns.Bound) (t : Sexp) (ss : List Stand) → ArePassed S ns (template (names_bound bs) t ∷ ss)
      → ArePassedParts S bs (template_parts S (names_bound bs) 0 t) × ArePassed S ns ss
  template-first bs t ss h =
      let ps = template_parts S (names_bound bs) 0 t in
      let z = none_both (template_shapes t) (shape_faults ss) h.shapes in
      let b = none_both (bad_parts ps) (bad_places S ns ss) h.places in
      let c = none_both (shallow_parts (names_bound bs) ps) (depth_faults S ns ss) h.depths in
      let d = none_both (undriven_parts S (names_bound bs) ps) (undriven_places S ss) h.driving in (
        record { places = b.0; depths = c.0; driving = d.0 },
        record { shapes = z.1; made = h.made; names = h.names; places = b.1; depths = c.1; known = h.known; driving = d.1; modes = h.modes },
      )

  -- a host expression by itself
  pub host-passed : (bs : List patterns.Bound) (t : Sexp) → ArePassed S ns (condition (names_bound bs) t ∷ []) → ArePassedParts S bs (host_parts S (names_bound bs) 0 t)
  host-passed bs t h =
      let ps = host_parts S (names_bound bs) 0 t in record {
        places = (none_both (bad_parts ps) [] h.places).0;
        depths = (none_both (shallow_parts (names_bound bs) ps) [] h.depths).0;
        driving = (none_both (undriven_parts S (names_bound bs) ps) [] h.driving).0;
      }

  -- ---- arguments that pass

  -- with such flags
  flagged-passed : (bs cs : List patterns.Bound) (fs : List Bool) (ds : List Sexp) → ArePassed S ns (flagged_stand ns bs (names_bound cs) fs ds)
      → IsPassedPattern ns bs (flat_map (occurrences 0) (data_at fs ds)) × ArePassedTemplates S cs (data_at (map not fs) ds)
  flagged-passed bs cs [] ds h = (record { names = refl; places = refl; depths = refl }, tt)
  flagged-passed bs cs (f ∷ fs) [] h = (record { names = refl; places = refl; depths = refl }, tt)
  flagged-passed bs cs (true ∷ fs) (d ∷ ds) h =
      let a = pattern-first bs (occurrences 0 d) (flagged_stand ns (bs ++ bound_in ns d) (names_bound cs) fs ds) h in
      let k = flagged-passed (bs ++ bound_in ns d) cs fs ds a.1 in
      (both-patterns ns bs (occurrences 0 d) (flat_map (occurrences 0) (data_at fs ds)) a.0 k.0, k.1)
  flagged-passed bs cs (false ∷ fs) (d ∷ ds) h =
      let a = template-first cs d (flagged_stand ns bs (names_bound cs) fs ds) h in
      let k = flagged-passed bs cs fs ds a.1 in
      (k.0, (a.0, k.1))

  -- where there are flags
  arguments_by-passed : (bs cs : List patterns.Bound) (o : Option (List Bool)) (ds : List Sexp) → ArePassed S ns (arguments_by ns bs (names_bound cs) o ds)
      → IsPassedPattern ns bs (flat_map (occurrences 0) (data_by o ds)) × ArePassedTemplates S cs (data_by (option_map (map not) o) ds)
  arguments_by-passed bs cs None ds h = (record { names = refl; places = refl; depths = refl }, tt)
  arguments_by-passed bs cs (Some fs) ds h = flagged-passed bs cs fs ds h

  -- all of them
  pub arguments-passed : (bs cs : List patterns.Bound) (a : Arguments) → ArePassed S ns (arguments_stand ns bs (names_bound cs) a)
      → IsPassedPattern ns bs (flat_map (occurrences 0) (patterns_in a)) × ArePassedTemplates S cs (templates_in a)
  arguments-passed bs cs a h = arguments_by-passed bs cs a.flags a.items h

  -- nothing that passes does not fit its mode
  pub misfits-false : (b : Bool) (d x : Sexp) → ArePassed S ns (misfits b d x) → b ≡ false
  misfits-false true d x h = absurd (let e = h.modes in cc)
  misfits-false false d x h = refl

  -- the name of a judgement in a premise, before others
  pub asked-first : (j : Sexp) (ss : List Stand) → ArePassed S ns (asked j ∷ ss) → (is_some (mode_of S (text_of j)) ≡ true) × ArePassed S ns ss
  asked-first j ss h =
      let k = none_first (not (is_some (mode_of S (text_of j)))) j (unknown_names S ss) h.known in (
        not_false (is_some (mode_of S (text_of j))) k.0,
        record { shapes = h.shapes; made = h.made; names = h.names; places = h.places; depths = h.depths; known = k.1; driving = h.driving; modes = h.modes },
      )

  -- a name to be made, before others: it is not bound before, and may be bound
  pub fresh-first : (bs : List patterns.Bound) (d : Sexp) (ss : List Stand) → ArePassed S ns (fresh bs d ∷ ss)
      → ((list_any (is_bound_as d) bs ≡ false) × (is_bad_name (text_of d) ≡ false)) × ArePassed S ns ss
  fresh-first bs d ss h =
      let f = none_first (list_any (is_bound_as d) bs) d (bound_places ss) h.made in
      let a = none_first (is_bad_bound (text_of d)) d (bad_names ss) h.names in (
        (f.0, bound-not_bad (text_of d) a.0),
        record { shapes = h.shapes; made = f.1; names = a.1; places = h.places; depths = h.depths; known = h.known; driving = h.driving; modes = h.modes },
      )

  -- the arrow of a case
  pub arrow-first : (a : Sexp) (ss : List Stand) → ArePassed S ns (arrow a ∷ ss) → ArePassed S ns ss
  arrow-first a ss h =
      let k = none_both (unknown_name S (arrow a)) (unknown_names S ss) h.known in
      record { shapes = h.shapes; made = h.made; names = h.names; places = h.places; depths = h.depths; known = k.1; driving = h.driving; modes = h.modes }

  -- ---- templates and host expressions that pass fit the uses

  pub fits-uses : (bs : List patterns.Bound) (us : List Use) (t : Sexp) → us ≡ map bound_use bs → ArePassedParts S bs (template_parts S (names_bound bs) 0 t)
      → fits (has_metafunction S) (bound_by us) 0 (template_reading S (names_bound bs) t) ≡ true
  fits-uses bs us t e h =
      subst (λ (vs : List Use). fits (has_metafunction S) (bound_by vs) 0 (template_reading S (names_bound bs) t) ≡ true) (sym e)
      (template_fits S (names_bound bs) (bound_by (map bound_use bs)) (λ x m g k. bound-use bs x m k (depth-bound (names_bound bs) x m g)) 0 t
      (record { bad = h.places; shallow = h.depths; undriven = h.driving }))

  pub all-fit : (bs : List patterns.Bound) (us : List Use) (ts : List Sexp) → us ≡ map bound_use bs → ArePassedTemplates S bs ts
      → list_all (fits (has_metafunction S) (bound_by us) 0) (templates_reading S (names_bound bs) ts) ≡ true
  all-fit bs us [] e h = refl
  all-fit bs us (t ∷ ts) e h =
      let fit = fits (has_metafunction S) (bound_by us) 0 in
      and_both (fit (template_reading S (names_bound bs) t)) (list_all fit (templates_reading S (names_bound bs) ts)) (fits-uses bs us t e h.0) (all-fit bs us ts e h.1)

  pub host-uses : (bs : List patterns.Bound) (us : List Use) (t : Sexp) → us ≡ map bound_use bs → ArePassedParts S bs (host_parts S (names_bound bs) 0 t)
      → fits_in (has_metafunction S) (bound_by us) 0 (host_reading S (names_bound bs) t) ≡ true
  host-uses bs us t e h =
      subst (λ (vs : List Use). fits_in (has_metafunction S) (bound_by vs) 0 (host_reading S (names_bound bs) t) ≡ true) (sym e)
      (host_fits S (names_bound bs) (bound_by (map bound_use bs)) (λ x m g k. bound-use bs x m k (depth-bound (names_bound bs) x m g)) 0 t
      (record { bad = h.places; shallow = h.depths; undriven = h.driving }))
