-- The list pattern of several patterns, an item for each.
use Rattle.std.proofs.Common.{◌≡◌, ◌++◌, ◌∙◌, ℕ, suc, Bool, true, false, not, List, [], ◌∷◌, length, map, refl, sym, ap, ap₂, subst, arith}
use Rattle.std.proofs.lemmas.Grind.{flat_map-append}
use Rattle.std.proofs.lemmas.List.{map-append}
use Rattle.std.specs.List.{list_all}
use Rattle.std.specs.Prelude.{◌&&◌, flat_map}
use Rattle.rdx_sexp.specs.Sexp.{Sexp}
use Rattle.rdx_lang.specs.Depths.{Use, uses, item_uses, all_agree, is_shallow, closed_parts_fit, closed_items_fit, has_one_depth_each, has_fitting_names}
use Rattle.rdx_lang.specs.Modes.{input_count, output_count, are_single}
use Rattle.rdx_lang.specs.Patterns.{Language}
use Rattle.rdx_lang.specs.Programs.{Mode}
use Rattle.rdx_lang.specs.WellFormed.{defined, has_known_nonterminals, have_known_nonterminals}
use Rattle.rdx_patterns.specs.Ends.{crossed_for}
use Rattle.rdx_patterns.specs.Nonterminals.{names_of}
use Rattle.rdx_patterns.specs.Occurrences.{occurrences}
use Rattle.rdx_patterns.specs.PatternChecks.{bad_binder, bad_binders, bad_occurrence, bad_occurrences, bound_by, all_bound, depth_clashes}
use Rattle.rdx_patterns.specs.Reading.{reading}
use Rattle.rdx_patterns.specs.declared.patterns.position.Position.TheVariants.{Query}
use Rattle.rdx_patterns.proofs.Booleans.{and_both}
use Rattle.rdx_patterns.proofs.DepthsRead.{bound_use, reading-makes}
use Rattle.rdx_patterns.proofs.Firsts.{none_both}
use Rattle.rdx_patterns.proofs.PassedPatterns.{are-passed, pattern-written, bound-are-names}
use Rattle.rdx_patterns.proofs.KnownReadings.{pattern_known}
use Rattle.rdx_parts.specs.Arguments.{data_at}
use Rattle.rdx_parts.specs.ExtraReading.{items_reading, list_reading}
use Rattle.rdx_parts.specs.Outlines.{each}
use Rattle.rdx_parts.specs.PartsHave.{AreReadable}
use Rattle.rdx_parts.specs.Stands.{bound_by_patterns, bound_in}
use Rattle.rdx_relations.proofs.AskingParts.{AsksWithin}
use Rattle.rdx_relations.proofs.AgreeingUses.{agree-all, all-shallow}
use Rattle.rdx_relations.proofs.BoundParts.{taken-written}
use Rattle.rdx_relations.proofs.PartsOfForms.{Each}

-- ---- how many there are

-- as many items as patterns, each by itself
pub single-items : (ns : List (List ℕ)) (ds : List Sexp) → are_single (length ds) (items_reading ns ds) ≡ true
single-items ns [] = refl
single-items ns (d ∷ ds) = single-items ns ds

-- as many data stand at the inputs of a mode as it has
pub inputs-counted : (m : Mode) (ds : List Sexp) → length m ≡ length ds → length (data_at m ds) ≡ input_count m
inputs-counted [] ds e = refl
inputs-counted (b ∷ m) [] e = absurd (omega (arith, e))
inputs-counted (true ∷ m) (d ∷ ds) e = ap suc (inputs-counted m ds (omega (arith, e)))
inputs-counted (false ∷ m) (d ∷ ds) e = inputs-counted m ds (omega (arith, e))

-- and at its outputs
pub outputs-counted : (m : Mode) (ds : List Sexp) → length m ≡ length ds → length (data_at (map not m) ds) ≡ output_count m
outputs-counted [] ds e = refl
outputs-counted (b ∷ m) [] e = absurd (omega (arith, e))
outputs-counted (true ∷ m) (d ∷ ds) e = outputs-counted m ds (omega (arith, e))
outputs-counted (false ∷ m) (d ∷ ds) e = ap suc (outputs-counted m ds (omega (arith, e)))

-- the other of the other
pub twice-not : (bs : List Bool) → map not (map not bs) ≡ bs
twice-not [] = refl
twice-not (true ∷ bs) = ap (λ (cs : List Bool). true ∷ cs) (twice-not bs)
twice-not (false ∷ bs) = ap (λ (cs : List Bool). false ∷ cs) (twice-not bs)

module _ (ns : List (List ℕ)) where
  -- what they bind together is what each binds
  pub each-bound : (ds : List Sexp) → all_bound ns Query (flat_map (occurrences 0) ds) ≡ bound_by_patterns ns ds
  each-bound [] = refl
  each-bound (d ∷ ds) = flat_map-append (bound_by ns Query) (occurrences 0 d) (flat_map (occurrences 0) ds) ∙ (λ i. bound_in ns d ++ each-bound ds i)

  -- ---- the names of those that no check refuses

  -- they make these uses
  each-makes : (ds : List Sexp) → AreReadable ds → bad_binders (flat_map (occurrences 0) ds) ≡ [] → bad_occurrences ns (flat_map (occurrences 0) ds) ≡ []
      → (item_uses 0 (items_reading ns ds) ≡ map bound_use (all_bound ns Query (flat_map (occurrences 0) ds))) × (closed_items_fit (items_reading ns ds) ≡ true)
  each-makes [] r e f = (refl, refl)
  each-makes (d ∷ ds) r e f =
      let os = occurrences 0 d in
      let qs = flat_map (occurrences 0) ds in
      let a = none_both (bad_binders os) (bad_binders qs) (sym (flat_map-append bad_binder os qs) ∙ e) in
      let b = none_both (bad_occurrences ns os) (bad_occurrences ns qs) (sym (flat_map-append (bad_occurrence ns) os qs) ∙ f) in
      let m = reading-makes ns Query 0 d (are-passed ns 4294967296 os (pattern-written d r.0.nested r.0.spelled) a.0 b.0) in
      let k = each-makes ds r.1 a.1 b.1 in (
        ap₂ (λ (us vs : List Use). us ++ vs) m.0 k.0 ∙ sym (map-append bound_use (all_bound ns Query os) (all_bound ns Query qs))
            ∙ ap (map bound_use) (sym (flat_map-append (bound_by ns Query) os qs)),
        and_both (closed_parts_fit (reading ns Query d)) (closed_items_fit (items_reading ns ds)) m.1 k.1,
      )

  -- the uses of the list pattern
  pub each-uses : (ds : List Sexp) → AreReadable ds → bad_binders (flat_map (occurrences 0) ds) ≡ [] → bad_occurrences ns (flat_map (occurrences 0) ds) ≡ []
      → uses 0 (list_reading ns ds) ≡ map bound_use (all_bound ns Query (flat_map (occurrences 0) ds))
  each-uses ds r e f = (each-makes ds r e f).0

  -- its names fit together
  pub fitting-each : (ds : List Sexp) → AreReadable ds → bad_binders (flat_map (occurrences 0) ds) ≡ [] → bad_occurrences ns (flat_map (occurrences 0) ds) ≡ []
      → depth_clashes ns Query (flat_map (occurrences 0) ds) ≡ [] → has_fitting_names (list_reading ns ds) ≡ true
  fitting-each ds r e f g =
      let os = flat_map (occurrences 0) ds in
      let bs = all_bound ns Query os in
      let p = list_reading ns ds in
      let m = each-makes ds r e f in
      let one : has_one_depth_each p ≡ true =
      subst (λ (us : List Use). (all_agree us && list_all is_shallow us) ≡ true) (sym m.0)
      (and_both (all_agree (map bound_use bs)) (list_all is_shallow (map bound_use bs)) (agree-all [] bs g) (all-shallow bs (bound-are-names ns Query 4294967296 os (taken-written (each ds) r) e))) in
      and_both (has_one_depth_each p) (closed_parts_fit p) one m.1

-- where no check refuses them, its nonterminals are those of a language that has gained what they ask for
pub each-known : (L : Language) (es : List (List ℕ)) (ds : List Sexp) → Each (AsksWithin es) ds
    → bad_occurrences (names_of L) (flat_map (occurrences 0) ds) ≡ [] → have_known_nonterminals (defined (crossed_for es L)) (items_reading (names_of L) ds) ≡ true
each-known L es [] r f = refl
each-known L es (d ∷ ds) r f =
    let ns = names_of L in
    let xs = defined (crossed_for es L) in
    let os = occurrences 0 d in
    let qs = flat_map (occurrences 0) ds in
    let b = none_both (bad_occurrences ns os) (bad_occurrences ns qs) (sym (flat_map-append (bad_occurrence ns) os qs) ∙ f) in
    and_both (has_known_nonterminals xs (reading ns Query d)) (have_known_nonterminals xs (items_reading ns ds)) (pattern_known L es d b.0 r.0.ends)
    (each-known L es ds r.1 b.1)
