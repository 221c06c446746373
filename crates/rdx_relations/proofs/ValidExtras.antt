-- What the patterns and the extras of a form stand for is valid, where no check refuses them.
use Rattle.std.proofs.Common.{◌≡◌, ◌++◌, ◌∙◌, ℕ, Bool, true, false, not, List, [], ◌∷◌, length, map, refl, sym, ap, ap₂, subst, arith}
use Rattle.std.proofs.lemmas.List.{append_assoc, append-nil, length-map, map-append}
use Rattle.std.proofs.lemmas.Bool.{eq-eqb}
use Rattle.std.specs.List.{list_any, list_all}
use Rattle.std.specs.Prelude.{◌&&◌, ◌||◌, IsSome, Option, Some, None, option_map, bytes_eq, codes, nat_eq}
use Rattle.rdx_sexp.specs.Sexp.{Sexp, sexps}
use Rattle.rdx_lang.specs.Depths.{Use, name_use, uses, has_fitting_names}
use Rattle.rdx_lang.specs.Fitting.{fits, fits_in}
use Rattle.rdx_lang.specs.Modes.{input_count, output_count, are_single, fits_mode}
use Rattle.rdx_lang.specs.Patterns.{Language, seq}
use Rattle.rdx_lang.specs.Programs as model
use Rattle.rdx_lang.specs.Programs.{Mode, holds}
use Rattle.rdx_lang.specs.Scopes.{bound_by, extras_uses}
use Rattle.rdx_lang.specs.Valid.{is_used, is_valid_extra, are_valid_extras}
use Rattle.rdx_lang.specs.WellFormed.{defined, has_known_nonterminals, have_known_nonterminals, is_well_formed_in}
use Rattle.rdx_patterns.specs.Ends.{crossed_for}
use Rattle.rdx_patterns.specs.Names.{is_bad_name, begins_with_dots}
use Rattle.rdx_patterns.specs.Nonterminals.{names_of}
use Rattle.rdx_patterns.specs.Occurrences.{occurrences}
use Rattle.rdx_patterns.specs.Parts.{text_of}
use Rattle.rdx_patterns.specs.PatternChecks as patterns
use Rattle.rdx_patterns.specs.PatternChecks.{clashes}
use Rattle.rdx_patterns.specs.Reading.{reading}
use Rattle.rdx_patterns.specs.declared.patterns.position.Position.TheVariants.{Query}
use Rattle.rdx_patterns.proofs.Among.{bytes_eq-sym}
use Rattle.rdx_patterns.proofs.Booleans.{and_both, or_false}
use Rattle.rdx_patterns.proofs.DepthsRead.{bound_use, reading-makes, items-make}
use Rattle.rdx_patterns.proofs.FittingNames.{fitting-reading, fitting-items}
use Rattle.rdx_patterns.proofs.PassedPatterns.{are-passed}
use Rattle.rdx_patterns.proofs.KnownReadings.{pattern_known, items_known_to}
use Rattle.rdx_templates.specs.Scope.{Scope, mode_of, callable, has_metafunction}
use Rattle.rdx_templates.specs.TemplateReading.{template_reading, host_reading}
use Rattle.rdx_parts.specs.Arguments.{is_misfit, data_at, data_by, patterns_in, templates_in}
use Rattle.rdx_parts.specs.ExtraForms.{ExtraForm, such_that, provided, confirmed, holding, freshly, name, no_extra, ExtraPlace, form_at}
use Rattle.rdx_parts.specs.ExtraReading.{items_reading, list_reading, premise_reading, held_reading, extra_reading, extras_reading}
use Rattle.rdx_parts.specs.Headed.{Headed, headed}
use Rattle.rdx_parts.specs.BareStands.{lone_pattern}
use Rattle.rdx_parts.specs.Outlines.{Takes, one, several, each, taken_occurrences, bound_by_taken, taken_reading}
use Rattle.rdx_parts.specs.PartsHave.{PremiseHas, ExtraHas, ExtrasHave, AloneHave, IsPattern, can_read}
use Rattle.rdx_parts.specs.ExtraReading.{argument_items}
use Rattle.rdx_parts.specs.StandChecks.{is_bound_as}
use Rattle.rdx_parts.specs.Stands.{template, names_bound, premise_arguments, arguments_stand, misfits, premise_stands, held_stands, bound_by_premise, bound_freshly, fresh_stands, bound_by_extra, bound_by_extras, extra_stands, is_named, extras_stand}
use Rattle.rdx_relations.proofs.AlikeSymbols.{AreAlike, alike-none, alike-behind, alike-made, clash-none}
use Rattle.rdx_relations.proofs.AskingParts.{BindsWithin}
use Rattle.rdx_relations.proofs.BoundParts.{taken-written}
use Rattle.rdx_relations.proofs.FormRefusals.{ArePassed}
use Rattle.rdx_relations.proofs.PartsOfForms.{bound}
use Rattle.rdx_relations.proofs.PassedStands.{mode-fits, IsPassedPattern, passed-both, pattern-first, template-first, fresh-first, host-passed, arguments-passed, misfits-false, asked-first, fits-uses, all-fit, host-uses}
use Rattle.rdx_relations.proofs.PatternLists.{single-items, inputs-counted, outputs-counted, twice-not, each-bound, each-uses, fitting-each, each-known}

-- ---- names to be made

-- one is used where a symbol binds it
used-bound : (d : Sexp) (bs : List patterns.Bound) → is_used (map bound_use bs) (text_of d) ≡ list_any (is_bound_as d) bs
used-bound d [] = refl
used-bound d (b ∷ bs) = λ i. bytes_eq-sym (text_of b.symbol) (text_of d) i || used-bound d bs i

-- one that may be bound is no length name
fresh-use : (d : Sexp) → is_bad_name (text_of d) ≡ false → name_use 0 (text_of d) ≡ bound_use (bound_freshly d)
fresh-use d e =
    let x = text_of d in
    let f = or_false (bytes_eq x (codes "hole") || bytes_eq x (codes "_")) (begins_with_dots x) e in
    λ i. record { name = x; depth = 0; is_length = sym f.1 i }

-- Forms are read over the names of L and over M, which is L with the cross nonterminals to those of ys that are nonterminals of it.
module _ (S : Scope) (L : Language) (ys : List (List ℕ)) where
  abbrev ns : List (List ℕ)
  ns = names_of L

  abbrev M : Language
  M = crossed_for ys L

  -- ---- patterns

  -- behind symbols that are alike, those of what is taken are, where it passes
  pub alike-taken : (bs : List patterns.Bound) (w : Takes) → AreAlike bs → IsPassedPattern ns bs (taken_occurrences w) → AreAlike (bs ++ bound_by_taken ns w)
  alike-taken bs w a g = alike-behind bs (bound_by_taken ns w) a g.depths

  -- so they don't clash
  unclashing : (bs : List patterns.Bound) (w : Takes) → AreAlike bs → IsPassedPattern ns bs (taken_occurrences w) → clashes [] (bound_by_taken ns w) ≡ []
  unclashing bs w a g = clash-none bs (bound_by_taken ns w) (alike-taken bs w a g)

  -- what is taken, where it passes, is well formed, and makes these uses
  pub taken-passed : (bs : List patterns.Bound) (w : Takes) → AreAlike bs → BindsWithin ys ns w → IsPassedPattern ns bs (taken_occurrences w)
      → IsPattern M ns w × (uses 0 (taken_reading ns w) ≡ map bound_use (bound_by_taken ns w))
  taken-passed bs (one p) a h g =
      let os = occurrences 0 p in
      let r = reading ns Query p in
      let d = h.asks.readable in
      let f = fitting-reading ns Query p d.nested d.spelled g.names g.places (unclashing bs (one p) a g) in (
        record { binds = h.binds; well_formed = and_both (has_known_nonterminals (defined M) r) (has_fitting_names r) (pattern_known L ys p g.places h.asks.ends) f },
        (reading-makes ns Query 0 p (are-passed ns 4294967296 os (taken-written (one p) d) g.names g.places)).0,
      )
  taken-passed bs (several ds) a h g =
      let os = taken_occurrences (several ds) in
      let r = seq (argument_items ns ds) in
      let d = h.binds.readable in
      let f = fitting-items ns Query (sexps ds) (let l = d.nested in omega (arith, l)) d.spelled g.names g.places (unclashing bs (several ds) a g) in (
        record { binds = h.binds; well_formed = and_both (has_known_nonterminals (defined M) r) (has_fitting_names r) (items_known_to L ys (sexps ds) g.places h.asks.1) f },
        (items-make ns Query 0 (sexps ds) (are-passed ns 4294967296 os (taken-written (several ds) d) g.names g.places)).0,
      )
  taken-passed bs (each ds) a h g =
      let r = list_reading ns ds in
      let d = h.binds.readable in
      let f = fitting-each ns ds d g.names g.places (unclashing bs (each ds) a g) in (
        record { binds = h.binds; well_formed = and_both (have_known_nonterminals (defined M) (items_reading ns ds)) (has_fitting_names r) (each-known L ys ds h.asks g.places) f },
        each-uses ns ds d g.names g.places,
      )

  -- patterns that stand by themselves
  pub alone-good : (ps : List Sexp) → AloneHave (BindsWithin ys ns) ps → ArePassed S ns (map lone_pattern ps) → AloneHave (IsPattern M ns) ps
  alone-good [] h k = tt
  alone-good (p ∷ ps) h k =
      let a = pattern-first S ns [] (occurrences 0 p) (map lone_pattern ps) k in
      ((taken-passed [] (one p) alike-none h.0 a.0).0, alone-good ps h.1 a.1)

  -- ---- premises

  -- what a premise that passes has behind symbols that bind names: well-formed patterns, that it is valid, and these uses
  pub record IsGoodPremise (bs : List patterns.Bound) (q : Headed) : Type 0 where
    pub has : PremiseHas S (can_read S M ns) (Some q)
    pub valid : (us : List Use) → us ≡ map bound_use bs → is_valid_extra (callable S) M us (holds (premise_reading S ns (names_bound bs) q)) ≡ true
    pub makes : uses 0 (premise_reading S ns (names_bound bs) q).outputs ≡ map bound_use (bound_by_premise S ns (Some q))

  -- a premise that passes
  pub premise-good : (bs : List patterns.Bound) (d : Sexp) (q : Headed) → AreAlike bs → PremiseHas S (bound (BindsWithin ys ns)) (Some q) → ArePassed S ns (premise_stands S ns bs d q) → IsGoodPremise bs q
  premise-good bs d q alike h k =
      let o = mode_of S (text_of q.head) in
      let a = premise_arguments S q in
      let ds = q.arguments in
      let p = premise_reading S ns (names_bound bs) q in
      let F = has_metafunction S in
      let s = asked-first S ns q.head (misfits (is_misfit o ds) d q.head ++ arguments_stand ns bs (names_bound bs) a) k in
      let u = passed-both S ns (misfits (is_misfit o ds) d q.head) (arguments_stand ns bs (names_bound bs) a) s.1 in
      let m = mode-fits o ds s.0 (misfits-false S ns (is_misfit o ds) d q.head u.0) in
      let v = arguments-passed S ns bs bs a u.1 in
      let w = taken-passed bs (each (patterns_in a)) alike h.1.patterns v.0 in
      let ins : length (templates_in a) ≡ input_count m.mode =
      ap (λ (n : Option Mode). length (data_by (option_map (map not) (option_map (map not) n)) ds)) m.fits
      ∙ ap (λ (bs : List Bool). length (data_at bs ds)) (twice-not m.mode) ∙ inputs-counted m.mode ds m.long in
      let outs : length (patterns_in a) ≡ output_count m.mode =
      ap (λ (n : Option Mode). length (data_by (option_map (map not) n) ds)) m.fits ∙ outputs-counted m.mode ds m.long in
      let fit : fits_mode (Some m.mode) p ≡ true =
      and_both (nat_eq (length p.inputs) (input_count m.mode)) (are_single (output_count m.mode) (items_reading ns (patterns_in a)))
      (eq-eqb (length p.inputs) (input_count m.mode) (length-map (templates_in a) (template_reading S (names_bound bs)) ∙ ins))
      (ap (λ n. are_single n (items_reading ns (patterns_in a))) (sym outs) ∙ single-items ns (patterns_in a)) in
      record {
        has = (
          subst (λ (n : Option Mode). IsSome (option_map (map not) n)) (sym m.fits) refl,
          record { patterns = w.0; readable = h.1.readable },
        );
        valid = λ us e.
            and_both (fits_mode o p) (list_all (fits F (bound_by us) 0) p.inputs && is_well_formed_in M p.outputs)
            (ap (λ (n : Option Mode). fits_mode n p) m.is ∙ fit)
            (and_both (list_all (fits F (bound_by us) 0) p.inputs) (is_well_formed_in M p.outputs) (all-fit S ns bs us (templates_in a) e v.1) w.0.well_formed);
        makes = w.1 ∙ ap (map bound_use) (each-bound ns (patterns_in a));
      }

  -- ---- extras

  -- behind symbols that bind names, extras have well-formed patterns, are valid, and make these uses
  abbrev pub AreGood : ExtraPlace → List patterns.Bound → List Sexp → Type 0
  AreGood k bs ds =
      ExtrasHave S (can_read S M ns) k ds
      × (((us : List Use) → us ≡ map bound_use bs → are_valid_extras (callable S) M us (extras_reading k S ns bs ds) ≡ true)
      × (extras_uses (extras_reading k S ns bs ds) ≡ map bound_use (bound_by_extras k S ns ds)))

  -- so do they with a premise in front, if there is one
  abbrev AreGoodBehind : ExtraPlace → List patterns.Bound → Option Headed → List Sexp → Type 0
  AreGoodBehind k bs o ds =
      (PremiseHas S (can_read S M ns) o × ExtrasHave S (can_read S M ns) k ds)
      × (((us : List Use) → us ≡ map bound_use bs
      → are_valid_extras (callable S) M us (held_reading S ns (names_bound bs) o ++ extras_reading k S ns (bs ++ bound_by_premise S ns o) ds) ≡ true)
      × (extras_uses (held_reading S ns (names_bound bs) o ++ extras_reading k S ns (bs ++ bound_by_premise S ns o) ds)
      ≡ map bound_use (bound_by_premise S ns o ++ bound_by_extras k S ns ds)))

  premise-more : (k : ExtraPlace) (bs : List patterns.Bound) (d : Sexp) (o : Option Headed) (ds : List Sexp) → AreAlike bs → PremiseHas S (bound (BindsWithin ys ns)) o
      → ArePassed S ns (held_stands S ns bs d o) → AreGood k (bs ++ bound_by_premise S ns o) ds → AreGoodBehind k bs o ds
  premise-more k bs d None ds a h f g = ((tt, g.0), ((λ us e. g.1.0 us (e ∙ ap (map bound_use) (sym (append-nil bs)))), g.1.1))
  premise-more k bs d (Some q) ds a h f g =
      let p = premise_reading S ns (names_bound bs) q in
      let cs = bound_by_premise S ns (Some q) in
      let r = premise-good bs d q a h f in (
        (r.has, g.0),
        (
          (λ us e.
              and_both (is_valid_extra (callable S) M us (holds p)) (are_valid_extras (callable S) M (us ++ uses 0 p.outputs) (extras_reading k S ns (bs ++ cs) ds)) (r.valid us e)
              (g.1.0 (us ++ uses 0 p.outputs) (ap₂ (λ (vs ws : List Use). vs ++ ws) e r.makes ∙ sym (map-append bound_use bs cs)))),
          ap₂ (λ (vs ws : List Use). vs ++ ws) r.makes g.1.1 ∙ sym (map-append bound_use cs (bound_by_extras k S ns ds)),
        ),
      )

  -- so do they with names to be made in front, which are not bound before
  abbrev AreGoodMade : ExtraPlace → List patterns.Bound → List Sexp → List Sexp → Type 0
  AreGoodMade k bs made ds =
      ((us : List Use) → us ≡ map bound_use bs
      → are_valid_extras (callable S) M us (map (λ d. model.fresh (text_of d)) made ++ extras_reading k S ns (bs ++ map bound_freshly made) ds) ≡ true)
      × (extras_uses (map (λ d. model.fresh (text_of d)) made ++ extras_reading k S ns (bs ++ map bound_freshly made) ds)
      ≡ map bound_use (map bound_freshly made ++ bound_by_extras k S ns ds))

  fresh-more : (k : ExtraPlace) (bs : List patterns.Bound) (made ds : List Sexp) → ArePassed S ns (fresh_stands bs made)
      → AreGood k (bs ++ map bound_freshly made) ds → AreGoodMade k bs made ds
  fresh-more k bs [] ds f g = ((λ us e. g.1.0 us (e ∙ ap (map bound_use) (sym (append-nil bs)))), g.1.1)
  fresh-more k bs (d ∷ made) ds f g =
      let x = text_of d in
      let cs = bs ++ bound_freshly d ∷ [] in
      let rest : List patterns.Bound → List model.Extra =
      (λ es. map (λ d. model.fresh (text_of d)) made ++ extras_reading k S ns es ds) in
      let p = fresh-first S ns bs d (fresh_stands cs made) f in
      let same : cs ++ map bound_freshly made ≡ bs ++ map bound_freshly (d ∷ made) = append_assoc bs (bound_freshly d ∷ []) (map bound_freshly made) in
      let r = fresh-more k cs made ds p.1 (subst (λ (es : List patterns.Bound). AreGood k es ds) (sym same) g) in
      let u : name_use 0 x ≡ bound_use (bound_freshly d) = fresh-use d p.0.1 in (
        (λ us e.
            and_both (not (is_used us x)) (are_valid_extras (callable S) M (us ++ name_use 0 x ∷ []) (rest (bs ++ map bound_freshly (d ∷ made))))
            (ap (λ (vs : List Use). not (is_used vs x)) e ∙ ap not (used-bound d bs ∙ p.0.0))
            (ap (λ (es : List patterns.Bound). are_valid_extras (callable S) M (us ++ name_use 0 x ∷ []) (rest es)) (sym same)
            ∙ r.0 (us ++ name_use 0 x ∷ []) ((λ i. e i ++ u i ∷ []) ∙ sym (map-append bound_use bs (bound_freshly d ∷ []))))),
        (λ i. u i ∷ (ap (λ (es : List patterns.Bound). extras_uses (rest es)) (sym same) ∙ r.1) i),
      )

  -- and with one extra in front
  abbrev AreGoodWith : ExtraPlace → List patterns.Bound → ExtraForm → List Sexp → Type 0
  AreGoodWith k bs e ds =
      (ExtraHas S (can_read S M ns) e × ExtrasHave S (can_read S M ns) k ds)
      × (((us : List Use) → us ≡ map bound_use bs
      → are_valid_extras (callable S) M us (extra_reading S ns bs e ++ extras_reading k S ns (bs ++ bound_by_extra S ns e) ds) ≡ true)
      × (extras_uses (extra_reading S ns bs e ++ extras_reading k S ns (bs ++ bound_by_extra S ns e) ds)
      ≡ map bound_use (bound_by_extra S ns e ++ bound_by_extras k S ns ds)))

  one-more : (k : ExtraPlace) (bs : List patterns.Bound) (again : Bool) (d : Sexp) (e : ExtraForm) (ds : List Sexp) → AreAlike bs → ExtraHas S (bound (BindsWithin ys ns)) e
      → ArePassed S ns (extra_stands S ns bs again d e) → AreGood k (bs ++ bound_by_extra S ns e) ds → AreGoodWith k bs e ds
  one-more k bs again d (such_that p t) ds alike h f g =
      let F = has_metafunction S in
      let a = pattern-first S ns bs (occurrences 0 p) (template (names_bound bs) t ∷ []) f in
      let b = template-first S ns bs t [] a.1 in
      let q = taken-passed bs (one p) alike h.0 a.0 in
      let r = reading ns Query p in (
        ((q.0, h.1), g.0),
        (
          (λ us e.
              and_both (is_well_formed_in M r && fits F (bound_by us) 0 (template_reading S (names_bound bs) t))
              (are_valid_extras (callable S) M (us ++ uses 0 r) (extras_reading k S ns (bs ++ bound_by_taken ns (one p)) ds))
              (and_both (is_well_formed_in M r) (fits F (bound_by us) 0 (template_reading S (names_bound bs) t)) q.0.well_formed (fits-uses S ns bs us t e b.0))
              (g.1.0 (us ++ uses 0 r) (ap₂ (λ (vs ws : List Use). vs ++ ws) e q.1 ∙ sym (map-append bound_use bs (bound_by_taken ns (one p)))))),
          ap₂ (λ (vs ws : List Use). vs ++ ws) q.1 g.1.1 ∙ sym (map-append bound_use (bound_by_taken ns (one p)) (bound_by_extras k S ns ds)),
        ),
      )
  one-more k bs again d (provided t) ds alike h f g =
      let F = has_metafunction S in
      let b = host-passed S ns bs t f in (
        (h, g.0),
        (
          (λ us e.
              and_both (fits_in F (bound_by us) 0 (host_reading S (names_bound bs) t)) (are_valid_extras (callable S) M (us ++ []) (extras_reading k S ns (bs ++ []) ds))
              (host-uses S ns bs us t e b) (g.1.0 (us ++ []) (append-nil us ∙ e ∙ ap (map bound_use) (sym (append-nil bs))))),
          g.1.1,
        ),
      )
  one-more k bs again d (confirmed t) ds alike h f g =
      let F = has_metafunction S in
      let b = template-first S ns bs t [] f in (
        (h, g.0),
        (
          (λ us e.
              and_both (fits F (bound_by us) 0 (template_reading S (names_bound bs) t)) (are_valid_extras (callable S) M (us ++ []) (extras_reading k S ns (bs ++ []) ds))
              (fits-uses S ns bs us t e b.0) (g.1.0 (us ++ []) (append-nil us ∙ e ∙ ap (map bound_use) (sym (append-nil bs))))),
          g.1.1,
        ),
      )
  one-more k bs again d (holding c) ds alike h f g = premise-more k bs c (headed c) ds alike h f g
  one-more k bs again d (freshly made) ds alike h f g = ((h, g.0), fresh-more k bs made ds f g)
  one-more k bs again d name ds alike h f g = ((tt, g.0), ((λ us e. g.1.0 us (e ∙ ap (map bound_use) (sym (append-nil bs)))), g.1.1))
  one-more k bs again d no_extra ds alike h f g = ((tt, g.0), ((λ us e. g.1.0 us (e ∙ ap (map bound_use) (sym (append-nil bs)))), g.1.1))

  -- behind symbols that are alike, those of a premise that passes are
  alike-premise : (bs : List patterns.Bound) (d : Sexp) (o : Option Headed) → AreAlike bs → ArePassed S ns (held_stands S ns bs d o) → AreAlike (bs ++ bound_by_premise S ns o)
  alike-premise bs d None a f = subst AreAlike (sym (append-nil bs)) a
  alike-premise bs d (Some q) a f =
      let o = mode_of S (text_of q.head) in
      let b = premise_arguments S q in
      let s = asked-first S ns q.head (misfits (is_misfit o q.arguments) d q.head ++ arguments_stand ns bs (names_bound bs) b) f in
      let u = passed-both S ns (misfits (is_misfit o q.arguments) d q.head) (arguments_stand ns bs (names_bound bs) b) s.1 in
      let v = arguments-passed S ns bs bs b u.1 in
      subst (λ (cs : List patterns.Bound). AreAlike (bs ++ cs)) (each-bound ns (patterns_in b)) (alike-taken bs (each (patterns_in b)) a v.0)

  -- so are names to be made
  alike-fresh : (bs : List patterns.Bound) (ds : List Sexp) → AreAlike bs → ArePassed S ns (fresh_stands bs ds) → AreAlike (bs ++ map bound_freshly ds)
  alike-fresh bs [] a f = subst AreAlike (sym (append-nil bs)) a
  alike-fresh bs (d ∷ ds) a f =
      let cs = bs ++ bound_freshly d ∷ [] in
      let p = fresh-first S ns bs d (fresh_stands cs ds) f in
      subst AreAlike (append_assoc bs (bound_freshly d ∷ []) (map bound_freshly ds)) (alike-fresh cs ds (alike-made bs d a p.0.0) p.1)

  -- and those of an extra
  alike-extra : (bs : List patterns.Bound) (again : Bool) (d : Sexp) (e : ExtraForm) → AreAlike bs → ArePassed S ns (extra_stands S ns bs again d e)
      → AreAlike (bs ++ bound_by_extra S ns e)
  alike-extra bs again d (such_that p t) a f = alike-taken bs (one p) a (pattern-first S ns bs (occurrences 0 p) (template (names_bound bs) t ∷ []) f).0
  alike-extra bs again d (provided t) a f = subst AreAlike (sym (append-nil bs)) a
  alike-extra bs again d (confirmed t) a f = subst AreAlike (sym (append-nil bs)) a
  alike-extra bs again d (holding c) a f = alike-premise bs c (headed c) a f
  alike-extra bs again d (freshly ds) a f = alike-fresh bs ds a f
  alike-extra bs again d name a f = subst AreAlike (sym (append-nil bs)) a
  alike-extra bs again d no_extra a f = subst AreAlike (sym (append-nil bs)) a

  pub extras-good : (k : ExtraPlace) (bs : List patterns.Bound) (again : Bool) (ds : List Sexp) → AreAlike bs → ExtrasHave S (bound (BindsWithin ys ns)) k ds
      → ArePassed S ns (extras_stand k S ns bs again ds) → AreGood k bs ds
  extras-good k bs again [] a h f = (tt, ((λ us e. refl), refl))
  extras-good k bs again (d ∷ ds) a h f =
      let e = form_at k d in
      let p = passed-both S ns (extra_stands S ns bs again d e) (extras_stand k S ns (bs ++ bound_by_extra S ns e) (is_named again e) ds) f in
      one-more k bs again d e ds a h.0 p.0 (extras-good k (bs ++ bound_by_extra S ns e) (is_named again e) ds (alike-extra bs again d e a p.0) h.1 p.1)
