-- What an accepted form of a file asks is valid.
use Rattle.std.proofs.Common.{◌≡◌, ◌∙◌, ◌++◌, ℕ, Bool, true, false, List, [], ◌∷◌, Option, Some, None, map, refl, sym, ap, subst, if◌then◌else◌}
use Rattle.std.specs.List.{list_all}
use Rattle.std.specs.Prelude.{◌&&◌, nat_lt, is_some, option_map}
use Rattle.rdx_sexp.specs.Sexp.{Sexp}
use Rattle.rdx_lang.specs.Depths.{uses}
use Rattle.rdx_lang.specs.Fitting.{fits}
use Rattle.rdx_lang.specs.Modes.{Callable, fits_mode}
use Rattle.rdx_lang.specs.Patterns.{Pattern, Language}
use Rattle.rdx_lang.specs.Programs.{Mode, Premise, holds as held, language_named, relation_named}
use Rattle.rdx_lang.specs.Scopes.{bound_by}
use Rattle.rdx_lang.specs.Templates.{Host, Template}
use Rattle.rdx_lang.specs.Valid.{is_valid_extra}
use Rattle.rdx_patterns.proofs.Booleans.{and_both, and_true}
use Rattle.rdx_patterns.proofs.DepthsRead.{reading-makes}
use Rattle.rdx_patterns.proofs.Firsts.{none_both, none_or, nothing}
use Rattle.rdx_patterns.proofs.KnownReadings.{pattern_well_formed}
use Rattle.rdx_patterns.proofs.PassedPatterns.{are-passed, pattern-written}
use Rattle.rdx_patterns.specs.Ends.{ends_in, crossed_for}
use Rattle.rdx_patterns.specs.Among.{AreAmong}
use Rattle.rdx_patterns.specs.Nonterminals.{names_of}
use Rattle.rdx_patterns.specs.Occurrences.{occurrences}
use Rattle.rdx_patterns.specs.Parts.{parts, text_of, is_symbol}
use Rattle.rdx_patterns.specs.PatternChecks.{bad_binders, bad_occurrences}
use Rattle.rdx_patterns.specs.PatternRefusal.{keyword_at, bad_binder_at, bad_occurrence_at, depth_clash_at, escape_at, pattern_refusal}
use Rattle.rdx_patterns.specs.Readable.{IsReadable}
use Rattle.rdx_patterns.specs.Reading.{reading}
use Rattle.rdx_patterns.specs.Refusal.{unnamed, named, or_else}
use Rattle.rdx_patterns.specs.declared.patterns.position.Position.TheVariants as position
use Rattle.rdx_patterns.specs.declared.shape.fault.DefKind.TheVariants.{Shape, BadName, BadPattern, EllipsisDepth, EllipsisVariable}
use Rattle.rdx_templates.specs.Earliest.{start, earliest}
use Rattle.rdx_parts.specs.ExtraReading.{premise_reading}
use Rattle.rdx_parts.specs.Headed.{Headed, headed}
use Rattle.rdx_parts.specs.PartsHave.{IsReadableIn}
use Rattle.rdx_defs.specs.JudgementRefusal.{lone_premise_stands, premise_refusal}
use Rattle.rdx_templates.specs.Scope.{mode_of, callable, has_metafunction}
use Rattle.rdx_templates.specs.TemplateChecks.{bad_parts, shallow_parts, undriven_parts}
use Rattle.rdx_templates.specs.TemplateOccurrences.{host_parts}
use Rattle.rdx_templates.specs.TemplateReading.{template_reading, host_reading}
use Rattle.rdx_templates.specs.TemplateShapes.{host_shapes}
use Rattle.rdx_templates.proofs.EarliestPlaces.{earliest-none}
use Rattle.rdx_parts.specs.StandChecks.{shape_at}
use Rattle.rdx_parts.specs.StandRefusal.{stands_refusal}
use Rattle.rdx_parts.specs.Stands.{names_bound, bound_by_premise, bound_in}
use Rattle.rdx_defs.proofs.PassedForms.{question-valid}
use Rattle.rdx_relations.proofs.PassedStands.{host-uses}
use Rattle.rdx_forms.specs.AlphaForms.{AlikeParts, PutParts, alike_parts, put_parts, bound_refusal_over, alike_refusal, put_refusal}
use Rattle.rdx_forms.specs.OneForm.{Asks}
use Rattle.rdx_forms.specs.FormKinds as kind
use Rattle.rdx_forms.specs.FormKinds.{FormKind, defines, asks, passes, form_kind}
use Rattle.rdx_forms.specs.Forms.{refusal_by_kind, query_by_kind}
use Rattle.rdx_forms.specs.GenerateForms.{GenerateParts, generate_parts, check_parts, names_over, pattern_stands, bound_over, host_stands, size_faults, numbers_at, generate_options, check_options, generate_shape_at, check_shape_at, check_depth_at, check_undriven_at, generate_refusal, check_refusal, usual_attempts, usual_seed, generate_over, check_over}
use Rattle.rdx_forms.specs.HoldsForms.{HoldsParts, holds_among, holds_parts, lone_among, lone_parts, asked_language, language_or_empty, asked_names, unfound, unfound_for, asked_unknown_at, holds_refusal, asked_premise, holds_over, holds_by, holds_test_by}
use Rattle.rdx_forms.specs.HostForms.{parts_of_host, host_of_datum, host_shape_at, bad_host_at, undriven_host_at, host_escape_at}
use Rattle.rdx_forms.specs.Fitting.{AreCrossed}
use Rattle.rdx_forms.specs.Known.{Known, judgement_language}
use Rattle.rdx_forms.specs.LanguageForms.{named_base, unknown_at}
use Rattle.rdx_forms.specs.MatchForms.{QueryParts, query_parts, checked_parts, query_shape_at, bad_query_at, query_refusal, query_over}
use Rattle.rdx_answer.specs.Bound.{forms_named}
use Rattle.rdx_answer.specs.Queries.{Query, matches, whether, splits, value, reducts, tagged, stepper, alike, substituted, test_equal, test_step, test_run, test_match, test_holds, test_results}
use Rattle.rdx_forms.specs.Options.{attempts_option, seed_option, number, number_or, option_faults, option_number}
use Rattle.rdx_forms.specs.StepForms.{StepParts, step_parts, checked_steps, steps_shape_at, unknown_relation_at, unknown_relation_by, steps_refusal}
use Rattle.rdx_forms.specs.TestForms.{EqualParts, equal_parts, LeadingParts, leading_parts, hosts_shape_at, bad_hosts_at, undriven_hosts_at, unknown_tested_at, test_refusal_over, equal_refusal, leading_refusal}
use Rattle.rdx_query.specs.ValidQueries.{Askable, is_valid_host, is_valid_pattern, is_valid_premise, fits_behind, fits_where, is_valid_query}
use Rattle.rdx_query.proofs.AcceptedForms.{image-of}
use Rattle.rdx_forms.proofs.ClauseStands.{of_lone_premise}
use Rattle.rdx_forms.proofs.FormParts.{query-items, GenerateItems, generate-items, check-items, parts-readable}
use Rattle.rdx_forms.proofs.FoundByName.{relation-found}
use Rattle.rdx_forms.proofs.GainingNothing.{parts-ask}
use Rattle.rdx_forms.proofs.HostChecks.{no_shallow}
use Rattle.rdx_forms.proofs.StandNumbers.{nameless-refusal}
use Rattle.rdx_query.proofs.OptionNumbers.{attempts-within, seed-small, size-small}
use Rattle.rdx_query.proofs.ValidDefinitions.{read-over, read-in}

-- ---- what may be asked where a form stands

-- the language of this name, where there is one
abbrev pub named_language : Known → Option (List ℕ) → Option Language
named_language K None = None
named_language K (Some l) = language_named K.program l

-- judgements have the languages that their forms name in the whole file
abbrev pub askable : Known → Askable
askable K = record {
  callable = callable K.scope;
  languages = language_named K.program;
  judged = λ x. named_language K (judgement_language K x);
  relations = λ x. is_some (relation_named K.program x);
}

-- the template behind a premise, which sees the names of this
abbrev behind_template : Known → Headed → Sexp → Template
behind_template K q = template_reading K.scope (names_bound (bound_by_premise K.scope (asked_names K (Some q)) (Some q)))

-- ---- host expressions

-- one that no check refuses fits
host-valid : (K : Known) (d : Sexp) → bad_host_at (parts_of_host K d) ≡ None → undriven_host_at K (parts_of_host K d) ≡ None
    → is_valid_host (callable K.scope) (host_of_datum K d) ≡ true
host-valid K d e f =
    let ps = host_parts K.scope [] 0 d in
    host-uses K.scope [] [] [] d refl
    (record {
      places = earliest-none start (unnamed BadPattern) (bad_parts ps) e;
      depths = no_shallow ps;
      driving = earliest-none start (unnamed EllipsisVariable) (undriven_parts K.scope [] ps) f;
    })

-- several
hosts-valid : (K : Known) (hs : List Sexp) → bad_hosts_at K hs ≡ None → undriven_hosts_at K hs ≡ None
    → list_all (is_valid_host (callable K.scope)) (map (host_of_datum K) hs) ≡ true
hosts-valid K [] e f = refl
hosts-valid K (h ∷ hs) e f =
    let a = none_or (bad_host_at (parts_of_host K h)) (bad_hosts_at K hs) e in
    let b = none_or (undriven_host_at K (parts_of_host K h)) (undriven_hosts_at K hs) f in
    and_both (is_valid_host (callable K.scope) (host_of_datum K h)) (list_all (is_valid_host (callable K.scope)) (map (host_of_datum K) hs)) (host-valid K h a.0 b.0)
    (hosts-valid K hs a.1 b.1)

-- ---- relations

-- a relation that is not unknown is there
relation-there : (K : Known) (r : Sexp) → unknown_relation_by (relation_named K.program (text_of r)) r ≡ None
    → is_some (relation_named K.program (text_of r)) ≡ true
relation-there K r e = ap is_some (relation-found (relation_named K.program (text_of r)) r e).is

-- ---- a form

module _ (K : Known) (crossed : AreCrossed K.program.languages K.ends) (paired : (x : List ℕ) → judgement_language K x ≡ None → mode_of K.scope x ≡ None)
    (d : Sexp) (readable : IsReadable d) (asked : AreAmong (ends_in d) K.ends) where
  abbrev A : Askable
  A = askable K

  -- and called
  abbrev C : Callable
  C = callable K.scope

  -- ---- patterns

  -- a datum of the form can be read, and asks for no more than the file does
  record IsWithin (p : Sexp) : Type 0 where
    clear : IsReadable p
    among : AreAmong (ends_in p) K.ends

  -- its third does
  third-within : (h l p : Sexp) (ds : List Sexp) → parts d ≡ Some (h ∷ l ∷ p ∷ ds) → IsWithin p
  third-within h l p ds e =
      let items : List Sexp = h ∷ l ∷ p ∷ ds in
      record {
        clear = (parts-readable d items e readable).1.1.0;
        among = (parts-ask K.ends d items e asked).1.1.0;
      }

  -- what no check refuses in a pattern of the language of this name
  record PatternPasses (l p : Sexp) : Type 0 where
    within : IsWithin p
    known : unknown_at K (Some l) ≡ None
    keys : keyword_at (occurrences 0 p) ≡ None
    binders : bad_binder_at (occurrences 0 p) ≡ None
    places : bad_occurrence_at (names_of (named_base K (Some l))) (occurrences 0 p) ≡ None
    depths : depth_clash_at (names_of (named_base K (Some l))) (occurrences 0 p) ≡ None
    escapes : escape_at (occurrences 0 p) ≡ None

  -- so it is well formed
  pattern-valid : (l p : Sexp) → PatternPasses l p
      → is_valid_pattern (language_named K.program (text_of l)) (reading (names_of (named_base K (Some l))) position.Query p) ≡ true
  pattern-valid l p z =
      let B = named_base K (Some l) in
      let passed : pattern_refusal (names_of B) p ≡ None =
      λ y. or_else (z.keys y) (or_else (z.binders y) (or_else (z.places y) (or_else (z.depths y) (or_else (z.escapes y) None)))) in
      let over = read-over K crossed l (ends_in p) z.known z.within.among in
      ap (λ (o : Option Language). is_valid_pattern o (reading (names_of B) position.Query p)) over
      ∙ pattern_well_formed B (ends_in p) p z.within.clear (λ y j. j) passed

  -- the parts of a query are checked by its pattern and its host expression
  shape-by : (b : Bool) (q : QueryParts) → query_shape_at d (if b then Some q else None) ≡ None → keyword_at (occurrences 0 q.pattern) ≡ None
  shape-by true q e = (none_or (keyword_at (occurrences 0 q.pattern)) (host_shape_at q.host) e).0
  shape-by false q e = absurd cc

  -- what a query matches is well formed, and its host expression fits
  query-valid : (q : QueryParts) → query_parts d ≡ Some q → query_refusal K d (Some q) ≡ None
      → (is_valid_pattern (language_named K.program (text_of q.language)) (reading (names_of (named_base K (Some q.language))) position.Query q.pattern)
      && is_valid_host C (host_of_datum K q.host)) ≡ true
  query-valid q f r =
      let ns = names_of (named_base K (Some q.language)) in
      let os = occurrences 0 q.pattern in
      let ps = parts_of_host K q.host in
      let p = reading ns position.Query q.pattern in
      let b = none_or (query_shape_at d (checked_parts (Some q))) _ r in
      let c = none_or (unknown_at K (Some q.language)) _ b.1 in
      let e = none_or (bad_binder_at os) _ c.1 in
      let g = none_or (bad_query_at ns os ps) _ e.1 in
      let h = none_or (depth_clash_at ns os) _ g.1 in
      let i = none_or (undriven_host_at K ps) _ h.1 in
      let escapes = none_or (escape_at os) (host_escape_at ps) (none_or _ None i.1).0 in
      let bad = none_or (bad_occurrence_at ns os) (bad_host_at ps) g.0 in
      let items = query-items d q f in
      let z : PatternPasses q.language q.pattern =
      record {
        within = third-within items.head q.language q.pattern (q.host ∷ []) items.are;
        known = c.0;
        keys = shape-by (is_symbol q.language) q b.0;
        binders = e.0;
        places = bad.0;
        depths = h.0;
        escapes = escapes.0;
      }
      in
      and_both (is_valid_pattern (language_named K.program (text_of q.language)) p) (is_valid_host C (host_of_datum K q.host))
      (pattern-valid q.language q.pattern z) (host-valid K q.host bad.1 i.0)

  -- whatever kind of query it is
  match-valid : (make : List ℕ → Pattern → Host → Query)
      → ((x : List ℕ) (p : Pattern) (h : Host) → is_valid_query A (make x p h) ≡ (is_valid_pattern (language_named K.program x) p && is_valid_host C h))
      → (o : Option QueryParts) (q : Query) → query_parts d ≡ o → query_refusal K d o ≡ None → option_map (query_over K make) o ≡ Some q
      → is_valid_query A q ≡ true
  match-valid make same None q e r m = absurd cc
  match-valid make same (Some c) q e r m =
      let f : query_over K make c ≡ q = cc in
      subst (λ (x : Query). is_valid_query A x ≡ true) f
      (same (text_of c.language) (reading (names_of (named_base K (Some c.language))) position.Query c.pattern) (host_of_datum K c.host) ∙ query-valid c e r)

  -- ---- generated terms

  -- the pattern does not go beyond the form
  pattern-within : (q : GenerateParts) → GenerateItems (parts d) q → IsWithin q.pattern
  pattern-within q items = third-within items.head q.language q.pattern (q.third ∷ q.options) items.are

  -- a host expression fits where the names of the pattern are bound
  bound-valid : (q : GenerateParts) → PatternPasses q.language q.pattern → bad_host_at (host_stands K (Some q)) ≡ None
      → check_depth_at (names_over K (Some q)) (bound_over K (Some q)) (pattern_stands (Some q)) (host_stands K (Some q)) ≡ None
      → check_undriven_at K (bound_over K (Some q)) (host_stands K (Some q)) ≡ None
      → fits_where C (reading (names_over K (Some q)) position.Query q.pattern) (host_reading K.scope (bound_over K (Some q)) q.third) ≡ true
  bound-valid q z e f g =
      let ns = names_over K (Some q) in
      let os = occurrences 0 q.pattern in
      let bs = bound_in ns q.pattern in
      let p = reading ns position.Query q.pattern in
      let ps = host_parts K.scope (names_bound bs) 0 q.third in
      let written = pattern-written q.pattern z.within.clear.nested z.within.clear.spelled in
      let binders = nothing (named BadName) (bad_binders os) z.binders in
      let places = nothing (unnamed BadPattern) (bad_occurrences ns os) z.places in
      let makes = (reading-makes ns position.Query 0 q.pattern (are-passed ns 4294967296 os written binders places)).0 in
      let shallow = (none_or (depth_clash_at ns os) (option_map (named EllipsisDepth) (earliest start (shallow_parts (names_bound bs) ps))) f).1 in
      host-uses K.scope ns bs (uses 0 p) q.third makes
      (record {
        places = earliest-none start (unnamed BadPattern) (bad_parts ps) e;
        depths = earliest-none start (named EllipsisDepth) (shallow_parts (names_bound bs) ps) shallow;
        driving = earliest-none start (unnamed EllipsisVariable) (undriven_parts K.scope (names_bound bs) ps) g;
      })

  -- a form that generates a term
  generate-valid : (o : Option GenerateParts) (q : Query) → generate_parts d ≡ o → generate_refusal K d o ≡ None
      → option_map (generate_over K) o ≡ Some q → is_valid_query A q ≡ true
  generate-valid None q e r m = absurd cc
  generate-valid (Some c) q e r m =
      let f : generate_over K c ≡ q = cc in
      let ns = names_over K (Some c) in
      let os = occurrences 0 c.pattern in
      let faults = size_faults c.third ++ option_faults generate_options c.options in
      let b = none_or (generate_shape_at d (Some c)) _ r in
      let s = none_or (keyword_at os) (numbers_at faults) b.0 in
      let k = none_or (unknown_at K (Some c.language)) _ b.1 in
      let l = none_or (bad_binder_at os) _ k.1 in
      let g = none_or (bad_occurrence_at ns os) _ l.1 in
      let h = none_or (depth_clash_at ns os) _ g.1 in
      let i = none_or (escape_at os) None h.1 in
      let numbers = none_both (size_faults c.third) (option_faults generate_options c.options) (earliest-none start (unnamed Shape) faults s.1) in
      let z : PatternPasses c.language c.pattern =
      record {
        within = pattern-within c (generate-items d c e);
        known = k.0;
        keys = s.0;
        binders = l.0;
        places = g.0;
        depths = h.0;
        escapes = i.0;
      }
      in
      let p = reading ns position.Query c.pattern in
      let size = number_or 0 (number c.third) in
      let seed = number_or usual_seed (option_number seed_option c.options) in
      subst (λ (x : Query). is_valid_query A x ≡ true) f
      (and_both (is_valid_pattern (language_named K.program (text_of c.language)) p) (nat_lt size 31 && nat_lt seed 18_446_744_073_709_551_616)
      (pattern-valid c.language c.pattern z)
      (and_both (nat_lt size 31) (nat_lt seed 18_446_744_073_709_551_616) (size-small c.third numbers.0) (seed-small c.options)))

  -- one that checks a property
  check-valid : (o : Option GenerateParts) (q : Query) → check_parts d ≡ o → check_refusal K d o ≡ None
      → option_map (check_over K) o ≡ Some q → is_valid_query A q ≡ true
  check-valid None q e r m = absurd cc
  check-valid (Some c) q e r m =
      let f : check_over K c ≡ q = cc in
      let ns = names_over K (Some c) in
      let bs = bound_over K (Some c) in
      let os = occurrences 0 c.pattern in
      let ps = host_stands K (Some c) in
      let faults = option_faults check_options c.options in
      let b = none_or (check_shape_at d (Some c)) _ r in
      let s = none_or (or_else (keyword_at os) (host_shape_at c.third)) (numbers_at faults) b.0 in
      let k = none_or (unknown_at K (Some c.language)) _ b.1 in
      let l = none_or (bad_binder_at os) _ k.1 in
      let g = none_or (or_else (bad_occurrence_at ns os) (bad_host_at ps)) _ l.1 in
      let h = none_or (check_depth_at ns bs os ps) _ g.1 in
      let j = none_or (check_undriven_at K bs ps) _ h.1 in
      let i = none_or (or_else (escape_at os) (host_escape_at ps)) None j.1 in
      let places = none_or (bad_occurrence_at ns os) (bad_host_at ps) g.0 in
      let depths = none_or (depth_clash_at ns os) _ h.0 in
      let z : PatternPasses c.language c.pattern =
      record {
        within = pattern-within c (check-items d c e);
        known = k.0;
        keys = (none_or (keyword_at os) (host_shape_at c.third) s.0).0;
        binders = l.0;
        places = places.0;
        depths = depths.0;
        escapes = (none_or (escape_at os) (host_escape_at ps) i.0).0;
      }
      in
      let p = reading ns position.Query c.pattern in
      let x = host_reading K.scope bs c.third in
      let attempts = number_or usual_attempts (option_number attempts_option c.options) in
      let seed = number_or usual_seed (option_number seed_option c.options) in
      let many = and_true (nat_lt 0 attempts) (nat_lt attempts 100_001) (attempts-within c.options (earliest-none start (unnamed Shape) faults s.1)) in
      let small = nat_lt seed 18_446_744_073_709_551_616 in
      subst (λ (x : Query). is_valid_query A x ≡ true) f
      (and_both (is_valid_pattern (language_named K.program (text_of c.language)) p)
      (fits_where C p x && (nat_lt 0 attempts && (nat_lt attempts 100_001 && small)))
      (pattern-valid c.language c.pattern z)
      (and_both (fits_where C p x) (nat_lt 0 attempts && (nat_lt attempts 100_001 && small)) (bound-valid c z places.1 h.0 j.0)
      (and_both (nat_lt 0 attempts) (nat_lt attempts 100_001 && small) many.0 (and_both (nat_lt attempts 100_001) small many.1 (seed-small c.options)))))

  -- ---- premises

  -- the language of a premise that is not refused
  asked-over : (q : Headed) (o : Option (List ℕ)) (es : List (List ℕ)) → judgement_language K (text_of q.head) ≡ o
      → asked_unknown_at K (Some q) ≡ None → AreAmong es K.ends
      → (mode_of K.scope (text_of q.head) ≡ None → ⊥) → named_language K o ≡ Some (crossed_for es (language_or_empty K o))
  asked-over q None es e u a m = absurd (m (paired (text_of q.head) e))
  asked-over q (Some l) es e u a m =
      read-in K crossed l es (by_language (language_named K.program l) (subst (λ (o : Option (List ℕ)). unfound_for K q.head o ≡ None) e u)) a
    where
      by_language : (o : Option Language) → unfound o q.head l ≡ None → is_some o ≡ true
      by_language None f = absurd cc
      by_language (Some L) f = refl

  -- a premise fits no mode that is not there
  no-mode : (L : Language) (q : Premise) → mode_of K.scope q.judgement ≡ None → is_valid_extra C L [] (held q) ≡ true → ⊥
  no-mode L q e v =
      let f = (and_true (fits_mode (mode_of K.scope q.judgement) q) _ v).0 in
      let g : fits_mode None q ≡ true = ap (λ (o : Option Mode). fits_mode o q) (sym e) ∙ f in
      absurd cc

  -- the premise is valid, and the template behind it fits
  record IsValidHeld (h : HoldsParts) (q : Headed) : Type 0 where
    premise : is_valid_premise C (A.judged (text_of q.head)) (asked_premise K q) ≡ true
    result : fits_behind C (asked_premise K q) (option_map (behind_template K q) h.result) ≡ true

  -- both can be read, and ask for no more than the file does
  record HoldsWithin (h : HoldsParts) : Type 0 where
    premise : IsReadable h.premise
    result : IsReadableIn h.result
    asks : AreAmong (ends_in h.premise) K.ends

  -- so they are, where no check refuses the form
  held-valid : (h : HoldsParts) (q : Headed) → HoldsWithin h → headed h.premise ≡ Some q → holds_refusal K d (Some h) ≡ None → IsValidHeld h q
  held-valid h q z e r =
      let S = K.scope in
      let ns = asked_names K (headed h.premise) in
      let ss = lone_premise_stands S ns h.premise h.result in
      let b = none_or (shape_at ss) _ r in
      let c = none_or (asked_unknown_at K (headed h.premise)) _ b.1 in
      let stands : stands_refusal S ns ss ≡ None = nameless-refusal S ns ss (of_lone_premise S ns h.premise h.result) ∙ (λ i. or_else (b.0 i) (c.1 i)) in
      let l = asked_language K (Some q) in
      let B = language_or_empty K l in
      let es = ends_in h.premise in
      let passed : premise_refusal S (names_of B) h.premise h.result ≡ None =
      ap (λ (o : Option Headed). premise_refusal S (asked_names K o) h.premise h.result) (sym e) ∙ stands in
      let v = question-valid S B h.premise h.result z.premise z.result passed in
      let same : v.form ≡ q = some-same v.form q (sym v.is_form ∙ e) in
      let p = asked_premise K q in
      let M = crossed_for es B in
      let valid : is_valid_extra C M [] (held p) ≡ true = subst (λ (g : Headed). is_valid_extra C M [] (held (premise_reading S (names_of B) [] g)) ≡ true) same v.valid in
      let over = asked-over q l es refl (ap (asked_unknown_at K) (sym e) ∙ c.0) z.asks (λ n. no-mode M p n valid) in
      record {
        premise = ap (λ (o : Option Language). is_valid_premise C o p) over ∙ valid;
        result = by_result h.result refl
            (λ x f.
            subst
            (λ (g : Headed). fits (has_metafunction S) (bound_by (uses 0 (premise_reading S (names_of B) [] g).outputs)) 0
            (template_reading S (names_bound (bound_by_premise S (names_of B) (Some g))) x) ≡ true)
            same (v.result x f));
      }
    where
      some-same : (f g : Headed) → (let o : Option Headed = Some f in o) ≡ Some g → f ≡ g
      some-same f g e = cc

      by_result : (o : Option Sexp) → h.result ≡ o
          → ((x : Sexp) → h.result ≡ Some x
          → fits (has_metafunction K.scope) (bound_by (uses 0 (asked_premise K q).outputs)) 0 (behind_template K q x) ≡ true)
          → fits_behind C (asked_premise K q) (option_map (behind_template K q) o) ≡ true
      by_result None f g = refl
      by_result (Some x) f g = g x f

  -- the parts of such forms
  abbrev HoldsWithinIn : Option HoldsParts → Type 0
  HoldsWithinIn None = Unit {0}
  HoldsWithinIn (Some h) = HoldsWithin h

  -- by the items of the form
  holds-within : (o : Option (List Sexp)) → parts d ≡ o → HoldsWithinIn (holds_among o)
  holds-within None e = tt
  holds-within (Some []) e = tt
  holds-within (Some (h ∷ [])) e = tt
  holds-within (Some (h ∷ p ∷ [])) e =
      let z = parts-readable d (h ∷ p ∷ []) e readable in
      let a = parts-ask K.ends d (h ∷ p ∷ []) e asked in
      record { premise = z.1.0; result = tt; asks = a.1.0 }
  holds-within (Some (h ∷ p ∷ t ∷ [])) e =
      let z = parts-readable d (h ∷ p ∷ t ∷ []) e readable in
      let a = parts-ask K.ends d (h ∷ p ∷ t ∷ []) e asked in
      record { premise = z.1.0; result = z.1.1.0; asks = a.1.0 }
  holds-within (Some (h ∷ p ∷ t ∷ x ∷ xs)) e = tt

  -- of a test
  lone-within : (o : Option (List Sexp)) → parts d ≡ o → HoldsWithinIn (lone_among o)
  lone-within None e = tt
  lone-within (Some []) e = tt
  lone-within (Some (h ∷ [])) e = tt
  lone-within (Some (h ∷ p ∷ [])) e =
      let z = parts-readable d (h ∷ p ∷ []) e readable in
      let a = parts-ask K.ends d (h ∷ p ∷ []) e asked in
      record { premise = z.1.0; result = tt; asks = a.1.0 }
  lone-within (Some (h ∷ p ∷ t ∷ xs)) e = tt

  -- what asks whether a premise is met, or what a template makes of its bindings
  holds-valid : (o : Option HoldsParts) (q : Query) → HoldsWithinIn o → holds_refusal K d o ≡ None → holds_by K o ≡ Some q → is_valid_query A q ≡ true
  holds-valid None q z r m = absurd cc
  holds-valid (Some h) q z r m =
      let i = image-of (holds_over K h.result) (headed h.premise) q m in
      let v = held-valid h i.value z i.is r in
      let p = asked_premise K i.value in
      let t = option_map (behind_template K i.value) h.result in
      subst (λ (x : Query). is_valid_query A x ≡ true) i.gives (and_both (is_valid_premise C (A.judged p.judgement) p) (fits_behind C p t) v.premise v.result)

  -- and a test of one
  holds_test-valid : (o : Option HoldsParts) (q : Query) → HoldsWithinIn o → holds_refusal K d o ≡ None → holds_test_by K o ≡ Some q
      → is_valid_query A q ≡ true
  holds_test-valid None q z r m = absurd cc
  holds_test-valid (Some h) q z r m =
      let i = image-of (λ g. test_holds (asked_premise K g)) (headed h.premise) q m in
      subst (λ (x : Query). is_valid_query A x ≡ true) i.gives (held-valid h i.value z i.is r).premise

  -- ---- steps

  -- what asks for the steps of a relation
  steps-valid : (make : List ℕ → Host → Query)
      → ((x : List ℕ) (h : Host) → is_valid_query A (make x h) ≡ (A.relations x && is_valid_host C h))
      → (o : Option StepParts) (q : Query) → steps_refusal K d o ≡ None
      → option_map (λ (p : StepParts). make (text_of p.relation) (host_of_datum K p.host)) o ≡ Some q
      → is_valid_query A q ≡ true
  steps-valid make same None q r m = absurd cc
  steps-valid make same (Some p) q r m =
      let f : make (text_of p.relation) (host_of_datum K p.host) ≡ q = cc in
      let ps = parts_of_host K p.host in
      let b = none_or (steps_shape_at d (checked_steps (Some p))) _ r in
      let c = none_or (bad_host_at ps) _ b.1 in
      let e = none_or (unknown_relation_at K (Some p)) _ c.1 in
      let g = none_or (undriven_host_at K ps) _ e.1 in
      subst (λ (x : Query). is_valid_query A x ≡ true) f
      (same (text_of p.relation) (host_of_datum K p.host)
      ∙ and_both (A.relations (text_of p.relation)) (is_valid_host C (host_of_datum K p.host)) (relation-there K p.relation e.0) (host-valid K p.host c.0 g.0))

  -- ---- tests

  -- over such a name and these host expressions
  record IsTested (r : Option Sexp) (hs : List Sexp) : Type 0 where
    hosts : list_all (is_valid_host C) (map (host_of_datum K) hs) ≡ true
    known : unknown_tested_at K r ≡ None

  -- so it is, where no check refuses the form
  tested : (r : Option Sexp) (hs : List Sexp) → test_refusal_over K d r hs ≡ None → IsTested r hs
  tested r hs e =
      let b = none_or (hosts_shape_at hs) _ e in
      let c = none_or (bad_hosts_at K hs) _ b.1 in
      let f = none_or (unknown_tested_at K r) _ c.1 in
      let g = none_or (undriven_hosts_at K hs) _ f.1 in
      record { hosts = hosts-valid K hs c.0 g.0; known = f.0 }

  -- a test of two host expressions
  equal-valid : (o : Option EqualParts) (q : Query) → equal_refusal K d o ≡ None
      → option_map (λ (p : EqualParts). test_equal (host_of_datum K p.found) (host_of_datum K p.wanted)) o ≡ Some q → is_valid_query A q ≡ true
  equal-valid None q r m = absurd cc
  equal-valid (Some p) q r m =
      let f : test_equal (host_of_datum K p.found) (host_of_datum K p.wanted) ≡ q = cc in
      let t = tested None (p.found ∷ p.wanted ∷ []) r in
      let h = host_of_datum K p.found in
      let k = host_of_datum K p.wanted in
      let a = and_true (is_valid_host C h) (is_valid_host C k && true) t.hosts in
      subst (λ (x : Query). is_valid_query A x ≡ true) f
      (and_both (is_valid_host C h) (is_valid_host C k) a.0 (and_true (is_valid_host C k) true a.1).0)

  -- a test of a relation
  leading-valid : (make : List ℕ → Host → List Host → Query)
      → ((x : List ℕ) (h : Host) (ks : List Host) → is_valid_query A (make x h ks) ≡ (A.relations x && (is_valid_host C h && list_all (is_valid_host C) ks)))
      → (o : Option LeadingParts) (q : Query) → leading_refusal K d o ≡ None
      → option_map (λ (p : LeadingParts). make (text_of p.relation) (host_of_datum K p.from) (map (host_of_datum K) p.wanted)) o ≡ Some q
      → is_valid_query A q ≡ true
  leading-valid make same None q r m = absurd cc
  leading-valid make same (Some p) q r m =
      let f : make (text_of p.relation) (host_of_datum K p.from) (map (host_of_datum K) p.wanted) ≡ q = cc in
      let t = tested (Some p.relation) (p.from ∷ p.wanted) r in
      let h = host_of_datum K p.from in
      let ks = map (host_of_datum K) p.wanted in
      subst (λ (x : Query). is_valid_query A x ≡ true) f
      (same (text_of p.relation) h ks
      ∙ and_both (A.relations (text_of p.relation)) (is_valid_host C h && list_all (is_valid_host C) ks) (relation-there K p.relation t.known) t.hosts)

  -- ---- under binding forms

  -- no check refuses these host expressions
  hosts-pass : (l : Sexp) (hs : List Sexp) → bound_refusal_over K d l hs ≡ None → list_all (is_valid_host C) (map (host_of_datum K) hs) ≡ true
  hosts-pass l hs e =
      let b = none_or (hosts_shape_at hs) _ e in
      let c = none_or (unknown_at K (Some l)) _ b.1 in
      let f = none_or (bad_hosts_at K hs) _ c.1 in
      let g = none_or (undriven_hosts_at K hs) _ f.1 in
      hosts-valid K hs f.0 g.0

  -- whether two terms are alpha equivalent
  alike-valid : (o : Option AlikeParts) (q : Query) → alike_refusal K d o ≡ None
      → option_map (λ (p : AlikeParts). alike (forms_named K.forms (text_of p.language)) (host_of_datum K p.one) (host_of_datum K p.other)) o ≡ Some q
      → is_valid_query A q ≡ true
  alike-valid None q r m = absurd cc
  alike-valid (Some p) q r m =
      let h = host_of_datum K p.one in
      let k = host_of_datum K p.other in
      let f : alike (forms_named K.forms (text_of p.language)) h k ≡ q = cc in
      let a = and_true (is_valid_host C h) (is_valid_host C k && true) (hosts-pass p.language (p.one ∷ p.other ∷ []) r) in
      subst (λ (x : Query). is_valid_query A x ≡ true) f
      (and_both (is_valid_host C h) (is_valid_host C k) a.0 (and_true (is_valid_host C k) true a.1).0)

  -- a term with another put for a symbol in it
  put-valid : (o : Option PutParts) (q : Query) → put_refusal K d o ≡ None
      → option_map
      (λ (p : PutParts). substituted (forms_named K.forms (text_of p.language)) (host_of_datum K p.whole) (host_of_datum K p.symbol) (host_of_datum K p.value))
      o ≡ Some q
      → is_valid_query A q ≡ true
  put-valid None q r m = absurd cc
  put-valid (Some p) q r m =
      let h = host_of_datum K p.whole in
      let k = host_of_datum K p.symbol in
      let l = host_of_datum K p.value in
      let f : substituted (forms_named K.forms (text_of p.language)) h k l ≡ q = cc in
      let hs = hosts-pass p.language (p.whole ∷ p.symbol ∷ p.value ∷ []) r in
      let a = and_true (is_valid_host C h) (is_valid_host C k && (is_valid_host C l && true)) hs in
      let b = and_true (is_valid_host C k) (is_valid_host C l && true) a.1 in
      let c = and_true (is_valid_host C l) true b.1 in
      subst (λ (x : Query). is_valid_query A x ≡ true) f
      (and_both (is_valid_host C h) (is_valid_host C k && is_valid_host C l) a.0 (and_both (is_valid_host C k) (is_valid_host C l) b.0 c.0))

  -- ---- all forms

  -- by what the form does
  by_kind : (k : FormKind) (q : Query) → refusal_by_kind K d k ≡ None → query_by_kind K d k ≡ Some q → is_valid_query A q ≡ true
  by_kind (defines k) q r m = absurd cc
  by_kind (passes k) q r m = absurd cc
  by_kind (asks kind.matches) q r m = match-valid matches (λ x p h. refl) (query_parts d) q refl r m
  by_kind (asks kind.whether) q r m = match-valid whether (λ x p h. refl) (query_parts d) q refl r m
  by_kind (asks kind.splits) q r m = match-valid splits (λ x p h. refl) (query_parts d) q refl r m
  by_kind (asks kind.value) q r m =
      let f : value (host_of_datum K d) ≡ q = cc in
      let ps = host_parts K.scope [] 0 d in
      let c = none_or (option_map (unnamed Shape) (earliest start (host_shapes d))) _ r in
      let e = none_or (option_map (unnamed BadPattern) (earliest start (bad_parts ps))) _ c.1 in
      let g = none_or (option_map (named EllipsisDepth) (earliest start (shallow_parts [] ps))) _ e.1 in
      let h = none_or (option_map (unnamed EllipsisVariable) (earliest start (undriven_parts K.scope [] ps))) _ g.1 in
      subst (λ (x : Query). is_valid_query A x ≡ true) f (host-valid K d e.0 h.0)
  by_kind (asks kind.holds) q r m = holds-valid (holds_parts d) q (holds-within (parts d) refl) r m
  by_kind (asks kind.reducts) q r m = steps-valid reducts (λ x h. refl) (step_parts d) q r m
  by_kind (asks kind.tagged) q r m = steps-valid tagged (λ x h. refl) (step_parts d) q r m
  by_kind (asks kind.stepper) q r m = steps-valid stepper (λ x h. refl) (step_parts d) q r m
  by_kind (asks kind.generate) q r m = generate-valid (generate_parts d) q refl r m
  by_kind (asks kind.check) q r m = check-valid (check_parts d) q refl r m
  by_kind (asks kind.alike) q r m = alike-valid (alike_parts d) q r m
  by_kind (asks kind.put) q r m = put-valid (put_parts d) q r m
  by_kind (asks kind.test_equal) q r m = equal-valid (equal_parts d) q r m
  by_kind (asks kind.test_step) q r m = leading-valid test_step (λ x h ks. refl) (leading_parts d) q r m
  by_kind (asks kind.test_run) q r m = leading-valid test_run (λ x h ks. refl) (leading_parts d) q r m
  by_kind (asks kind.test_match) q r m = match-valid (λ x p h. test_match x p h true) (λ x p h. refl) (query_parts d) q refl r m
  by_kind (asks kind.test_no_match) q r m = match-valid (λ x p h. test_match x p h false) (λ x p h. refl) (query_parts d) q refl r m
  by_kind (asks kind.test_holds) q r m = holds_test-valid (lone_parts d) q (lone-within (parts d) refl) r m
  by_kind (asks kind.test_results) q r m = let f : test_results ≡ q = cc in subst (λ (x : Query). is_valid_query A x ≡ true) f refl

  -- what is asked is valid
  pub query-is_valid : (q : Query) → Asks K d q → is_valid_query A q ≡ true
  query-is_valid q a = by_kind (form_kind d) q a.passes a.means
