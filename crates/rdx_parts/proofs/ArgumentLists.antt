-- Arguments one by one: the first of them before the others.
use Rattle.std.proofs.Common.{◌≡◌, ◌++◌, ◌∙◌, Bor, ℕ, Bool, true, false, List, [], ◌∷◌, map, IsTrue, ◌⊎◌, inl, inr, refl, sym, ap, subst, append-nil}
use Rattle.std.proofs.lemmas.Grind.{flat_map-append}
use Rattle.std.specs.Prelude.{Option, Some, None, flat_map, option_map}
use Rattle.rdx_sexp.specs.Sexp.{Sexp}
use Rattle.rdx_lang.specs.Programs.{Mode}
use Rattle.rdx_patterns.specs.Occurrences.{occurrences}
use Rattle.rdx_patterns.specs.PatternChecks.{bound_by}
use Rattle.rdx_patterns.specs.declared.patterns.position.Position.TheVariants.{Query}
use Rattle.rdx_templates.specs.Bound.{Bound}
use Rattle.rdx_templates.specs.Earliest.{start, lesser, earliest}
use Rattle.rdx_templates.specs.Scope.{Scope}
use Rattle.rdx_templates.proofs.EarliestPlaces.{lesser_assoc, earliest_append}
use Rattle.rdx_parts.specs.Arguments.{data_at}
use Rattle.rdx_parts.specs.BareStands.{flagged_stand}
use Rattle.rdx_parts.specs.Outlines.{one, each}
use Rattle.rdx_parts.specs.ByNames.{taken_names, patterns_names, pattern_faults, template_faults, flagged_faults}
use Rattle.rdx_parts.specs.PartViews.{flag_at}
use Rattle.rdx_parts.specs.PartsHave.{CanBind, BindNames}
use Rattle.rdx_parts.specs.Stands.{bound_among}
use Rattle.rdx_parts.specs.declared.stands.faults.Check.{Check}
use Rattle.rdx_parts.proofs.PartsAt.{BindNames-both}

-- ---- flags

-- the flags of a conclusion are those of its mode
flags-inputs : (m : Mode) → map (flag_at true) m ≡ m
flags-inputs [] = refl
flags-inputs (b ∷ m) = ap (λ (cs : List Bool). b ∷ cs) (flags-inputs m)

-- where there is one
pub conclusion-flags : (o : Option (Bor (List Bool))) → option_map (λ m. map (flag_at true) m.now) o ≡ option_map (λ m. m.now) o
conclusion-flags None = refl
conclusion-flags (Some m) = ap Some (flags-inputs m.now)

-- ---- the first argument before the others

-- the data at which a flag is set
pub data-first : (b : Bool) (bs : List Bool) (d : Sexp) (ds : List Sexp) → data_at (b ∷ bs) (d ∷ ds) ≡ data_at (b ∷ []) (d ∷ []) ++ data_at bs ds
data-first true bs d ds = refl
data-first false bs d ds = refl

-- without data
data-none : (bs : List Bool) → data_at bs [] ≡ []
data-none [] = refl
data-none (b ∷ bs) = refl

-- where flags or data have come to their end
pub data-end : (f : Bool → Bool) (bs : List Bool) (ds : List Sexp) → (bs ≡ []) ⊎ (ds ≡ []) → data_at (map f bs) ds ≡ []
data-end f bs ds (inl e) = ap (λ (cs : List Bool). data_at (map f cs) ds) e
data-end f bs ds (inr e) = ap (data_at (map f bs)) e ∙ data-none (map f bs)

-- what stands there
pub stands-first : (b : Bool) (bs : List Bool) (d : Sexp) (ds : List Sexp)
    → flagged_stand (b ∷ bs) (d ∷ ds) ≡ flagged_stand (b ∷ []) (d ∷ []) ++ flagged_stand bs ds
stands-first true bs d ds = refl
stands-first false bs d ds = refl

-- without data
stands-none : (bs : List Bool) → flagged_stand bs [] ≡ []
stands-none [] = refl
stands-none (b ∷ bs) = refl

-- where flags or data have come to their end
pub stands-end : (f : Bool → Bool) (bs : List Bool) (ds : List Sexp) → (bs ≡ []) ⊎ (ds ≡ []) → flagged_stand (map f bs) ds ≡ []
stands-end f bs ds (inl e) = ap (λ (cs : List Bool). flagged_stand (map f cs) ds) e
stands-end f bs ds (inr e) = ap (flagged_stand (map f bs)) e ∙ stands-none (map f bs)

-- the names that patterns bind
pub names-first : (ns : List (List ℕ)) (b : Bool) (bs : List Bool) (d : Sexp) (ds : List Sexp)
    → patterns_names ns (data_at (b ∷ bs) (d ∷ ds)) ≡ patterns_names ns (data_at (b ∷ []) (d ∷ [])) ++ patterns_names ns (data_at bs ds)
names-first ns true bs d ds = ap (λ (es : Bound). es ++ patterns_names ns (data_at bs ds)) (sym (append-nil (taken_names ns (one d))))
names-first ns false bs d ds = refl

module _ (k : Check) (S : Scope) (ns : List (List ℕ)) (all : Bound) where
  -- the places at which a check refuses
  faults-first : (es : Bound) (b : Bool) (bs : List Bool) (d : Sexp) (ds : List Sexp)
      → flagged_faults k S ns es all (b ∷ bs) (d ∷ ds)
      ≡ flagged_faults k S ns es all (b ∷ []) (d ∷ []) ++ flagged_faults k S ns (es ++ patterns_names ns (data_at (b ∷ []) (d ∷ []))) all bs ds
  faults-first es true bs d ds i =
      sym (append-nil (pattern_faults k ns es (occurrences 0 d))) i ++ flagged_faults k S ns (es ++ sym (append-nil (taken_names ns (one d))) i) all bs ds
  faults-first es false bs d ds i =
      sym (append-nil (template_faults k S all d)) i ++ flagged_faults k S ns (sym (append-nil es) i) all bs ds

  -- with the earliest so far
  pub earliest-first : (es : Bound) (b : Bool) (bs : List Bool) (d : Sexp) (ds : List Sexp) (o : Option Sexp)
      → lesser start o (earliest start (flagged_faults k S ns es all (b ∷ bs) (d ∷ ds)))
      ≡ lesser start (lesser start o (earliest start (flagged_faults k S ns es all (b ∷ []) (d ∷ []))))
      (earliest start (flagged_faults k S ns (es ++ patterns_names ns (data_at (b ∷ []) (d ∷ []))) all bs ds))
  earliest-first es b bs d ds o =
      let here = flagged_faults k S ns es all (b ∷ []) (d ∷ []) in
      let later = flagged_faults k S ns (es ++ patterns_names ns (data_at (b ∷ []) (d ∷ []))) all bs ds in
      ap (λ (cs : List Sexp). lesser start o (earliest start cs)) (faults-first es b bs d ds)
      ∙ ap (lesser start o) (earliest_append start here later)
      ∙ sym (lesser_assoc start o (earliest start here) (earliest start later))

  -- without data
  faults-none : (es : Bound) (bs : List Bool) → flagged_faults k S ns es all bs [] ≡ []
  faults-none es [] = refl
  faults-none es (b ∷ bs) = refl

  -- where flags or data have come to their end
  pub faults-end : (es : Bound) (f : Bool → Bool) (bs : List Bool) (ds : List Sexp) → (bs ≡ []) ⊎ (ds ≡ []) → flagged_faults k S ns es all (map f bs) ds ≡ []
  faults-end es f bs ds (inl e) = ap (λ (cs : List Bool). flagged_faults k S ns es all (map f cs) ds) e
  faults-end es f bs ds (inr e) = ap (flagged_faults k S ns es all (map f bs)) e ∙ faults-none es (map f bs)

-- ---- what patterns bind, one by one

module _ (ns : List (List ℕ)) where
  -- the first of several
  pub bind-first : (d : Sexp) (ds : List Sexp) → CanBind ns (each (d ∷ ds)) → CanBind ns (one d) × CanBind ns (each ds)
  bind-first d ds h =
      let bs = bound_among ns (occurrences 0 d) in
      let cs = bound_among ns (flat_map (occurrences 0) ds) in
      let k = BindNames-both bs cs (subst BindNames (flat_map-append (bound_by ns Query) (occurrences 0 d) (flat_map (occurrences 0) ds)) h.names) in
      (record { readable = h.readable.0; names = k.0 }, record { readable = h.readable.1; names = k.1 })

  -- of those among arguments
  pub bind-argument : (b : Bool) (bs : List Bool) (d : Sexp) (ds : List Sexp) → CanBind ns (each (data_at (b ∷ bs) (d ∷ ds)))
      → (IsTrue b → CanBind ns (one d)) × CanBind ns (each (data_at bs ds))
  bind-argument true bs d ds h = let k = bind-first d (data_at bs ds) h in (λ t. k.0, k.1)
  bind-argument false bs d ds h = (λ t. absurd cc, h)
