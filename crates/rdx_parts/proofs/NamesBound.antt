-- What the parts of a form give by the names that are bound before each place is what they give by the symbols that bind them.
use Rattle.std.proofs.Common.{◌≡◌, ◌++◌, ◌∙◌, ℕ, Bool, true, false, [], List, ◌∷◌, map, refl, sym, ap, ap₂}
use Rattle.std.proofs.lemmas.Grind.{flat_map-append}
use Rattle.std.proofs.lemmas.List.{append-nil, map-append}
use Rattle.std.specs.List.{list_any}
use Rattle.std.specs.Prelude.{◌||◌, Option, Some, None, flat_map}
use Rattle.rdx_sexp.specs.Sexp.{Sexp}
use Rattle.rdx_lang.specs.Programs.{Extra}
use Rattle.rdx_patterns.specs.Occurrences.{Occurrence, occurrences}
use Rattle.rdx_patterns.specs.Parts.{text_of}
use Rattle.rdx_patterns.specs.PatternChecks as patterns
use Rattle.rdx_templates.specs.Bound.{Bound}
use Rattle.rdx_templates.specs.Scope.{Scope, mode_of}
use Rattle.rdx_parts.specs.Arguments.{Arguments, is_misfit, patterns_in}
use Rattle.rdx_parts.specs.ExtraForms.{ExtraForm, such_that, provided, confirmed, holding, freshly, name, no_extra, ExtraPlace, form_at}
use Rattle.rdx_parts.specs.ExtraReading.{extra_reading, extras_reading}
use Rattle.rdx_parts.specs.Headed.{Headed, headed}
use Rattle.rdx_parts.specs.BareStands.{lone_pattern}
use Rattle.rdx_parts.specs.Outlines.{Branch, taken_occurrences, bound_by_taken, bound_by_branch, RuleBranch}
use Rattle.rdx_parts.specs.ByNames as by_names
use Rattle.rdx_parts.specs.ByNames.{patterns_names, premise_names, fresh_names, extra_names, extras_names, branch_names, pattern_faults, template_faults, host_faults, flagged_faults, faults_by, arguments_faults, premise_faults, extra_faults, extras_faults, branch_faults, branches_faults, lone_faults, alone_faults, rules_faults}
use Rattle.rdx_parts.specs.StandChecks.{bad_place, depth_fault, undriven_place, escape_place}
use Rattle.rdx_parts.specs.Stands.{Stand, misshaped, asked, pattern, template, condition, misfit, fresh, named, bound_in, names_bound, bound_by_patterns, flagged_stand, plain_argument, arguments_by, arguments_stand, misfits, premise_arguments, held_stands, bound_by_premise, bound_freshly, fresh_stands, bound_by_extra, bound_by_extras, extra_stands, is_named, extras_stand}
use Rattle.rdx_parts.specs.declared.stands.faults.Check.{Check}
use Rattle.rdx_parts.specs.declared.stands.faults.Check.TheVariants.{Places, Depths, Driving, Escapes}
use Rattle.rdx_parts.proofs.BranchStands.{branch_stands}

-- the name of a symbol, with its depth
abbrev pub named_at : patterns.Bound → List ℕ × ℕ
named_at b = (text_of b.symbol, b.depth)

-- ---- tests

-- a test that one of both lists passes
pub any-append : {A : Type 0} (test : A → Bool) (xs ys : List A) → list_any test (xs ++ ys) ≡ (list_any test xs || list_any test ys)
any-append test [] ys = refl
any-append test (x ∷ xs) ys = ap (λ b. test x || b) (any-append test xs ys) ∙ or_assoc (test x) (list_any test xs) (list_any test ys)
  where
    or_assoc : (a b c : Bool) → (a || (b || c)) ≡ ((a || b) || c)
    or_assoc true b c = refl
    or_assoc false b c = refl

-- two tests in the other order
pub or_flip : (a b : Bool) → (a || b) ≡ (b || (a || false))
or_flip true true = refl
or_flip true false = refl
or_flip false true = refl
or_flip false false = refl

-- ---- places at which a check refuses

-- one of the checks that have to know what is bound, of one thing
abbrev pub fault : Check → Scope → List (List ℕ) → Stand → List Sexp
fault Places S ns s = bad_place S ns s
fault Depths S ns s = depth_fault S ns s
fault Driving S ns s = undriven_place S s
fault Escapes S ns s = escape_place S s

-- of several
abbrev pub faults : Check → Scope → List (List ℕ) → List Stand → List Sexp
faults k S ns ss = flat_map (fault k S ns) ss

-- ---- names

-- those of patterns that stand by themselves
pub patterns-names : (ns : List (List ℕ)) (ds : List Sexp) → patterns_names ns ds ≡ names_bound (bound_by_patterns ns ds)
patterns-names ns [] = refl
patterns-names ns (d ∷ ds) =
    ap (λ (es : Bound). names_bound (bound_in ns d) ++ es) (patterns-names ns ds) ∙ sym (map-append named_at (bound_in ns d) (bound_by_patterns ns ds))

-- those to be made
fresh-names : (ds : List Sexp) → fresh_names ds ≡ names_bound (map bound_freshly ds)
fresh-names [] = refl
fresh-names (d ∷ ds) = ap (λ (es : Bound). (text_of d, 0) ∷ es) (fresh-names ds)

module _ (S : Scope) (ns : List (List ℕ)) where
  -- of a premise
  pub premise-names : (o : Option Headed) → premise_names S ns o ≡ names_bound (bound_by_premise S ns o)
  premise-names None = refl
  premise-names (Some q) = patterns-names ns (patterns_in (premise_arguments S q))

  -- of an extra
  extra-names : (e : ExtraForm) → extra_names S ns e ≡ names_bound (bound_by_extra S ns e)
  extra-names (such_that p t) = refl
  extra-names (provided h) = refl
  extra-names (confirmed t) = refl
  extra-names (holding d) = premise-names (headed d)
  extra-names (freshly ds) = fresh-names ds
  extra-names name = refl
  extra-names no_extra = refl

  -- of extras
  pub extras-names : (k : ExtraPlace) (ds : List Sexp) → extras_names k S ns ds ≡ names_bound (bound_by_extras k S ns ds)
  extras-names k [] = refl
  extras-names k (d ∷ ds) =
      (λ i. extra-names (form_at k d) i ++ extras-names k ds i)
      ∙ sym (map-append named_at (bound_by_extra S ns (form_at k d)) (bound_by_extras k S ns ds))

  -- of a branch
  pub branch-names : (b : Branch) → branch_names S ns b ≡ names_bound (bound_by_branch S ns b)
  branch-names b =
      ap (λ (es : Bound). by_names.taken_names ns b.takes ++ es) (extras-names b.place b.extras)
      ∙ sym (map-append named_at (bound_by_taken ns b.takes) (bound_by_extras b.place S ns b.extras))

  -- one extra more
  behind : (bs : List patterns.Bound) (e : ExtraForm) → names_bound (bs ++ bound_by_extra S ns e) ≡ names_bound bs ++ extra_names S ns e
  behind bs e = map-append named_at bs (bound_by_extra S ns e) ∙ ap (λ (es : Bound). names_bound bs ++ es) (sym (extra-names e))

  -- ---- readings

  -- of an extra
  extra-reads : (bs : List patterns.Bound) (e : ExtraForm) → extra_reading S ns bs e ≡ by_names.extra_reading S ns (names_bound bs) e
  extra-reads bs (such_that p t) = refl
  extra-reads bs (provided h) = refl
  extra-reads bs (confirmed t) = refl
  extra-reads bs (holding d) = refl
  extra-reads bs (freshly ds) = refl
  extra-reads bs name = refl
  extra-reads bs no_extra = refl

  -- of extras
  pub extras-reads : (k : ExtraPlace) (bs : List patterns.Bound) (ds : List Sexp)
      → extras_reading k S ns bs ds ≡ by_names.extras_reading k S ns (names_bound bs) ds
  extras-reads k bs [] = refl
  extras-reads k bs (d ∷ ds) =
      let e = form_at k d in
      ap₂ (λ (a b : List Extra). a ++ b) (extra-reads bs e)
      (extras-reads k (bs ++ bound_by_extra S ns e) ds ∙ ap (λ (es : Bound). by_names.extras_reading k S ns es ds) (behind bs e))
  -- ---- one thing that stands there

module _ (k : Check) (S : Scope) (ns : List (List ℕ)) where
  -- what each of the checks passes
  pub passed : (s : Stand) → bad_place S ns s ≡ [] → depth_fault S ns s ≡ [] → undriven_place S s ≡ [] → escape_place S s ≡ [] → fault k S ns s ≡ []
  passed s a b c d = by_check k
    where
      by_check : (j : Check) → fault j S ns s ≡ []
      by_check Places = a
      by_check Depths = b
      by_check Driving = c
      by_check Escapes = d

  -- one thing of this kind
  pub only : (s : Stand) (ds : List Sexp) → fault k S ns s ≡ ds → faults k S ns (s ∷ []) ≡ ds
  only s ds e = ap (λ (cs : List Sexp). cs ++ []) e ∙ append-nil ds

  pub misshaped-none : (d : Sexp) → faults k S ns (misshaped d ∷ []) ≡ []
  misshaped-none d = only (misshaped d) [] (passed (misshaped d) refl refl refl refl)

  pub named-none : (again : Bool) (d : Sexp) → faults k S ns (named again d ∷ []) ≡ []
  named-none again d = only (named again d) [] (passed (named again d) refl refl refl refl)

  pub misfits-none : (b : Bool) (d x : Sexp) → faults k S ns (misfits b d x) ≡ []
  misfits-none true d x = only (misfit d (Some x)) [] (passed (misfit d (Some x)) refl refl refl refl)
  misfits-none false d x = refl

  plain-none : (ds : List Sexp) → faults k S ns (map plain_argument ds) ≡ []
  plain-none [] = refl
  plain-none (d ∷ ds) = ap₂ (λ (a b : List Sexp). a ++ b) (passed (plain_argument d) refl refl refl refl) (plain-none ds)

  -- one such thing before others
  pub skipped : (s : Stand) (ss : List Stand) → fault k S ns s ≡ [] → faults k S ns (s ∷ ss) ≡ faults k S ns ss
  skipped s ss e = ap (λ (ds : List Sexp). ds ++ faults k S ns ss) e

  -- two lists
  pub faults-both : (ss rs : List Stand) (cs ds : List Sexp) → faults k S ns ss ≡ cs → faults k S ns rs ≡ ds → faults k S ns (ss ++ rs) ≡ cs ++ ds
  faults-both ss rs cs ds e f = flat_map-append (fault k S ns) ss rs ∙ ap₂ (λ (a b : List Sexp). a ++ b) e f

  -- and by names
  pub pattern-fault : (bs : List patterns.Bound) (os : List Occurrence) → fault k S ns (pattern bs os) ≡ pattern_faults k ns (names_bound bs) os
  pattern-fault bs os = by_check k
    where
      by_check : (j : Check) → fault j S ns (pattern bs os) ≡ pattern_faults j ns (names_bound bs) os
      by_check Places = refl
      by_check Depths = refl
      by_check Driving = refl
      by_check Escapes = refl

  pub template-fault : (es : Bound) (t : Sexp) → fault k S ns (template es t) ≡ template_faults k S es t
  template-fault es t = by_check k
    where
      by_check : (j : Check) → fault j S ns (template es t) ≡ template_faults j S es t
      by_check Places = refl
      by_check Depths = refl
      by_check Driving = refl
      by_check Escapes = refl

  pub host-fault : (es : Bound) (h : Sexp) → fault k S ns (condition es h) ≡ host_faults k S es h
  host-fault es h = by_check k
    where
      by_check : (j : Check) → fault j S ns (condition es h) ≡ host_faults j S es h
      by_check Places = refl
      by_check Depths = refl
      by_check Driving = refl
      by_check Escapes = refl

  -- ---- arguments

  -- with such flags
  flagged-faults : (bs : List patterns.Bound) (es : Bound) (fs : List Bool) (ds : List Sexp)
      → faults k S ns (flagged_stand ns bs es fs ds) ≡ flagged_faults k S ns (names_bound bs) es fs ds
  flagged-faults bs es [] ds = refl
  flagged-faults bs es (f ∷ fs) [] = refl
  flagged-faults bs es (true ∷ fs) (d ∷ ds) =
      ap₂ (λ (a b : List Sexp). a ++ b) (pattern-fault bs (occurrences 0 d))
      (flagged-faults (bs ++ bound_in ns d) es fs ds ∙ ap (λ (gs : Bound). flagged_faults k S ns gs es fs ds) (map-append named_at bs (bound_in ns d)))
  flagged-faults bs es (false ∷ fs) (d ∷ ds) = ap₂ (λ (a b : List Sexp). a ++ b) (template-fault es d) (flagged-faults bs es fs ds)

  -- where there are flags, or none
  pub arguments-faults : (bs : List patterns.Bound) (es : Bound) (a : Arguments)
      → faults k S ns (arguments_stand ns bs es a) ≡ arguments_faults k S ns (names_bound bs) es a
  arguments-faults bs es a = by_flags a.flags
    where
      by_flags : (o : Option (List Bool)) → faults k S ns (arguments_by ns bs es o a.items) ≡ faults_by k S ns (names_bound bs) es o a.items
      by_flags None = plain-none a.items
      by_flags (Some fs) = flagged-faults bs es fs a.items

  -- ---- extras

  -- in what has to be a premise
  pub held-faults : (bs : List patterns.Bound) (d : Sexp) (o : Option Headed) → faults k S ns (held_stands S ns bs d o) ≡ premise_faults k S ns (names_bound bs) o
  held-faults bs d None = misshaped-none d
  held-faults bs d (Some q) =
      let ss = misfits (is_misfit (mode_of S (text_of q.head)) q.arguments) d q.head in
      let es = names_bound bs in
      let a = premise_arguments S q in
      skipped (asked q.head) (ss ++ arguments_stand ns bs es a) (passed (asked q.head) refl refl refl refl)
      ∙ faults-both ss (arguments_stand ns bs es a) [] (arguments_faults k S ns es es a)
      (misfits-none (is_misfit (mode_of S (text_of q.head)) q.arguments) d q.head) (arguments-faults bs es a)

  -- in names to be made
  fresh-none : (bs : List patterns.Bound) (ds : List Sexp) → faults k S ns (fresh_stands bs ds) ≡ []
  fresh-none bs [] = refl
  fresh-none bs (d ∷ ds) =
      let cs = bs ++ bound_freshly d ∷ [] in
      skipped (fresh bs d) (fresh_stands cs ds) (passed (fresh bs d) refl refl refl refl) ∙ fresh-none cs ds

  -- in an extra
  extra-faults : (bs : List patterns.Bound) (again : Bool) (d : Sexp) (e : ExtraForm)
      → faults k S ns (extra_stands S ns bs again d e) ≡ extra_faults k S ns (names_bound bs) e
  extra-faults bs again d (such_that p t) =
      ap₂ (λ (a b : List Sexp). a ++ b) (pattern-fault bs (occurrences 0 p))
      (only (template (names_bound bs) t) (template_faults k S (names_bound bs) t) (template-fault (names_bound bs) t))
  extra-faults bs again d (provided h) = only (condition (names_bound bs) h) (host_faults k S (names_bound bs) h) (host-fault (names_bound bs) h)
  extra-faults bs again d (confirmed t) = only (template (names_bound bs) t) (template_faults k S (names_bound bs) t) (template-fault (names_bound bs) t)
  extra-faults bs again d (holding e) = held-faults bs e (headed e)
  extra-faults bs again d (freshly ds) = fresh-none bs ds
  extra-faults bs again d name = named-none again d
  extra-faults bs again d no_extra = misshaped-none d

  -- in extras
  pub extras-faults : (p : ExtraPlace) (bs : List patterns.Bound) (again : Bool) (ds : List Sexp)
      → faults k S ns (extras_stand p S ns bs again ds) ≡ extras_faults p k S ns (names_bound bs) ds
  extras-faults p bs again [] = refl
  extras-faults p bs again (d ∷ ds) =
      let e = form_at p d in
      faults-both (extra_stands S ns bs again d e) (extras_stand p S ns (bs ++ bound_by_extra S ns e) (is_named again e) ds)
      (extra_faults k S ns (names_bound bs) e) (extras_faults p k S ns (names_bound bs ++ extra_names S ns e) ds)
      (extra-faults bs again d e)
      (extras-faults p (bs ++ bound_by_extra S ns e) (is_named again e) ds ∙ ap (λ (es : Bound). extras_faults p k S ns es ds) (behind S ns bs e))

  -- ---- branches

  -- in a branch
  pub branch-faults : (again : Bool) (b : Branch) → faults k S ns (branch_stands S ns again b) ≡ branch_faults k S ns b
  branch-faults again b i =
      pattern-fault [] (taken_occurrences b.takes) i
      ++ ((template-fault (names_bound (bound_by_branch S ns b)) b.result ∙ ap (λ (es : Bound). template_faults k S es b.result) (sym (branch-names S ns b))) i
      ++ extras-faults b.place (bound_by_taken ns b.takes) again b.extras i)

  -- two lists of branches
  pub branches-append : (bs cs : List Branch) → branches_faults k S ns (bs ++ cs) ≡ branches_faults k S ns bs ++ branches_faults k S ns cs
  branches-append bs cs = flat_map-append (branch_faults k S ns) bs cs

  -- ---- patterns that stand by themselves

  pub alone-faults : (ps : List Sexp) → faults k S ns (map lone_pattern ps) ≡ alone_faults k ns ps
  alone-faults [] = refl
  alone-faults (p ∷ ps) = ap₂ (λ (a b : List Sexp). a ++ b) (pattern-fault [] (occurrences 0 p)) (alone-faults ps)

  -- two lists of them
  pub alone-append : (ps qs : List Sexp) → alone_faults k ns (ps ++ qs) ≡ alone_faults k ns ps ++ alone_faults k ns qs
  alone-append ps qs = flat_map-append (lone_faults k ns) ps qs

  -- two lists of rules
  pub rules-append : (qs rs : List RuleBranch) → rules_faults k S ns (qs ++ rs) ≡ rules_faults k S ns qs ++ rules_faults k S ns rs
  rules-append qs rs = flat_map-append (by_names.rule_faults k S ns) qs rs
