-- What stands in a form that defines a metafunction, and in a premise by itself: a name only where none may come. So the check of names that come
-- twice never is the one that is reported.
use Rattle.std.proofs.Common.{◌≡◌, ◌++◌, ℕ, Bool, true, false, List, [], ◌∷◌, Option, Some, None, refl, ap, map, if◌then◌else◌}
use Rattle.std.specs.Prelude.{option_map, bytes_eq}
use Rattle.rdx_sexp.specs.Sexp.{Sexp, Sexps, nil, cons}
use Rattle.rdx_patterns.specs.Heads.{Roles, patterns as items_of_list, next, rest}
use Rattle.rdx_patterns.specs.Parts.{text_of}
use Rattle.rdx_patterns.specs.PatternChecks as patterns
use Rattle.rdx_patterns.specs.Reading.{is_pattern}
use Rattle.rdx_patterns.specs.Refusal.{Refusal, unnamed, or_else}
use Rattle.rdx_patterns.specs.declared.shape.fault.DefKind.TheVariants.{Shape}
use Rattle.rdx_templates.specs.Bound.{Bound}
use Rattle.rdx_templates.specs.Earliest.{start, earliest}
use Rattle.rdx_parts.specs.Arguments.{is_misfit}
use Rattle.rdx_parts.specs.ExtraForms as forms
use Rattle.rdx_parts.specs.ExtraForms.{ExtraForm, such_that, provided, confirmed, holding, freshly, name, no_extra, form_at}
use Rattle.rdx_parts.specs.Headed.{Headed, headed}
use Rattle.rdx_defs.specs.JudgementRefusal.{result_stands, lone_premise_stands}
use Rattle.rdx_defs.specs.MetafunctionForms.{ClauseForm, clause_form, ContractForm, MetafunctionForm}
use Rattle.rdx_defs.specs.MetafunctionStands.{clause_stands, clauses_stand, contract_stands, patterns_stand, function_stands}
use Rattle.rdx_templates.specs.Scope.{Scope, mode_of}
use Rattle.rdx_templates.specs.TemplateShapes.{template_shapes, host_shapes}
use Rattle.rdx_templates.proofs.EarliestPlaces.{earliest-none}
use Rattle.rdx_parts.specs.StandChecks.{shape_faults, shape_at, repeated_names, repeated_at, repeated_name_at}
use Rattle.rdx_parts.specs.Stands.{Stand, misshaped, function, judgement, asked, arrow, pattern, template, condition, plain, misfit, fresh, named, repeated, bound_in, plain_argument, flagged_stand, arguments_by, arguments_stand, misfits, names_bound, premise_arguments, held_stands, bound_by_premise, bound_by_extra, extra_stands, is_named, extras_stand}
use Rattle.rdx_defs.proofs.TrackedNames.{MakesNone, clause-none}

-- ---- what stands there

-- such a thing
abbrev pub IsNameless : Stand → Type 0
IsNameless (misshaped d) = Unit {0}
IsNameless (function d) = Unit {0}
IsNameless (judgement d) = Unit {0}
IsNameless (asked d) = Unit {0}
IsNameless (arrow d) = Unit {0}
IsNameless (pattern bs os) = Unit {0}
IsNameless (template bs t) = Unit {0}
IsNameless (condition bs h) = Unit {0}
IsNameless (plain os) = Unit {0}
IsNameless (misfit d n) = Unit {0}
IsNameless (fresh bs d) = ⊥
IsNameless (named again d) = again ≡ true
IsNameless (repeated d) = ⊥

-- all are such
abbrev pub AreNameless : List Stand → Type 0
AreNameless [] = Unit {0}
AreNameless (s ∷ ss) = IsNameless s × AreNameless ss

-- in two lists
of_both : (ss ts : List Stand) → AreNameless ss → AreNameless ts → AreNameless (ss ++ ts)
of_both [] ts a b = b
of_both (s ∷ ss) ts a b = (a.0, of_both ss ts a.1 b)

-- ---- premises

-- of arguments with flags
of_flagged : (ns : List (List ℕ)) (bs : List patterns.Bound) (es : Bound) (fs : List Bool) (ds : List Sexp) → AreNameless (flagged_stand ns bs es fs ds)
of_flagged ns bs es [] ds = tt
of_flagged ns bs es (true ∷ fs) [] = tt
of_flagged ns bs es (false ∷ fs) [] = tt
of_flagged ns bs es (true ∷ fs) (d ∷ ds) = (tt, of_flagged ns (bs ++ bound_in ns d) es fs ds)
of_flagged ns bs es (false ∷ fs) (d ∷ ds) = (tt, of_flagged ns bs es fs ds)

-- of arguments without
of_plain : (ds : List Sexp) → AreNameless (map plain_argument ds)
of_plain [] = tt
of_plain (d ∷ ds) = (tt, of_plain ds)

-- of arguments
of_arguments : (ns : List (List ℕ)) (bs : List patterns.Bound) (es : Bound) (o : Option (List Bool)) (ds : List Sexp) → AreNameless (arguments_by ns bs es o ds)
of_arguments ns bs es None ds = of_plain ds
of_arguments ns bs es (Some fs) ds = of_flagged ns bs es fs ds

-- of what does not fit a mode
of_misfits : (b : Bool) (d x : Sexp) → AreNameless (misfits b d x)
of_misfits true d x = (tt, tt)
of_misfits false d x = tt

-- of what has to be a premise
of_held : (S : Scope) (ns : List (List ℕ)) (bs : List patterns.Bound) (d : Sexp) (o : Option Headed) → AreNameless (held_stands S ns bs d o)
of_held S ns bs d None = (tt, tt)
of_held S ns bs d (Some q) =
    let a = premise_arguments S q in
    let b = is_misfit (mode_of S (text_of q.head)) q.arguments in
    (tt, of_both (misfits b d q.head) (arguments_stand ns bs (names_bound bs) a) (of_misfits b d q.head) (of_arguments ns bs (names_bound bs) a.flags a.items))

-- of a template behind it
of_result : (bs : List patterns.Bound) (t : Option Sexp) → AreNameless (result_stands bs t)
of_result bs None = tt
of_result bs (Some t) = (tt, tt)

-- of both by themselves
pub of_lone_premise : (S : Scope) (ns : List (List ℕ)) (d : Sexp) (t : Option Sexp) → AreNameless (lone_premise_stands S ns d t)
of_lone_premise S ns d t =
    of_both (held_stands S ns [] d (headed d)) (result_stands (bound_by_premise S ns (headed d)) t) (of_held S ns [] d (headed d))
    (of_result (bound_by_premise S ns (headed d)) t)

-- ---- metafunctions

-- of an extra that makes no names, where none may come
of_extra : (S : Scope) (ns : List (List ℕ)) (bs : List patterns.Bound) (again : Bool) (d : Sexp) (e : ExtraForm) → MakesNone e → again ≡ true
    → AreNameless (extra_stands S ns bs again d e)
of_extra S ns bs again d (such_that p t) m h = (tt, (tt, tt))
of_extra S ns bs again d (provided g) m h = (tt, tt)
of_extra S ns bs again d (confirmed t) m h = (tt, tt)
of_extra S ns bs again d (holding e) m h = of_held S ns bs e (headed e)
of_extra S ns bs again d (freshly ds) m h = absurd m
of_extra S ns bs again d name m h = (h, tt)
of_extra S ns bs again d no_extra m h = (tt, tt)

-- none may come behind it either
stays_named : (again : Bool) (e : ExtraForm) → again ≡ true → is_named again e ≡ true
stays_named again (such_that p t) h = h
stays_named again (provided g) h = h
stays_named again (confirmed t) h = h
stays_named again (holding d) h = h
stays_named again (freshly ds) h = h
stays_named again name h = refl
stays_named again no_extra h = h

-- of extras of a clause
of_extras : (S : Scope) (ns : List (List ℕ)) (bs : List patterns.Bound) (again : Bool) (ds : List Sexp) → again ≡ true
    → AreNameless (extras_stand forms.of_clause S ns bs again ds)
of_extras S ns bs again [] h = tt
of_extras S ns bs again (d ∷ ds) h =
    let e = form_at forms.of_clause d in
    of_both (extra_stands S ns bs again d e) (extras_stand forms.of_clause S ns (bs ++ bound_by_extra S ns e) (is_named again e) ds)
    (of_extra S ns bs again d e (clause-none d) h)
    (of_extras S ns (bs ++ bound_by_extra S ns e) (is_named again e) ds (stays_named again e h))

-- by a test
of_test : (b : Bool) (ss ts : List Stand) → AreNameless ss → AreNameless ts → AreNameless (if b then ss else ts)
of_test true ss ts a c = a
of_test false ss ts a c = c

-- of a clause
of_clause : (S : Scope) (ns : List (List ℕ)) (x : List ℕ) (d : Sexp) (o : Option ClauseForm) → AreNameless (clause_stands S ns x d o)
of_clause S ns x d None = (tt, tt)
of_clause S ns x d (Some c) =
    of_test (bytes_eq (text_of c.function) x) _ (misshaped d ∷ []) (tt, (tt, of_extras S ns _ true c.extras refl)) (tt, tt)

-- of clauses
of_clauses : (S : Scope) (ns : List (List ℕ)) (x : List ℕ) (ds : List Sexp) → AreNameless (clauses_stand S ns x ds)
of_clauses S ns x [] = tt
of_clauses S ns x (d ∷ ds) =
    of_both (clause_stands S ns x d (clause_form d)) (clauses_stand S ns x ds) (of_clause S ns x d (clause_form d)) (of_clauses S ns x ds)

-- of patterns among items
of_patterns : (rs : Roles) (ds : Sexps) → AreNameless (patterns_stand rs ds)
of_patterns rs nil = tt
of_patterns rs (cons d ds) =
    of_both (if is_pattern (next rs d) then pattern [] _ ∷ [] else []) (patterns_stand (rest rs d) ds)
    (of_test (is_pattern (next rs d)) (pattern [] _ ∷ []) [] (tt, tt) tt) (of_patterns (rest rs d) ds)

-- of a contract
of_contract : (o : Option ContractForm) → AreNameless (contract_stands o)
of_contract None = tt
of_contract (Some c) = of_both (patterns_stand items_of_list _) (pattern [] _ ∷ []) (of_patterns items_of_list _) (tt, tt)

-- of a form by its name
pub of_function : (S : Scope) (ns : List (List ℕ)) (m : MetafunctionForm) (o : Option Sexp) → AreNameless (function_stands S ns m o)
of_function S ns m None = of_clauses S ns [] m.clauses
of_function S ns m (Some f) =
    (tt, of_both (contract_stands m.contract) (clauses_stand S ns (text_of f) m.clauses) (of_contract m.contract) (of_clauses S ns (text_of f) m.clauses))

-- ---- the check that refuses nothing there

-- where two lists have nothing, the second has
behind_none : (xs ys : List Sexp) → xs ++ ys ≡ [] → ys ≡ []
behind_none [] ys e = e
behind_none (x ∷ xs) ys e = absurd cc

-- a name that may come is none of these
no_name : (again : Bool) (d : Sexp) (ds : List Sexp) → again ≡ true → patterns.when again d ++ ds ≡ [] → ⊥
no_name true d ds a e = absurd cc
no_name false d ds a e = absurd cc

-- where all have their shapes, no name comes twice
no_repeats : (seen : List (List ℕ)) (ss : List Stand) → AreNameless ss → shape_faults ss ≡ [] → repeated_names seen ss ≡ []
no_repeats seen [] a e = refl
no_repeats seen (misshaped d ∷ ss) a e = absurd cc
no_repeats seen (function d ∷ ss) a e = no_repeats seen ss a.1 e
no_repeats seen (judgement d ∷ ss) a e = no_repeats seen ss a.1 e
no_repeats seen (asked d ∷ ss) a e = no_repeats seen ss a.1 e
no_repeats seen (arrow d ∷ ss) a e = no_repeats seen ss a.1 e
no_repeats seen (pattern bs os ∷ ss) a e = no_repeats seen ss a.1 (behind_none (patterns.keyword_faults os) (shape_faults ss) e)
no_repeats seen (template bs t ∷ ss) a e = no_repeats seen ss a.1 (behind_none (template_shapes t) (shape_faults ss) e)
no_repeats seen (condition bs h ∷ ss) a e = no_repeats seen ss a.1 (behind_none (host_shapes h) (shape_faults ss) e)
no_repeats seen (plain os ∷ ss) a e = no_repeats seen ss a.1 (behind_none (patterns.keyword_faults os) (shape_faults ss) e)
no_repeats seen (misfit d n ∷ ss) a e = no_repeats seen ss a.1 e
no_repeats seen (fresh bs d ∷ ss) a e = absurd a.0
no_repeats seen (named again d ∷ ss) a e = absurd (no_name again d (shape_faults ss) a.0 e)
no_repeats seen (repeated d ∷ ss) a e = absurd a.0

-- so that check is never the one that is reported
pub without_repeats : (ss : List Stand) (o : Option Refusal) → AreNameless ss → or_else (shape_at ss) (or_else (repeated_name_at ss) o) ≡ or_else (shape_at ss) o
without_repeats ss o a = by_shape (shape_at ss) refl
  where
    by_shape : (r : Option Refusal) → shape_at ss ≡ r → or_else r (or_else (repeated_name_at ss) o) ≡ or_else r o
    by_shape None e =
        ap (λ ns. or_else (option_map repeated_at (earliest start ns)) o) (no_repeats [] ss a (earliest-none start (unnamed Shape) (shape_faults ss) e))
    by_shape (Some r) e = refl
