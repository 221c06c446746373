-- No name of a form of a metafunction or a judgement comes again by what is bound before it.
use Rattle.std.proofs.Common.{◌≡◌, ◌++◌, ℕ, Bool, true, false, not, List, [], ◌∷◌, map, sym, subst, if◌then◌else◌}
use Rattle.std.specs.Prelude.{Option, Some, None, bytes_eq, codes}
use Rattle.rdx_sexp.specs.Sexp.{Sexp, leaf, list, integer, truth, text, symbol, keyword}
use Rattle.rdx_lang.specs.Programs.{Mode}
use Rattle.rdx_patterns.specs.Parts.{parts, text_of, is_symbol, is_word}
use Rattle.rdx_patterns.specs.PatternChecks as patterns
use Rattle.rdx_parts.specs.Arguments.{is_misfit}
use Rattle.rdx_parts.specs.ExtraForms.{ExtraForm, such_that, provided, confirmed, holding, freshly, name, no_extra, ExtraPlace, of_clause, of_rule, condition_behind, extra_among, is_extra_head, extra_behind, premise_among, form_at}
use Rattle.rdx_parts.specs.Headed.{Headed, headed}
use Rattle.rdx_parts.specs.BareStands.{lone_pattern}
use Rattle.rdx_defs.specs.Inside.FormOutlines.{clause_branch, contract_patterns}
use Rattle.rdx_parts.specs.NamesAgain.{names_again}
use Rattle.rdx_defs.specs.JudgementForms.{RuleForm, rule_form, own_rule, OptionForm, JudgementForm, judgement_in, mode_form, own_mode, is_flag, key_text, is_fit_option}
use Rattle.rdx_defs.specs.JudgementRefusal.{result_stands, lone_premise_stands}
use Rattle.rdx_defs.specs.JudgementStands as judgements
use Rattle.rdx_defs.specs.JudgementStands.{rule_arguments, bound_by_inputs, bound_by_rule, conclusion_stands, premises_stand, name_stands, rule_stands, rules_stand, flags_stand, mode_stands, lone_patterns, given_stands, option_stands, options_stand, missing_mode, judgement_stands}
use Rattle.rdx_defs.specs.MetafunctionForms.{ClauseForm, clause_form, MetafunctionForm}
use Rattle.rdx_defs.specs.MetafunctionStands.{clause_stands, clauses_stand, contract_stands, function_stands}
use Rattle.rdx_relations.specs.RelationForms.{is_keyword}
use Rattle.rdx_templates.specs.Scope.{Scope}
use Rattle.rdx_parts.specs.StandChecks.{repeated_names}
use Rattle.rdx_parts.specs.Stands.{misshaped, names_bound, arguments_stand, misfits, held_stands, bound_by_premise, bound_by_extra, extra_stands, is_named, extras_stand}
use Rattle.rdx_defs.proofs.LoneStands.{contract-lone}
use Rattle.rdx_parts.proofs.BranchStands.{branch_stands}
use Rattle.rdx_relations.proofs.TrackedNames.{are-known, AreUnmade, unmade-known, unmade-both, unmade-either, misfits-unmade, arguments-unmade, held-unmade}

-- ---- where no name is to be made

-- patterns that stand by themselves
lone-unmade : (ps : List Sexp) → AreUnmade (map lone_pattern ps)
lone-unmade [] = tt
lone-unmade (p ∷ ps) = (tt, lone-unmade ps)

-- ---- extras of clauses and of rules

-- an extra makes no names
abbrev pub MakesNone : ExtraForm → Type 0
MakesNone (such_that p t) = Unit {0}
MakesNone (provided h) = Unit {0}
MakesNone (confirmed t) = Unit {0}
MakesNone (holding d) = Unit {0}
MakesNone (freshly ds) = ⊥
MakesNone name = Unit {0}
MakesNone no_extra = Unit {0}

-- one of two
none-when : (b : Bool) (e f : ExtraForm) → MakesNone e → MakesNone f → MakesNone (if b then e else f)
none-when true e f h k = h
none-when false e f h k = k

-- in a clause, behind the head of a list
condition-none : (w : Sexp) (ds : List Sexp) → MakesNone (condition_behind w ds)
condition-none w [] = tt
condition-none w (x ∷ []) =
    none-when (is_word (codes "side-condition") w) (provided x) (if is_word (codes "judgment-holds") w then holding x else no_extra) tt
    (none-when (is_word (codes "judgment-holds") w) (holding x) no_extra tt tt)
condition-none w (p ∷ t ∷ []) = none-when (is_word (codes "where") w) (such_that p t) no_extra tt tt
condition-none w (p ∷ t ∷ x ∷ xs) = tt

-- in a list of these parts
among-none : (o : Option (List Sexp)) → MakesNone (extra_among false o)
among-none None = tt
among-none (Some []) = tt
among-none (Some (w ∷ ds)) = condition-none w ds

-- in a clause
pub clause-none : (d : Sexp) → MakesNone (form_at of_clause d)
clause-none (leaf (integer n) s) = tt
clause-none (leaf (truth b) s) = tt
clause-none (leaf (text x) s) = tt
clause-none (leaf (symbol x) s) = tt
clause-none (leaf (keyword k) s) = tt
clause-none (list ds s) = among-none (parts (list ds s))

-- in a rule, behind a head that gives a list another meaning
behind-none : (w : Sexp) (ds : List Sexp) → MakesNone (extra_behind w ds)
behind-none w [] = tt
behind-none w (x ∷ []) =
    none-when (is_word (codes "side-condition") w) (confirmed x) (if is_word (codes "judgment-holds") w then holding x else no_extra) tt
    (none-when (is_word (codes "judgment-holds") w) (holding x) no_extra tt tt)
behind-none w (p ∷ t ∷ []) = none-when (is_word (codes "where") w) (such_that p t) no_extra tt tt
behind-none w (p ∷ t ∷ x ∷ xs) = tt

-- in the list d of these parts
premise-none : (d : Sexp) (o : Option (List Sexp)) → MakesNone (premise_among d o)
premise-none d None = tt
premise-none d (Some []) = tt
premise-none d (Some (w ∷ ds)) =
    none-when (is_extra_head w) (extra_behind w ds) (if is_symbol w then holding d else no_extra) (behind-none w ds)
    (none-when (is_symbol w) (holding d) no_extra tt tt)

-- in a rule
pub rule-none : (d : Sexp) → MakesNone (form_at of_rule d)
rule-none d = premise-none d (parts d)

module _ (S : Scope) (ns : List (List ℕ)) where
  -- ---- extras that make no names

  -- one
  extra-unmade : (bs : List patterns.Bound) (again : Bool) (d : Sexp) (e : ExtraForm) → MakesNone e → AreUnmade (extra_stands S ns bs again d e)
  extra-unmade bs again d (such_that p t) h = (tt, (tt, tt))
  extra-unmade bs again d (provided t) h = (tt, tt)
  extra-unmade bs again d (confirmed t) h = (tt, tt)
  extra-unmade bs again d (holding c) h = held-unmade S ns bs c (headed c)
  extra-unmade bs again d (freshly ds) h = absurd h
  extra-unmade bs again d name h = (tt, tt)
  extra-unmade bs again d no_extra h = (tt, tt)

  -- several
  extras-unmade : (k : ExtraPlace) → ((d : Sexp) → MakesNone (form_at k d)) → (bs : List patterns.Bound) (again : Bool) (ds : List Sexp) → AreUnmade (extras_stand k S ns bs again ds)
  extras-unmade k h bs again [] = tt
  extras-unmade k h bs again (d ∷ ds) =
      let e = form_at k d in
      let cs = bs ++ bound_by_extra S ns e in
      unmade-both (extra_stands S ns bs again d e) (extras_stand k S ns cs (is_named again e) ds) (extra-unmade bs again d e (h d)) (extras-unmade k h cs (is_named again e) ds)

  -- ---- metafunctions

  -- a clause
  clause-unmade : (x : List ℕ) (d : Sexp) (o : Option ClauseForm) → AreUnmade (clause_stands S ns x d o)
  clause-unmade x d None = (tt, tt)
  clause-unmade x d (Some c) =
      unmade-either (bytes_eq (text_of c.function) x) (branch_stands S ns true (clause_branch c)) (misshaped d ∷ [])
      (tt, (tt, extras-unmade of_clause clause-none _ true c.extras)) (tt, tt)

  -- clauses
  clauses-unmade : (x : List ℕ) (ds : List Sexp) → AreUnmade (clauses_stand S ns x ds)
  clauses-unmade x [] = tt
  clauses-unmade x (d ∷ ds) =
      unmade-both (clause_stands S ns x d (clause_form d)) (clauses_stand S ns x ds) (clause-unmade x d (clause_form d)) (clauses-unmade x ds)

  -- a form
  function-unmade : (m : MetafunctionForm) (f : Option Sexp) → AreUnmade (function_stands S ns m f)
  function-unmade m None = clauses-unmade [] m.clauses
  function-unmade m (Some f) = (
    tt,
    unmade-both (contract_stands m.contract) (clauses_stand S ns (text_of f) m.clauses)
        (subst AreUnmade (sym (contract-lone m.contract)) (lone-unmade (contract_patterns m.contract))) (clauses-unmade (text_of f) m.clauses),
  )

  pub function-again : (m : MetafunctionForm) (f : Option Sexp) → repeated_names [] (function_stands S ns m f) ≡ names_again ns [] [] (function_stands S ns m f)
  function-again m f =
      let ss = function_stands S ns m f in
      are-known ns [] [] ss (unmade-known ns [] ss (function-unmade m f))

  -- ---- judgements

  -- the name of a rule
  name-unmade : (o : Option Sexp) → AreUnmade (name_stands o)
  name-unmade None = tt
  name-unmade (Some n) = (tt, tt)

  -- a conclusion
  conclusion-unmade : (m : Option Mode) (r : RuleForm) → AreUnmade (conclusion_stands S ns m r)
  conclusion-unmade m r =
      let b = is_misfit m r.parts.arguments in
      let a = rule_arguments m r in
      let es = names_bound (bound_by_rule S ns m r) in
      unmade-both (misfits b r.conclusion r.parts.head) (arguments_stand ns [] es a) (misfits-unmade b r.conclusion r.parts.head) (arguments-unmade S ns [] es a.flags a.items)

  -- premises
  premises-unmade : (m : Option Mode) (r : RuleForm) → AreUnmade (premises_stand S ns m r)
  premises-unmade m r = extras-unmade of_rule rule-none (bound_by_inputs ns m r) true r.premises

  -- a rule
  rule-unmade : (m : Option Mode) (d : Sexp) (o : Option RuleForm) → AreUnmade (rule_stands S ns m d o)
  rule-unmade m d None = (tt, tt)
  rule-unmade m d (Some r) =
      let ps = premises_stand S ns m r in
      let cs = conclusion_stands S ns m r in
      let xs = name_stands r.name in
      unmade-either r.is_last (ps ++ xs ++ cs) (cs ++ ps ++ xs)
      (unmade-both (ps ++ xs) cs (unmade-both ps xs (premises-unmade m r) (name-unmade r.name)) (conclusion-unmade m r))
      (unmade-both (cs ++ ps) xs (unmade-both cs ps (conclusion-unmade m r) (premises-unmade m r)) (name-unmade r.name))

  -- rules
  rules-unmade : (j : Option Sexp) (m : Option Mode) (ds : List Sexp) → AreUnmade (rules_stand S ns j m ds)
  rules-unmade j m [] = tt
  rules-unmade j m (d ∷ ds) =
      let o = own_rule j (rule_form d) in
      unmade-both (rule_stands S ns m d o) (rules_stand S ns j m ds) (rule-unmade m d o) (rules-unmade j m ds)

  -- the items of a mode
  flags-unmade : (j : Sexp) (ds : List Sexp) → AreUnmade (flags_stand j ds)
  flags-unmade j [] = tt
  flags-unmade j (d ∷ ds) = unmade-both (misfits (not (is_flag d)) d j) (flags_stand j ds) (misfits-unmade (not (is_flag d)) d j) (flags-unmade j ds)

  -- what an option gives
  given-unmade : (m : Option Mode) (k d : Sexp) (o : Option Headed) → AreUnmade (given_stands m k d o)
  given-unmade m k d None = tt
  given-unmade m k d (Some h) =
      let b = is_misfit m h.arguments in
      unmade-either (is_keyword (codes "mode") k) (mode_stands h) (judgements.contract_stands m d h) (tt, flags-unmade h.head h.arguments)
      (unmade-both (misfits b d h.head) (lone_patterns h.arguments) (misfits-unmade b d h.head) (lone-unmade h.arguments))

  -- an option
  option-unmade : (m : Option Mode) (k : Sexp) (o : Option Sexp) → AreUnmade (option_stands m k o)
  option-unmade m k None = tt
  option-unmade m k (Some d) = given-unmade m k d (headed d)

  -- options
  options-unmade : (j : Option Sexp) (m : Option Mode) (seen : List (List ℕ)) (os : List OptionForm) → AreUnmade (options_stand j m seen os)
  options-unmade j m seen [] = tt
  options-unmade j m seen (o ∷ os) =
      let b = is_fit_option j seen o in
      let ss = option_stands m o.key o.given in
      let rs = misshaped o.key ∷ [] in
      let later = key_text o.key ∷ seen in
      unmade-both (if b then ss else rs) (options_stand j m later os) (unmade-either b ss rs (option-unmade m o.key o.given) (tt, tt)) (options-unmade j m later os)

  -- a mode that is missing
  missing-unmade : (d : Sexp) (o : Option Headed) → AreUnmade (missing_mode d o)
  missing-unmade d None = (tt, tt)
  missing-unmade d (Some h) = tt

  -- a form
  pub judgement-again : (d : Sexp) (f : JudgementForm)
      → repeated_names [] (judgement_stands S ns d (Some f)) ≡ names_again ns [] [] (judgement_stands S ns d (Some f))
  judgement-again d f =
      let j = judgement_in f in
      let m = own_mode f in
      let a = missing_mode d (mode_form f) in
      let os = options_stand j m [] f.options in
      let rs = rules_stand S ns j m f.rules in
      are-known ns [] [] (a ++ os ++ rs)
      (unmade-known ns [] (a ++ os ++ rs)
      (unmade-both (a ++ os) rs (unmade-both a os (missing-unmade d (mode_form f)) (options-unmade j m [] f.options)) (rules-unmade j m f.rules)))

  -- ---- premises by themselves

  -- a template behind one
  result-unmade : (bs : List patterns.Bound) (t : Option Sexp) → AreUnmade (result_stands bs t)
  result-unmade bs None = tt
  result-unmade bs (Some t) = (tt, tt)

  -- both
  pub question-again : (d : Sexp) (t : Option Sexp) → repeated_names [] (lone_premise_stands S ns d t) ≡ names_again ns [] [] (lone_premise_stands S ns d t)
  question-again d t =
      let ss = held_stands S ns [] d (headed d) in
      let rs = result_stands (bound_by_premise S ns (headed d)) t in
      are-known ns [] [] (ss ++ rs)
      (unmade-known ns [] (ss ++ rs) (unmade-both ss rs (held-unmade S ns [] d (headed d)) (result-unmade (bound_by_premise S ns (headed d)) t)))
