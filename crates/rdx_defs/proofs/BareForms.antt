-- What stands in a form, without what is bound.
use Rattle.std.proofs.Common.{◌≡◌, ◌++◌, ◌∙◌, ℕ, Bool, true, false, not, [], List, ◌∷◌, map, refl, ap}
use Rattle.std.proofs.lemmas.List.{append-nil}
use Rattle.std.specs.Prelude.{Option, Some, None, bytes_eq, codes, if◌then◌else◌}
use Rattle.rdx_sexp.specs.Sexp.{Sexp}
use Rattle.rdx_lang.specs.Programs.{Mode}
use Rattle.rdx_patterns.specs.Parts.{text_of}
use Rattle.rdx_parts.specs.Arguments.{is_misfit}
use Rattle.rdx_parts.specs.ExtraForms.{of_clause, of_rule}
use Rattle.rdx_parts.specs.Headed.{Headed, headed}
use Rattle.rdx_parts.specs.BareStands as bare_stands
use Rattle.rdx_defs.specs.Inside.BareForms as bare_forms
use Rattle.rdx_parts.specs.BareStands.{lone_pattern}
use Rattle.rdx_defs.specs.Inside.FormOutlines.{clause_branch, own_clause, contract_patterns}
use Rattle.rdx_parts.specs.Outlines.{taken_occurrences}
use Rattle.rdx_defs.specs.JudgementForms.{RuleForm, rule_form, own_rule, OptionForm, JudgementForm, judgement_in, mode_form, own_mode, is_flag, key_text, is_fit_option}
use Rattle.rdx_defs.specs.JudgementRefusal.{result_stands, lone_premise_stands}
use Rattle.rdx_defs.specs.JudgementStands as judgements
use Rattle.rdx_defs.specs.JudgementStands.{rule_arguments, bound_by_inputs, bound_by_rule, conclusion_stands, premises_stand, name_stands, rule_stands, rules_stand, flags_stand, mode_stands, lone_patterns, given_stands, option_stands, options_stand, missing_mode, judgement_stands}
use Rattle.rdx_defs.specs.MetafunctionForms.{ClauseForm, clause_form, ContractForm, MetafunctionForm}
use Rattle.rdx_defs.specs.MetafunctionStands.{clause_stands, clauses_stand, contract_stands, function_stands}
use Rattle.rdx_relations.specs.RelationForms.{is_keyword}
use Rattle.rdx_templates.specs.Scope.{Scope}
use Rattle.rdx_parts.specs.Stands.{Stand, misshaped, function, judgement, pattern, template, names_bound, arguments_stand, misfits, held_stands, bound_by_premise}
use Rattle.rdx_defs.proofs.LoneStands.{contract-lone}
use Rattle.rdx_parts.proofs.BranchStands.{branch_stands}
use Rattle.rdx_parts.proofs.BareChecks.{bare, bare-both, bare-either, bare-lone, bare-misfits, bare-arguments, bare-held, bare-extras}

-- ---- options of judgements

-- what is no flag of a mode
bare-flags : (j : Sexp) (ds : List Sexp) → map bare (flags_stand j ds) ≡ flags_stand j ds
bare-flags j [] = refl
bare-flags j (d ∷ ds) =
    let ss = misfits (not (is_flag d)) d j in
    bare-both ss (flags_stand j ds) ss (flags_stand j ds) (bare-misfits (not (is_flag d)) d j) (bare-flags j ds)

-- a contract
bare-given-contract : (m : Option Mode) (d : Sexp) (h : Headed) → map bare (judgements.contract_stands m d h) ≡ judgements.contract_stands m d h
bare-given-contract m d h =
    let ss = misfits (is_misfit m h.arguments) d h.head in
    bare-both ss (lone_patterns h.arguments) ss (lone_patterns h.arguments) (bare-misfits (is_misfit m h.arguments) d h.head) (bare-lone h.arguments)

-- what an option gives
bare-given : (m : Option Mode) (k d : Sexp) (o : Option Headed) → map bare (given_stands m k d o) ≡ given_stands m k d o
bare-given m k d None = refl
bare-given m k d (Some h) =
    bare-either (is_keyword (codes "mode") k) (mode_stands h) (judgements.contract_stands m d h) (mode_stands h) (judgements.contract_stands m d h)
    (ap (λ (ss : List Stand). judgement h.head ∷ ss) (bare-flags h.head h.arguments)) (bare-given-contract m d h)

-- an option
bare-option : (m : Option Mode) (k : Sexp) (o : Option Sexp) → map bare (option_stands m k o) ≡ option_stands m k o
bare-option m k None = refl
bare-option m k (Some d) = bare-given m k d (headed d)

-- options
bare-options : (j : Option Sexp) (m : Option Mode) (seen : List (List ℕ)) (os : List OptionForm) → map bare (options_stand j m seen os) ≡ options_stand j m seen os
bare-options j m seen [] = refl
bare-options j m seen (o ∷ os) =
    let ss = option_stands m o.key o.given in
    let rs = misshaped o.key ∷ [] in
    let b = is_fit_option j seen o in
    let us = options_stand j m (key_text o.key ∷ seen) os in
    bare-both (if b then ss else rs) us (if b then ss else rs) us (bare-either b ss rs ss rs (bare-option m o.key o.given) refl) (bare-options j m (key_text o.key ∷ seen) os)

-- a mode that is missing
bare-missing : (d : Sexp) (o : Option Headed) → map bare (missing_mode d o) ≡ missing_mode d o
bare-missing d None = refl
bare-missing d (Some h) = refl

-- the name of a rule
bare-name : (o : Option Sexp) → map bare (name_stands o) ≡ name_stands o
bare-name None = refl
bare-name (Some n) = refl

-- ---- shortcuts

module _ (S : Scope) (ns : List (List ℕ)) where
  -- in a clause
  bare-clause : (x : List ℕ) (d : Sexp) (o : Option ClauseForm) → map bare (clause_stands S ns x d o) ≡ bare_forms.clause_stands S d (own_clause x o)
  bare-clause x d None = refl
  bare-clause x d (Some c) = by_test (bytes_eq (text_of c.function) x)
    where
      by_test : (b : Bool) → map bare (if b then branch_stands S ns true (clause_branch c) else misshaped d ∷ []) ≡ bare_forms.clause_stands S d (if b then Some c else None)
      by_test true = ap (λ (ss : List Stand). pattern [] (taken_occurrences (clause_branch c).takes) ∷ template [] c.result ∷ ss) (bare-extras S ns of_clause _ true c.extras)
      by_test false = refl

  -- in clauses
  bare-clauses : (x : List ℕ) (ds : List Sexp) → map bare (clauses_stand S ns x ds) ≡ bare_forms.clauses_stand S x ds
  bare-clauses x [] = refl
  bare-clauses x (d ∷ ds) =
      bare-both (clause_stands S ns x d (clause_form d)) (clauses_stand S ns x ds) (bare_forms.clause_stands S d (own_clause x (clause_form d))) (bare_forms.clauses_stand S x ds)
      (bare-clause x d (clause_form d)) (bare-clauses x ds)

  -- in a contract
  bare-contract : (o : Option ContractForm) → map bare (contract_stands o) ≡ map lone_pattern (contract_patterns o)
  bare-contract o = ap (map bare) (contract-lone o) ∙ bare-lone (contract_patterns o)

  -- in a metafunction
  pub bare-function : (m : MetafunctionForm) (f : Option Sexp) → map bare (function_stands S ns m f) ≡ bare_forms.function_stands S m f
  bare-function m None = bare-clauses [] m.clauses
  bare-function m (Some f) =
      ap (λ (ss : List Stand). function f ∷ ss)
      (bare-both (contract_stands m.contract) (clauses_stand S ns (text_of f) m.clauses) (map lone_pattern (contract_patterns m.contract))
      (bare_forms.clauses_stand S (text_of f) m.clauses) (bare-contract m.contract) (bare-clauses (text_of f) m.clauses))

  -- in the conclusion of a rule
  bare-conclusion : (m : Option Mode) (r : RuleForm) → map bare (conclusion_stands S ns m r) ≡ bare_forms.conclusion_stands m r
  bare-conclusion m r =
      let b = is_misfit m r.parts.arguments in
      let ss = misfits b r.conclusion r.parts.head in
      let es = names_bound (bound_by_rule S ns m r) in
      bare-both ss (arguments_stand ns [] es (rule_arguments m r)) ss (bare_stands.arguments_stand (rule_arguments m r))
      (bare-misfits b r.conclusion r.parts.head) (bare-arguments S ns [] es (rule_arguments m r))

  -- in its premises
  bare-premises : (m : Option Mode) (r : RuleForm) → map bare (premises_stand S ns m r) ≡ bare_stands.extras_stand of_rule S true r.premises
  bare-premises m r = bare-extras S ns of_rule (bound_by_inputs ns m r) true r.premises

  -- in a rule
  bare-rule : (m : Option Mode) (d : Sexp) (o : Option RuleForm) → map bare (rule_stands S ns m d o) ≡ bare_forms.rule_stands S m d o
  bare-rule m d None = refl
  bare-rule m d (Some r) =
      let ps = premises_stand S ns m r in
      let qs = bare_stands.extras_stand of_rule S true r.premises in
      let cs = conclusion_stands S ns m r in
      let ds = bare_forms.conclusion_stands m r in
      let xs = name_stands r.name in
      bare-either r.is_last (ps ++ xs ++ cs) (cs ++ ps ++ xs) (qs ++ xs ++ ds) (ds ++ qs ++ xs)
      (bare-both (ps ++ xs) cs (qs ++ xs) ds (bare-both ps xs qs xs (bare-premises m r) (bare-name r.name)) (bare-conclusion m r))
      (bare-both (cs ++ ps) xs (ds ++ qs) xs (bare-both cs ps ds qs (bare-conclusion m r) (bare-premises m r)) (bare-name r.name))

  -- in rules
  bare-rules : (j : Option Sexp) (m : Option Mode) (ds : List Sexp) → map bare (rules_stand S ns j m ds) ≡ bare_forms.rules_stand S j m ds
  bare-rules j m [] = refl
  bare-rules j m (d ∷ ds) =
      let o = own_rule j (rule_form d) in
      bare-both (rule_stands S ns m d o) (rules_stand S ns j m ds) (bare_forms.rule_stands S m d o) (bare_forms.rules_stand S j m ds)
      (bare-rule m d o) (bare-rules j m ds)

  -- in a judgement
  pub bare-judgement : (d : Sexp) (f : JudgementForm) → map bare (judgement_stands S ns d (Some f)) ≡ bare_forms.judgement_stands S d f
  bare-judgement d f =
      let j = judgement_in f in
      let m = own_mode f in
      let a = missing_mode d (mode_form f) in
      let os = options_stand j m [] f.options in
      let rs = rules_stand S ns j m f.rules in
      let qs = bare_forms.rules_stand S j m f.rules in
      bare-both (a ++ os) rs (a ++ os) qs (bare-both a os a os (bare-missing d (mode_form f)) (bare-options j m [] f.options)) (bare-rules j m f.rules)

  -- in a premise by itself, and behind it
  pub bare-question : (d : Sexp) (t : Option Sexp) → map bare (lone_premise_stands S ns d t) ≡ bare_forms.question_stands S d t
  bare-question d None =
      let ss = held_stands S ns [] d (headed d) in
      let rs = bare_stands.held_stands S d (headed d) in
      bare-both ss [] rs [] (bare-held S ns [] d (headed d)) refl ∙ append-nil rs
  bare-question d (Some t) =
      bare-both (held_stands S ns [] d (headed d)) (result_stands (bound_by_premise S ns (headed d)) (Some t)) (bare_stands.held_stands S d (headed d)) (template [] t ∷ [])
      (bare-held S ns [] d (headed d)) refl
