-- What a form gives by the names that are bound before each place is what it gives by the symbols that bind them.
use Rattle.std.proofs.Common.{◌≡◌, ◌++◌, ◌∙◌, ℕ, Bool, true, false, not, [], List, ◌∷◌, refl, sym, ap}
use Rattle.std.proofs.lemmas.List.{append-nil, map-append}
use Rattle.std.specs.Prelude.{Option, Some, None, bytes_eq, codes, if◌then◌else◌}
use Rattle.rdx_sexp.specs.Sexp.{Sexp}
use Rattle.rdx_lang.specs.Programs.{Mode}
use Rattle.rdx_patterns.specs.Parts.{text_of}
use Rattle.rdx_patterns.specs.PatternChecks as patterns
use Rattle.rdx_templates.specs.Bound.{Bound}
use Rattle.rdx_parts.specs.Arguments.{is_misfit, patterns_in}
use Rattle.rdx_parts.specs.ExtraForms.{of_rule}
use Rattle.rdx_parts.specs.Headed.{Headed, headed}
use Rattle.rdx_defs.specs.Inside.FormOutlines.{clause_branch, own_clause, in_clause, clause_branches, contract_patterns, metafunction_outline, rule_branch, in_rule, rule_branches, given_patterns, option_patterns, options_patterns, judgement_outline, question_outline}
use Rattle.rdx_parts.specs.ByNames as by_names
use Rattle.rdx_parts.specs.ByNames.{premise_names, input_names, rule_names, template_faults, arguments_faults, premise_faults, extras_faults, branch_faults, branches_faults, alone_faults, conclusion_faults, premises_faults, rules_faults, result_faults, question_faults, outline_faults}
use Rattle.rdx_defs.specs.JudgementForms.{RuleForm, rule_form, own_rule, OptionForm, JudgementForm, judgement_in, mode_form, own_mode, is_flag, key_text, is_fit_option}
use Rattle.rdx_defs.specs.JudgementRefusal.{result_stands, lone_premise_stands}
use Rattle.rdx_defs.specs.JudgementStands as judgements
use Rattle.rdx_defs.specs.JudgementStands.{rule_arguments, bound_by_inputs, bound_by_rule, conclusion_stands, premises_stand, name_stands, rule_stands, rules_stand, flags_stand, mode_stands, lone_patterns, given_stands, option_stands, options_stand, missing_mode, judgement_stands}
use Rattle.rdx_defs.specs.MetafunctionForms.{ClauseForm, clause_form, ContractForm, MetafunctionForm}
use Rattle.rdx_defs.specs.MetafunctionStands.{clause_stands, clauses_stand, contract_stands, function_stands}
use Rattle.rdx_relations.specs.RelationForms.{is_keyword}
use Rattle.rdx_templates.specs.Scope.{Scope}
use Rattle.rdx_parts.specs.Stands.{Stand, misshaped, function, judgement, template, misfit, names_bound, arguments_stand, misfits, held_stands, bound_by_premise, bound_by_extras}
use Rattle.rdx_parts.specs.declared.stands.faults.Check.{Check}
use Rattle.rdx_defs.proofs.LoneStands.{contract-lone}
use Rattle.rdx_parts.proofs.BranchStands.{branch_stands}
use Rattle.rdx_parts.proofs.NamesBound.{named_at, faults, patterns-names, premise-names, extras-names, passed, only, misshaped-none, named-none, misfits-none, skipped, faults-both, template-fault, arguments-faults, held-faults, extras-faults, branch-faults, branches-append, alone-faults, alone-append, rules-append}

module _ (S : Scope) (ns : List (List ℕ)) where
  -- of the inputs of a rule
  pub input-names : (m : Option Mode) (r : RuleForm) → input_names ns (rule_branch m r) ≡ names_bound (bound_by_inputs ns m r)
  input-names m r = patterns-names ns (patterns_in (rule_arguments m r))

  -- of a rule
  pub rule-names : (m : Option Mode) (r : RuleForm) → rule_names S ns (rule_branch m r) ≡ names_bound (bound_by_rule S ns m r)
  rule-names m r =
      (λ i. input-names m r i ++ extras-names S ns of_rule r.premises i)
      ∙ sym (map-append named_at (bound_by_inputs ns m r) (bound_by_extras of_rule S ns r.premises))

module _ (k : Check) (S : Scope) (ns : List (List ℕ)) where
  -- ---- metafunctions

  -- in a clause
  clause-faults : (x : List ℕ) (d : Sexp) (o : Option ClauseForm) → faults k S ns (clause_stands S ns x d o) ≡ branches_faults k S ns (in_clause (own_clause x o))
  clause-faults x d None = misshaped-none k S ns d
  clause-faults x d (Some c) = by_test (bytes_eq (text_of c.function) x)
    where
      by_test : (b : Bool)
          → faults k S ns (if b then branch_stands S ns true (clause_branch c) else misshaped d ∷ []) ≡ branches_faults k S ns (in_clause (if b then Some c else None))
      by_test true = branch-faults k S ns true (clause_branch c) ∙ sym (append-nil (branch_faults k S ns (clause_branch c)))
      by_test false = misshaped-none k S ns d

  -- in clauses
  clauses-faults : (x : List ℕ) (ds : List Sexp) → faults k S ns (clauses_stand S ns x ds) ≡ branches_faults k S ns (clause_branches x ds)
  clauses-faults x [] = refl
  clauses-faults x (d ∷ ds) =
      let o = own_clause x (clause_form d) in
      faults-both k S ns (clause_stands S ns x d (clause_form d)) (clauses_stand S ns x ds) (branches_faults k S ns (in_clause o))
      (branches_faults k S ns (clause_branches x ds)) (clause-faults x d (clause_form d)) (clauses-faults x ds)
      ∙ sym (branches-append k S ns (in_clause o) (clause_branches x ds))

  -- in a form; where no clause has its shape there is no contract
  pub function-faults : (m : MetafunctionForm) (f : Option Sexp) → (f ≡ None → m.contract ≡ None)
      → faults k S ns (function_stands S ns m f) ≡ outline_faults k S ns (metafunction_outline m f)
  function-faults m None h =
      let bs = branches_faults k S ns (clause_branches [] m.clauses) in
      clauses-faults [] m.clauses ∙ sym (append-nil bs)
      ∙ ap (λ (o : Option ContractForm). alone_faults k ns (contract_patterns o) ++ (bs ++ [])) (sym (h refl))
  function-faults m (Some f) h =
      let cs = clauses_stand S ns (text_of f) m.clauses in
      let bs = branches_faults k S ns (clause_branches (text_of f) m.clauses) in
      skipped k S ns (function f) (contract_stands m.contract ++ cs) (passed k S ns (function f) refl refl refl refl)
      ∙ faults-both k S ns (contract_stands m.contract) cs (alone_faults k ns (contract_patterns m.contract)) (bs ++ [])
      (ap (λ (ss : List Stand). faults k S ns ss) (contract-lone m.contract) ∙ alone-faults k S ns (contract_patterns m.contract))
      (clauses-faults (text_of f) m.clauses ∙ sym (append-nil bs))

  -- ---- rules

  -- in a conclusion
  conclusion-faults : (m : Option Mode) (r : RuleForm) → faults k S ns (conclusion_stands S ns m r) ≡ conclusion_faults k S ns (rule_branch m r)
  conclusion-faults m r =
      let b = is_misfit m r.parts.arguments in
      let a = rule_arguments m r in
      let es = names_bound (bound_by_rule S ns m r) in
      faults-both k S ns (misfits b r.conclusion r.parts.head) (arguments_stand ns [] es a) [] (conclusion_faults k S ns (rule_branch m r))
      (misfits-none k S ns b r.conclusion r.parts.head)
      (arguments-faults k S ns [] es a ∙ ap (λ (gs : Bound). arguments_faults k S ns [] gs a) (sym (rule-names S ns m r)))

  -- in premises
  premises-faults : (m : Option Mode) (r : RuleForm) → faults k S ns (premises_stand S ns m r) ≡ premises_faults k S ns (rule_branch m r)
  premises-faults m r =
      extras-faults k S ns of_rule (bound_by_inputs ns m r) true r.premises
      ∙ ap (λ (es : Bound). extras_faults of_rule k S ns es r.premises) (sym (input-names S ns m r))

  -- in the name of a rule
  name-none : (o : Option Sexp) → faults k S ns (name_stands o) ≡ []
  name-none None = refl
  name-none (Some n) = named-none k S ns false n

  -- in a rule
  rule-faults : (m : Option Mode) (d : Sexp) (o : Option RuleForm) → faults k S ns (rule_stands S ns m d o) ≡ rules_faults k S ns (in_rule m o)
  rule-faults m d None = misshaped-none k S ns d
  rule-faults m d (Some r) = by_test r.is_last ∙ sym (append-nil (by_names.rule_faults k S ns (rule_branch m r)))
    where
      by_test : (b : Bool)
          → faults k S ns
          (if b
          then premises_stand S ns m r ++ name_stands r.name ++ conclusion_stands S ns m r
          else conclusion_stands S ns m r ++ premises_stand S ns m r ++ name_stands r.name)
          ≡ (if b
          then premises_faults k S ns (rule_branch m r) ++ conclusion_faults k S ns (rule_branch m r)
          else conclusion_faults k S ns (rule_branch m r) ++ premises_faults k S ns (rule_branch m r))
      by_test true =
          faults-both k S ns (premises_stand S ns m r ++ name_stands r.name) (conclusion_stands S ns m r) (premises_faults k S ns (rule_branch m r))
          (conclusion_faults k S ns (rule_branch m r))
          (faults-both k S ns (premises_stand S ns m r) (name_stands r.name) (premises_faults k S ns (rule_branch m r)) [] (premises-faults m r) (name-none r.name)
          ∙ append-nil (premises_faults k S ns (rule_branch m r)))
          (conclusion-faults m r)
      by_test false =
          faults-both k S ns (conclusion_stands S ns m r ++ premises_stand S ns m r) (name_stands r.name)
          (conclusion_faults k S ns (rule_branch m r) ++ premises_faults k S ns (rule_branch m r)) []
          (faults-both k S ns (conclusion_stands S ns m r) (premises_stand S ns m r) (conclusion_faults k S ns (rule_branch m r))
          (premises_faults k S ns (rule_branch m r)) (conclusion-faults m r) (premises-faults m r))
          (name-none r.name)
          ∙ append-nil (conclusion_faults k S ns (rule_branch m r) ++ premises_faults k S ns (rule_branch m r))

  -- in rules
  rules-faults : (j : Option Sexp) (m : Option Mode) (ds : List Sexp) → faults k S ns (rules_stand S ns j m ds) ≡ rules_faults k S ns (rule_branches j m ds)
  rules-faults j m [] = refl
  rules-faults j m (d ∷ ds) =
      let o = own_rule j (rule_form d) in
      faults-both k S ns (rule_stands S ns m d o) (rules_stand S ns j m ds) (rules_faults k S ns (in_rule m o)) (rules_faults k S ns (rule_branches j m ds))
      (rule-faults m d o) (rules-faults j m ds)
      ∙ sym (rules-append k S ns (in_rule m o) (rule_branches j m ds))

  -- ---- options

  -- in the items of a mode
  flags-none : (j : Sexp) (ds : List Sexp) → faults k S ns (flags_stand j ds) ≡ []
  flags-none j [] = refl
  flags-none j (d ∷ ds) =
      faults-both k S ns (misfits (not (is_flag d)) d j) (flags_stand j ds) [] [] (misfits-none k S ns (not (is_flag d)) d j) (flags-none j ds)

  -- in what an option gives
  given-faults : (m : Option Mode) (key d : Sexp) (o : Option Headed) → faults k S ns (given_stands m key d o) ≡ alone_faults k ns (given_patterns key o)
  given-faults m key d None = refl
  given-faults m key d (Some h) = by_test (is_keyword (codes "mode") key)
    where
      by_test : (b : Bool) → faults k S ns (if b then mode_stands h else judgements.contract_stands m d h) ≡ alone_faults k ns (if b then [] else h.arguments)
      by_test true =
          skipped k S ns (judgement h.head) (flags_stand h.head h.arguments) (passed k S ns (judgement h.head) refl refl refl refl) ∙ flags-none h.head h.arguments
      by_test false =
          faults-both k S ns (misfits (is_misfit m h.arguments) d h.head) (lone_patterns h.arguments) [] (alone_faults k ns h.arguments)
          (misfits-none k S ns (is_misfit m h.arguments) d h.head) (alone-faults k S ns h.arguments)

  -- in an option
  option-faults : (m : Option Mode) (key : Sexp) (o : Option Sexp) → faults k S ns (option_stands m key o) ≡ alone_faults k ns (option_patterns key o)
  option-faults m key None = refl
  option-faults m key (Some d) = given-faults m key d (headed d)

  -- in one that may have its shape
  fit-faults : (m : Option Mode) (o : OptionForm) (b : Bool)
      → faults k S ns (if b then option_stands m o.key o.given else misshaped o.key ∷ []) ≡ alone_faults k ns (if b then option_patterns o.key o.given else [])
  fit-faults m o true = option-faults m o.key o.given
  fit-faults m o false = misshaped-none k S ns o.key

  -- in options
  options-faults : (j : Option Sexp) (m : Option Mode) (seen : List (List ℕ)) (os : List OptionForm)
      → faults k S ns (options_stand j m seen os) ≡ alone_faults k ns (options_patterns j seen os)
  options-faults j m seen [] = refl
  options-faults j m seen (o ∷ os) =
      let b = is_fit_option j seen o in
      let ps = if b then option_patterns o.key o.given else [] in
      let qs = options_patterns j (key_text o.key ∷ seen) os in
      faults-both k S ns (if b then option_stands m o.key o.given else misshaped o.key ∷ []) (options_stand j m (key_text o.key ∷ seen) os) (alone_faults k ns ps)
      (alone_faults k ns qs) (fit-faults m o b) (options-faults j m (key_text o.key ∷ seen) os)
      ∙ sym (alone-append k S ns ps qs)

  -- ---- judgements

  -- where a mode is missing
  missing-none : (d : Sexp) (o : Option Headed) → faults k S ns (missing_mode d o) ≡ []
  missing-none d None = only k S ns (misfit d None) [] (passed k S ns (misfit d None) refl refl refl refl)
  missing-none d (Some h) = refl

  -- in a form
  pub judgement-faults : (d : Sexp) (f : JudgementForm) → faults k S ns (judgement_stands S ns d (Some f)) ≡ outline_faults k S ns (judgement_outline f)
  judgement-faults d f =
      let j = judgement_in f in
      let m = own_mode f in
      let ss = options_stand j m [] f.options in
      let rs = rules_stand S ns j m f.rules in
      let ps = alone_faults k ns (options_patterns j [] f.options) in
      let qs = rules_faults k S ns (rule_branches j m f.rules) in
      faults-both k S ns (missing_mode d (mode_form f) ++ ss) rs ps (qs ++ [])
      (faults-both k S ns (missing_mode d (mode_form f)) ss [] ps (missing-none d (mode_form f)) (options-faults j m [] f.options))
      (rules-faults j m f.rules ∙ sym (append-nil qs))

  -- in a template behind a premise
  result-faults : (bs : List patterns.Bound) (t : Option Sexp) → faults k S ns (result_stands bs t) ≡ result_faults k S (names_bound bs) t
  result-faults bs None = refl
  result-faults bs (Some t) = only k S ns (template (names_bound bs) t) (template_faults k S (names_bound bs) t) (template-fault k S ns (names_bound bs) t)

  -- in a premise by itself
  pub question-faults : (d : Sexp) (t : Option Sexp) → faults k S ns (lone_premise_stands S ns d t) ≡ outline_faults k S ns (question_outline d t)
  question-faults d t =
      let bs = bound_by_premise S ns (headed d) in
      faults-both k S ns (held_stands S ns [] d (headed d)) (result_stands bs t) (premise_faults k S ns [] (headed d)) (result_faults k S (premise_names S ns (headed d)) t)
      (held-faults k S ns [] d (headed d)) (result-faults bs t ∙ ap (λ (es : Bound). result_faults k S es t) (sym (premise-names S ns (headed d))))
      ∙ sym (append-nil (question_faults k S ns (record { premise = d; result = t })))
