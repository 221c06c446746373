-- What the patterns of a readable form bind are names, where none of them may not be bound.
use Rattle.std.proofs.Common.{◌≡◌, ◌++◌, ℕ, Bool, true, false, List, [], ◌∷◌, map, refl, sym, subst, if◌then◌else◌}
use Rattle.std.specs.Prelude.{Option, Some, None, codes}
use Rattle.rdx_sexp.specs.Sexp.{Sexp}
use Rattle.rdx_lang.specs.Programs.{Mode}
use Rattle.rdx_patterns.specs.Occurrences.{occurrences}
use Rattle.rdx_patterns.specs.Parts.{text_of}
use Rattle.rdx_patterns.specs.PatternChecks.{bad_binders}
use Rattle.rdx_patterns.proofs.Firsts.{none_both}
use Rattle.rdx_parts.specs.Arguments.{is_misfit}
use Rattle.rdx_parts.specs.ExtraForms.{of_rule}
use Rattle.rdx_parts.specs.Headed.{Headed, headed}
use Rattle.rdx_parts.specs.BareStands as bare
use Rattle.rdx_defs.specs.Inside.BareForms as bare_forms
use Rattle.rdx_parts.specs.BareStands.{lone_pattern}
use Rattle.rdx_defs.specs.Inside.FormOutlines.{clause_branch, in_clause, own_clause, clause_branches, contract_patterns, metafunction_outline, rule_branch, in_rule, rule_branches, given_patterns, option_patterns, options_patterns, judgement_outline, question_outline}
use Rattle.rdx_parts.specs.Outlines.{Takes, one, Branch, taken_occurrences, RuleBranch}
use Rattle.rdx_parts.specs.PartsHave.{ArgumentsHave, BranchesHave, RuleHas, RulesHave, AloneHave, OutlineHas}
use Rattle.rdx_defs.specs.JudgementForms.{RuleForm, rule_form, own_rule, OptionForm, JudgementForm, judgement_in, mode_form, own_mode, key_text, is_fit_option}
use Rattle.rdx_defs.specs.JudgementStands.{rule_arguments, name_stands, missing_mode, mode_stands, contract_stands, given_stands, option_stands, options_stand}
use Rattle.rdx_defs.specs.MetafunctionForms.{ClauseForm, clause_form, ContractForm, MetafunctionForm}
use Rattle.rdx_relations.specs.RelationForms.{is_keyword}
use Rattle.rdx_templates.specs.Scope.{Scope}
use Rattle.rdx_parts.specs.StandChecks.{bad_name, bad_names}
use Rattle.rdx_parts.specs.Stands.{Stand, misshaped, function, template, misfits}
use Rattle.rdx_relations.proofs.PartsOfForms.{wanted, bound}
use Rattle.rdx_relations.proofs.BoundParts.{both, arguments-bind, premise-binds, extras-bind, branch-binds}

-- ---- names that may not be

-- Where T holds of what is taken, and R follows where none of the names that it binds may not be bound, R holds of what is taken.
module _ (S : Scope) (T R : Takes → Type 0) (binds : (w : Takes) → T w → bad_binders (taken_occurrences w) ≡ [] → R w) where
  -- ---- cases and clauses

  -- a clause before others
  clause-binds : (d : Sexp) (o : Option ClauseForm) (bs : List Branch) → bad_names (bare_forms.clause_stands S d o) ≡ []
      → (BranchesHave S (wanted T) bs → BranchesHave S (bound R) bs) → BranchesHave S (wanted T) (in_clause o ++ bs) → BranchesHave S (bound R) (in_clause o ++ bs)
  clause-binds d None bs e f h = f h
  clause-binds d (Some c) bs e f h = (branch-binds S T R binds true (clause_branch c) e h.0, f h.1)

  -- clauses
  clauses-bind : (x : List ℕ) (ds : List Sexp) → bad_names (bare_forms.clauses_stand S x ds) ≡ [] → BranchesHave S (wanted T) (clause_branches x ds)
      → BranchesHave S (bound R) (clause_branches x ds)
  clauses-bind x [] e h = tt
  clauses-bind x (d ∷ ds) e h =
      let k = both (bare_forms.clause_stands S d (own_clause x (clause_form d))) (bare_forms.clauses_stand S x ds) e in
      clause-binds d (own_clause x (clause_form d)) (clause_branches x ds) k.0 (λ g. clauses-bind x ds k.1 g) h

  -- ---- patterns that stand by themselves

  -- before others
  alone-before : (ps qs : List Sexp) → bad_names (map lone_pattern ps) ≡ [] → (AloneHave T qs → AloneHave R qs)
      → AloneHave T (ps ++ qs) → AloneHave R (ps ++ qs)
  alone-before [] qs e f h = f h
  alone-before (p ∷ ps) qs e f h =
      let k = none_both (bad_binders (occurrences 0 p)) (bad_names (map lone_pattern ps)) e in
      (binds (one p) h.0 k.0, alone-before ps qs k.1 f h.1)

  -- alone
  alone-bind : (ps : List Sexp) → bad_names (map lone_pattern ps) ≡ [] → AloneHave T ps → AloneHave R ps
  alone-bind [] e h = tt
  alone-bind (p ∷ ps) e h =
      let k = none_both (bad_binders (occurrences 0 p)) (bad_names (map lone_pattern ps)) e in
      (binds (one p) h.0 k.0, alone-bind ps k.1 h.1)

  -- ---- relations and metafunctions

  -- a metafunction; where no clause has its shape there is no contract
  pub metafunction-binds : (m : MetafunctionForm) (f : Option Sexp) → (f ≡ None → m.contract ≡ None) → bad_names (bare_forms.function_stands S m f) ≡ []
      → OutlineHas S (wanted T) (metafunction_outline m f) → OutlineHas S (bound R) (metafunction_outline m f)
  metafunction-binds m None n e h = record {
    alone = subst (λ (o : Option ContractForm). AloneHave R (contract_patterns o)) (sym (n refl)) tt;
    branches = clauses-bind [] m.clauses e h.branches;
    rules = tt;
    questions = tt;
  }
  metafunction-binds m (Some f) n e h =
      let ps = contract_patterns m.contract in
      let k = none_both (bad_name (function f)) (bad_names (map lone_pattern ps ++ bare_forms.clauses_stand S (text_of f) m.clauses)) e in
      let l = both (map lone_pattern ps) (bare_forms.clauses_stand S (text_of f) m.clauses) k.1 in
      record { alone = alone-bind ps l.0 h.alone; branches = clauses-bind (text_of f) m.clauses l.1 h.branches; rules = tt; questions = tt }

  -- ---- judgements

  -- the conclusion of a rule
  conclusion-binds : (m : Option Mode) (r : RuleForm) → bad_names (bare_forms.conclusion_stands m r) ≡ [] → ArgumentsHave S (wanted T) (rule_arguments m r)
      → ArgumentsHave S (bound R) (rule_arguments m r)
  conclusion-binds m r e h =
      arguments-bind S T R binds (rule_arguments m r) (both (misfits (is_misfit m r.parts.arguments) r.conclusion r.parts.head) (bare.arguments_stand (rule_arguments m r)) e).1 h

  -- a rule in either layout
  rule-binds : (m : Option Mode) (d : Sexp) (r : RuleForm) → bad_names (bare_forms.rule_stands S m d (Some r)) ≡ [] → RuleHas S (wanted T) (rule_branch m r)
      → RuleHas S (bound R) (rule_branch m r)
  rule-binds m d r e h = by_test r.is_last e
    where
      premises : List Stand
      premises = bare.extras_stand of_rule S true r.premises

      conclusion : List Stand
      conclusion = bare_forms.conclusion_stands m r

      by_test : (b : Bool) → bad_names (if b then premises ++ name_stands r.name ++ conclusion else conclusion ++ premises ++ name_stands r.name) ≡ []
          → RuleHas S (bound R) (rule_branch m r)
      by_test true f =
          let k = both (premises ++ name_stands r.name) conclusion f in
          let l = both premises (name_stands r.name) k.0 in
          record { arguments = conclusion-binds m r k.1 h.arguments; premises = extras-bind S T R binds of_rule true r.premises l.0 h.premises }
      by_test false f =
          let k = both (conclusion ++ premises) (name_stands r.name) f in
          let l = both conclusion premises k.0 in
          record { arguments = conclusion-binds m r l.0 h.arguments; premises = extras-bind S T R binds of_rule true r.premises l.1 h.premises }

  -- a rule before others
  rule-before : (m : Option Mode) (d : Sexp) (o : Option RuleForm) (rs : List RuleBranch) → bad_names (bare_forms.rule_stands S m d o) ≡ []
      → (RulesHave S (wanted T) rs → RulesHave S (bound R) rs) → RulesHave S (wanted T) (in_rule m o ++ rs) → RulesHave S (bound R) (in_rule m o ++ rs)
  rule-before m d None rs e f h = f h
  rule-before m d (Some r) rs e f h = (rule-binds m d r e h.0, f h.1)

  -- rules
  rules-bind : (j : Option Sexp) (m : Option Mode) (ds : List Sexp) → bad_names (bare_forms.rules_stand S j m ds) ≡ [] → RulesHave S (wanted T) (rule_branches j m ds)
      → RulesHave S (bound R) (rule_branches j m ds)
  rules-bind j m [] e h = tt
  rules-bind j m (d ∷ ds) e h =
      let k = both (bare_forms.rule_stands S m d (own_rule j (rule_form d))) (bare_forms.rules_stand S j m ds) e in
      rule-before m d (own_rule j (rule_form d)) (rule_branches j m ds) k.0 (λ g. rules-bind j m ds k.1 g) h

  -- what an option gives, before other patterns
  given-binds : (m : Option Mode) (k d : Sexp) (o : Option Headed) (qs : List Sexp) → bad_names (given_stands m k d o) ≡ []
      → (AloneHave T qs → AloneHave R qs) → AloneHave T (given_patterns k o ++ qs) → AloneHave R (given_patterns k o ++ qs)
  given-binds m k d None qs e f h = f h
  given-binds m k d (Some q) qs e f h = by_test (is_keyword (codes "mode") k) e h
    where
      by_test : (b : Bool) → bad_names (if b then mode_stands q else contract_stands m d q) ≡ []
          → AloneHave T ((if b then [] else q.arguments) ++ qs) → AloneHave R ((if b then [] else q.arguments) ++ qs)
      by_test true g l = f l
      by_test false g l = alone-before q.arguments qs (both (misfits (is_misfit m q.arguments) d q.head) (map lone_pattern q.arguments) g).1 f l

  -- where it gives something
  option-binds : (m : Option Mode) (k : Sexp) (o : Option Sexp) (qs : List Sexp) → bad_names (option_stands m k o) ≡ []
      → (AloneHave T qs → AloneHave R qs) → AloneHave T (option_patterns k o ++ qs) → AloneHave R (option_patterns k o ++ qs)
  option-binds m k None qs e f h = f h
  option-binds m k (Some d) qs e f h = given-binds m k d (headed d) qs e f h

  -- where it has its shape
  option-when : (b : Bool) (m : Option Mode) (o : OptionForm) (qs : List Sexp)
      → bad_names (if b then option_stands m o.key o.given else misshaped o.key ∷ []) ≡ [] → (AloneHave T qs → AloneHave R qs)
      → AloneHave T ((if b then option_patterns o.key o.given else []) ++ qs)
      → AloneHave R ((if b then option_patterns o.key o.given else []) ++ qs)
  option-when true m o qs e f h = option-binds m o.key o.given qs e f h
  option-when false m o qs e f h = f h

  -- options
  options-bind : (j : Option Sexp) (m : Option Mode) (seen : List (List ℕ)) (os : List OptionForm) → bad_names (options_stand j m seen os) ≡ []
      → AloneHave T (options_patterns j seen os) → AloneHave R (options_patterns j seen os)
  options-bind j m seen [] e h = tt
  options-bind j m seen (o ∷ os) e h =
      let b = is_fit_option j seen o in
      let later = key_text o.key ∷ seen in
      let k = both (if b then option_stands m o.key o.given else misshaped o.key ∷ []) (options_stand j m later os) e in
      option-when b m o (options_patterns j later os) k.0 (λ g. options-bind j m later os k.1 g) h

  -- a judgement
  pub judgement-binds : (d : Sexp) (f : JudgementForm) → bad_names (bare_forms.judgement_stands S d f) ≡ [] → OutlineHas S (wanted T) (judgement_outline f)
      → OutlineHas S (bound R) (judgement_outline f)
  judgement-binds d f e h =
      let options = options_stand (judgement_in f) (own_mode f) [] f.options in
      let rules = bare_forms.rules_stand S (judgement_in f) (own_mode f) f.rules in
      let k = both (missing_mode d (mode_form f) ++ options) rules e in
      let l = both (missing_mode d (mode_form f)) options k.0 in
      record {
        alone = options-bind (judgement_in f) (own_mode f) [] f.options l.1 h.alone;
        branches = tt;
        rules = rules-bind (judgement_in f) (own_mode f) f.rules k.1 h.rules;
        questions = tt;
      }

  -- ---- premises by themselves

  -- one, and what stands behind it
  pub question-binds : (d : Sexp) (t : Option Sexp) → bad_names (bare_forms.question_stands S d t) ≡ [] → OutlineHas S (wanted T) (question_outline d t)
      → OutlineHas S (bound R) (question_outline d t)
  question-binds d t e h = record {
    alone = tt;
    branches = tt;
    rules = tt;
    questions = (record { premise = premise-binds S T R binds d (headed d) (by_result t e) h.questions.0.premise; result = h.questions.0.result }, tt);
  }
    where
      by_result : (o : Option Sexp) → bad_names (bare_forms.question_stands S d o) ≡ [] → bad_names (bare.held_stands S d (headed d)) ≡ []
      by_result None f = f
      by_result (Some x) f = (both (bare.held_stands S d (headed d)) (template [] x ∷ []) f).0
