-- What each datum of a form has, where that passes from a list to its items, the parts of the form have.
use Rattle.std.proofs.Common.{◌≡◌, ◌++◌, ◌<◌, ◌+◌, ℕ, suc, Bool, true, false, List, [], ◌∷◌, IsTrue, refl, sym, ap, subst, arith, if◌then◌else◌}
use Rattle.std.proofs.Math.Nat.{le-max_right}
use Rattle.std.proofs.lemmas.List.{append_assoc}
use Rattle.std.specs.Prelude.{◌&&◌, Option, Some, None, option_map, codes, bytes_eq}
use Rattle.rdx_sexp.specs.Sexp.{Sexp, Sexps, leaf, list, nil, cons, sexps, integer, truth, text, symbol, keyword}
use Rattle.rdx_sexp.specs.Size.{sexp_depth, sexps_depth, AreSpelled}
use Rattle.rdx_term.specs.Spelling.{is_name}
use Rattle.rdx_lang.specs.Programs.{Mode}
use Rattle.rdx_patterns.specs.Heads.{Roles, patterns as items_of_list, next, rest}
use Rattle.rdx_patterns.specs.Names.{is_one_of, begins_with_dots}
use Rattle.rdx_patterns.specs.Parts.{listed, parts, text_of, is_symbol, is_word}
use Rattle.rdx_patterns.specs.Readable.{IsReadable}
use Rattle.rdx_patterns.specs.Reading.{is_pattern}
use Rattle.rdx_patterns.proofs.Booleans.{and_true, or_false}
use Rattle.rdx_patterns.proofs.SpelledNames.{name-spelled}
use Rattle.rdx_parts.specs.ExtraForms.{of_clause, of_rule}
use Rattle.rdx_parts.specs.Headed.{Headed, headed}
use Rattle.rdx_defs.specs.Inside.FormOutlines.{clause_branch, in_clause, own_clause, clause_branches, pattern_when, patterns_among, contract_patterns, metafunction_outline, rule_branch, in_rule, rule_branches, given_patterns, option_patterns, options_patterns, judgement_outline, question_outline}
use Rattle.rdx_parts.specs.Outlines.{Takes, several, Branch, RuleBranch}
use Rattle.rdx_parts.specs.PartsHave.{AreReadableItems, IsReadableIn, BranchHas, BranchesHave, RuleHas, RulesHave, OutlineHas}
use Rattle.rdx_defs.specs.JudgementForms.{RuleForm, is_line, cut_at_line, is_label, concluded, rule_behind, cut_name, rule_ahead, rule_cut, rule_among, rule_form, OptionForm, JudgementForm, is_any_keyword, with_option, cut_options, judgement_among, judgement_form, given_by, headed_by, mode_form, contract_form, judgement_in, own_mode, is_named_so, key_text, is_fit_option, own_rule}
use Rattle.rdx_defs.specs.MetafunctionForms.{ClauseForm, clause_behind, clause_among, clause_form, ContractForm, cut_at_arrow, MetafunctionForm, with_clauses, contracted, metafunction_over, metafunction_among, metafunction_form, function_or, clauses_function, function_by, function_in}
use Rattle.rdx_relations.specs.RelationForms.{is_keyword}
use Rattle.rdx_templates.specs.Scope.{Scope}
use Rattle.rdx_parts.specs.StandChecks.{is_bad_function}
use Rattle.rdx_base.specs.declared.place.Span.{Span}
use Rattle.rdx_relations.proofs.PartsOfForms.{IsNamed, Each, EachIn, HeadedHasIn, IsInherited, wanted}
use Rattle.rdx_defs.proofs.PartsOfForms.{IsNamedIn, HasIn, SidesHave, ContractHasIn, MetafunctionHas, MetafunctionHasIn, RuleFormHas, RuleFormHasIn, OptionsHave, JudgementHas, JudgementHasIn, CutHas}
use Rattle.rdx_relations.proofs.InheritedParts.{items-readable, symbol-name, parts-has, headed-has, arguments-has, premise-has, extras-has, alone-has}

-- ---- readable data

-- the data of a list are those that stand in it
sexps-listed : (ds : Sexps) → sexps (listed ds) ≡ ds
sexps-listed nil = refl
sexps-listed (cons d ds) = ap (cons d) (sexps-listed ds)

-- behind the first of them, as items
behind-readable : (d : Sexp) (ds : Sexps) → suc (sexps_depth (cons d ds)) < 4294967296 → AreSpelled (cons d ds) → AreReadableItems (listed ds)
behind-readable d ds l h =
    let b = le-max_right (sexp_depth d) (sexps_depth ds) in
    let m : sexps_depth ds + 1 < 4294967296 = omega (arith, b, l) in
    record {
      nested = subst (λ (es : Sexps). sexps_depth es + 1 < 4294967296) (sym (sexps-listed ds)) m;
      spelled = subst AreSpelled (sym (sexps-listed ds)) h.1;
      each = items-readable ds (omega (arith, m)) h.1;
    }

-- ---- names

-- a symbol that a metafunction may have for its name is a name
pub function-name : (f : Sexp) → IsNamed f → is_bad_function (text_of f) ≡ false → IsTrue (is_name (text_of f))
function-name (leaf (integer n) s) h e = absurd (let g = h.symbol in cc)
function-name (leaf (truth b) s) h e = absurd (let g = h.symbol in cc)
function-name (leaf (text x) s) h e = absurd (let g = h.symbol in cc)
function-name (leaf (symbol x) s) h e =
    let a = or_false (is_one_of (codes "in-hole" ∷ codes "hole" ∷ codes "unquote" ∷ codes "unquote-splicing" ∷ []) x) (begins_with_dots x) e in
    let b = or_false (bytes_eq x (codes "in-hole")) (is_one_of (codes "hole" ∷ codes "unquote" ∷ codes "unquote-splicing" ∷ []) x) a.0 in
    let c = or_false (bytes_eq x (codes "hole")) (is_one_of (codes "unquote" ∷ codes "unquote-splicing" ∷ []) x) b.1 in
    name-spelled x h.readable.spelled c.0
function-name (leaf (keyword k) s) h e = absurd (let g = h.symbol in cc)
function-name (list ds s) h e = absurd (let g = h.symbol in cc)

-- that of a clause
abbrev ClauseNamed : Option ClauseForm → Type 0
ClauseNamed None = Unit {0}
ClauseNamed (Some c) = IsNamed c.function

module _ (P : Sexp → Type 0) (T : Takes → Type 0) (H : IsInherited P T) where
  -- ---- lists of data

  -- those of two lists
  append-has : (ds es : List Sexp) → Each P ds → Each P es → Each P (ds ++ es)
  append-has [] es h k = k
  append-has (d ∷ ds) es h k = (h.0, append-has ds es h.1 k)

  -- ---- cuts

  -- one datum more before it
  one_more-has : (d : Sexp) (o : Option (List Sexp × List Sexp)) → P d → SidesHave P o → SidesHave P (option_map (λ c. (d ∷ c.0, c.1)) o)
  one_more-has d None h k = tt
  one_more-has d (Some c) h k = ((h, k.0), k.1)

  -- at a datum, where a test of it holds, or behind it
  cut-when : (b : Bool) (d : Sexp) (ds : List Sexp) (o : Option (List Sexp × List Sexp)) → P d → Each P ds → SidesHave P o
      → SidesHave P (if b then Some ([], ds) else option_map (λ c. (d ∷ c.0, c.1)) o)
  cut-when true d ds o h k l = (tt, k)
  cut-when false d ds o h k l = one_more-has d o h l

  -- ---- arguments

  module _ (S : Scope) where
    -- ---- clauses

    -- where there is a clause, its branch has such parts
    abbrev ClauseIn : Option ClauseForm → Type 0
    ClauseIn None = Unit {0}
    ClauseIn (Some c) = BranchHas S (wanted T) (clause_branch c)

    -- a clause, where a test holds
    clause-when : (b : Bool) (c : ClauseForm) → BranchHas S (wanted T) (clause_branch c) → ClauseIn (if b then Some c else None)
    clause-when true c h = h
    clause-when false c h = tt

    -- what stands behind the name of a clause
    arguments-taken : (f : Sexp) (ps : Sexps) (s : Span) → P (list (cons f ps) s) → T (several (listed ps))
    arguments-taken f ps s r =
        let d = list (cons f ps) s in
        H.taken_several (listed ps) (behind-readable f ps (H.readable d r).nested (H.readable d r).spelled) (H.items (cons f ps) s r).1

    -- behind its name and its arguments
    behind-head : (h t : Sexp) (es : List Sexp) → P h → P t → Each P es → ClauseIn (clause_behind (parts h) t es)
    behind-head (leaf a s) t es r k l = tt
    behind-head (list nil s) t es r k l = tt
    behind-head (list (cons f ps) s) t es r k l =
        clause-when (is_symbol f) (record { function = f; arguments = listed ps; result = t; extras = es })
        (record { takes = arguments-taken f ps s r; result = H.readable t k; extras = extras-has P T H S of_clause es l })

    -- among parts
    clause_among-has : (o : Option (List Sexp)) → EachIn P o → ClauseIn (clause_among o)
    clause_among-has None h = tt
    clause_among-has (Some []) h = tt
    clause_among-has (Some (a ∷ [])) h = tt
    clause_among-has (Some (a ∷ t ∷ es)) h = behind-head a t es h.0 h.1.0 h.1.1

    -- where it is one of this metafunction
    own-has : (x : List ℕ) (o : Option ClauseForm) → ClauseIn o → ClauseIn (own_clause x o)
    own-has x None h = tt
    own-has x (Some c) h = clause-when (bytes_eq (text_of c.function) x) c h

    -- the clause that a datum is
    pub clause-has : (x : List ℕ) (d : Sexp) (c : ClauseForm) → P d → own_clause x (clause_form d) ≡ Some c → BranchHas S (wanted T) (clause_branch c)
    clause-has x d c r e = subst ClauseIn e (own-has x (clause_form d) (clause_among-has (parts d) (parts-has P T H d r)))

    -- the branch, where there is one
    in_clause-has : (o : Option ClauseForm) (bs : List Branch) → ClauseIn o → BranchesHave S (wanted T) bs → BranchesHave S (wanted T) (in_clause o ++ bs)
    in_clause-has None bs h k = k
    in_clause-has (Some c) bs h k = (h, k)

    -- several
    clauses-has : (x : List ℕ) (ds : List Sexp) → Each P ds → BranchesHave S (wanted T) (clause_branches x ds)
    clauses-has x [] r = tt
    clauses-has x (d ∷ ds) r =
        in_clause-has (own_clause x (clause_form d)) (clause_branches x ds)
        (own-has x (clause_form d) (clause_among-has (parts d) (parts-has P T H d r.0))) (clauses-has x ds r.1)

  -- ---- metafunctions

  -- both sides of the arrow
  cut-has : (ds : List Sexp) → Each P ds → SidesHave P (cut_at_arrow ds)
  cut-has [] h = tt
  cut-has (d ∷ ds) h = cut-when (is_word (codes "->") d) d ds (cut_at_arrow ds) h.0 h.1 (cut-has ds h.1)

  module _ (l : Sexp) (e : is_symbol l ≡ true) (r : IsReadable l) where
    -- with clauses
    with_clauses-has : (c : Option ContractForm) (ds : List Sexp) → ContractHasIn P c → Each P ds → MetafunctionHasIn P (with_clauses l c ds)
    with_clauses-has c [] k h = tt
    with_clauses-has c (d ∷ ds) k h = record { contract = k; clauses = h; some = λ f. not_none f; language = symbol-name l e r }
      where
        not_none : d ∷ ds ≡ [] → ⊥
        not_none f = absurd cc

    -- behind a contract's name
    contracted-has : (f : Sexp) (o : Option (List Sexp × List Sexp)) → IsNamed f → SidesHave P o → MetafunctionHasIn P (contracted l f o)
    contracted-has f None k h = tt
    contracted-has f (Some (ps, [])) k h = tt
    contracted-has f (Some (ps, v ∷ cs)) k h =
        with_clauses-has (Some (record { function = f; arguments = ps; value = v })) cs (record { function = k; arguments = h.0; value = h.1.0 }) h.1.1

    -- with or without a contract
    metafunction_over-has : (ds : List Sexp) → Each P ds → MetafunctionHasIn P (metafunction_over l ds)
    metafunction_over-has [] h = tt
    metafunction_over-has (f ∷ []) h = with_clauses-has None (f ∷ []) tt h
    metafunction_over-has (f ∷ c ∷ ds) h = by_test (is_symbol f && is_word (codes ":") c) refl
      where
        by_test : (b : Bool) → (is_symbol f && is_word (codes ":") c) ≡ b → MetafunctionHasIn P (if b then contracted l f (cut_at_arrow ds) else with_clauses l None (f ∷ c ∷ ds))
        by_test true g =
            contracted-has f (cut_at_arrow ds) (record { symbol = (and_true (is_symbol f) (is_word (codes ":") c) g).0; readable = H.readable f h.0 }) (cut-has ds h.1.1)
        by_test false g = with_clauses-has None (f ∷ c ∷ ds) tt h

  -- among parts
  metafunction_among-has : (o : Option (List Sexp)) → EachIn P o → MetafunctionHasIn P (metafunction_among o)
  metafunction_among-has None h = tt
  metafunction_among-has (Some []) h = tt
  metafunction_among-has (Some (x ∷ [])) h = tt
  metafunction_among-has (Some (x ∷ l ∷ ds)) h = by_test (is_word (codes "define-metafunction") x && is_symbol l) refl
    where
      by_test : (b : Bool) → (is_word (codes "define-metafunction") x && is_symbol l) ≡ b → MetafunctionHasIn P (if b then metafunction_over l ds else None)
      by_test true e = metafunction_over-has l (and_true (is_word (codes "define-metafunction") x) (is_symbol l) e).1 (H.readable l h.1.0) ds h.1.1
      by_test false e = tt

  -- the parts of a form that has it
  pub metafunction-has : (d : Sexp) (m : MetafunctionForm) → P d → metafunction_form d ≡ Some m → MetafunctionHas P m
  metafunction-has d m h e = subst (MetafunctionHasIn P) e (metafunction_among-has (parts d) (parts-has P T H d h))

  -- a datum that may be a pattern, before others
  pattern_when-has : (b : Bool) (d : Sexp) (ps : List Sexp) → P d → Each P ps → Each P (pattern_when b d ++ ps)
  pattern_when-has true d ps r h = (r, h)
  pattern_when-has false d ps r h = h

  -- the patterns among items, before others
  patterns_among-has : (rs : Roles) (ds qs : List Sexp) → Each P ds → Each P qs → Each P (patterns_among rs (sexps ds) ++ qs)
  patterns_among-has rs [] qs h k = k
  patterns_among-has rs (d ∷ ds) qs h k =
      subst (Each P) (sym (append_assoc (pattern_when (is_pattern (next rs d)) d) (patterns_among (rest rs d) (sexps ds)) qs))
      (pattern_when-has (is_pattern (next rs d)) d (patterns_among (rest rs d) (sexps ds) ++ qs) h.0 (patterns_among-has (rest rs d) ds qs h.1 k))

  -- the patterns of a contract
  pub contract-has : (o : Option ContractForm) → ContractHasIn P o → Each P (contract_patterns o)
  contract-has None h = tt
  contract-has (Some c) h = patterns_among-has items_of_list c.arguments (c.value ∷ []) h.arguments (h.value, tt)

  -- its outline
  pub metafunction_outline-has : (S : Scope) (m : MetafunctionForm) (f : Option Sexp) → MetafunctionHas P m → OutlineHas S (wanted T) (metafunction_outline m f)
  metafunction_outline-has S m f h = record {
    alone = alone-has P T H (contract_patterns m.contract) (contract-has m.contract h.contract);
    branches = clauses-has S _ m.clauses h.clauses;
    rules = tt;
    questions = tt;
  }

  -- ---- the name that it goes by

  behind-named : (h t : Sexp) (es : List Sexp) → P h → ClauseNamed (clause_behind (parts h) t es)
  behind-named (leaf a s) t es r = tt
  behind-named (list nil s) t es r = tt
  behind-named (list (cons f ps) s) t es r = by_test (is_symbol f) refl
    where
      by_test : (b : Bool) → is_symbol f ≡ b → ClauseNamed (if b then Some (record { function = f; arguments = listed ps; result = t; extras = es }) else None)
      by_test true e = record { symbol = e; readable = H.readable f (parts-has P T H (list (cons f ps) s) r).0 }
      by_test false e = tt

  among-named : (o : Option (List Sexp)) → EachIn P o → ClauseNamed (clause_among o)
  among-named None h = tt
  among-named (Some []) h = tt
  among-named (Some (a ∷ [])) h = tt
  among-named (Some (a ∷ t ∷ es)) h = behind-named a t es h.0

  -- that of the first clause
  or-named : (o : Option ClauseForm) (f : Option Sexp) → ClauseNamed o → IsNamedIn f → IsNamedIn (function_or o f)
  or-named None f h k = k
  or-named (Some c) f h k = h

  clauses-named : (ds : List Sexp) → Each P ds → IsNamedIn (clauses_function ds)
  clauses-named [] h = tt
  clauses-named (d ∷ ds) h = or-named (clause_form d) (clauses_function ds) (among-named (parts d) (parts-has P T H d h.0)) (clauses-named ds h.1)

  -- that of the form
  pub function-named : (m : MetafunctionForm) → MetafunctionHas P m → IsNamedIn (function_in m)
  function-named m h = by_contract m.contract h.contract
    where
      by_contract : (o : Option ContractForm) → ContractHasIn P o → IsNamedIn (function_by o m.clauses)
      by_contract None k = clauses-named m.clauses h.clauses
      by_contract (Some c) k = k.function

  -- ---- rules

  -- a rule, where a test holds
  rule-when : (b : Bool) (o : Option RuleForm) → RuleFormHasIn P o → RuleFormHasIn P (if b then o else None)
  rule-when true o h = h
  rule-when false o h = tt

  -- where c is a conclusion
  concluded-has : (ps : List Sexp) (n : Option Sexp) (c : Sexp) (b : Bool) → Each P ps → HasIn P n → P c → RuleFormHasIn P (concluded ps n c b)
  concluded-has ps n c b h k r = by_head (headed c) (headed-has P T H c r)
    where
      by_head : (o : Option Headed) → HeadedHasIn P o
          → RuleFormHasIn P (option_map (λ q. record { conclusion = c; parts = q; premises = ps; name = n; is_last = b }) o)
      by_head None l = tt
      by_head (Some q) l = record { conclusion = r; parts = l; premises = h; name = k }

  -- behind a line
  rule_behind-has : (ps ds : List Sexp) → Each P ps → Each P ds → RuleFormHasIn P (rule_behind ps ds)
  rule_behind-has ps [] h k = tt
  rule_behind-has ps (c ∷ []) h k = concluded-has ps None c true h tt k.0
  rule_behind-has ps (n ∷ c ∷ []) h k = rule-when (is_label n) (concluded ps (Some n) c true) (concluded-has ps (Some n) c true h k.0 k.1.0)
  rule_behind-has ps (n ∷ c ∷ d ∷ ds) h k = tt

  -- premises, and the name behind them
  cut_name-has : (ds : List Sexp) → Each P ds → Each P (cut_name ds).0 × HasIn P (cut_name ds).1
  cut_name-has [] h = (tt, tt)
  cut_name-has (d ∷ []) h = by_test (is_label d)
    where
      by_test : (b : Bool) → (let c : List Sexp × Option Sexp = if b then ([], Some d) else (d ∷ [], None) in Each P c.0 × HasIn P c.1)
      by_test true = (tt, h.0)
      by_test false = (h, tt)
  cut_name-has (d ∷ e ∷ ds) h = let k = cut_name-has (e ∷ ds) h.1 in ((h.0, k.0), k.1)

  -- a conclusion first
  rule_ahead-has : (ds : List Sexp) → Each P ds → RuleFormHasIn P (rule_ahead ds)
  rule_ahead-has [] h = tt
  rule_ahead-has (c ∷ ds) h = let k = cut_name-has ds h.1 in concluded-has (cut_name ds).0 (cut_name ds).1 c false k.0 k.1 h.0

  -- at a line
  cut_at_line-has : (ds : List Sexp) → Each P ds → SidesHave P (cut_at_line ds)
  cut_at_line-has [] h = tt
  cut_at_line-has (d ∷ ds) h = cut-when (is_line d) d ds (cut_at_line ds) h.0 h.1 (cut_at_line-has ds h.1)

  -- in either layout
  rule_cut-has : (ds : List Sexp) (o : Option (List Sexp × List Sexp)) → Each P ds → SidesHave P o → RuleFormHasIn P (rule_cut ds o)
  rule_cut-has ds None h k = rule_ahead-has ds h
  rule_cut-has ds (Some c) h k = rule_behind-has c.0 c.1 k.0 k.1

  -- among parts
  rule_among-has : (o : Option (List Sexp)) → EachIn P o → RuleFormHasIn P (rule_among o)
  rule_among-has None h = tt
  rule_among-has (Some ds) h = rule_cut-has ds (cut_at_line ds) h (cut_at_line-has ds h)

  -- where it is one of the judgement of this name
  own_rule-has : (j : Option Sexp) (o : Option RuleForm) → RuleFormHasIn P o → RuleFormHasIn P (own_rule j o)
  own_rule-has j None h = tt
  own_rule-has j (Some r) h = rule-when (is_named_so j r.parts) (Some r) h

  -- the rule that a datum is, where it is one
  rule_in-has : (j : Option Sexp) (d : Sexp) → P d → RuleFormHasIn P (own_rule j (rule_form d))
  rule_in-has j d r = own_rule-has j (rule_form d) (rule_among-has (parts d) (parts-has P T H d r))

  -- the rule that a datum is
  pub rule-has : (j : Option Sexp) (d : Sexp) (r : RuleForm) → P d → own_rule j (rule_form d) ≡ Some r → RuleFormHas P r
  rule-has j d r h e = subst (RuleFormHasIn P) e (rule_in-has j d h)

  module _ (S : Scope) where
    -- its branch
    pub rule_branch-has : (m : Option Mode) (r : RuleForm) → RuleFormHas P r → RuleHas S (wanted T) (rule_branch m r)
    rule_branch-has m r h = record {
      arguments = arguments-has P T H S (rule_branch m r).arguments h.parts.arguments;
      premises = extras-has P T H S of_rule r.premises h.premises;
    }

    -- where there is one, before others
    in_rule-has : (m : Option Mode) (o : Option RuleForm) (rs : List RuleBranch) → RuleFormHasIn P o → RulesHave S (wanted T) rs → RulesHave S (wanted T) (in_rule m o ++ rs)
    in_rule-has m None rs h k = k
    in_rule-has m (Some r) rs h k = (rule_branch-has m r h, k)

    -- several
    pub rules-has : (j : Option Sexp) (m : Option Mode) (ds : List Sexp) → Each P ds → RulesHave S (wanted T) (rule_branches j m ds)
    rules-has j m [] h = tt
    rules-has j m (d ∷ ds) h = in_rule-has m (own_rule j (rule_form d)) (rule_branches j m ds) (rule_in-has j d h.0) (rules-has j m ds h.1)

  -- ---- judgements

  cut_options-has : (ds : List Sexp) → Each P ds → CutHas P (cut_options ds)
  cut_options-has [] h = (tt, tt)
  cut_options-has (k ∷ []) h = by_test (is_any_keyword k)
    where
      by_test : (b : Bool) → CutHas P (if b then with_option k None ([], []) else ([], k ∷ []))
      by_test true = ((record { key = h.0; given = tt }, tt), tt)
      by_test false = (tt, h)
  cut_options-has (k ∷ v ∷ ds) h = by_test (is_any_keyword k) (cut_options ds) (cut_options-has ds h.1.1)
    where
      by_test : (b : Bool) (c : List OptionForm × List Sexp) → CutHas P c → CutHas P (if b then with_option k (Some v) c else ([], k ∷ v ∷ ds))
      by_test true c l = ((record { key = h.0; given = h.1.0 }, l.0), l.1)
      by_test false c l = (tt, h)

  -- among parts
  judgement_among-has : (o : Option (List Sexp)) → EachIn P o → JudgementHasIn P (judgement_among o)
  judgement_among-has None h = tt
  judgement_among-has (Some []) h = tt
  judgement_among-has (Some (x ∷ [])) h = tt
  judgement_among-has (Some (x ∷ l ∷ ds)) h = by_test (is_word (codes "define-judgment-form") x && is_symbol l) refl
    where
      by_test : (b : Bool) → (is_word (codes "define-judgment-form") x && is_symbol l) ≡ b
          → JudgementHasIn P (if b then Some (record { language = l; options = (cut_options ds).0; rules = (cut_options ds).1 }) else None)
      by_test true e =
          let c = cut_options-has ds h.1.1 in
          let s = (and_true (is_word (codes "define-judgment-form") x) (is_symbol l) e).1 in
          record { options = c.0; rules = c.1; language = symbol-name l s (H.readable l h.1.0) }
      by_test false e = tt

  -- the parts of a form that has it
  pub judgement-has : (d : Sexp) (f : JudgementForm) → P d → judgement_form d ≡ Some f → JudgementHas P f
  judgement-has d f h e = subst (JudgementHasIn P) e (judgement_among-has (parts d) (parts-has P T H d h))

  -- what an option gives
  given_by-has : (k : List ℕ) (os : List OptionForm) → OptionsHave P os → HasIn P (given_by k os)
  given_by-has k [] h = tt
  given_by-has k (o ∷ os) h = by_test (is_keyword k o.key) (given_by-has k os h.1)
    where
      by_test : (b : Bool) → HasIn P (given_by k os) → HasIn P (if b then o.given else given_by k os)
      by_test true l = h.0.given
      by_test false l = l

  headed_by-has : (o : Option Sexp) → HasIn P o → HeadedHasIn P (headed_by o)
  headed_by-has None h = tt
  headed_by-has (Some d) h = headed-has P T H d h

  -- its mode
  pub mode-has : (f : JudgementForm) → JudgementHas P f → HeadedHasIn P (mode_form f)
  mode-has f h = headed_by-has (given_by (codes "mode") f.options) (given_by-has (codes "mode") f.options h.options)

  -- its contract
  pub contract_form-has : (f : JudgementForm) → JudgementHas P f → HeadedHasIn P (contract_form f)
  contract_form-has f h = headed_by-has (given_by (codes "contract") f.options) (given_by-has (codes "contract") f.options h.options)

  -- the patterns that an option gives
  given-has : (k : Sexp) (o : Option Headed) → HeadedHasIn P o → Each P (given_patterns k o)
  given-has k None h = tt
  given-has k (Some q) h = by_test (is_keyword (codes "mode") k)
    where
      by_test : (b : Bool) → Each P (if b then [] else q.arguments)
      by_test true = tt
      by_test false = h.arguments

  option-has : (k : Sexp) (o : Option Sexp) → HasIn P o → Each P (option_patterns k o)
  option-has k None h = tt
  option-has k (Some d) h = given-has k (headed d) (headed-has P T H d h)

  -- data, where a test holds
  data-when : (b : Bool) (ds : List Sexp) → Each P ds → Each P (if b then ds else [])
  data-when true ds h = h
  data-when false ds h = tt

  -- those of options
  pub options-has : (j : Option Sexp) (seen : List (List ℕ)) (os : List OptionForm) → OptionsHave P os → Each P (options_patterns j seen os)
  options-has j seen [] h = tt
  options-has j seen (o ∷ os) h =
      append-has (if is_fit_option j seen o then option_patterns o.key o.given else []) (options_patterns j (key_text o.key ∷ seen) os)
      (data-when (is_fit_option j seen o) (option_patterns o.key o.given) (option-has o.key o.given h.0.given))
      (options-has j (key_text o.key ∷ seen) os h.1)

  -- its outline
  pub judgement_outline-has : (S : Scope) (f : JudgementForm) → JudgementHas P f → OutlineHas S (wanted T) (judgement_outline f)
  judgement_outline-has S f h = record {
    alone = alone-has P T H (options_patterns (judgement_in f) [] f.options) (options-has (judgement_in f) [] f.options h.options);
    branches = tt;
    rules = rules-has S (judgement_in f) (own_mode f) f.rules h.rules;
    questions = tt;
  }

  -- ---- premises by themselves

  -- the outline of one
  pub question_outline-has : (S : Scope) (d : Sexp) (t : Option Sexp) → P d → IsReadableIn t → OutlineHas S (wanted T) (question_outline d t)
  question_outline-has S d t h k = record {
    alone = tt;
    branches = tt;
    rules = tt;
    questions = (record { premise = premise-has P T H S d h; result = k }, tt);
  }
