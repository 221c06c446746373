-- What a form of a judgement that is not refused stands for is valid over its language.
use Rattle.std.proofs.Common.{◌≡◌, ◌++◌, ◌∙◌, ℕ, Bool, true, false, not, List, [], ◌∷◌, length, map, IsTrue, refl, sym, ap, ap₂, subst, if◌then◌else◌}
use Rattle.std.proofs.lemmas.Bool.{eq-eqb}
use Rattle.std.proofs.lemmas.List.{length-map, map-append}
use Rattle.std.specs.Cmp.Lexicographic.{bytes_decides}
use Rattle.std.specs.List.{list_all}
use Rattle.std.specs.Prelude.{◌&&◌, IsSome, Option, Some, None, option_map, codes, bytes_eq, nat_eq}
use Rattle.rdx_sexp.specs.Sexp.{Sexp, leaf, list, integer, truth, text, symbol, keyword}
use Rattle.rdx_term.specs.Spelling.{is_name}
use Rattle.rdx_lang.specs.Depths.{Use, uses}
use Rattle.rdx_lang.specs.Fitting.{fits}
use Rattle.rdx_lang.specs.Modes.{input_count, output_count, are_single, is_list_of, rule_fits_mode}
use Rattle.rdx_lang.specs.Patterns.{Language}
use Rattle.rdx_lang.specs.Programs.{Mode, JudgementRule, holds}
use Rattle.rdx_lang.specs.Scopes.{bound_by, case_uses}
use Rattle.rdx_lang.specs.Valid.{is_valid_extra, are_valid_extras, is_valid_judgement_rule, is_valid_judgement_contract, is_valid_judgement}
use Rattle.rdx_lang.specs.WellFormed.{is_well_formed_in}
use Rattle.rdx_patterns.specs.Ends.{crossed_for}
use Rattle.rdx_patterns.specs.Names.{is_bad_name}
use Rattle.rdx_patterns.specs.Nonterminals.{names_of}
use Rattle.rdx_patterns.specs.Occurrences.{occurrences}
use Rattle.rdx_patterns.specs.Parts.{text_of, is_word}
use Rattle.rdx_patterns.specs.Readable.{IsReadable}
use Rattle.rdx_patterns.specs.Reading.{reading}
use Rattle.rdx_patterns.specs.declared.patterns.position.Position.TheVariants.{Query}
use Rattle.rdx_patterns.proofs.Booleans.{and_both}
use Rattle.rdx_patterns.proofs.DepthsRead.{bound_use}
use Rattle.rdx_patterns.proofs.Firsts.{none_first}
use Rattle.rdx_parts.specs.Arguments.{fitting, is_misfit, in_conclusion, in_premise, data_at, data_by, patterns_in, templates_in}
use Rattle.rdx_parts.specs.ExtraForms.{of_rule}
use Rattle.rdx_parts.specs.ExtraReading.{items_reading, premise_reading}
use Rattle.rdx_parts.specs.Headed.{Headed, headed}
use Rattle.rdx_parts.specs.BareStands.{lone_pattern}
use Rattle.rdx_defs.specs.Inside.FormOutlines.{rule_branch, in_rule, rule_branches, given_patterns, option_patterns, options_patterns, judgement_outline, question_outline}
use Rattle.rdx_parts.specs.Outlines.{one, each, RuleBranch}
use Rattle.rdx_defs.specs.Inside.Contracts.{IsJudgementContractIn}
use Rattle.rdx_parts.specs.PartsHave.{PremiseHas, RuleHas, RulesHave, AloneHave, OutlineHas, IsPattern, can_read}
use Rattle.rdx_defs.specs.JudgementForms.{RuleForm, rule_form, own_rule, OptionForm, JudgementForm, given_by, headed_by, mode_form, contract_form, judgement_in, is_flag, mode_given, own_mode, key_text, is_fit_option}
use Rattle.rdx_defs.specs.JudgementReading.{rule_reading, with_rule, rules_reading, closed_list, contract_reading, mode_or_none, judgement_reading}
use Rattle.rdx_defs.specs.JudgementRefusal.{result_stands, lone_premise_stands}
use Rattle.rdx_defs.specs.JudgementStands.{rule_arguments, bound_by_inputs, bound_by_rule, conclusion_stands, premises_stand, name_stands, rule_stands, rules_stand, flags_stand, mode_stands, contract_stands, given_stands, option_stands, options_stand, missing_mode, judgement_stands}
use Rattle.rdx_defs.specs.MetafunctionReading.{closed_items, text_in}
use Rattle.rdx_relations.specs.RelationForms.{is_keyword}
use Rattle.rdx_templates.specs.Scope.{Scope, callable, has_metafunction}
use Rattle.rdx_templates.specs.TemplateReading.{template_reading}
use Rattle.rdx_parts.specs.StandChecks.{bad_names}
use Rattle.rdx_parts.specs.Stands.{Stand, misshaped, judgement, template, names_bound, bound_by_premise, bound_by_extras, arguments_stand, misfits, held_stands}
use Rattle.rdx_relations.proofs.AlikeSymbols.{AreAlike, alike-none}
use Rattle.rdx_relations.proofs.AskingParts.{BindsWithin}
use Rattle.rdx_relations.proofs.BoundParts.{symbol-name}
use Rattle.rdx_relations.proofs.FormRefusals.{ArePassed}
use Rattle.rdx_relations.proofs.PartsOfForms.{IsNamed, HeadedHas, HeadedHasIn, bound}
use Rattle.rdx_relations.proofs.PassedStands.{mode-fits, passed-both, pattern-first, template-first, arguments-passed, misfits-false, fits-uses, all-fit}
use Rattle.rdx_relations.proofs.PatternLists.{single-items, inputs-counted, outputs-counted, each-bound}
use Rattle.rdx_parts.proofs.RepeatedNames.{not_false}
use Rattle.rdx_relations.proofs.ValidExtras.{alike-taken, taken-passed, premise-good, extras-good}
use Rattle.rdx_defs.proofs.ValidForms.{AreWell, with-well, closed-well_formed}

-- ---- keywords

-- the keyword of a contract is not that of a mode
contract-not_mode : (k : Sexp) → is_keyword (codes "contract") k ≡ true → is_keyword (codes "mode") k ≡ false
contract-not_mode (leaf (integer n) s) e = absurd cc
contract-not_mode (leaf (truth b) s) e = absurd cc
contract-not_mode (leaf (text x) s) e = absurd cc
contract-not_mode (leaf (symbol x) s) e = absurd cc
contract-not_mode (leaf (keyword k) s) e = ap (λ (x : List ℕ). bytes_eq x (codes "mode")) ((bytes_decides k (codes "contract")).0 e)
contract-not_mode (list ds s) e = absurd cc

-- the name of a judgement, where it may have it
pub judgement-name : (j : Sexp) → IsNamed j → is_bad_name (text_of j) ≡ false → IsTrue (is_name (text_of j))
judgement-name j h e = symbol-name j h.symbol h.readable e

-- Forms are read over the names of L and over M, which is L with the cross nonterminals to those of ys that are nonterminals of it.
module _ (S : Scope) (L : Language) (ys : List (List ℕ)) where
  abbrev ns : List (List ℕ)
  ns = names_of L

  abbrev M : Language
  M = crossed_for ys L

  -- ---- rules

  -- the parts of a rule that passes
  record IsPassedRule (m : Option Mode) (r : RuleForm) : Type 0 where
    conclusion : ArePassed S ns (conclusion_stands S ns m r)
    premises : ArePassed S ns (premises_stand S ns m r)

  -- in either layout
  parts-passed : (m : Option Mode) (d : Sexp) (r : RuleForm) → ArePassed S ns (rule_stands S ns m d (Some r)) → IsPassedRule m r
  parts-passed m d r h = by_test r.is_last h
    where
      cs : List Stand
      cs = conclusion_stands S ns m r

      ps : List Stand
      ps = premises_stand S ns m r

      ls : List Stand
      ls = name_stands r.name

      by_test : (b : Bool) → ArePassed S ns (if b then ps ++ ls ++ cs else cs ++ ps ++ ls) → IsPassedRule m r
      by_test true k =
          let p = passed-both S ns (ps ++ ls) cs k in
          record { conclusion = p.1; premises = (passed-both S ns ps ls p.0).0 }
      by_test false k =
          let p = passed-both S ns (cs ++ ps) ls k in
          let q = passed-both S ns cs ps p.0 in
          record { conclusion = q.0; premises = q.1 }

  -- a rule that passes
  rule-good : (m : Mode) (d : Sexp) (r : RuleForm) → RuleHas S (bound (BindsWithin ys ns)) (rule_branch (Some m) r) → ArePassed S ns (rule_stands S ns (Some m) d (Some r))
      → RuleHas S (can_read S M ns) (rule_branch (Some m) r) × (is_valid_judgement_rule (callable S) M m (rule_reading S ns (Some m) r) ≡ true)
  rule-good m d r h k =
      let F = has_metafunction S in
      let o = Some m in
      let ds = r.parts.arguments in
      let a = rule_arguments o r in
      let bs = bound_by_inputs ns o r in
      let all = bound_by_rule S ns o r in
      let R = rule_reading S ns o r in
      let p = parts-passed o d r k in
      let u = passed-both S ns (misfits (is_misfit o ds) r.conclusion r.parts.head) (arguments_stand ns [] (names_bound all) a) p.conclusion in
      let f = mode-fits o ds refl (misfits-false S ns (is_misfit o ds) r.conclusion r.parts.head u.0) in
      let same : f.mode ≡ m = (let e = f.is in cc) in
      let v = arguments-passed S ns [] all a u.1 in
      let w = taken-passed S L ys [] (each (patterns_in a)) alike-none h.arguments.patterns v.0 in
      let alike : AreAlike bs = subst AreAlike (each-bound ns (patterns_in a)) (alike-taken S L ys [] (each (patterns_in a)) alike-none v.0) in
      let g = extras-good S L ys of_rule bs true r.premises alike h.premises p.premises in
      let inputs : uses 0 R.inputs ≡ map bound_use bs = w.1 ∙ ap (map bound_use) (each-bound ns (patterns_in a)) in
      let used : case_uses R.inputs R.extras ≡ map bound_use all =
      ap₂ (λ (vs ws : List Use). vs ++ ws) inputs g.1.1 ∙ sym (map-append bound_use bs (bound_by_extras of_rule S ns r.premises)) in
      let ins : length (patterns_in a) ≡ input_count m =
      ap (λ (n : Option Mode). length (data_by n ds)) f.fits ∙ inputs-counted f.mode ds f.long ∙ ap input_count same in
      let outs : length (templates_in a) ≡ output_count m =
      ap (λ (n : Option Mode). length (data_by (option_map (map not) n) ds)) f.fits ∙ outputs-counted f.mode ds f.long ∙ ap output_count same in
      let fit : rule_fits_mode m R ≡ true =
      and_both (is_list_of (input_count m) R.inputs) (nat_eq (length R.outputs) (output_count m))
      (ap (λ n. are_single n (items_reading ns (patterns_in a))) (sym ins) ∙ single-items ns (patterns_in a))
      (eq-eqb (length R.outputs) (output_count m) (length-map (templates_in a) (template_reading S (names_bound all)) ∙ outs)) in
      let fitting_outputs = list_all (fits F (bound_by (case_uses R.inputs R.extras)) 0) R.outputs in
      let extras = are_valid_extras (callable S) M (uses 0 R.inputs) R.extras in (
        record { arguments = record { patterns = w.0; readable = h.arguments.readable }; premises = g.0 },
        and_both (rule_fits_mode m R) (is_well_formed_in M R.inputs && (extras && fitting_outputs)) fit
            (and_both (is_well_formed_in M R.inputs) (extras && fitting_outputs) w.0.well_formed
            (and_both extras fitting_outputs (g.1.0 (uses 0 R.inputs) inputs) (all-fit S ns all (case_uses R.inputs R.extras) (templates_in a) used v.1))),
      )

  -- rules are valid
  abbrev AreGoodRules : Mode → List RuleBranch → List JudgementRule → Type 0
  AreGoodRules m bs rs = RulesHave S (can_read S M ns) bs × (list_all (is_valid_judgement_rule (callable S) M m) rs ≡ true)

  -- a rule before others
  rule-first : (m : Mode) (d : Sexp) (o : Option RuleForm) (bs : List RuleBranch) (rs : List JudgementRule) → RulesHave S (bound (BindsWithin ys ns)) (in_rule (Some m) o ++ bs)
      → ArePassed S ns (rule_stands S ns (Some m) d o) → (RulesHave S (bound (BindsWithin ys ns)) bs → AreGoodRules m bs rs)
      → AreGoodRules m (in_rule (Some m) o ++ bs) (with_rule S ns (Some m) o rs)
  rule-first m d None bs rs h k f = f h
  rule-first m d (Some r) bs rs h k f =
      let valid = is_valid_judgement_rule (callable S) M m in
      let g = rule-good m d r h.0 k in
      let l = f h.1 in
      ((g.0, l.0), and_both (valid (rule_reading S ns (Some m) r)) (list_all valid rs) g.1 l.1)

  rules-good : (j : Option Sexp) (m : Mode) (ds : List Sexp) → RulesHave S (bound (BindsWithin ys ns)) (rule_branches j (Some m) ds) → ArePassed S ns (rules_stand S ns j (Some m) ds)
      → AreGoodRules m (rule_branches j (Some m) ds) (rules_reading S ns j (Some m) ds)
  rules-good j m [] h k = (tt, refl)
  rules-good j m (d ∷ ds) h k =
      let o = own_rule j (rule_form d) in
      let p = passed-both S ns (rule_stands S ns (Some m) d o) (rules_stand S ns j (Some m) ds) k in
      rule-first m d o (rule_branches j (Some m) ds) (rules_reading S ns j (Some m) ds) h p.0 (λ g. rules-good j m ds g p.1)

  -- ---- options

  -- patterns that stand by themselves, before others
  alone-before : (ps qs : List Sexp) → AloneHave (BindsWithin ys ns) (ps ++ qs) → ArePassed S ns (map lone_pattern ps)
      → (AloneHave (BindsWithin ys ns) qs → AloneHave (IsPattern M ns) qs) → AloneHave (IsPattern M ns) (ps ++ qs)
  alone-before [] qs h k f = f h
  alone-before (p ∷ ps) qs h k f =
      let a = pattern-first S ns [] (occurrences 0 p) (map lone_pattern ps) k in
      ((taken-passed S L ys [] (one p) alike-none h.0 a.0).0, alone-before ps qs h.1 a.1 f)

  -- what an option gives, before others
  given-good : (m : Option Mode) (k d : Sexp) (o : Option Headed) (qs : List Sexp) → AloneHave (BindsWithin ys ns) (given_patterns k o ++ qs)
      → ArePassed S ns (given_stands m k d o) → (AloneHave (BindsWithin ys ns) qs → AloneHave (IsPattern M ns) qs) → AloneHave (IsPattern M ns) (given_patterns k o ++ qs)
  given-good m k d None qs h p f = f h
  given-good m k d (Some q) qs h p f = by_test (is_keyword (codes "mode") k) h p
    where
      by_test : (b : Bool) → AloneHave (BindsWithin ys ns) ((if b then [] else q.arguments) ++ qs) → ArePassed S ns (if b then mode_stands q else contract_stands m d q)
          → AloneHave (IsPattern M ns) ((if b then [] else q.arguments) ++ qs)
      by_test true g l = f g
      by_test false g l = alone-before q.arguments qs g (passed-both S ns (misfits (is_misfit m q.arguments) d q.head) (map lone_pattern q.arguments) l).1 f

  option-good : (m : Option Mode) (k : Sexp) (o : Option Sexp) (qs : List Sexp) → AloneHave (BindsWithin ys ns) (option_patterns k o ++ qs)
      → ArePassed S ns (option_stands m k o) → (AloneHave (BindsWithin ys ns) qs → AloneHave (IsPattern M ns) qs) → AloneHave (IsPattern M ns) (option_patterns k o ++ qs)
  option-good m k None qs h p f = f h
  option-good m k (Some d) qs h p f = given-good m k d (headed d) qs h p f

  -- where it has its shape
  option-when : (b : Bool) (m : Option Mode) (o : OptionForm) (qs : List Sexp) → AloneHave (BindsWithin ys ns) ((if b then option_patterns o.key o.given else []) ++ qs)
      → ArePassed S ns (if b then option_stands m o.key o.given else misshaped o.key ∷ []) → (AloneHave (BindsWithin ys ns) qs → AloneHave (IsPattern M ns) qs)
      → AloneHave (IsPattern M ns) ((if b then option_patterns o.key o.given else []) ++ qs)
  option-when true m o qs h p f = option-good m o.key o.given qs h p f
  option-when false m o qs h p f = f h

  -- the patterns of options are well formed
  options-good : (j : Option Sexp) (m : Option Mode) (seen : List (List ℕ)) (os : List OptionForm) → AloneHave (BindsWithin ys ns) (options_patterns j seen os)
      → ArePassed S ns (options_stand j m seen os) → AloneHave (IsPattern M ns) (options_patterns j seen os)
  options-good j m seen [] h k = tt
  options-good j m seen (o ∷ os) h k =
      let b = is_fit_option j seen o in
      let later = key_text o.key ∷ seen in
      let p = passed-both S ns (if b then option_stands m o.key o.given else misshaped o.key ∷ []) (options_stand j m later os) k in
      option-when b m o (options_patterns j later os) h p.0 (λ g. options-good j m later os g p.1)

  -- the mode that the first option of its keyword gives passes
  mode-option : (m : Option Mode) (k : Sexp) (g : Option Sexp) (q : Headed) → is_keyword (codes "mode") k ≡ true → ArePassed S ns (option_stands m k g)
      → headed_by g ≡ Some q → ArePassed S ns (mode_stands q)
  mode-option m k None q e p h = absurd cc
  mode-option m k (Some d) q e p h =
      subst (λ (b : Bool). ArePassed S ns (if b then mode_stands q else contract_stands m d q)) e (subst (λ (x : Option Headed). ArePassed S ns (given_stands m k d x)) h p)

  -- where it is in front of others
  mode-first : (b c : Bool) (m : Option Mode) (k : Sexp) (g others : Option Sexp) (q : Headed) → is_keyword (codes "mode") k ≡ b
      → ArePassed S ns (if c then option_stands m k g else misshaped k ∷ []) → (headed_by others ≡ Some q → ArePassed S ns (mode_stands q))
      → headed_by (if b then g else others) ≡ Some q → ArePassed S ns (mode_stands q)
  mode-first true true m k g others q e p f h = mode-option m k g q e p h
  mode-first true false m k g others q e p f h = absurd (let z = p.shapes in cc)
  mode-first false c m k g others q e p f h = f h

  mode-passed : (j : Option Sexp) (m : Option Mode) (seen : List (List ℕ)) (os : List OptionForm) (q : Headed) → ArePassed S ns (options_stand j m seen os)
      → headed_by (given_by (codes "mode") os) ≡ Some q → ArePassed S ns (mode_stands q)
  mode-passed j m seen [] q k e = absurd cc
  mode-passed j m seen (o ∷ os) q k e =
      let b = is_fit_option j seen o in
      let later = key_text o.key ∷ seen in
      let p = passed-both S ns (if b then option_stands m o.key o.given else misshaped o.key ∷ []) (options_stand j m later os) k in
      mode-first (is_keyword (codes "mode") o.key) b m o.key o.given (given_by (codes "mode") os) q refl p.0 (λ g. mode-passed j m later os q p.1 g) e

  -- its items are those of a mode
  flags-good : (j : Sexp) (ds : List Sexp) → ArePassed S ns (flags_stand j ds) → list_all is_flag ds ≡ true
  flags-good j [] h = refl
  flags-good j (d ∷ ds) h =
      let p = passed-both S ns (misfits (not (is_flag d)) d j) (flags_stand j ds) h in
      and_both (is_flag d) (list_all is_flag ds) (not_false (is_flag d) (misfits-false S ns (not (is_flag d)) d j p.0)) (flags-good j ds p.1)

  -- the name of a judgement may be one, and what stands behind it passes
  name-first : (j : Sexp) (ss : List Stand) → ArePassed S ns (judgement j ∷ ss) → (is_bad_name (text_of j) ≡ false) × ArePassed S ns ss
  name-first j ss h =
      let k = none_first (is_bad_name (text_of j)) j (bad_names ss) h.names in
      (k.0, record { shapes = h.shapes; made = h.made; names = k.1; places = h.places; depths = h.depths; known = h.known; driving = h.driving; modes = h.modes })

  -- ---- contracts

  -- the patterns in front, and those behind
  alone-front : (ps qs : List Sexp) → AloneHave (IsPattern M ns) (ps ++ qs) → AloneHave (IsPattern M ns) ps
  alone-front [] qs h = tt
  alone-front (p ∷ ps) qs h = (h.0, alone-front ps qs h.1)

  alone-behind : (ps qs : List Sexp) → AloneHave (IsPattern M ns) (ps ++ qs) → AloneHave (IsPattern M ns) qs
  alone-behind [] qs h = h
  alone-behind (p ∷ ps) qs h = alone-behind ps qs h.1

  -- a contract fits this mode, and its patterns are well formed
  record IsGoodContract (m : Option Mode) (q : Headed) : Type 0 where
    fits : is_misfit m q.arguments ≡ false
    patterns : AloneHave (IsPattern M ns) q.arguments

  -- so is the one that the first option of its keyword gives
  contract-option : (m : Option Mode) (k : Sexp) (g : Option Sexp) (ps : List Sexp) (q : Headed) → is_keyword (codes "contract") k ≡ true
      → AloneHave (IsPattern M ns) (option_patterns k g ++ ps) → ArePassed S ns (option_stands m k g) → headed_by g ≡ Some q → IsGoodContract m q
  contract-option m k None ps q e h p f = absurd cc
  contract-option m k (Some d) ps q e h p f =
      let n = contract-not_mode k e in
      let l : AloneHave (IsPattern M ns) (q.arguments ++ ps) =
      subst (λ (b : Bool). AloneHave (IsPattern M ns) ((if b then [] else q.arguments) ++ ps)) n (subst (λ (x : Option Headed). AloneHave (IsPattern M ns) (given_patterns k x ++ ps)) f h) in
      let r : ArePassed S ns (contract_stands m d q) =
      subst (λ (b : Bool). ArePassed S ns (if b then mode_stands q else contract_stands m d q)) n (subst (λ (x : Option Headed). ArePassed S ns (given_stands m k d x)) f p) in
      let u = passed-both S ns (misfits (is_misfit m q.arguments) d q.head) (map lone_pattern q.arguments) r in
      record { fits = misfits-false S ns (is_misfit m q.arguments) d q.head u.0; patterns = alone-front q.arguments ps l }

  -- where it is in front of others
  contract-first : (b c : Bool) (m : Option Mode) (k : Sexp) (g others : Option Sexp) (ps : List Sexp) (q : Headed) → is_keyword (codes "contract") k ≡ b
      → AloneHave (IsPattern M ns) ((if c then option_patterns k g else []) ++ ps) → ArePassed S ns (if c then option_stands m k g else misshaped k ∷ [])
      → (AloneHave (IsPattern M ns) ps → headed_by others ≡ Some q → IsGoodContract m q) → headed_by (if b then g else others) ≡ Some q → IsGoodContract m q
  contract-first true true m k g others ps q e h p f l = contract-option m k g ps q e h p l
  contract-first true false m k g others ps q e h p f l = absurd (let z = p.shapes in cc)
  contract-first false c m k g others ps q e h p f l = f (alone-behind (if c then option_patterns k g else []) ps h) l

  contract-passed : (j : Option Sexp) (m : Option Mode) (seen : List (List ℕ)) (os : List OptionForm) (q : Headed) → AloneHave (IsPattern M ns) (options_patterns j seen os)
      → ArePassed S ns (options_stand j m seen os) → headed_by (given_by (codes "contract") os) ≡ Some q → IsGoodContract m q
  contract-passed j m seen [] q h k e = absurd cc
  contract-passed j m seen (o ∷ os) q h k e =
      let b = is_fit_option j seen o in
      let later = key_text o.key ∷ seen in
      let p = passed-both S ns (if b then option_stands m o.key o.given else misshaped o.key ∷ []) (options_stand j m later os) k in
      contract-first (is_keyword (codes "contract") o.key) b m o.key o.given (given_by (codes "contract") os) (options_patterns j later os) q refl h p.0
      (λ g f. contract-passed j m later os q g p.1 f) e

  -- as many closed items as patterns
  single-closed : (ds : List Sexp) → are_single (length ds) (closed_items (items_reading ns ds)) ≡ true
  single-closed [] = refl
  single-closed (d ∷ ds) = single-closed ds

  -- each of which is well formed
  each-well : (ds : List Sexp) → AloneHave (IsPattern M ns) ds → AreWell S L ys (items_reading ns ds)
  each-well [] h = (refl, refl)
  each-well (d ∷ ds) h = with-well S L ys None (reading ns Query d) (items_reading ns ds) h.0.well_formed (each-well ds h.1)

  -- so are those at which a flag is set
  well-at : (bs : List Bool) (ds : List Sexp) → AloneHave (IsPattern M ns) ds → AloneHave (IsPattern M ns) (data_at bs ds)
  well-at [] ds h = tt
  well-at (b ∷ bs) [] h = tt
  well-at (true ∷ bs) (d ∷ ds) h = (h.0, well-at bs ds h.1)
  well-at (false ∷ bs) (d ∷ ds) h = well-at bs ds h.1

  -- the list pattern of so many of them, each closed, has as many items and is well formed
  closed-good : (n : ℕ) (ds es : List Sexp) → ds ≡ es → length es ≡ n → AloneHave (IsPattern M ns) es
      → (is_list_of n (closed_list ns ds) ≡ true) × (is_well_formed_in M (closed_list ns ds) ≡ true)
  closed-good n ds es e l h =
      let w = each-well es h in
      subst (λ (xs : List Sexp). (is_list_of n (closed_list ns xs) ≡ true) × (is_well_formed_in M (closed_list ns xs) ≡ true)) (sym e) (
        ap (λ k. are_single k (closed_items (items_reading ns es))) (sym l) ∙ single-closed es,
        closed-well_formed S L ys (items_reading ns es) w.0 w.1,
      )

  -- a contract is well formed, read by one mode, and valid for another, where there is one
  abbrev AreGoodContracts : Mode → Option Mode → Option Headed → Type 0
  AreGoodContracts m o c = IsJudgementContractIn M ns o c × (is_valid_judgement_contract M m (option_map (contract_reading ns o) c) ≡ true)

  -- one that fits this mode is
  contract-valid : (m : Mode) (q : Headed) → IsGoodContract (Some m) q → AreGoodContracts m (Some m) (Some q)
  contract-valid m q h =
      let ds = q.arguments in
      let c = contract_reading ns (Some m) q in
      let formed = is_well_formed_in M in
      let f = mode-fits (Some m) ds refl h.fits in
      let same : f.mode ≡ m = (let e = f.is in cc) in
      let long : length m ≡ length ds = ap (λ (n : Mode). length n) (sym same) ∙ f.long in
      let fit : fitting (Some m) ds ≡ Some m = f.fits ∙ ap Some same in
      let ins = closed-good (input_count m) (patterns_in (in_conclusion (Some m) ds)) (data_at m ds)
      (ap (λ (o : Option Mode). data_by o ds) fit) (inputs-counted m ds long) (well-at m ds h.patterns) in
      let outs = closed-good (output_count m) (patterns_in (in_premise (Some m) ds)) (data_at (map not m) ds)
      (ap (λ (o : Option Mode). data_by (option_map (map not) o) ds) fit) (outputs-counted m ds long) (well-at (map not m) ds h.patterns) in (
        record { inputs = ins.1; outputs = outs.1 },
        and_both (is_list_of (input_count m) c.0) (is_list_of (output_count m) c.1 && (formed c.0 && formed c.1)) ins.0
            (and_both (is_list_of (output_count m) c.1) (formed c.0 && formed c.1) outs.0 (and_both (formed c.0) (formed c.1) ins.1 outs.1)),
      )

  -- ---- judgements

  -- what a form that passes has
  pub record IsValidJudgement (f : JudgementForm) : Type 0 where
    pub parts : OutlineHas S (can_read S M ns) (judgement_outline f)
    pub contract : IsJudgementContractIn M ns (own_mode f) (contract_form f)
    pub moded : IsSome (own_mode f)
    pub named : IsTrue (is_name (text_in (judgement_in f)))
    pub valid : is_valid_judgement (callable S) (Some M) (judgement_reading S ns f) ≡ true

  -- by its mode
  moded-good : (f : JudgementForm) (q : Headed) → mode_form f ≡ Some q → HeadedHas IsReadable q → OutlineHas S (bound (BindsWithin ys ns)) (judgement_outline f)
      → ArePassed S ns (options_stand (judgement_in f) (own_mode f) [] f.options) → ArePassed S ns (rules_stand S ns (judgement_in f) (own_mode f) f.rules) → IsValidJudgement f
  moded-good f q e r h options rules =
      let j = judgement_in f in
      let m : Mode = map (is_word (codes "I")) q.arguments in
      let C = callable S in
      let name = name-first q.head (flags_stand q.head q.arguments) (mode-passed j (own_mode f) [] f.options q options e) in
      let own : own_mode f ≡ Some m = ap mode_given e ∙ ap (λ b. if b then Some m else None) (flags-good q.head q.arguments name.1) in
      let alone = options-good j (own_mode f) [] f.options h.alone options in
      let good : AreGoodRules m (rule_branches j (own_mode f) f.rules) (rules_reading S ns j (own_mode f) f.rules) =
      subst (λ (o : Option Mode). AreGoodRules m (rule_branches j o f.rules) (rules_reading S ns j o f.rules)) (sym own)
      (rules-good j m f.rules (subst (λ (o : Option Mode). RulesHave S (bound (BindsWithin ys ns)) (rule_branches j o f.rules)) own h.rules)
      (subst (λ (o : Option Mode). ArePassed S ns (rules_stand S ns j o f.rules)) own rules)) in
      let contract : AreGoodContracts m (own_mode f) (contract_form f) =
      subst (λ (o : Option Mode). AreGoodContracts m o (contract_form f)) (sym own) (by_contract m own alone (contract_form f) refl) in
      record {
        parts = record { alone = alone; branches = tt; rules = good.0; questions = tt };
        contract = contract.0;
        moded = subst (λ (o : Option Mode). IsSome o) (sym own) refl;
        named = subst (λ (o : Option Headed). IsTrue (is_name (text_in (option_map (λ h. h.head) o)))) (sym e) (judgement-name q.head r.head name.0);
        valid =
            ap (λ (n : Mode). is_valid_judgement_contract M n (option_map (contract_reading ns (own_mode f)) (contract_form f)) && list_all (is_valid_judgement_rule C M n) (rules_reading S ns j (own_mode f) f.rules)) (ap mode_or_none own)
            ∙ and_both (is_valid_judgement_contract M m (option_map (contract_reading ns (own_mode f)) (contract_form f))) (list_all (is_valid_judgement_rule C M m) (rules_reading S ns j (own_mode f) f.rules)) contract.1 good.1;
      }
    where
      by_contract : (m : Mode) → own_mode f ≡ Some m → AloneHave (IsPattern M ns) (options_patterns (judgement_in f) [] f.options) → (c : Option Headed) → contract_form f ≡ c
          → AreGoodContracts m (Some m) c
      by_contract m own alone None g = (tt, refl)
      by_contract m own alone (Some c) g =
          contract-valid m c (subst (λ (o : Option Mode). IsGoodContract o c) own (contract-passed (judgement_in f) (own_mode f) [] f.options c alone options g))

  pub judgement-good : (d : Sexp) (f : JudgementForm) → HeadedHasIn IsReadable (mode_form f) → OutlineHas S (bound (BindsWithin ys ns)) (judgement_outline f)
      → ArePassed S ns (judgement_stands S ns d (Some f)) → IsValidJudgement f
  judgement-good d f r h k = by_mode (mode_form f) refl
    where
      missing : List Stand
      missing = missing_mode d (mode_form f)

      options : List Stand
      options = options_stand (judgement_in f) (own_mode f) [] f.options

      rules : List Stand
      rules = rules_stand S ns (judgement_in f) (own_mode f) f.rules

      by_mode : (o : Option Headed) → mode_form f ≡ o → IsValidJudgement f
      by_mode None e =
          let p = (passed-both S ns missing options (passed-both S ns (missing ++ options) rules k).0).0 in
          absurd (let z = (subst (λ (o : Option Headed). ArePassed S ns (missing_mode d o)) e p).modes in cc)
      by_mode (Some q) e =
          let p = passed-both S ns (missing ++ options) rules k in
          moded-good f q e (subst (HeadedHasIn IsReadable) e r) h (passed-both S ns missing options p.0).1 p.1

  -- ---- premises by themselves

  -- what one that passes has: it is a premise, which is valid, and the template behind it fits the names that it binds
  pub record IsValidQuestion (d : Sexp) (t : Option Sexp) : Type 0 where
    pub form : Headed
    pub is_form : headed d ≡ Some form
    pub parts : OutlineHas S (can_read S M ns) (question_outline d t)
    pub valid : is_valid_extra (callable S) M [] (holds (premise_reading S ns [] form)) ≡ true
    pub result : (x : Sexp) → t ≡ Some x
        → fits (has_metafunction S) (bound_by (uses 0 (premise_reading S ns [] form).outputs)) 0 (template_reading S (names_bound (bound_by_premise S ns (Some form))) x) ≡ true

  pub question-good : (d : Sexp) (t : Option Sexp) → OutlineHas S (bound (BindsWithin ys ns)) (question_outline d t) → ArePassed S ns (lone_premise_stands S ns d t) → IsValidQuestion d t
  question-good d t h k = by_form (headed d) refl
    where
      held : List Stand
      held = held_stands S ns [] d (headed d)

      behind : List Stand
      behind = result_stands (bound_by_premise S ns (headed d)) t

      by_form : (o : Option Headed) → headed d ≡ o → IsValidQuestion d t
      by_form None e =
          let p = (passed-both S ns held behind k).0 in
          absurd (let z = (subst (λ (o : Option Headed). ArePassed S ns (held_stands S ns [] d o)) e p).shapes in cc)
      by_form (Some q) e =
          let p = passed-both S ns held behind k in
          let g = premise-good S L ys [] d q alike-none (subst (λ (o : Option Headed). PremiseHas S (bound (BindsWithin ys ns)) o) e h.questions.0.premise)
          (subst (λ (o : Option Headed). ArePassed S ns (held_stands S ns [] d o)) e p.0) in
          let bs = bound_by_premise S ns (Some q) in
          record {
            form = q;
            is_form = e;
            parts = record {
              alone = tt;
              branches = tt;
              rules = tt;
              questions = (record { premise = subst (λ (o : Option Headed). PremiseHas S (can_read S M ns) o) (sym e) g.has; result = h.questions.0.result }, tt);
            };
            valid = g.valid [] refl;
            result = λ x f.
                let s : ArePassed S ns (template (names_bound bs) x ∷ []) =
                subst (λ (o : Option Sexp). ArePassed S ns (result_stands bs o)) f (subst (λ (o : Option Headed). ArePassed S ns (result_stands (bound_by_premise S ns o) t)) e p.1) in
                fits-uses S ns bs (uses 0 (premise_reading S ns [] q).outputs) x g.makes (template-first S ns bs x [] s).0;
          }
