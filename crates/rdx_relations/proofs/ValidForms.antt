-- What a form of a relation that is not refused stands for is valid over its language.
use Rattle.std.proofs.Common.{◌≡◌, ◌++◌, ◌∙◌, ℕ, Bool, true, false, List, [], ◌∷◌, map, refl, sym, ap, ap₂, subst}
use Rattle.std.proofs.lemmas.List.{map-append}
use Rattle.std.specs.List.{list_all}
use Rattle.std.specs.Prelude.{◌&&◌, Option, Some, None, option_map}
use Rattle.rdx_sexp.specs.Sexp.{Sexp}
use Rattle.rdx_lang.specs.Depths.{Use, uses}
use Rattle.rdx_lang.specs.Fitting.{fits}
use Rattle.rdx_lang.specs.Patterns.{Language}
use Rattle.rdx_lang.specs.Scopes.{bound_by, case_uses}
use Rattle.rdx_lang.specs.Valid.{are_valid_extras, is_valid_case, is_valid_rule, is_valid_domain, is_valid_over}
use Rattle.rdx_lang.specs.WellFormed.{is_well_formed_in}
use Rattle.rdx_patterns.specs.Ends.{crossed_for}
use Rattle.rdx_patterns.specs.Nonterminals.{names_of}
use Rattle.rdx_patterns.specs.Reading.{reading}
use Rattle.rdx_patterns.specs.declared.patterns.position.Position.TheVariants.{Query}
use Rattle.rdx_patterns.proofs.Booleans.{and_both}
use Rattle.rdx_patterns.proofs.DepthsRead.{bound_use}
use Rattle.rdx_parts.specs.ExtraReading.{extras_reading}
use Rattle.rdx_relations.specs.Inside.FormOutlines.{case_branch, in_case, case_branches, domain_patterns, relation_outline}
use Rattle.rdx_parts.specs.Outlines.{Branch, taken_occurrences, bound_by_taken, taken_reading, bound_by_branch}
use Rattle.rdx_relations.specs.Inside.BranchReadings.{branch_rule, branch_rules}
use Rattle.rdx_parts.specs.PartsHave.{BranchHas, BranchesHave, AloneHave, OutlineHas, IsPattern, can_read}
use Rattle.rdx_relations.specs.RelationForms.{CaseForm, case_form, RelationForm}
use Rattle.rdx_relations.specs.RelationReading.{rules_reading, expanded_reading}
use Rattle.rdx_relations.specs.RelationStands.{case_stands, cases_stand, domain_stands, expanded_stands, shortcuts_stand}
use Rattle.rdx_templates.specs.Scope.{Scope, callable, has_metafunction}
use Rattle.rdx_templates.specs.TemplateReading.{template_reading}
use Rattle.rdx_parts.specs.Stands.{template, names_bound, bound_by_extras, extras_stand}
use Rattle.rdx_relations.proofs.AlikeSymbols.{alike-none}
use Rattle.rdx_relations.proofs.AskingParts.{BindsWithin}
use Rattle.rdx_relations.proofs.BranchRules.{rules-branches}
use Rattle.rdx_relations.proofs.FormRefusals.{ArePassed}
use Rattle.rdx_relations.proofs.LoneStands.{domain-lone}
use Rattle.rdx_parts.proofs.BranchStands.{branch_stands}
use Rattle.rdx_relations.proofs.PartsOfForms.{bound}
use Rattle.rdx_relations.proofs.PassedStands.{passed-both, pattern-first, template-first, arrow-first, fits-uses}
use Rattle.rdx_relations.proofs.ValidExtras.{alike-taken, taken-passed, alone-good, extras-good}

-- Forms are read over the names of L and over M, which is L with the cross nonterminals to those of ys that are nonterminals of it.
module _ (S : Scope) (L : Language) (ys : List (List ℕ)) where
  abbrev ns : List (List ℕ)
  ns = names_of L

  abbrev M : Language
  M = crossed_for ys L

  -- ---- branches

  -- what a branch stands for is valid
  abbrev IsValidBranch : Branch → Type 0
  IsValidBranch b =
      is_valid_case (callable S) M (taken_reading ns b.takes) (extras_reading b.place S ns (bound_by_taken ns b.takes) b.extras)
      (template_reading S (names_bound (bound_by_branch S ns b)) b.result) ≡ true

  pub branch-good : (again : Bool) (b : Branch) → BranchHas S (bound (BindsWithin ys ns)) b → ArePassed S ns (branch_stands S ns again b) → BranchHas S (can_read S M ns) b × IsValidBranch b
  branch-good again b h k =
      let F = has_metafunction S in
      let C = callable S in
      let all = bound_by_branch S ns b in
      let p = taken_reading ns b.takes in
      let es = extras_reading b.place S ns (bound_by_taken ns b.takes) b.extras in
      let t = template_reading S (names_bound all) b.result in
      let others = extras_stand b.place S ns (bound_by_taken ns b.takes) again b.extras in
      let a = pattern-first S ns [] (taken_occurrences b.takes) (template (names_bound all) b.result ∷ others) k in
      let c = template-first S ns all b.result others a.1 in
      let q = taken-passed S L ys [] b.takes alike-none h.takes a.0 in
      let g = extras-good S L ys b.place (bound_by_taken ns b.takes) again b.extras (alike-taken S L ys [] b.takes alike-none a.0) h.extras c.1 in
      let u : case_uses p es ≡ map bound_use all =
      ap₂ (λ (vs ws : List Use). vs ++ ws) q.1 g.1.1 ∙ sym (map-append bound_use (bound_by_taken ns b.takes) (bound_by_extras b.place S ns b.extras)) in (
        record { takes = q.0; result = h.result; extras = g.0 },
        and_both (is_well_formed_in M p) (are_valid_extras C M (uses 0 p) es && fits F (bound_by (case_uses p es)) 0 t) q.0.well_formed
            (and_both (are_valid_extras C M (uses 0 p) es) (fits F (bound_by (case_uses p es)) 0 t) (g.1.0 (uses 0 p) q.1) (fits-uses S ns all (case_uses p es) b.result u c.0)),
      )

  -- ---- relations

  -- they are valid
  abbrev AreGoodCases : List Branch → Type 0
  AreGoodCases bs = BranchesHave S (can_read S M ns) bs × (list_all (is_valid_rule (callable S) M) (branch_rules S ns bs) ≡ true)

  case-first : (d : Sexp) (o : Option CaseForm) (bs : List Branch) → BranchesHave S (bound (BindsWithin ys ns)) (in_case o ++ bs) → ArePassed S ns (case_stands S ns d o)
      → (BranchesHave S (bound (BindsWithin ys ns)) bs → AreGoodCases bs) → AreGoodCases (in_case o ++ bs)
  case-first d None bs h k f = f h
  case-first d (Some c) bs h k f =
      let b = case_branch c in
      let g = branch-good false b h.0 (arrow-first S ns c.arrow (branch_stands S ns false b) k) in
      let r = f h.1 in
      ((g.0, r.0), and_both (is_valid_rule (callable S) M (branch_rule S ns b)) (list_all (is_valid_rule (callable S) M) (branch_rules S ns bs)) g.1 r.1)

  cases-good : (ds : List Sexp) → BranchesHave S (bound (BindsWithin ys ns)) (case_branches ds) → ArePassed S ns (cases_stand S ns ds) → AreGoodCases (case_branches ds)
  cases-good [] h k = (tt, refl)
  cases-good (d ∷ ds) h k =
      let p = passed-both S ns (case_stands S ns d (case_form d)) (cases_stand S ns ds) k in
      case-first d (case_form d) (case_branches ds) h p.0 (λ g. cases-good ds g p.1)

  -- the domain is well formed
  domain-good : (o : Option Sexp) → AloneHave (IsPattern M ns) (domain_patterns o) → is_valid_domain M (option_map (reading ns Query) o) ≡ true
  domain-good None h = refl
  domain-good (Some p) h = h.0.well_formed

  -- a form without shorthand, whatever shortcuts stand behind it
  pub relation-good : (r : RelationForm) (ds : List Sexp) (x : List ℕ) → OutlineHas S (bound (BindsWithin ys ns)) (relation_outline r)
      → ArePassed S ns (expanded_stands S ns r ++ shortcuts_stand [] ds)
      → OutlineHas S (can_read S M ns) (relation_outline r) × (is_valid_over (callable S) (Some M) (expanded_reading S ns x r) ≡ true)
  relation-good r ds x h k =
      let p = passed-both S ns (domain_stands r.domain) (cases_stand S ns r.cases) (passed-both S ns (expanded_stands S ns r) (shortcuts_stand [] ds) k).0 in
      let a = alone-good S L ys (domain_patterns r.domain) h.alone (subst (ArePassed S ns) (domain-lone r.domain) p.0) in
      let c = cases-good r.cases h.branches p.1 in
      let v : list_all (is_valid_rule (callable S) M) (rules_reading S ns r.cases) ≡ true = ap (list_all (is_valid_rule (callable S) M)) (rules-branches S ns r.cases) ∙ c.1 in (
        record { alone = a; branches = c.0; rules = tt; questions = tt },
        and_both (is_valid_domain M (option_map (reading ns Query) r.domain)) (list_all (is_valid_rule (callable S) M) (rules_reading S ns r.cases)) (domain-good r.domain a) v,
      )
