-- The rules of cases are those of their branches.
use Rattle.std.proofs.Common.{◌≡◌, ◌++◌, ℕ, List, [], ◌∷◌, refl, ap}
use Rattle.std.specs.Prelude.{Option, Some, None}
use Rattle.rdx_sexp.specs.Sexp.{Sexp}
use Rattle.rdx_lang.specs.Programs.{Rule}
use Rattle.rdx_relations.specs.Inside.FormOutlines.{case_branch, in_case, case_branches}
use Rattle.rdx_relations.specs.Inside.BranchReadings.{branch_rule, branch_rules}
use Rattle.rdx_relations.specs.RelationForms.{CaseForm, case_form}
use Rattle.rdx_relations.specs.RelationReading.{with_rule, rules_reading}
use Rattle.rdx_templates.specs.Scope.{Scope}

module _ (S : Scope) (ns : List (List ℕ)) where
  pub rules-branches : (ds : List Sexp) → rules_reading S ns ds ≡ branch_rules S ns (case_branches ds)
  rules-branches [] = refl
  rules-branches (d ∷ ds) = by_case (case_form d) (rules-branches ds)
    where
      by_case : (o : Option CaseForm) → rules_reading S ns ds ≡ branch_rules S ns (case_branches ds)
          → with_rule S ns o (rules_reading S ns ds) ≡ branch_rules S ns (in_case o ++ case_branches ds)
      by_case None e = e
      by_case (Some c) e = ap (λ (rs : List Rule). branch_rule S ns (case_branch c) ∷ rs) e
