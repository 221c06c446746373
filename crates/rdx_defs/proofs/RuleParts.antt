-- What the rules of a form have, one by one.
use Rattle.std.proofs.Common.{◌≡◌, ◌++◌, ◌<◌, ℕ, zero, suc, List, [], ◌∷◌, length, get_or, sym, subst, arith}
use Rattle.std.specs.Prelude.{Option, Some}
use Rattle.rdx_sexp.specs.Sexp.{Sexp}
use Rattle.rdx_lang.specs.Programs.{Mode}
use Rattle.rdx_defs.specs.Inside.FormOutlines.{in_rule, rule_branch, rule_branches}
use Rattle.rdx_parts.specs.Outlines.{RuleBranch}
use Rattle.rdx_parts.specs.PartsHave.{Wanted, RuleHas, RulesHave}
use Rattle.rdx_defs.specs.JudgementForms.{RuleForm, rule_form, own_rule}
use Rattle.rdx_templates.specs.Scope.{Scope}

module _ (S : Scope) (W : Wanted) where
  -- two lists of rules
  rules-both : (rs qs : List RuleBranch) → RulesHave S W (rs ++ qs) → RulesHave S W rs × RulesHave S W qs
  rules-both [] qs h = (tt, h)
  rules-both (r ∷ rs) qs h = let k = rules-both rs qs h.1 in ((h.0, k.0), k.1)

  -- of several data, the one at a place
  pub rules-in : (j : Option Sexp) (m : Option Mode) (ds : List Sexp) (i : ℕ) (d : Sexp) → i < length ds → d ≡ get_or ds i d
      → RulesHave S W (rule_branches j m ds) → RulesHave S W (in_rule m (own_rule j (rule_form d)))
  rules-in j m [] i d h e r = absurd (omega arith)
  rules-in j m (c ∷ ds) zero d h e r =
      subst (λ (x : Sexp). RulesHave S W (in_rule m (own_rule j (rule_form x)))) (sym e) (rules-both (in_rule m (own_rule j (rule_form c))) (rule_branches j m ds) r).0
  rules-in j m (c ∷ ds) (suc i) d h e r =
      rules-in j m ds i d (omega arith) e (rules-both (in_rule m (own_rule j (rule_form c))) (rule_branches j m ds) r).1

  -- where it is a rule
  pub rule-in : (m : Option Mode) (o : Option RuleForm) (r : RuleForm) → o ≡ Some r → RulesHave S W (in_rule m o) → RuleHas S W (rule_branch m r)
  rule-in m o r e h = (subst (λ (x : Option RuleForm). RulesHave S W (in_rule m x)) e h).0
