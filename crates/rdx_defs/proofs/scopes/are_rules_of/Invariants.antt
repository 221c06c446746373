use Rattle.std.proofs.Common.{◌≡◌, drop}
use Rattle.std.specs.List.{list_all}
use Rattle.rdx_defs.specs.JudgementForms.{rule_form}
use Rattle.rdx_defs.specs.Scopes.{is_rule_of}
use Rattle.rdx_defs.proofs.scopes.are_rules_of.Given as goal

abbrev pub invariant-loop-d : goal.invariant-loop-d
invariant-loop-d l = list_all (λ d. is_rule_of l.judgement (rule_form d)) (drop l.d-index l.found) ≡ list_all (λ d. is_rule_of l.judgement (rule_form d)) l.found
