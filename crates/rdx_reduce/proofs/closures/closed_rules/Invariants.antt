use Rattle.std.proofs.Common.{◌≡◌, ◌++◌, drop, map, true}
use Rattle.std.specs.List.{list_all}
use Rattle.rdx_lang.specs.Checked.{language_in, pattern_in}
use Rattle.rdx_lang.specs.Closures as model
use Rattle.rdx_lang.specs.ProgramView.{rule_of}
use Rattle.rdx_lang.specs.WellFormed.{is_well_formed_in}
use Rattle.rdx_reduce.proofs.closures.closed_rules.Given as goal

abbrev pub invariant-loop-rule : goal.invariant-loop-rule
invariant-loop-rule l =
    (map rule_of l.closed.items ++ map (model.closed_rule (pattern_in l.by)) (map rule_of (drop l.rule-index l.rules))
    ≡ map (model.closed_rule (pattern_in l.by)) (map rule_of l.rules))
    × ((list_all (λ r. is_well_formed_in (language_in l.language) r.pattern) (map rule_of (drop l.rule-index l.rules)) ≡ true)
    × (list_all (λ r. is_well_formed_in (language_in l.language) r.pattern) (map rule_of l.closed.items) ≡ true))
