use Rattle.std.proofs.Common.{◌≡◌, ◌++◌, drop, map}
use Rattle.std.specs.Prelude.{option_map}
use Rattle.rdx_defs.specs.Inside.FormOutlines.{rule_branches}
use Rattle.rdx_parts.specs.PartViews.{rule_branch_of}
use Rattle.rdx_defs.proofs.judgements.stands.rule_branches.Given as goal

abbrev pub invariant-loop-d : goal.invariant-loop-d
invariant-loop-d l =
    map rule_branch_of l.branches.items ++ rule_branches (option_map (λ d. d.now) l.judgement) (option_map (λ m. m.now) l.mode) (drop l.d-index l.rules)
    ≡ rule_branches (option_map (λ d. d.now) l.judgement) (option_map (λ m. m.now) l.mode) l.rules
