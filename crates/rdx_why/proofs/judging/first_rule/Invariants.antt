use Rattle.std.proofs.Common.{◌≡◌, drop, map}
use Rattle.rdx_term.specs.View.{tree_of}
use Rattle.rdx_lang.specs.Checked.{language_in}
use Rattle.rdx_lang.specs.Members.{In}
use Rattle.rdx_lang.specs.ProgramView.{judgement_rule_of, program_of}
use Rattle.rdx_lang.specs.Programs.{JudgementRule}
use Rattle.rdx_eval.specs.Views.{program_in}
use Rattle.rdx_why.specs.Inside.Ways.{RuleHas}
use Rattle.rdx_why.proofs.judging.first_rule.Given as goal

abbrev pub invariant-loop-place : goal.invariant-loop-place
invariant-loop-place g l = record {
  none : (x : JudgementRule) → In x (map judgement_rule_of l.rules)
      → RuleHas (program_of l.program) (language_in l.language) x (tree_of l.a) (tree_of l.o) → In x (map judgement_rule_of (drop l.place l.rules));
  same : program_in l.engine ≡ program_in l.fn.engine;
  kept : l.ends.program ≡ l.fn.ends.program;
}
