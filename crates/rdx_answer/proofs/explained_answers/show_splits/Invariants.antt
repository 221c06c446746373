use Rattle.std.proofs.Common.{◌≡◌, ◌++◌, drop, length, codes}
use Rattle.std.specs.Prelude.{decimal}
use Rattle.rdx_term.specs.View.{tree_of}
use Rattle.rdx_lang.specs.Checked.{pattern_in}
use Rattle.rdx_lang.specs.ProgramView.{program_of}
use Rattle.rdx_lang.specs.Shown.{decompositions_of}
use Rattle.rdx_eval.specs.Views.{program_in}
use Rattle.rdx_deriv.specs.Derivations.{split}
use Rattle.rdx_why.specs.Explaining.{Explains}
use Rattle.rdx_why.specs.Finders.{known_in}
use Rattle.rdx_answer.specs.AnswerText.{split_text}
use Rattle.rdx_answer.proofs.ExplainedParts.{EachUpto}
use Rattle.rdx_answer.proofs.explained_answers.show_splits.Given as goal

abbrev pub invariant-loop-split : goal.invariant-loop-split
invariant-loop-split g l = record {
  same : program_in l.engine ≡ program_in l.fn.engine;
  kept : known_in l.finder ≡ known_in l.fn.finder;
  upto : EachUpto (program_of (program_in l.fn.engine).now)
      (λ s. Explains (program_of (program_in l.fn.engine).now) (split l.name (pattern_in l.pat) (tree_of l.t) s.context s.part s.binding)) split_text
      (codes "splits" ++ codes " " ++ decimal (length (decompositions_of l.split-items)) ++ codes "\n") l.fn.out.items
      (decompositions_of l.split-items) (decompositions_of (drop l.split-index l.split-items)) l.out.items;
}
