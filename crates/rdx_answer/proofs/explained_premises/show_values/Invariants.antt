use Rattle.std.proofs.Common.{◌≡◌, ◌++◌, drop, length, map, codes}
use Rattle.std.specs.Prelude.{decimal}
use Rattle.rdx_term.specs.Text.{tree_text}
use Rattle.rdx_term.specs.View.{tree_of}
use Rattle.rdx_lang.specs.ProgramView.{premise_of, program_of}
use Rattle.rdx_lang.specs.TemplateView.{template_of}
use Rattle.rdx_eval.specs.Views.{program_in}
use Rattle.rdx_why.specs.Finders.{known_in}
use Rattle.rdx_answer.specs.Explained.{ExplainsValue}
use Rattle.rdx_answer.proofs.ExplainedParts.{EachUpto}
use Rattle.rdx_answer.proofs.explained_premises.show_values.Given as goal

abbrev pub invariant-loop-value : goal.invariant-loop-value
invariant-loop-value g l = record {
  same : program_in l.engine ≡ program_in l.fn.engine;
  kept : known_in l.finder ≡ known_in l.fn.finder;
  upto : EachUpto (program_of (program_in l.fn.engine).now)
      (ExplainsValue (program_of (program_in l.fn.engine).now) (premise_of l.premise) (template_of l.template)) tree_text
      (codes "answers" ++ codes " " ++ decimal (length (map tree_of l.values)) ++ codes "\n") l.fn.out.items
      (map tree_of l.values) (map tree_of (drop l.value-index l.values)) l.out.items;
}
