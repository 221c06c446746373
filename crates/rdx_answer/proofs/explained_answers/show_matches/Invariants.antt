use Rattle.std.proofs.Common.{◌≡◌, ◌++◌, drop, length, codes}
use Rattle.std.specs.Prelude.{decimal}
use Rattle.rdx_term.specs.View.{tree_of}
use Rattle.rdx_lang.specs.Checked.{pattern_in}
use Rattle.rdx_lang.specs.ProgramView.{program_of}
use Rattle.rdx_lang.specs.Shown.{bindings_of}
use Rattle.rdx_eval.specs.Views.{program_in}
use Rattle.rdx_deriv.specs.Derivations.{matched}
use Rattle.rdx_why.specs.Explaining.{Explains}
use Rattle.rdx_why.specs.Finders.{known_in}
use Rattle.rdx_answer.specs.AnswerText.{binding_text}
use Rattle.rdx_answer.proofs.ExplainedParts.{EachUpto}
use Rattle.rdx_answer.proofs.explained_answers.show_matches.Given as goal

abbrev pub invariant-loop-binding : goal.invariant-loop-binding
invariant-loop-binding g l = record {
  same : program_in l.engine ≡ program_in l.fn.engine;
  kept : known_in l.finder ≡ known_in l.fn.finder;
  upto : EachUpto (program_of (program_in l.fn.engine).now)
      (λ b. Explains (program_of (program_in l.fn.engine).now) (matched l.name (pattern_in l.pat) (tree_of l.t) b)) binding_text
      (codes "match" ++ codes " " ++ decimal (length (bindings_of l.binding-items)) ++ codes "\n") l.fn.out.items
      (bindings_of l.binding-items) (bindings_of (drop l.binding-index l.binding-items)) l.out.items;
}
