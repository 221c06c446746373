use Rattle.std.proofs.Common.{◌≡◌, drop}
use Rattle.rdx_term.specs.View.{tree_of}
use Rattle.rdx_lang.specs.ProgramView.{program_of}
use Rattle.rdx_lang.specs.Shown.{bindings_of}
use Rattle.rdx_lang.specs.TemplateView.{template_of}
use Rattle.rdx_eval.specs.Views.{program_in}
use Rattle.rdx_answer.specs.Inside.Explaining.{HasSource}
use Rattle.rdx_answer.proofs.explained_premises.first_source.Given as goal

abbrev pub invariant-loop-b : goal.invariant-loop-b
invariant-loop-b g l = record {
  same : program_in l.engine ≡ program_in l.fn.engine;
  left : HasSource (program_of (program_in l.fn.engine).now) (template_of l.t) (bindings_of (drop l.b-index l.found)) (tree_of l.wanted);
}
