use Rattle.std.proofs.Common.{◌≡◌, map, drop}
use Rattle.rdx_term.specs.View.{tree_of}
use Rattle.rdx_lang.specs.Bindings.{Binding}
use Rattle.rdx_lang.specs.Members.{In}
use Rattle.rdx_lang.specs.ProgramView.{program_of}
use Rattle.rdx_lang.specs.TemplateView.{template_of}
use Rattle.rdx_eval.specs.Answers.{value}
use Rattle.rdx_eval.specs.Instantiation.{MakeList}
use Rattle.rdx_eval.specs.Views.{program_in}
use Rattle.rdx_deriv.specs.Judged.{calls}
use Rattle.rdx_why.specs.Model.Ends.{bound}
use Rattle.rdx_why.proofs.judging.making_binding.Given as goal

abbrev pub invariant-loop-end : goal.invariant-loop-end
invariant-loop-end g l = record {
  none : (d : Binding) → In d (map bound l.ends)
      → MakeList (calls (program_of l.program)) d (map template_of l.outs) (value (tree_of l.o)) → In d (map bound (drop l.end-index l.ends));
  same : program_in l.engine ≡ program_in l.fn.engine;
}
