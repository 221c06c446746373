use Rattle.std.proofs.Common.{◌≡◌, Option, drop}
use Rattle.rdx_lang.specs.Bindings.{Binding}
use Rattle.rdx_lang.specs.ProgramView.{program_of}
use Rattle.rdx_lang.specs.Shown.{bindings_of}
use Rattle.rdx_lang.specs.TemplateView.{host_of}
use Rattle.rdx_eval.specs.Answers.{Answer}
use Rattle.rdx_eval.specs.Heights.{calls_at, height}
use Rattle.rdx_eval.specs.Views.{program_in}
use Rattle.rdx_answer.specs.GenerateAnswers.{FirstFalseOf}
use Rattle.rdx_answer.proofs.generate_answers.first_false.Given as goal

abbrev pub invariant-loop-b : goal.invariant-loop-b
invariant-loop-b g l = record {
  same : program_in l.engine ≡ program_in l.fn.engine;
  first : (r : Answer (Option Binding))
      → FirstFalseOf (calls_at (program_of (program_in l.fn.engine).now) height) (host_of l.check.host.now) (bindings_of (drop l.b-index l.found)) r
      → FirstFalseOf (calls_at (program_of (program_in l.fn.engine).now) height) (host_of l.check.host.now) (bindings_of l.found) r;
}
