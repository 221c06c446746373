use Rattle.std.proofs.Common.{◌≡◌, drop, map}
use Rattle.rdx_term.specs.View.{tree_of}
use Rattle.rdx_lang.specs.ProgramView.{program_of}
use Rattle.rdx_lang.specs.Shown.{bindings_of}
use Rattle.rdx_lang.specs.TemplateView.{template_of}
use Rattle.rdx_eval.specs.Answers.{Single}
use Rattle.rdx_eval.specs.Heights.{calls_at, height}
use Rattle.rdx_eval.specs.Instantiation.{Makes}
use Rattle.rdx_eval.specs.Views.{program_in}
use Rattle.rdx_answer.proofs.MetPremises.{Listing}
use Rattle.rdx_answer.proofs.holds_answers.values_of.Given as goal

abbrev pub invariant-loop-b : goal.invariant-loop-b
invariant-loop-b g l = record {
  same : program_in l.engine ≡ program_in l.fn.engine;
  listing : Listing (λ b. Single (Makes (calls_at (program_of (program_in l.fn.engine).now) height) b (template_of l.t)))
      (bindings_of l.b-items) (bindings_of (drop l.b-index l.b-items)) (map tree_of l.set.keys);
}
