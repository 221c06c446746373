use Rattle.std.proofs.Common.{◌≡◌, drop, map}
use Rattle.rdx_lang.specs.ProgramView.{program_of}
use Rattle.rdx_lang.specs.Shown.{binding_of}
use Rattle.rdx_lang.specs.TemplateView.{template_of}
use Rattle.rdx_eval.specs.Answers.{Single}
use Rattle.rdx_eval.specs.Instantiation.{Makes}
use Rattle.rdx_eval.specs.Views.{program_in, terms_in}
use Rattle.rdx_eval.proofs.Gathered.{Gathers}
use Rattle.rdx_deriv.specs.Judged.{calls}
use Rattle.rdx_deriv.proofs.making.made_list.Given as goal

abbrev pub invariant-loop-template : goal.invariant-loop-template
invariant-loop-template g l = record {
  gathers : Gathers (λ m. Single (Makes (calls (program_of l.program)) (binding_of l.b) m)) (map template_of l.templates)
      (map template_of (drop l.template-index l.templates)) (terms_in l.items);
  same : program_in l.engine ≡ program_in l.fn.engine;
}
