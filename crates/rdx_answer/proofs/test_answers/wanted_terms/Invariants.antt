use Rattle.std.proofs.Common.{◌≡◌, drop, map}
use Rattle.rdx_term.specs.View.{tree_of}
use Rattle.rdx_lang.specs.ProgramView.{program_of}
use Rattle.rdx_lang.specs.TemplateView.{host_of}
use Rattle.rdx_eval.specs.Answers.{Single}
use Rattle.rdx_eval.specs.Views.{program_in}
use Rattle.rdx_eval.proofs.Gathered.{Gathers}
use Rattle.rdx_answer.specs.Answering.{HostValue}
use Rattle.rdx_answer.proofs.test_answers.wanted_terms.Given as goal

abbrev pub invariant-loop-host : goal.invariant-loop-host
invariant-loop-host g l = record {
  same : program_in l.engine ≡ program_in l.fn.engine;
  gathers : Gathers (λ h. Single (HostValue (program_of (program_in l.fn.engine).now) h)) (map host_of l.hosts)
      (map host_of (drop l.host-index l.hosts)) (map tree_of l.terms.items);
}
