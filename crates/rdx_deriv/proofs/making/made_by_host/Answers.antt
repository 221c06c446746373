use Rattle.std.proofs.Common.{subst}
use Rattle.std.specs.Prelude.{Err}
use Rattle.rdx_term.specs.View.{tree_of}
use Rattle.rdx_lang.specs.Bindings.{Binding}
use Rattle.rdx_lang.specs.ProgramView.{program_of}
use Rattle.rdx_lang.specs.Shown.{binding_of}
use Rattle.rdx_lang.specs.Templates.{Host}
use Rattle.rdx_lang.specs.TemplateView.{host_of}
use Rattle.rdx_lang.specs.declared.program.Program.{Program}
use Rattle.rdx_eval.specs.Answers.{value}
use Rattle.rdx_eval.specs.Instantiation.{HostMakes}
use Rattle.rdx_eval.specs.Views.{Says}
use Rattle.rdx_deriv.specs.Judged.{calls}
use Rattle.rdx_deriv.proofs.FoundOnce.{host_alone, host_not, told_fault}
use Rattle.rdx_deriv.proofs.making.made_by_host.Goals as goal

pub returns-in-Ok-clause-made : goal.returns-in-Ok-clause-made
returns-in-Ok-clause-made g c =
    let b : Binding = binding_of c.args.b.now in
    let m : Host = host_of c.args.h.now in
    host_alone (program_of c.args.program.now) b m (tree_of c.in-Ok.term)
    (subst (λ (p : Program). HostMakes (calls (program_of p)) b m (value (tree_of c.in-Ok.term))) c.requires c.in-Ok.ensures.answer)

pub returns-in_ok-no_memory_of-in-Err-clause-made : goal.returns-in_ok-no_memory_of-in-Err-clause-made
returns-in_ok-no_memory_of-in-Err-clause-made g c =
    let b : Binding = binding_of c.args.b.now in
    let m : Host = host_of c.args.h.now in
    let f = told_fault tree_of (HostMakes (calls (program_of c.args.program.now)) b m) c.in-Err.fault
    (subst (λ (p : Program). Says tree_of (HostMakes (calls (program_of p)) b m) (Err c.in-Err.fault)) c.requires c.in-Err.ensures.answer)
    c.in_ok-no_memory_of-in-Err.ensures in
    host_not (program_of c.args.program.now) b m f.0 f.1
