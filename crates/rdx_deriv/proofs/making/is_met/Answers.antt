use Rattle.rdx_term.specs.View.{tree_of}
use Rattle.rdx_lang.specs.Bindings.{Binding}
use Rattle.rdx_lang.specs.ProgramView.{program_of}
use Rattle.rdx_lang.specs.Programs.{Program}
use Rattle.rdx_lang.specs.Shown.{binding_of}
use Rattle.rdx_lang.specs.Templates.{Host}
use Rattle.rdx_lang.specs.TemplateView.{host_of}
use Rattle.rdx_eval.specs.Answers.{value}
use Rattle.rdx_eval.specs.Instantiation.{HostMakes}
use Rattle.rdx_deriv.specs.Judged.{calls}
use Rattle.rdx_deriv.proofs.FoundOnce.{found_none, found_some, met_not, met_where}
use Rattle.rdx_deriv.proofs.making.is_met.Goals as goal

pub returns-in-Some-clause-met : goal.returns-in-Some-clause-met
returns-in-Some-clause-met g c =
    let P : Program = program_of c.args.program.now in
    let b : Binding = binding_of c.args.b.now in
    let h : Host = host_of c.args.h.now in
    met_where P b h (tree_of c.in-Some.t)
    (found_some tree_of (λ u. HostMakes (calls P) b h (value u)) c.in_ok-t.field-0 c.in_ok-t.ensures.made c.in-Some.t c.in-Some.is)
    c.is_false.result c.is_false.ensures

pub returns-in-None-clause-met : goal.returns-in-None-clause-met
returns-in-None-clause-met g c =
    let P : Program = program_of c.args.program.now in
    let b : Binding = binding_of c.args.b.now in
    let h : Host = host_of c.args.h.now in
    met_not P b h
    (found_none tree_of (λ u. HostMakes (calls P) b h (value u)) c.in_ok-t.field-0 c.in_ok-t.ensures.made c.in-None.is)
