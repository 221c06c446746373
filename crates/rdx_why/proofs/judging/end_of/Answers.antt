use Rattle.std.proofs.Common.{map, refl}
use Rattle.rdx_lang.specs.ProgramView.{program_of}
use Rattle.rdx_lang.specs.Shown.{binding_of}
use Rattle.rdx_lang.specs.TemplateView.{template_of}
use Rattle.rdx_why.proofs.EndLaws.{only_found}
use Rattle.rdx_why.proofs.judging.end_of.Goals as goal

pub returns-clause-only : goal.returns-clause-only
returns-clause-only g c =
    only_found (program_of c.args.program.now) (map template_of c.args.outs.now)
    (record { binding = c.in_ok-binding.binding; outputs = c.in_ok-outputs.outputs }) (binding_of c.args.c.now) c.in_ok-outputs.outputs
    c.in_ok-binding.ensures refl c.in_ok-outputs.ensures.made
