use Rattle.rdx_term.specs.View.{tree_of}
use Rattle.rdx_lang.specs.Bindings.{Binding}
use Rattle.rdx_lang.specs.Checked.{pattern_in}
use Rattle.rdx_lang.specs.ProgramView.{program_of}
use Rattle.rdx_lang.specs.Programs.{Program}
use Rattle.rdx_lang.specs.Shown.{binding_of}
use Rattle.rdx_lang.specs.Templates.{Template}
use Rattle.rdx_lang.specs.TemplateView.{template_of}
use Rattle.rdx_eval.specs.Answers.{value}
use Rattle.rdx_eval.specs.Instantiation.{Makes}
use Rattle.rdx_deriv.specs.DerivationView.{goals_of}
use Rattle.rdx_deriv.specs.Judged.{calls}
use Rattle.rdx_deriv.proofs.ExtraUseLaws.{where_not}
use Rattle.rdx_deriv.proofs.FoundOnce.{found_none, found_some}
use Rattle.rdx_deriv.proofs.extras.by_where.Goals as goal

pub returns-in_default-clause-leads : goal.returns-in_default-clause-leads
returns-in_default-clause-leads g c =
    let P : Program = program_of c.args.program.now in
    let m : Template = template_of c.args.template.now in
    let b : Binding = binding_of c.args.at.binding in
    where_not P c.args.l.now (pattern_in c.args.pat.now) m b (goals_of c.args.at.under.now)
    (found_none tree_of (λ u. Makes (calls P) b m (value u)) c.in_ok-t.field-0 c.in_ok-t.ensures.made c.in_default.is)

pub where_leads-requires : goal.where_leads-requires
where_leads-requires g c =
    let P : Program = program_of c.args.program.now in
    let m : Template = template_of c.args.template.now in
    let b : Binding = binding_of c.args.at.binding in
    found_some tree_of (λ u. Makes (calls P) b m (value u)) c.in_ok-t.field-0 c.in_ok-t.ensures.made c.in-Some.t c.in-Some.is
