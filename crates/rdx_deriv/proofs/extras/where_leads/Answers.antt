use Rattle.std.proofs.Common.{List}
use Rattle.rdx_term.specs.Tree.{Tree}
use Rattle.rdx_term.specs.View.{tree_of}
use Rattle.rdx_lang.specs.Bindings.{Binding, visible}
use Rattle.rdx_lang.specs.Checked.{pattern_in}
use Rattle.rdx_lang.specs.Join.{IsJoin}
use Rattle.rdx_lang.specs.ProgramView.{program_of}
use Rattle.rdx_lang.specs.Programs.{Program}
use Rattle.rdx_lang.specs.Shown.{binding_of}
use Rattle.rdx_lang.specs.Templates.{Template}
use Rattle.rdx_lang.specs.TemplateView.{template_of}
use Rattle.rdx_deriv.specs.Derivations.{Goal}
use Rattle.rdx_deriv.specs.DerivationView.{goals_of}
use Rattle.rdx_deriv.proofs.ExtraUseLaws.{where_no_goal, where_no_join, where_some}
use Rattle.rdx_deriv.proofs.FoundOnce.{found_none, found_some}
use Rattle.rdx_deriv.proofs.extras.where_leads.Goals as goal

pub returns-in_default : goal.returns-in_default
returns-in_default c =
    let P : Program = program_of c.args.program.now in
    let m : Template = template_of c.args.template.now in
    let b : Binding = binding_of c.args.at.binding in
    let t : Tree = tree_of c.args.t.now in
    where_no_goal P c.args.l.now (pattern_in c.args.pat.now) m b (goals_of c.args.at.under.now) t c.requires c.in_default.ensures.none

pub returns-in_default-2 : goal.returns-in_default-2
returns-in_default-2 c =
    let P : Program = program_of c.args.program.now in
    let m : Template = template_of c.args.template.now in
    let b : Binding = binding_of c.args.at.binding in
    let t : Tree = tree_of c.args.t.now in
    let d : Binding = binding_of c.in-Some.first.binding.now in
    let hs : List Goal = goals_of c.in-Some.first.behind.now in
    where_no_join P c.args.l.now (pattern_in c.args.pat.now) m b (goals_of c.args.at.under.now) t c.requires d hs c.in-Some.ensures.some
    (found_none binding_of (λ e. IsJoin b (visible d) e) c.in_ok-binding.field-0 c.in_ok-binding.ensures c.in_default-2.is)

pub returns : goal.returns
returns c =
    let P : Program = program_of c.args.program.now in
    let m : Template = template_of c.args.template.now in
    let b : Binding = binding_of c.args.at.binding in
    let t : Tree = tree_of c.args.t.now in
    let d : Binding = binding_of c.in-Some.first.binding.now in
    let hs : List Goal = goals_of c.in-Some.first.behind.now in
    where_some P c.args.l.now (pattern_in c.args.pat.now) m b (goals_of c.args.at.under.now) t c.requires d hs c.in-Some.ensures.some
    (binding_of c.in-Some-2.binding)
    (found_some binding_of (λ e. IsJoin b (visible d) e) c.in_ok-binding.field-0 c.in_ok-binding.ensures c.in-Some-2.binding c.in-Some-2.is)
