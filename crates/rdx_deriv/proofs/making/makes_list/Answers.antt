use Rattle.std.proofs.Common.{map}
use Rattle.rdx_term.specs.View.{tree_of}
use Rattle.rdx_lang.specs.ProgramView.{program_of}
use Rattle.rdx_lang.specs.Shown.{binding_of}
use Rattle.rdx_lang.specs.TemplateView.{template_of}
use Rattle.rdx_eval.specs.Answers.{value}
use Rattle.rdx_eval.specs.Instantiation.{MakeList}
use Rattle.rdx_deriv.specs.Judged.{calls}
use Rattle.rdx_deriv.proofs.FoundOnce.{found_is, found_no}
use Rattle.rdx_deriv.proofs.making.makes_list.Goals as goal

pub returns-in-Some-clause-makes : goal.returns-in-Some-clause-makes
returns-in-Some-clause-makes g c =
    found_is tree_of
    (λ u. MakeList (calls (program_of c.args.program.now)) (binding_of c.args.b.now) (map template_of c.args.templates.now) (value u))
    c.in_ok-made.field-0 c.in_ok-made.ensures.made c.in-Some.made c.in-Some.is (tree_of c.args.t.now) c.same.result c.same.ensures

pub returns-in-None-clause-makes : goal.returns-in-None-clause-makes
returns-in-None-clause-makes g c =
    found_no tree_of
    (λ u. MakeList (calls (program_of c.args.program.now)) (binding_of c.args.b.now) (map template_of c.args.templates.now) (value u))
    c.in_ok-made.field-0 c.in_ok-made.ensures.made c.in-None.is (tree_of c.args.t.now)
