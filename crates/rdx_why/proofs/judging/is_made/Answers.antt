use Rattle.std.proofs.Common.{map, sym}
use Rattle.rdx_term.specs.View.{tree_of}
use Rattle.rdx_lang.specs.ProgramView.{program_of}
use Rattle.rdx_lang.specs.Shown.{binding_of}
use Rattle.rdx_lang.specs.TemplateView.{template_of}
use Rattle.rdx_eval.specs.Answers.{value}
use Rattle.rdx_eval.specs.Instantiation.{MakeList}
use Rattle.rdx_deriv.specs.Judged.{calls}
use Rattle.rdx_deriv.proofs.FoundOnce.{found_none, found_some}
use Rattle.rdx_why.proofs.judging.is_made.Goals as goal

pub returns-in-Some-clause-made : goal.returns-in-Some-clause-made
returns-in-Some-clause-made g c =
    let one = found_some tree_of (λ u. MakeList (calls (program_of c.args.program.now)) (binding_of c.args.c.now)
    (map template_of c.args.outs.now) (value u)) c.in_ok-made.field-0 c.in_ok-made.ensures.made c.in-Some.made c.in-Some.is (tree_of c.args.o.now) in
    (λ k. one.1 (sym (c.same.ensures.0 k)), λ m. c.same.ensures.1 (sym (one.0 m)))

pub returns-in-None-clause-made : goal.returns-in-None-clause-made
returns-in-None-clause-made g c = (
  λ k. absurd cc,
  λ m. absurd (found_none tree_of (λ u. MakeList (calls (program_of c.args.program.now)) (binding_of c.args.c.now)
      (map template_of c.args.outs.now) (value u)) c.in_ok-made.field-0 c.in_ok-made.ensures.made c.in-None.is (tree_of c.args.o.now) m),
)
