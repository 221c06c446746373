use Rattle.std.proofs.Common.{refl, subst}
use Rattle.rdx_term.specs.View.{tree_of}
use Rattle.rdx_alpha.specs.Answers.{IsComparingFaultOf}
use Rattle.rdx_alpha.specs.View.{forms_of}
use Rattle.rdx_alpha.specs.declared.fault.AlphaFault.{AlphaFault}
use Rattle.rdx_answer.specs.AlphaAnswers.{alpha_line, not_binding_line, tells_alike, no_instance}
use Rattle.rdx_answer.proofs.alpha_answers.write_alike.Goals as goal

pub returns-in_ok-write_alpha-in-Ok : goal.returns-in_ok-write_alpha-in-Ok
returns-in_ok-write_alpha-in-Ok c = record {
  text = alpha_line c.in-Ok.are_alike;
  answer = tells_alike c.in-Ok.are_alike c.in-Ok.ensures.ok refl refl;
  gained = c.in_ok-write_alpha-in-Ok.ensures;
}

pub returns-in_ok-write_not_binding-in-Err-NotBinding : goal.returns-in_ok-write_not_binding-in-Err-NotBinding
returns-in_ok-write_not_binding-in-Err-NotBinding c =
    let w = tree_of c.in-Err-NotBinding.wrong in
    let h = subst (λ (f : AlphaFault). IsComparingFaultOf (forms_of c.args.forms.now) (tree_of c.args.t.now) (tree_of c.args.u.now) f)
    c.in-Err-NotBinding.field-0-is c.in-Err-NotBinding.ensures.err in
    record {
      text = not_binding_line w;
      answer = no_instance w h refl refl;
      gained = c.in_ok-write_not_binding-in-Err-NotBinding.ensures;
    }
