use Rattle.std.proofs.Common.{subst}
use Rattle.std.specs.Prelude.{◌↔◌, IsTrue, Option}
use Rattle.std.proofs.lemmas.Result.{IfOk-weaker}
use Rattle.rdx_term.specs.View.{tree_of}
use Rattle.rdx_lang.specs.Checked.{language_in}
use Rattle.rdx_lang.specs.Patterns.{Pattern}
use Rattle.rdx_lang.specs.ProgramView.{judgement_of}
use Rattle.rdx_deriv.specs.Judged.{Fits}
use Rattle.rdx_deriv.proofs.RulesChosen.{allows_where}
use Rattle.rdx_deriv.proofs.judgement.allows.Goals as goal

pub returns-clause-allows : goal.returns-clause-allows
returns-clause-allows g c =
    IfOk-weaker c.fits-2.result _ _
    (λ r h. allows_where (language_in c.args.language.now) (judgement_of c.args.judgement.now) (tree_of c.args.a.now) (tree_of c.args.o.now)
    c.in_ok-fits.field-0 r
    (subst (λ (o : Option Pattern). IsTrue c.in_ok-fits.field-0 ↔ Fits (language_in c.args.language.now) o (tree_of c.args.a.now))
    c.in_pattern.ensures c.in_ok-fits.ensures.fits)
    c.if-not-branch.false
    (subst (λ (o : Option Pattern). IsTrue r ↔ Fits (language_in c.args.language.now) o (tree_of c.args.o.now)) c.out_pattern.ensures h))
    c.fits-2.ensures.fits
