use Rattle.std.proofs.Common.{◌≡◌, ◌∙◌, ◌++◌, ℕ, List, ap}
use Rattle.std.proofs.lemmas.Result.{on_ok_weaker}
use Rattle.std.specs.Borrow.{Bor}
use Rattle.rdx_lang.specs.ProgramView.{program_of}
use Rattle.rdx_lang.specs.declared.program.Program.{Program}
use Rattle.rdx_eval.specs.Views.{program_in}
use Rattle.rdx_deriv.specs.Derivations.{Derivation}
use Rattle.rdx_deriv.specs.DerivationView.{derivation_of}
use Rattle.rdx_deriv.specs.Lines.{derivation_lines}
use Rattle.rdx_answer.proofs.explained_answers.write_derivation.Goals as goal

pub explain_known-requires-clause-known : goal.explain_known-requires-clause-known
explain_known-requires-clause-known g c = (c.requires.there.derivation, c.requires.there.explains)

pub returns-clause-gained : goal.returns-clause-gained
returns-clause-gained g c =
    let old : List ℕ = c.args.out.now.items in
    let d : Derivation = derivation_of c.in_ok-derivation.derivation in
    let e : c.program.result.now ≡ (program_in c.args.engine.now).now = c.program.ensures ∙ ap (λ (p : Bor Program). p.now) c.in_ok-derivation.ensures.same in
    on_ok_weaker c.write_lines.result
    (λ w. record {
      derivation = d;
      explains = c.in_ok-derivation.ensures.explained;
      gained = w ∙ ap (λ (p : Program). old ++ derivation_lines (program_of p) 0 d) e;
    })
    c.write_lines.ensures
