use Rattle.std.proofs.Common.{◌≡◌, ◌∙◌, Some, None, sym, ap}
use Rattle.std.specs.Bool.{then_some}
use Rattle.std.specs.Prelude.{option_map}
use Rattle.rdx_term.specs.Spelling.{is_name}
use Rattle.rdx_patterns.specs.Parts.{text_of}
use Rattle.rdx_defs.specs.Inside.FormViews.{judgement_form_of}
use Rattle.rdx_defs.specs.JudgementForms.{own_mode}
use Rattle.rdx_defs.proofs.ScopeParts.{with-name, without-name}
use Rattle.rdx_defs.proofs.scopes.with_mode.Goals as goal

pub returns-in-Some-2 : goal.returns-in-Some-2
returns-in-Some-2 c =
    let j = c.args.judgement.now in
    let o = own_mode (judgement_form_of c.args.form) in
    let m : o ≡ Some c.in-Some.mode.items = sym c.in_ok-mode.ensures ∙ ap (option_map (λ v. v.items)) c.in-Some.is in
    let n : Some c.in-Some-2.name ≡ then_some (is_name (text_of j)) (text_of j) = sym c.in-Some-2.is ∙ c.in_ok-name.ensures in
    sym (with-name j o c.in-Some.mode.items c.in-Some-2.name m n)

pub returns-in-None : goal.returns-in-None
returns-in-None c =
    let j = c.args.judgement.now in
    let o = own_mode (judgement_form_of c.args.form) in
    let m : o ≡ Some c.in-Some.mode.items = sym c.in_ok-mode.ensures ∙ ap (option_map (λ v. v.items)) c.in-Some.is in
    let n : None ≡ then_some (is_name (text_of j)) (text_of j) = sym c.in-None.is ∙ c.in_ok-name.ensures in
    sym (without-name j o c.in-Some.mode.items m n)
