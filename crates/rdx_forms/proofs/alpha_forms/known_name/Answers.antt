use Rattle.std.proofs.Common.{◌≡◌, Some, None, sym, ◌∙◌, ap}
use Rattle.rdx_lang.specs.Checked.{language_in}
use Rattle.rdx_lang.specs.Patterns.{Language}
use Rattle.rdx_lang.specs.Programs.{language_named}
use Rattle.rdx_patterns.specs.Parts.{text_of}
use Rattle.rdx_forms.specs.KnownView.{known_of}
use Rattle.rdx_forms.specs.LanguageForms.{unknown_by}
use Rattle.rdx_forms.proofs.FormNames.{unknown_at-known}
use Rattle.rdx_forms.proofs.QueryChecks.{language_named-name}
use Rattle.rdx_forms.proofs.alpha_forms.known_name.Goals as goal

pub returns-in_ok-name-in-Some-clause-refused : goal.returns-in_ok-name-in-Some-clause-refused
returns-in_ok-name-in-Some-clause-refused c =
    let K = known_of c.args.known.now in
    let d = c.args.language.now in
    let l = c.index.result.now in
    let k : language_named K.program (text_of d) ≡ Some (language_in l) = ap (language_named K.program) (sym c.text.ensures) ∙ c.in-Some.ensures.some l c.index.ensures in
    unknown_at-known K d (language_in l) k

pub returns-in_ok-name-in-Some-clause-named : goal.returns-in_ok-name-in-Some-clause-named
returns-in_ok-name-in-Some-clause-named c =
    let K = known_of c.args.known.now in
    let d = c.args.language.now in
    let l = c.index.result.now in
    let k : language_named K.program (text_of d) ≡ Some (language_in l) = ap (language_named K.program) (sym c.text.ensures) ∙ c.in-Some.ensures.some l c.index.ensures in
    c.in_ok-name-in-Some.ensures ∙ ap (λ (M : Language). M.name) c.language.ensures.value ∙ language_named-name K.program (text_of d) (language_in l) k

pub returns-in_ok-unknown-in-None-clause-refused : goal.returns-in_ok-unknown-in-None-clause-refused
returns-in_ok-unknown-in-None-clause-refused c =
    let K = known_of c.args.known.now in
    let d = c.args.language.now in
    let n : language_named K.program (text_of d) ≡ None = ap (language_named K.program) (sym c.text.ensures) ∙ c.in-None.ensures.none in
    ap (λ o. unknown_by o d) n ∙ ap Some (sym c.in_ok-unknown-in-None.ensures)
