use Rattle.std.proofs.Common.{◌≡◌, Some, None, Err, refl, sym, ◌∙◌, ap}
use Rattle.rdx_lang.specs.Checked.{language_in}
use Rattle.rdx_lang.specs.Programs.{language_named}
use Rattle.rdx_grammar.specs.Forms.{extension_form}
use Rattle.rdx_patterns.specs.Parts.{text_of}
use Rattle.rdx_forms.specs.LanguageForms.{named_base}
use Rattle.rdx_forms.specs.Inside.Defining.{taken_at_item}
use Rattle.rdx_forms.specs.KnownView.{known_of}
use Rattle.rdx_forms.proofs.FormNames.{extension_form-named, named_base-known, unknown_at-known, by_extension}
use Rattle.rdx_forms.proofs.LanguageChecks.{known-answer, unknown-answer}
use Rattle.rdx_forms.proofs.language_forms.extension.Goals as goal

pub returns-in_ok-taken-in-Some : goal.returns-in_ok-taken-in-Some
returns-in_ok-taken-in-Some c =
    let K = known_of c.args.known.now in
    let d = c.args.form.now in
    let l = c.args.name.now in
    let L = language_in c.index.result.now in
    let k : language_named K.program (text_of l) ≡ Some L = ap (language_named K.program) (sym c.text.ensures) ∙ c.in-Some.ensures.some c.index.result.now c.index.ensures in
    by_extension K L (Some l) d c.unless.result c.requires.part c.requires.extension c.requires.base (named_base-known K l L k)
    (known-answer K L (Some l) d (extension_form d) c.in_ok-taken-in-Some.taken c.extend.result c.unless.result (extension_form-named d) (unknown_at-known K l L k) (c.in_ok-taken-in-Some.ensures ∙ ap (taken_at_item K) c.second_item.ensures) c.extend.ensures
    c.unless.ensures)

pub returns-in_ok-empty_language-in-None : goal.returns-in_ok-empty_language-in-None
returns-in_ok-empty_language-in-None c =
    let K = known_of c.args.known.now in
    let d = c.args.form.now in
    let l = c.args.name.now in
    let n : language_named K.program (text_of l) ≡ None = ap (language_named K.program) (sym c.text.ensures) ∙ c.in-None.ensures.none in
    by_extension K (named_base K (Some l)) (Some l) d (Err c.first_fault.result) c.requires.part c.requires.extension c.requires.base refl
    (unknown-answer K (named_base K (Some l)) (language_in c.in_ok-empty_language-in-None.field-0) l d (extension_form d) c.in_ok-unknown-in-None.unknown c.extend-read.result c.first_fault.result n
    c.in_ok-unknown-in-None.ensures c.extend-read.ensures c.first_fault.ensures)
