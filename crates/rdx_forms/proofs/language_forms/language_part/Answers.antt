use Rattle.std.proofs.Common.{None, refl, ◌∙◌, ap}
use Rattle.rdx_grammar.specs.Forms.{language_form}
use Rattle.rdx_grammar.specs.Languages.{empty_language}
use Rattle.rdx_forms.specs.Inside.Defining.{taken_at_item}
use Rattle.rdx_forms.specs.KnownView.{known_of}
use Rattle.rdx_forms.proofs.FormNames.{language_form-named, by_language}
use Rattle.rdx_forms.proofs.LanguageChecks.{known-answer}
use Rattle.rdx_forms.proofs.language_forms.language_part.Goals as goal

pub returns : goal.returns
returns c =
    let K = known_of c.args.known.now in
    let d = c.args.form.now in
    by_language K d c.unless.result c.requires.part c.requires.language
    (known-answer K empty_language None d (language_form d) c.in_ok-taken.taken c.read_language.result c.unless.result (language_form-named d) refl (c.in_ok-taken.ensures ∙ ap (taken_at_item K) c.second_item.ensures) c.read_language.ensures c.unless.ensures)
