use Rattle.std.proofs.Common.{◌∙◌, Some, ap, sym}
use Rattle.rdx_lang.specs.Checked.{language_in}
use Rattle.rdx_forms.proofs.PlacesKnown.{if-found, if-missing, is-language, language-stands, no-language}
use Rattle.rdx_forms.proofs.lookup.place_named.Goals as goal

pub returns-clause-within : goal.returns-clause-within
returns-clause-within c =
    if-found c.copied.result _
    (λ i e. (language-stands c.args.known.now.program.languages.items c.args.name.now c.copied.result
    (c.copied.ensures ∙ c.get.ensures.value ∙ c.args.known.now.tabled.languages c.args.name.now) i e).0)

pub returns-clause-some : goal.returns-clause-some
returns-clause-some c =
    if-found c.copied.result _
    (λ i e l f. (language-stands c.args.known.now.program.languages.items c.args.name.now c.copied.result
    (c.copied.ensures ∙ c.get.ensures.value ∙ c.args.known.now.tabled.languages c.args.name.now) i e).1 l ∙ ap (λ k. Some (language_in k)) (sym f))

pub returns-clause-known : goal.returns-clause-known
returns-clause-known c =
    is-language c.args.known.now.program.languages.items c.args.name.now c.copied.result
    (c.copied.ensures ∙ c.get.ensures.value ∙ c.args.known.now.tabled.languages c.args.name.now)

pub returns-clause-none : goal.returns-clause-none
returns-clause-none c =
    if-missing c.copied.result _
    (no-language c.args.known.now.program.languages.items c.args.name.now c.copied.result
    (c.copied.ensures ∙ c.get.ensures.value ∙ c.args.known.now.tabled.languages c.args.name.now))
