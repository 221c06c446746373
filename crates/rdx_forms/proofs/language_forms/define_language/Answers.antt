use Rattle.std.proofs.Common.{sym, subst, ap, ◌∙◌}
use Rattle.rdx_sexp.specs.Sexp.{Sexp}
use Rattle.rdx_patterns.specs.Readable.{IsReadable}
use Rattle.rdx_forms.specs.Answers.{DefinesBy}
use Rattle.rdx_forms.specs.BindingParts.{grammar_part}
use Rattle.rdx_forms.specs.FormKinds.{form_kind}
use Rattle.rdx_forms.specs.KnownView.{known_of}
use Rattle.rdx_forms.proofs.GrammarParts.{part-again, part-kind, part-readable, unchanged}
use Rattle.rdx_forms.proofs.WithBindings.{language-bound, with-bindings}
use Rattle.rdx_forms.proofs.language_forms.define_language.Goals as goal

pub language_part-requires-clause-part : goal.language_part-requires-clause-part
language_part-requires-clause-part c = unchanged c.args.form.now (sym c.has_binding_forms.ensures ∙ c.if-not-has_binding_forms.true)

pub language_part-read-requires-clause-readable : goal.language_part-read-requires-clause-readable
language_part-read-requires-clause-readable c = subst IsReadable (sym c.in_ok-part.ensures) (part-readable c.args.form.now c.requires.readable)

pub language_part-read-requires-clause-language : goal.language_part-read-requires-clause-language
language_part-read-requires-clause-language c = ap form_kind c.in_ok-part.ensures ∙ part-kind c.args.form.now ∙ c.requires.language

pub language_part-read-requires-clause-part : goal.language_part-read-requires-clause-part
language_part-read-requires-clause-part c = ap grammar_part c.in_ok-part.ensures ∙ part-again c.args.form.now ∙ sym c.in_ok-part.ensures

pub returns : goal.returns
returns c =
    let K = known_of c.args.known.now in
    let d = c.args.form.now in
    with-bindings K d (language-bound K d c.requires.language) c.language_part-read.result c.with_binding_forms.result
    (subst (λ (part : Sexp). DefinesBy K part c.language_part-read.result) c.in_ok-part.ensures c.language_part-read.ensures)
    c.with_binding_forms.ensures.refused c.with_binding_forms.ensures.read
