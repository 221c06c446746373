use Rattle.std.proofs.Common.{◌≡◌, [], Some, None, refl, sym, ap, subst, ◌∙◌}
use Rattle.std.proofs.lemmas.Result.{err_from_is_err_and}
use Rattle.rdx_lang.specs.Checked.{language_in}
use Rattle.rdx_lang.specs.Patterns.{Language}
use Rattle.rdx_lang.specs.Programs.{language_named}
use Rattle.rdx_patterns.specs.Nonterminals.{names_of}
use Rattle.rdx_patterns.specs.Parts.{text_of}
use Rattle.rdx_forms.specs.Faults.{IsFaultAt}
use Rattle.rdx_forms.specs.GenerateForms.{check_parts, check_refusal}
use Rattle.rdx_forms.specs.KnownView.{known_of}
use Rattle.rdx_forms.specs.Inside.Generating.{CheckNumbers, ReadsBoth}
use Rattle.rdx_forms.specs.Inside.PartViews.{generate_of}
use Rattle.rdx_forms.proofs.FormParts.{check-items}
use Rattle.rdx_forms.proofs.GenerateChecks.{items-readable, items-ask, check-unknown, check-fault, check-asked}
use Rattle.rdx_forms.proofs.QueryChecks.{language_named-name}
use Rattle.rdx_forms.proofs.generate_forms.read_check.Goals as goal

pub returns-in_err-parts-clause-asks : goal.returns-in_err-parts-clause-asks
returns-in_err-parts-clause-asks c =
    let K = known_of c.args.known.now in
    let p = err_from_is_err_and c.from_residual.result c.from_residual.ensures.1 in
    rw (p.1, p.2) (subst (λ o. IsFaultAt (check_refusal K c.args.form.now o) c.in_err-parts.field-0.0) c.check_parts.ensures (c.in_err-parts.ensures.check K))

pub read_over-read-requires-clause-pattern : goal.read_over-read-requires-clause-pattern
read_over-read-requires-clause-pattern c =
    let q = generate_of c.in_ok-parts.parts in
    let e : check_parts c.args.form.now ≡ Some q = sym c.check_parts.ensures ∙ c.in_ok-parts.ensures in
    (items-readable c.args.form.now q (check-items c.args.form.now q e) c.requires.readable).0

pub read_over-read-requires-clause-host : goal.read_over-read-requires-clause-host
read_over-read-requires-clause-host c =
    let q = generate_of c.in_ok-parts.parts in
    let e : check_parts c.args.form.now ≡ Some q = sym c.check_parts.ensures ∙ c.in_ok-parts.ensures in
    (items-readable c.args.form.now q (check-items c.args.form.now q e) c.requires.readable).1

pub read_over-read-requires-clause-ends : goal.read_over-read-requires-clause-ends
read_over-read-requires-clause-ends c =
    let q = generate_of c.in_ok-parts.parts in
    let e : check_parts c.args.form.now ≡ Some q = sym c.check_parts.ensures ∙ c.in_ok-parts.ensures in
    items-ask (known_of c.args.known.now).ends c.args.form.now q (check-items c.args.form.now q e) c.requires.ends

pub returns-in_err-read-in-Some-clause-asks : goal.returns-in_err-read-in-Some-clause-asks
returns-in_err-read-in-Some-clause-asks c =
    let q = generate_of c.in_ok-parts.parts in
    let K = known_of c.args.known.now in
    let l = c.index.result.now in
    let e : check_parts c.args.form.now ≡ Some q = sym c.check_parts.ensures ∙ c.in_ok-parts.ensures in
    let k : language_named K.program (text_of q.language) ≡ Some (language_in l) = ap (language_named K.program) (sym c.text.ensures) ∙ c.in-Some.ensures.some l c.index.ensures in
    let p = err_from_is_err_and c.from_residual-in_err-read-in-Some.result c.from_residual-in_err-read-in-Some.ensures.1 in
    rw (p.1, p.2) (check-fault K c.args.form.now q e (language_in l) c.read_over-read.result c.read_checking-numbers.result
    c.in_err-read-in-Some.field-0.0 k (c.read_over-read.ensures.reads l c.index.ensures) c.read_checking-numbers.ensures c.in_err-read-in-Some.ensures.refused)

pub returns-in_ok-read-in-Some-clause-asks : goal.returns-in_ok-read-in-Some-clause-asks
returns-in_ok-read-in-Some-clause-asks c =
    let q = generate_of c.in_ok-parts.parts in
    let K = known_of c.args.known.now in
    let l = c.index.result.now in
    let e : check_parts c.args.form.now ≡ Some q = sym c.check_parts.ensures ∙ c.in_ok-parts.ensures in
    let k : language_named K.program (text_of q.language) ≡ Some (language_in l) = ap (language_named K.program) (sym c.text.ensures) ∙ c.in-Some.ensures.some l c.index.ensures in
    check-asked K c.args.form.now q e (language_in l) c.in_ok-read-in-Some.read c.in_ok-read-in-Some.numbers c.in_ok-name-in-Some.name k
    (subst (ReadsBoth K.scope (names_of (language_in l)) q.pattern q.third) c.in_ok-read-in-Some.ensures.read.0 (c.read_over-read.ensures.reads l c.index.ensures))
    (subst (CheckNumbers q) c.in_ok-read-in-Some.ensures.read.1 c.read_checking-numbers.ensures)
    (c.in_ok-name-in-Some.ensures ∙ ap (λ (M : Language). M.name) c.language.ensures.value ∙ language_named-name K.program (text_of q.language) (language_in l) k)

pub read_unknown-read-requires-clause-pattern : goal.read_unknown-read-requires-clause-pattern
read_unknown-read-requires-clause-pattern c =
    let q = generate_of c.in_ok-parts.parts in
    let e : check_parts c.args.form.now ≡ Some q = sym c.check_parts.ensures ∙ c.in_ok-parts.ensures in
    (items-readable c.args.form.now q (check-items c.args.form.now q e) c.requires.readable).0

pub read_unknown-read-requires-clause-host : goal.read_unknown-read-requires-clause-host
read_unknown-read-requires-clause-host c =
    let q = generate_of c.in_ok-parts.parts in
    let e : check_parts c.args.form.now ≡ Some q = sym c.check_parts.ensures ∙ c.in_ok-parts.ensures in
    (items-readable c.args.form.now q (check-items c.args.form.now q e) c.requires.readable).1

pub returns-in_ok-unknown-in-None-clause-asks : goal.returns-in_ok-unknown-in-None-clause-asks
returns-in_ok-unknown-in-None-clause-asks c =
    let q = generate_of c.in_ok-parts.parts in
    let K = known_of c.args.known.now in
    let e : check_parts c.args.form.now ≡ Some q = sym c.check_parts.ensures ∙ c.in_ok-parts.ensures in
    let n : language_named K.program (text_of q.language) ≡ None = ap (language_named K.program) (sym c.text.ensures) ∙ c.in-None.ensures.none in
    check-unknown K c.args.form.now q e [] c.in_ok-unknown-in-None.unknown
    c.read_unknown-read.result c.read_checking-numbers.result c.both-in-None.result c.first_fault.result n refl c.in_ok-unknown-in-None.ensures
    c.read_unknown-read.ensures c.read_checking-numbers.ensures c.both-in-None.ensures.refused c.first_fault.ensures
