use Rattle.std.proofs.Common.{◌≡◌, [], ◌∷◌, Some, None, sym, subst, ◌∙◌, ap}
use Rattle.std.proofs.lemmas.Result.{err_from_is_err_and}
use Rattle.rdx_lang.specs.Checked.{language_in}
use Rattle.rdx_lang.specs.Patterns.{Language}
use Rattle.rdx_lang.specs.Programs.{language_named}
use Rattle.rdx_patterns.specs.Answers.{ReadsPattern}
use Rattle.rdx_patterns.specs.Nonterminals.{names_of}
use Rattle.rdx_patterns.specs.Parts.{text_of}
use Rattle.rdx_templates.specs.Answers.{ReadsHost}
use Rattle.rdx_forms.specs.KnownView.{known_of}
use Rattle.rdx_forms.specs.Inside.PartViews.{parts_of}
use Rattle.rdx_forms.proofs.FormParts.{query-items}
use Rattle.rdx_forms.proofs.GainingNothing.{parts-ask}
use Rattle.rdx_forms.proofs.QueryChecks.{pattern-readable, host-readable, parts-fault, parts-asked, unknown-fault, language_named-name}
use Rattle.rdx_forms.proofs.match_forms.read_query.Goals as goal

pub returns-in_err-parts-clause-asks : goal.returns-in_err-parts-clause-asks
returns-in_err-parts-clause-asks c =
    let p = err_from_is_err_and c.from_residual.result c.from_residual.ensures.1 in
    rw (p.1, p.2) (c.in_err-parts.ensures (known_of c.args.known.now))

pub read_unbound-host-requires : goal.read_unbound-host-requires
read_unbound-host-requires c =
    let q = parts_of c.in_ok-parts.parts in
    host-readable (known_of c.args.known.now) c.args.form.now q c.in_ok-parts.ensures c.requires.readable

pub read_unbound-host-requires-in-None : goal.read_unbound-host-requires-in-None
read_unbound-host-requires-in-None c =
    let q = parts_of c.in_ok-parts.parts in
    host-readable (known_of c.args.known.now) c.args.form.now q c.in_ok-parts.ensures c.requires.readable

pub read_over-requires-clause-readable : goal.read_over-requires-clause-readable
read_over-requires-clause-readable c =
    let q = parts_of c.in_ok-parts.parts in
    pattern-readable (known_of c.args.known.now) c.args.form.now q c.in_ok-parts.ensures c.requires.readable

pub read_over-requires-clause-ends : goal.read_over-requires-clause-ends
read_over-requires-clause-ends c =
    let q = parts_of c.in_ok-parts.parts in
    let k = query-items c.args.form.now q c.in_ok-parts.ensures.parts in
    (parts-ask (known_of c.args.known.now).ends c.args.form.now (k.head ∷ q.language ∷ q.pattern ∷ q.host ∷ []) k.are c.requires.ends).1.1.0

pub returns-in_err-pat-in-Some-clause-asks : goal.returns-in_err-pat-in-Some-clause-asks
returns-in_err-pat-in-Some-clause-asks c =
    let q = parts_of c.in_ok-parts.parts in
    let K = known_of c.args.known.now in
    let l = c.index.result.now in
    let k : language_named K.program (text_of q.language) ≡ Some (language_in l) = ap (language_named K.program) (sym c.text.ensures) ∙ c.in-Some.ensures.some l c.index.ensures in
    let p = err_from_is_err_and c.from_residual-in_err-pat-in-Some.result c.from_residual-in_err-pat-in-Some.ensures.1 in
    rw (p.1, p.2) (parts-fault K c.args.form.now q c.in_ok-parts.ensures (language_in l) k c.read_over.result c.read_unbound-host.result c.in_err-pat-in-Some.field-0.0
    (c.read_over.ensures.reads l c.index.ensures) c.read_unbound-host.ensures c.in_err-pat-in-Some.ensures.refused)

pub returns-in_ok-pat-in-Some-clause-asks : goal.returns-in_ok-pat-in-Some-clause-asks
returns-in_ok-pat-in-Some-clause-asks c =
    let q = parts_of c.in_ok-parts.parts in
    let K = known_of c.args.known.now in
    let l = c.index.result.now in
    let k : language_named K.program (text_of q.language) ≡ Some (language_in l) = ap (language_named K.program) (sym c.text.ensures) ∙ c.in-Some.ensures.some l c.index.ensures in
    parts-asked K c.args.form.now q c.in_ok-parts.ensures (language_in l) k c.in_ok-pat-in-Some.pat c.in_ok-pat-in-Some.host c.in_ok-name-in-Some.name
    (subst (ReadsPattern (names_of (language_in l)) q.pattern) c.in_ok-pat-in-Some.ensures.read.0 (c.read_over.ensures.reads l c.index.ensures))
    (subst (ReadsHost K.scope [] q.host) c.in_ok-pat-in-Some.ensures.read.1 c.read_unbound-host.ensures)
    (c.in_ok-name-in-Some.ensures ∙ ap (λ (M : Language). M.name) c.language.ensures.value ∙ language_named-name K.program (text_of q.language) (language_in l) k)

pub read_pattern-pat-requires : goal.read_pattern-pat-requires
read_pattern-pat-requires c =
    let q = parts_of c.in_ok-parts.parts in
    pattern-readable (known_of c.args.known.now) c.args.form.now q c.in_ok-parts.ensures c.requires.readable

pub returns-in_ok-unknown-in-None-clause-asks : goal.returns-in_ok-unknown-in-None-clause-asks
returns-in_ok-unknown-in-None-clause-asks c =
    let q = parts_of c.in_ok-parts.parts in
    let K = known_of c.args.known.now in
    let n : language_named K.program (text_of q.language) ≡ None = ap (language_named K.program) (sym c.text.ensures) ∙ c.in-None.ensures.none in
    unknown-fault K c.args.form.now q c.in_ok-parts.ensures (names_of (language_in c.in_ok-empty-in-None.empty)) c.in_ok-unknown-in-None.unknown
    c.read_pattern-pat.result c.read_unbound-host-in-None.result c.both-in-None.result c.first_fault.result n c.in_ok-empty-in-None.ensures c.in_ok-unknown-in-None.ensures
    c.read_pattern-pat.ensures.reads c.read_unbound-host-in-None.ensures c.both-in-None.ensures.refused c.first_fault.ensures
