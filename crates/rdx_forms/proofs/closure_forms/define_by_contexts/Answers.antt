use Rattle.std.proofs.Common.{◌≡◌, Some, ap, sym, ◌∙◌}
use Rattle.std.specs.Prelude.{option_map}
use Rattle.rdx_lang.specs.Checked.{language_in}
use Rattle.rdx_lang.specs.ProgramView.{relation_of}
use Rattle.rdx_lang.specs.Programs.{language_named, relation_named}
use Rattle.rdx_patterns.specs.Parts.{text_of}
use Rattle.rdx_patterns.specs.Refusal.{refusal_of}
use Rattle.rdx_forms.specs.ClosureForms.{closed_relation}
use Rattle.rdx_forms.specs.Known.{Known}
use Rattle.rdx_forms.specs.KnownView.{known_of}
use Rattle.rdx_forms.specs.Inside.PartViews.{closure_of}
use Rattle.rdx_forms.proofs.ClosureChecks.{by-readable, by-asks, names-fault, contexts-language, contexts-closed, contexts-answered, relation-there, closed-formed}
use Rattle.rdx_forms.proofs.closure_forms.define_by_contexts.Goals as goal

pub read_over-read-requires-clause-readable : goal.read_over-read-requires-clause-readable
read_over-read-requires-clause-readable c = by-readable c.args.body.now (closure_of c.in-Some.closure) (sym c.in-Some.ensures) c.requires.body

pub read_over-read-requires-clause-crossed : goal.read_over-read-requires-clause-crossed
read_over-read-requires-clause-crossed c = c.requires.fitting.crossed

pub read_over-read-requires-clause-ends : goal.read_over-read-requires-clause-ends
read_over-read-requires-clause-ends c =
    by-asks c.args.known.now.ends.items c.args.body.now (closure_of c.in-Some.closure) (sym c.in-Some.ensures) c.requires.ends

pub returns-in-Some-refusal-clause-closes : goal.returns-in-Some-refusal-clause-closes
returns-in-Some-refusal-clause-closes c =
    names-fault (known_of c.args.known.now) c.args.name.now c.args.body.now (closure_of c.in-Some.closure) (sym c.in-Some.ensures) c.in-Some-refusal.refusal c.read_over-read.result
    c.first_fault.result (ap (option_map refusal_of) (sym c.in-Some-refusal.is) ∙ c.in_ok-refusal.ensures) c.read_over-read.ensures.reads c.first_fault.ensures

pub unreachable-requires-in_default-relation_named : goal.unreachable-requires-in_default-relation_named
unreachable-requires-in_default-relation_named c =
    let K = known_of c.args.known.now in
    let q = closure_of c.in-Some.closure in
    let J = known_of c.read_over-read.new.known in
    let e = sym c.in_ok-refusal.ensures ∙ ap (option_map refusal_of) c.in_default-refusal.is in
    relation-there K q (contexts-closed K c.args.name.now c.args.body.now q (sym c.in-Some.ensures) e)
    (ap (λ (M : Known). relation_named M.program (text_of q.relation)) (sym c.read_over-read.ensures.same)
    ∙ ap (relation_named J.program) (sym c.text-2.ensures)
    ∙ sym c.in_default-relation_named.ensures)

pub context_closure-requires-clause-rules : goal.context_closure-requires-clause-rules
context_closure-requires-clause-rules c =
    let K = known_of c.args.known.now in
    let q = closure_of c.in-Some.closure in
    let J = known_of c.read_over-read.new.known in
    let l = c.index-language.result.now in
    let R = relation_of c.in-Some-relation_named.relation.now in
    let e = sym c.in_ok-refusal.ensures ∙ ap (option_map refusal_of) c.in_default-refusal.is in
    let k : language_named K.program (text_of q.language) ≡ Some (language_in l) =
    ap (λ (M : Known). language_named M.program (text_of q.language)) (sym c.read_over-read.ensures.same)
    ∙ ap (language_named J.program) (sym c.text.ensures)
    ∙ c.in-Some-place_named.ensures.some l c.index-language.ensures
    in
    let f : closed_relation K q ≡ Some R =
    ap (λ (M : Known). relation_named M.program (text_of q.relation)) (sym c.read_over-read.ensures.same)
    ∙ ap (relation_named J.program) (sym c.text-2.ensures)
    ∙ sym c.in-Some-relation_named.ensures
    in
    closed-formed K q (contexts-language K c.args.name.now c.args.body.now q (sym c.in-Some.ensures) e) (language_in l) k R f c.requires.fitting

pub returns-clause-closes : goal.returns-clause-closes
returns-clause-closes c =
    let K = known_of c.args.known.now in
    let q = closure_of c.in-Some.closure in
    let J = known_of c.read_over-read.new.known in
    let R = relation_of c.in-Some-relation_named.relation.now in
    let e = sym c.in_ok-refusal.ensures ∙ ap (option_map refusal_of) c.in_default-refusal.is in
    let f : closed_relation K q ≡ Some R =
    ap (λ (M : Known). relation_named M.program (text_of q.relation)) (sym c.read_over-read.ensures.same)
    ∙ ap (relation_named J.program) (sym c.text-2.ensures)
    ∙ sym c.in-Some-relation_named.ensures
    in
    contexts-answered K c.args.name.now c.args.body.now q (sym c.in-Some.ensures) c.in_ok-by.by c.in_ok-name.name R c.in_ok-context_closure.field-0 e c.in_ok-by.ensures.reads
    c.in_ok-name.ensures f c.in_ok-context_closure.ensures.closed
