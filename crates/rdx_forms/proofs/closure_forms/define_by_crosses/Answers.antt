use Rattle.std.proofs.Common.{◌≡◌, true, Some, ap, sym, ◌∙◌}
use Rattle.std.specs.Bool.{then_some}
use Rattle.std.specs.Prelude.{ℕ, List, option_map}
use Rattle.rdx_lang.specs.Checked.{language_in}
use Rattle.rdx_lang.specs.ProgramView.{relation_of}
use Rattle.rdx_lang.specs.Programs.{Relation, language_named, relation_named}
use Rattle.rdx_lang.specs.References as references
use Rattle.rdx_lang.specs.WellFormed.{defined}
use Rattle.rdx_lang.specs.declared.pattern.Ref.TheVariants.{Cross}
use Rattle.rdx_term.specs.Spelling.{is_name}
use Rattle.rdx_patterns.specs.Kinds.{is_among}
use Rattle.rdx_patterns.specs.Nonterminals.{names_of}
use Rattle.rdx_patterns.specs.Parts.{text_of}
use Rattle.rdx_patterns.specs.Refusal.{refusal_of}
use Rattle.rdx_forms.specs.ClosureForms.{closed_relation}
use Rattle.rdx_forms.specs.KnownView.{known_of}
use Rattle.rdx_forms.specs.Inside.PartViews.{closure_of}
use Rattle.rdx_forms.proofs.ClosureChecks.{crosses-language, crosses-closed, crosses-answered, nonterminal-there, crossed-there, found-name, relation-there, closed-formed, closure-fits}
use Rattle.rdx_forms.proofs.closure_forms.define_by_crosses.Goals as goal

pub unreachable-requires-in_default-relation_named : goal.unreachable-requires-in_default-relation_named
unreachable-requires-in_default-relation_named c =
    let K = known_of c.args.known.now in
    let q = closure_of c.in-Some.closure in
    let x = c.args.name.now in
    let body = c.args.body.now in
    let p = sym c.in-Some.ensures in
    let t = sym c.if-not-is_symbol.ensures in
    let e = sym c.in_ok-refusal.ensures ∙ ap (option_map refusal_of) c.in_default-2.is in
    relation-there K q (crosses-closed K x body q p t e) (ap (relation_named K.program) (sym c.text-2.ensures) ∙ sym c.in_default-relation_named.ensures)

pub unreachable-requires-in_default-3 : goal.unreachable-requires-in_default-3
unreachable-requires-in_default-3 c =
    let K = known_of c.args.known.now in
    let q = closure_of c.in-Some.closure in
    let x = c.args.name.now in
    let body = c.args.body.now in
    let p = sym c.in-Some.ensures in
    let t = sym c.if-not-is_symbol.ensures in
    let e = sym c.in_ok-refusal.ensures ∙ ap (option_map refusal_of) c.in_default-2.is in
    let l = c.index-language.result.now in
    let k : language_named K.program (text_of q.language) ≡ Some (language_in l) =
    ap (language_named K.program) (sym c.text.ensures) ∙ c.in-Some-place_named.ensures.some l c.index-language.ensures in
    nonterminal-there K x body q p t (language_in l) k e
    (ap (λ (z : List ℕ). then_some (is_among (names_of (language_in l)) z) z) (sym c.text-3.ensures) ∙ sym (c.in_ok-end.ensures l c.index-language.ensures) ∙ c.in_default-3.is)

pub compatible_closure-requires-clause-crosses : goal.compatible_closure-requires-clause-crosses
compatible_closure-requires-clause-crosses c =
    let K = known_of c.args.known.now in
    let q = closure_of c.in-Some.closure in
    let x = c.args.name.now in
    let body = c.args.body.now in
    let p = sym c.in-Some.ensures in
    let t = sym c.if-not-is_symbol.ensures in
    let e = sym c.in_ok-refusal.ensures ∙ ap (option_map refusal_of) c.in_default-2.is in
    let l = c.index-language.result.now in
    let k : language_named K.program (text_of q.language) ≡ Some (language_in l) =
    ap (language_named K.program) (sym c.text.ensures) ∙ c.in-Some-place_named.ensures.some l c.index-language.ensures in
    let g : c.in-Some-3.end ≡ text_of q.by =
    found-name (is_among (names_of (language_in l)) c.text-3.result.now) c.in-Some-3.end c.text-3.result.now (sym c.in-Some-3.is ∙ c.in_ok-end.ensures l c.index-language.ensures) ∙ c.text-3.ensures in
    let n : is_name c.in-Some-3.end ≡ true = ap is_name (sym c.end.view_is) ∙ c.end.invariant in
    ap (λ (z : List ℕ). references.is_among (Cross z z) (defined (language_in l))) g
    ∙ crossed-there K x body q p t (language_in l) k c.requires.fitting c.requires.ends e (ap is_name (sym g) ∙ n)

pub compatible_closure-requires-clause-rules : goal.compatible_closure-requires-clause-rules
compatible_closure-requires-clause-rules c =
    let K = known_of c.args.known.now in
    let q = closure_of c.in-Some.closure in
    let x = c.args.name.now in
    let body = c.args.body.now in
    let p = sym c.in-Some.ensures in
    let t = sym c.if-not-is_symbol.ensures in
    let e = sym c.in_ok-refusal.ensures ∙ ap (option_map refusal_of) c.in_default-2.is in
    let l = c.index-language.result.now in
    let k : language_named K.program (text_of q.language) ≡ Some (language_in l) =
    ap (language_named K.program) (sym c.text.ensures) ∙ c.in-Some-place_named.ensures.some l c.index-language.ensures in
    let R = relation_of c.in-Some-relation_named.relation.now in
    let f : closed_relation K q ≡ Some R = ap (relation_named K.program) (sym c.text-2.ensures) ∙ sym c.in-Some-relation_named.ensures in
    closed-formed K q (crosses-language K x body q p t e) (language_in l) k R f c.requires.fitting

pub returns-clause-closes : goal.returns-clause-closes
returns-clause-closes c =
    let K = known_of c.args.known.now in
    let q = closure_of c.in-Some.closure in
    let x = c.args.name.now in
    let body = c.args.body.now in
    let p = sym c.in-Some.ensures in
    let t = sym c.if-not-is_symbol.ensures in
    let e = sym c.in_ok-refusal.ensures ∙ ap (option_map refusal_of) c.in_default-2.is in
    let l = c.index-language.result.now in
    let k : language_named K.program (text_of q.language) ≡ Some (language_in l) =
    ap (language_named K.program) (sym c.text.ensures) ∙ c.in-Some-place_named.ensures.some l c.index-language.ensures in
    let R = relation_of c.in-Some-relation_named.relation.now in
    let f : closed_relation K q ≡ Some R = ap (relation_named K.program) (sym c.text-2.ensures) ∙ sym c.in-Some-relation_named.ensures in
    let g : c.in-Some-3.end ≡ text_of q.by =
    found-name (is_among (names_of (language_in l)) c.text-3.result.now) c.in-Some-3.end c.text-3.result.now (sym c.in-Some-3.is ∙ c.in_ok-end.ensures l c.index-language.ensures) ∙ c.text-3.ensures in
    crosses-answered K x body q p t c.in-Some-3.end c.in_ok-name.name R c.in_ok-compatible_closure.field-0 e g c.in_ok-name.ensures f c.in_ok-compatible_closure.ensures.closed

pub returns-clause-fits : goal.returns-clause-fits
returns-clause-fits c =
    let K = known_of c.args.known.now in
    let q = closure_of c.in-Some.closure in
    let x = c.args.name.now in
    let body = c.args.body.now in
    let p = sym c.in-Some.ensures in
    let t = sym c.if-not-is_symbol.ensures in
    let e = sym c.in_ok-refusal.ensures ∙ ap (option_map refusal_of) c.in_default-2.is in
    let l = c.index-language.result.now in
    let k : language_named K.program (text_of q.language) ≡ Some (language_in l) =
    ap (language_named K.program) (sym c.text.ensures) ∙ c.in-Some-place_named.ensures.some l c.index-language.ensures in
    let R = relation_of c.in-Some-relation_named.relation.now in
    let f : closed_relation K q ≡ Some R = ap (relation_named K.program) (sym c.text-2.ensures) ∙ sym c.in-Some-relation_named.ensures in
    closure-fits K q (crosses-language K x body q p t e) (language_in l) k R f (relation_of c.in_ok-compatible_closure.field-0)
    (ap (λ (S : Relation). S.language) c.in_ok-compatible_closure.ensures.closed) c.in_ok-compatible_closure.ensures.formed
