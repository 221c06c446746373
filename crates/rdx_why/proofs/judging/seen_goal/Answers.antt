use Rattle.std.proofs.Common.{List, ℕ, sym, ap, subst, ◌∙◌}
use Rattle.rdx_term.specs.View.{tree_of}
use Rattle.rdx_lang.specs.Ascending.{IsAscending}
use Rattle.rdx_lang.specs.Bindings.{name_cmp}
use Rattle.rdx_lang.specs.Checked.{language_in, pattern_in}
use Rattle.rdx_lang.specs.Names.{names}
use Rattle.rdx_lang.specs.PatternView.{pattern_of}
use Rattle.rdx_lang.specs.Shown.{binding_of}
use Rattle.rdx_lang.proofs.NameLaws.{names-ascend}
use Rattle.rdx_deriv.specs.Derivations.{matched}
use Rattle.rdx_opened.specs.Opening.{IsApart, Stands}
use Rattle.rdx_opened.specs.Picking.{picked}
use Rattle.rdx_opened.specs.Seeking.{marks_of}
use Rattle.rdx_opened.specs.declared.opening.Mark.{Mark}
use Rattle.rdx_why.proofs.WaysLaws.{found_seen, some_holds}
use Rattle.rdx_why.proofs.judging.seen_goal.Goals as goal

pub restricted-requires : goal.restricted-requires
restricted-requires g c =
    subst (λ (xs : List (List ℕ)). IsAscending name_cmp xs) (sym (c.deref.ensures.value ∙ c.in_ok-names.ensures))
    (names-ascend (pattern_of c.pat-pat.result.now))

pub whole-requires-clause-apart : goal.whole-requires-clause-apart
whole-requires-clause-apart g c =
    let h = some_holds _ _ _ c.in-Some.is c.in_ok-found.ensures.some in
    subst (λ (ms : List Mark). IsApart (marks_of ms) (binding_of c.in-Some.found.binding)) (sym c.deref-in-Some.ensures.value)
    h.standing.stands.apart

pub returns-in_ok-share-in-Some-3-clause-some : goal.returns-in_ok-share-in-Some-3-clause-some
returns-in_ok-share-in-Some-3-clause-some g c =
    let L = language_in c.args.language.now in
    let h = some_holds _ _ _ c.in-Some.is c.in_ok-found.ensures.some in
    found_seen L c.args.l.now (pattern_of c.pat-pat.result.now) (pattern_in c.args.pat.now) (tree_of c.args.t.now) (binding_of c.args.c.now) _ c.in-Some.found
    (binding_of c.in_ok-binding.binding) (binding_of c.in_ok-b-in-Some.b)
    (matched c.in_ok-share-in-Some.field-0 (pattern_of c.in_ok-share-in-Some-2.field-0) (tree_of c.in_ok-share-in-Some-3.field-0)
    (binding_of c.in_ok-b-in-Some.b))
    c.pat-pat.ensures h
    (λ d k. k)
    (subst (λ (ms : List Mark). Stands (marks_of ms) (binding_of c.in-Some.found.binding) (binding_of c.in_ok-b-in-Some.b))
    c.deref-in-Some.ensures.value c.in_ok-b-in-Some.ensures)
    (c.in_ok-binding.ensures ∙ ap (λ (xs : List (List ℕ)). picked (binding_of c.args.c.now) xs)
    (c.deref.ensures.value ∙ c.in_ok-names.ensures ∙ ap names c.pat-pat.ensures))
    (λ i. matched (c.in_ok-share-in-Some.ensures i) ((c.in_ok-share-in-Some-2.ensures ∙ c.pat-pat.ensures) i) (c.in_ok-share-in-Some-3.ensures i)
    (binding_of c.in_ok-b-in-Some.b))
