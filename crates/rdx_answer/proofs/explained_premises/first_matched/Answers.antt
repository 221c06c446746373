use Rattle.std.proofs.Common.{◌∙◌, map, sym, ap}
use Rattle.rdx_term.specs.View.{tree_of}
use Rattle.rdx_lang.specs.Checked.{language_in, pattern_in}
use Rattle.rdx_lang.specs.Patterns.{Pattern, Language}
use Rattle.rdx_lang.specs.Shown.{bindings_of}
use Rattle.rdx_eval.specs.Judgements.{are_some}
use Rattle.rdx_answer.proofs.Contexts.{member_at}
use Rattle.rdx_answer.proofs.Searching.{matched_next, matched_none, none_found, some_found}
use Rattle.rdx_answer.proofs.explained_premises.first_matched.Goals as goal

pub returns-then-are_some-clause-found : goal.returns-then-are_some-clause-found
returns-then-are_some-clause-found g c =
    let xs = c.args.outputs.now in
    let x = c.given-item.result in
    some_found (language_in c.args.language.now) (pattern_in c.args.pat.now) (tree_of x) (map tree_of xs) (bindings_of c.in_ok-found.found.items)
    c.in_ok-found.ensures.listing
    (sym (c.are_some.ensures ∙ ap (λ ys. are_some (bindings_of ys)) c.deref.ensures.value) ∙ c.if-are_some.true)
    (member_at tree_of xs c.loop-given.given-index x c.loop-given-test.true c.given-item.is)

pub loop-given-preserved : goal.loop-given-preserved
loop-given-preserved g c =
    let L : Language = language_in c.args.language.now in
    let p : Pattern = pattern_in c.args.pat.now in
    let x = c.given-item.result in
    record {
      same = c.matches.ensures.same ∙ c.loop-given.invariant.same;
      left = matched_next c.args.outputs.now c.loop-given.given-index L p tree_of x c.loop-given-test.true c.given-item.is
          (none_found L p (tree_of x) (bindings_of c.in_ok-found.found.items) c.in_ok-found.ensures.listing
          (sym (c.are_some.ensures ∙ ap (λ ys. are_some (bindings_of ys)) c.deref.ensures.value) ∙ c.if-are_some.false))
          c.loop-given.invariant.left;
    }

pub unreachable-requires : goal.unreachable-requires
unreachable-requires g c =
    matched_none c.args.outputs.now c.loop-given.given-index (language_in c.args.language.now) (pattern_in c.args.pat.now) tree_of c.loop-given-test.false
    c.loop-given.invariant.left
