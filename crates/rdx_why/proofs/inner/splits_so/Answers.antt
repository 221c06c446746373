use Rattle.std.proofs.Common.{sym, ◌∙◌, ap, true≢false}
use Rattle.rdx_term.specs.Fill.{fill_of}
use Rattle.rdx_term.specs.View.{tree_of}
use Rattle.rdx_lang.specs.Checked.{language_in, pattern_in}
use Rattle.rdx_lang.specs.Decompositions.{Decomposition}
use Rattle.rdx_lang.specs.Members.{In}
use Rattle.rdx_lang.specs.PatternView.{pattern_of}
use Rattle.rdx_lang.specs.Shown.{binding_of, decomposition_of, decompositions_of}
use Rattle.rdx_opened.specs.Inside.Marks.{into}
use Rattle.rdx_opened.proofs.Sought.{ahead_more, member_at, none_ahead}
use Rattle.rdx_why.proofs.HoleLoops.{listed_so, split_listed}
use Rattle.rdx_why.proofs.inner.splits_so.Goals as goal

pub returns-then-branch-clause-some : goal.returns-then-branch-clause-some
returns-then-branch-clause-some g c =
    let x = c.split-item.result in
    let D = tree_of c.in_ok-share.field-0 in
    let h = c.in_ok-fits.ensures.0 c.if-branch.true in
    let i : In (decomposition_of x) (decompositions_of c.deref-split-items.result.now) =
    member_at decomposition_of c.deref-split-items.result.now c.loop-split.split-index x c.loop-split-test.true c.split-item.is in (
      h.0 ∙ ap (fill_of (tree_of c.args.outer.now)) (sym c.in_ok-share.ensures),
      listed_so (language_in c.args.language.now) (pattern_of c.args.pat.now) (pattern_in c.in_ok-question.question) c.in_ok-question.ensures
          (tree_of c.args.t.now) (decompositions_of c.in_ok-found.found.items) (decompositions_of c.deref-split-items.result.now)
          c.in_ok-found.ensures (ap decompositions_of c.deref-split-items.ensures.value) (decomposition_of x) i D (tree_of c.args.part.now)
          (binding_of c.args.c.now) c.in_ok-share.ensures (sym h.1) h.2,
    )

pub loop-split-preserved : goal.loop-split-preserved
loop-split-preserved g c = λ D f i.
    let x = c.split-item.result in
    ahead_more decomposition_of c.deref-split-items.result.now c.loop-split.split-index x c.loop-split-test.true c.split-item.is
    (into D (tree_of c.args.part.now) (binding_of c.args.c.now))
    (λ e. true≢false (sym (c.in_ok-fits.ensures.1 (
      f ∙ ap (λ (u : Decomposition). fill_of (tree_of c.args.outer.now) u.context) e,
      sym (ap (λ (u : Decomposition). u.part) e),
      sym (ap (λ (u : Decomposition). u.binding) e),
    )) ∙ c.if-branch.false))
    (c.loop-split.invariant D f i)

pub returns-clause-none : goal.returns-clause-none
returns-clause-none g c = λ D f h.
    let L = language_in c.args.language.now in
    let i = split_listed L (pattern_of c.args.pat.now) (pattern_in c.in_ok-question.question) c.in_ok-question.ensures
    (tree_of c.args.t.now) (decompositions_of c.in_ok-found.found.items) (decompositions_of c.deref-split-items.result.now)
    c.in_ok-found.ensures (ap decompositions_of c.deref-split-items.ensures.value) D (tree_of c.args.part.now) (binding_of c.args.c.now) h in
    none_ahead decomposition_of c.deref-split-items.result.now c.loop-split.split-index c.loop-split-test.false
    (into D (tree_of c.args.part.now) (binding_of c.args.c.now)) (c.loop-split.invariant D f i)
