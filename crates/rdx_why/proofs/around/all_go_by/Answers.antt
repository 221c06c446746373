use Rattle.std.proofs.Common.{◌⊎◌, map}
use Rattle.rdx_term.specs.View.{tree_of}
use Rattle.rdx_lang.specs.Checked.{language_in}
use Rattle.rdx_lang.specs.PatternView.{pattern_of}
use Rattle.rdx_lang.specs.Patterns.{nt}
use Rattle.rdx_why.specs.Inside.Around.{GoesThrough}
use Rattle.rdx_why.specs.Inside.Forms.{NeverSplits}
use Rattle.rdx_why.proofs.HoleQuestions.{passed_more, passed_all}
use Rattle.rdx_why.proofs.around.all_go_by.Goals as goal

pub loop-pat-preserved : goal.loop-pat-preserved
loop-pat-preserved c =
    let L = language_in c.args.language.now in
    passed_more pattern_of
    (λ q. NeverSplits L q (tree_of c.args.context.now) ⊎ GoesThrough L (tree_of c.args.inner.now) q (nt c.args.name.now)) c.args.pats.now
    c.loop-pat.pat-index
    (map pattern_of c.args.pats.now) c.pat-item.result c.loop-pat-test.true c.pat-item.is (c.may_go_by.ensures c.if-not-may_go_by.false)
    c.loop-pat.invariant

pub returns : goal.returns
returns c h =
    let L = language_in c.args.language.now in
    passed_all pattern_of
    (λ q. NeverSplits L q (tree_of c.args.context.now) ⊎ GoesThrough L (tree_of c.args.inner.now) q (nt c.args.name.now)) c.args.pats.now
    c.loop-pat.pat-index
    (map pattern_of c.args.pats.now) c.loop-pat-test.false c.loop-pat.invariant
