use Rattle.std.proofs.Common.{subst}
use Rattle.rdx_lang.specs.Decompositions.{Decomposition}
use Rattle.rdx_lang.specs.Members.{In}
use Rattle.rdx_lang.specs.Shown.{decomposition_of, decompositions_of}
use Rattle.rdx_term.specs.View.{tree_of}
use Rattle.rdx_opened.specs.Inside.Marks.{into}
use Rattle.rdx_opened.proofs.Sought.{ahead_more, member_at, none_ahead}
use Rattle.rdx_opened.proofs.seeking.first_split.Goals as goal

pub is_wanted_split-requires-clause-plain : goal.is_wanted_split-requires-clause-plain
is_wanted_split-requires-clause-plain c =
    c.requires.plain (decomposition_of c.split-item.result)
    (member_at decomposition_of c.args.found.now c.loop-split.split-index c.split-item.result c.loop-split-test.true c.split-item.is)

pub returns-then-branch-clause-found : goal.returns-then-branch-clause-found
returns-then-branch-clause-found c =
    subst (λ (d : Decomposition). In d (decompositions_of c.args.found.now)) (c.in_ok-is_wanted_split.ensures.same c.if-branch.true)
    (member_at decomposition_of c.args.found.now c.loop-split.split-index c.split-item.result c.loop-split-test.true c.split-item.is)

pub loop-split-preserved : goal.loop-split-preserved
loop-split-preserved c = λ d b i s w.
    ahead_more decomposition_of c.args.found.now c.loop-split.split-index c.split-item.result c.loop-split-test.true c.split-item.is
    (into (tree_of c.args.context.now) (tree_of c.args.part.now) d) (λ e. c.in_ok-is_wanted_split.ensures.no c.if-branch.false d b e s w)
    (c.loop-split.invariant d b i s w)

pub returns-clause-none : goal.returns-clause-none
returns-clause-none c = λ d b i s w.
    none_ahead decomposition_of c.args.found.now c.loop-split.split-index c.loop-split-test.false
    (into (tree_of c.args.context.now) (tree_of c.args.part.now) d) (c.loop-split.invariant d b i s w)
