use Rattle.std.proofs.Common.{subst}
use Rattle.rdx_lang.specs.Decompositions.{Decomposition}
use Rattle.rdx_lang.specs.Shown.{binding_of, decomposition_of}
use Rattle.rdx_term.specs.View.{tree_of}
use Rattle.rdx_why.specs.Inside.Laying.{HasLength, IsWantedSplit}
use Rattle.rdx_opened.proofs.Sought.{ahead_more, none_ahead, member_at}
use Rattle.rdx_why.proofs.lists.length_among_splits.Goals as goal
use Rattle.rdx_why.proofs.lists.length_among_splits.Goals.{then-is_split_at+in_ok-count+in_default, else-is_split_at}

pub returns-in-Some-clause-some : goal.returns-in-Some-clause-some
returns-in-Some-clause-some c = (
  decomposition_of c.split-item.result,
  member_at decomposition_of c.args.found.now c.loop-split.split-index c.split-item.result c.loop-split-test.true c.split-item.is,
  c.is_split_at.ensures.0 c.if-is_split_at.true,
  rw c.in-Some.is at c.in_ok-count.ensures.some,
)

pub loop-split-preserved : goal.loop-split-preserved
loop-split-preserved c d k i s h =
    let sought = c.args.sought in
    ahead_more decomposition_of c.args.found.now c.loop-split.split-index c.split-item.result c.loop-split-test.true c.split-item.is d
    (λ e. elim c.if-is_split_at.branch [
      | then-is_split_at+in_ok-count+in_default w ↦
          (let none = rw w.in_default.is at w.in_ok-count.ensures.none in
          none k (subst (λ (x : Decomposition). HasLength (binding_of sought.wanted.now) sought.names.now sought.length.now x.binding k) e h))
      | else-is_split_at w ↦
          (let no = w.if-is_split_at.false in
          let yes = c.is_split_at.ensures.1
          (subst (λ (x : Decomposition). IsWantedSplit (tree_of c.args.t.now) c.args.place (tree_of c.args.context.now) (tree_of c.args.part.now) x)
          e s) in
          cc)
    ]) (c.loop-split.invariant d k i s h)

pub returns-clause-none : goal.returns-clause-none
returns-clause-none c d k i s h =
    none_ahead decomposition_of c.args.found.now c.loop-split.split-index c.loop-split-test.false d (c.loop-split.invariant d k i s h)
