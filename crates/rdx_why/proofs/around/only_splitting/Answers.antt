use Rattle.std.proofs.Common.{◌≡◌, ◌+◌, ◌<◌, ℕ, Option, None, length, map, IfSome, sym, ◌∙◌, subst}
use Rattle.rdx_term.specs.View.{tree_of}
use Rattle.rdx_lang.specs.Checked.{language_in}
use Rattle.rdx_lang.specs.PatternView.{slot_of}
use Rattle.rdx_lang.specs.Patterns.{Pattern}
use Rattle.rdx_why.specs.Inside.Forms.{NeverSplits}
use Rattle.rdx_why.proofs.HoleQuestions.{AreAlone, one_not, one_more, alone_at_end, not_some}
use Rattle.rdx_why.proofs.around.only_splitting.Goals as goal
use Rattle.rdx_why.proofs.around.only_splitting.Goals.{then-may_split+else-is_some, else-may_split}

pub loop-i-preserved : goal.loop-i-preserved
loop-i-preserved c =
    let L = language_in c.args.language.now in
    let D = tree_of c.args.inner.now in
    let xs = c.args.items.now in
    let i = c.loop-i.i in
    let x = c.index-items-i.result in
    elim c.if-may_split.branch [
      | then-may_split+else-is_some w ↦
          (let n : c.loop-i.found ≡ None = not_some c.loop-i.found (sym w.is_some.ensures ∙ w.if-is_some.false) in
          subst (λ (o : Option ℕ). IfSome o (λ k. k < length xs) × AreAlone L D (map slot_of xs) (i + 1) o) (sym w.found-is) (
            c.loop-i-test.true,
            one_more L D xs i x c.loop-i-test.true c.index-items-i.is
                (subst (λ (o : Option ℕ). AreAlone L D (map slot_of xs) i o) n c.loop-i.invariant.1),
          ))
      | else-may_split w ↦
          subst (λ (o : Option ℕ). IfSome o (λ k. k < length xs) × AreAlone L D (map slot_of xs) (i + 1) o) (sym w.found-is) (
            c.loop-i.invariant.0,
            one_not L D xs i c.loop-i.found x c.loop-i-test.true c.index-items-i.is
                (subst (λ (q : Pattern). NeverSplits L q D) c.pattern_in.ensures (c.may_split.ensures w.if-may_split.false)) c.loop-i.invariant.1,
          )
    ]

pub returns-clause-alone : goal.returns-clause-alone
returns-clause-alone c =
    alone_at_end (language_in c.args.language.now) (tree_of c.args.inner.now) c.args.items.now c.loop-i.i c.loop-i.found c.loop-i-test.false
    c.loop-i.invariant.1
