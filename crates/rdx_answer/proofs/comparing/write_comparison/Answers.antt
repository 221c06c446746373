use Rattle.std.proofs.Common.{List, map, sym, subst}
use Rattle.rdx_term.specs.Tree.{Tree}
use Rattle.rdx_term.specs.View.{tree_of}
use Rattle.rdx_answer.proofs.AppendedComparison.{fails}
use Rattle.rdx_answer.specs.Tests.{SameTerms, AreDistinct}
use Rattle.rdx_answer.proofs.comparing.write_comparison.Goals as goal

pub returns : goal.returns
returns c =
    let found : List Tree = map tree_of c.args.found.now in
    let wanted : List Tree = map tree_of c.args.wanted.now in
    let got : List Tree = map tree_of c.deref.result.now in
    let want : List Tree = map tree_of c.deref-2.result.now in
    let n : SameTerms found wanted → ⊥ = λ s. let h = c.in_ok-are_same.ensures.1 s in cc in
    let g : AreDistinct found got = subst (λ ts. AreDistinct found (map tree_of ts)) (sym c.deref.ensures.value) c.in_ok-got.ensures in
    let w : AreDistinct wanted want = subst (λ ts. AreDistinct wanted (map tree_of ts)) (sym c.deref-2.ensures.value) c.in_ok-want.ensures in
    fails found wanted got want c.args.out.now.items c.write_failure.new.out.items n g w c.in_ok-write_failure.ensures
