use Rattle.std.proofs.Common.{List, [], ◌∷◌, map, sym, subst}
use Rattle.rdx_term.specs.Tree.{Tree}
use Rattle.rdx_term.specs.View.{tree_of}
use Rattle.rdx_answer.proofs.AppendedComparison.{passes, fails}
use Rattle.rdx_answer.proofs.Compared.{same-one, one-same, distinct-one}
use Rattle.rdx_answer.specs.Tests.{SameTerms, AreDistinct}
use Rattle.rdx_answer.proofs.comparing.write_equality.Goals as goal

pub returns-then-are_alike : goal.returns-then-are_alike
returns-then-are_alike c =
    let t : Tree = tree_of c.args.found.now in
    let u : Tree = tree_of c.args.wanted.now in
    passes (t ∷ []) (u ∷ []) c.args.out.now.items c.write_verdict.new.out.items (same-one t u (c.are_alike.ensures.0 c.if-are_alike.true))
    c.in_ok-write_verdict.ensures

pub returns : goal.returns
returns c =
    let t : Tree = tree_of c.args.found.now in
    let u : Tree = tree_of c.args.wanted.now in
    let n : SameTerms (t ∷ []) (u ∷ []) → ⊥ = λ s. let h = c.are_alike.ensures.1 (one-same t u s) in cc in
    let got : List Tree = map tree_of c.from_ref.result.now in
    let want : List Tree = map tree_of c.from_ref-2.result.now in
    let g : AreDistinct (t ∷ []) got = subst (λ ts. AreDistinct (t ∷ []) (map tree_of ts)) (sym c.from_ref.ensures.value) (distinct-one t) in
    let w : AreDistinct (u ∷ []) want = subst (λ ts. AreDistinct (u ∷ []) (map tree_of ts)) (sym c.from_ref-2.ensures.value) (distinct-one u) in
    fails (t ∷ []) (u ∷ []) got want c.args.out.now.items c.write_failure.new.out.items n g w c.in_ok-write_failure.ensures
