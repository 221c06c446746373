use Rattle.std.proofs.Common.{◌≡◌, ℕ, ◌+◌, ◌-◌, ◌<◌, ◌≤◌, List, ◌∷◌, drop, length, sym, ◌∙◌, arith}
use Rattle.std.specs.declared.cmp.Ordering.TheVariants.{Less}
use Rattle.rdx_lang.proofs.Rest.{rest_at}
use Rattle.rdx_lang.specs.Decompositions.{Decomposition}
use Rattle.rdx_lang.specs.Model.TotalOrders.{decomposition_cmp-total}
use Rattle.rdx_lang.specs.Order.{decomposition_cmp}
use Rattle.rdx_lang.specs.Shown.{decomposition_of, decompositions_of}
use Rattle.rdx_direct.proofs.Neighbours.{ascends_before_at, last_ascends, less_by_index}
use Rattle.rdx_direct.proofs.splitting.ascend.Goals as goal

pub loop-i-preserved : goal.loop-i-preserved
loop-i-preserved c =
    let xs = c.args.found.now in
    let i : ℕ = c.loop-i.i in
    let x : Decomposition = decomposition_of c.index-found-i.result in
    let y : Decomposition = decomposition_of c.index-found-i-in-loop-i.result in
    let ys : List Decomposition = decompositions_of (drop i xs) in
    let zs : List Decomposition = decompositions_of (drop (i + 1) xs) in
    let a : 1 ≤ i = c.loop-i.invariant.0 in
    let behind : i - 1 + 1 ≡ i = omega arith in
    let same : i + 1 - 1 ≡ i = omega arith in
    let b : i < length xs = c.loop-i-test.true in
    let m : i - 1 < length xs = omega arith in
    let first : decompositions_of (drop (i - 1) xs) ≡ x ∷ decompositions_of (drop (i - 1 + 1) xs) =
    rest_at decomposition_of xs (i - 1) c.index-found-i.result m c.index-found-i.is in
    let e : decompositions_of (drop (i - 1) xs) ≡ x ∷ ys = rw behind at first in
    let f : ys ≡ y ∷ zs = rest_at decomposition_of xs i c.index-found-i-in-loop-i.result c.loop-i-test.true c.index-found-i-in-loop-i.is in
    let l : decomposition_cmp x y ≡ Less = sym c.compare.ensures ∙ less_by_index c.compare.result (sym c.ne.ensures ∙ c.if-ne.false) in
    (omega arith, λ h. c.loop-i.invariant.1 (ascends_before_at decomposition_cmp decomposition_cmp-total x y (decompositions_of (drop (i - 1) xs)) ys zs e f l (rw same at h)))

pub returns : goal.returns
returns c t = c.loop-i.invariant.1 (last_ascends decomposition_cmp decomposition_of c.args.found.now (c.loop-i.i - 1) (omega arith))
