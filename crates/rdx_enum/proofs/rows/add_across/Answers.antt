use Rattle.std.proofs.Common.{◌≡◌, ◌+◌, ◌∷◌, Some, drop, map, sym, subst, arith}
use Rattle.rdx_term.specs.View.{tree_of}
use Rattle.rdx_lang.specs.Collecting.{Arises}
use Rattle.rdx_term.specs.Tree.{Tree}
use Rattle.rdx_lang.specs.Members.{In}
use Rattle.rdx_lang.proofs.MemberLaws.{map-in}
use Rattle.rdx_enum.proofs.Filters.{member_at}
use Rattle.rdx_lang.proofs.Rest.{rest_at, rest_none}
use Rattle.rdx_lang.proofs.Collecting.{collects-next, collects-end, only}
use Rattle.rdx_enum.specs.Inside.Rows.{row_of}
use Rattle.rdx_enum.specs.Inside.Ways.{joined}
use Rattle.rdx_enum.proofs.rows.add_across.Goals as goal

pub add_with-requires : goal.add_with-requires
add_with-requires c t u h k =
    let xs = c.args.firsts.now in
    let i : In (tree_of c.t-item.result) (map tree_of xs) = map-in tree_of xs c.t-item.result (member_at xs c.loop-t.t-index c.t-item.result c.loop-t-test.true c.t-item.is) in
    c.requires t u (subst (λ (v : Tree). In v (map tree_of xs)) (sym (only h)) i) k

pub loop-t-preserved : goal.loop-t-preserved
loop-t-preserved c =
    let xs = c.args.firsts.now in
    let e : map tree_of (drop c.loop-t.t-index xs) ≡ tree_of c.t-item.result ∷ map tree_of (drop (c.loop-t.t-index + 1) xs) =
    rest_at tree_of xs c.loop-t.t-index c.t-item.result c.loop-t-test.true c.t-item.is in
    collects-next (λ t. Arises (λ u x. joined c.args.way t u ≡ Some x) (map tree_of c.args.others.now)) (map tree_of xs) (row_of c.args.out.now) (tree_of c.t-item.result) _ _ _ _ e c.loop-t.invariant c.in_ok-add_with.ensures

pub returns : goal.returns
returns c =
    let xs = c.args.firsts.now in
    collects-end (λ t. Arises (λ u x. joined c.args.way t u ≡ Some x) (map tree_of c.args.others.now)) (map tree_of xs) (map tree_of (drop c.loop-t.t-index xs)) _ _ (rest_none tree_of xs c.loop-t.t-index (omega arith)) c.loop-t.invariant
