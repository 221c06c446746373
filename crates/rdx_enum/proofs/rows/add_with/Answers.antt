use Rattle.std.proofs.Common.{◌≡◌, ◌+◌, ◌∷◌, Some, drop, map, refl, arith}
use Rattle.rdx_term.specs.View.{tree_of}
use Rattle.rdx_lang.specs.Members.{here}
use Rattle.rdx_lang.proofs.MemberLaws.{map-in}
use Rattle.rdx_enum.proofs.Filters.{member_at}
use Rattle.rdx_lang.proofs.Rest.{rest_at, rest_none}
use Rattle.rdx_lang.proofs.Collecting.{collects-next, collects-end}
use Rattle.rdx_enum.specs.Inside.Rows.{row_of}
use Rattle.rdx_enum.specs.Inside.Ways.{joined}
use Rattle.rdx_enum.proofs.rows.add_with.Goals as goal

pub add_joined-requires : goal.add_joined-requires
add_joined-requires c =
    let xs = c.args.others.now in
    c.requires (tree_of c.args.t.now) (tree_of c.u-item.result) (here refl) (map-in tree_of xs c.u-item.result (member_at xs c.loop-u.u-index c.u-item.result c.loop-u-test.true c.u-item.is))

pub loop-u-preserved : goal.loop-u-preserved
loop-u-preserved c =
    let xs = c.args.others.now in
    let e : map tree_of (drop c.loop-u.u-index xs) ≡ tree_of c.u-item.result ∷ map tree_of (drop (c.loop-u.u-index + 1) xs) =
    rest_at tree_of xs c.loop-u.u-index c.u-item.result c.loop-u-test.true c.u-item.is in
    collects-next (λ u x. joined c.args.way (tree_of c.args.t.now) u ≡ Some x) (map tree_of xs) (row_of c.args.out.now) (tree_of c.u-item.result) _ _ _ _ e c.loop-u.invariant c.in_ok-add_joined.ensures

pub returns : goal.returns
returns c =
    let xs = c.args.others.now in
    collects-end (λ u x. joined c.args.way (tree_of c.args.t.now) u ≡ Some x) (map tree_of xs) (map tree_of (drop c.loop-u.u-index xs)) _ _ (rest_none tree_of xs c.loop-u.u-index (omega arith)) c.loop-u.invariant
