use Rattle.std.proofs.Common.{◌≡◌, ◌+◌, [], ◌∷◌, IsTrue, drop, map, arith}
use Rattle.std.proofs.lemmas.Grind.{common_steps}
use Rattle.rdx_lang.specs.Rules as rules
use Rattle.rdx_term.specs.View.{tree_of}
use Rattle.rdx_lang.proofs.Collecting.{In_along, no_member}
use Rattle.rdx_lang.proofs.MemberLaws.{map-in}
use Rattle.rdx_lang.proofs.Rest.{rest_at, rest_none}
use Rattle.rdx_enum.proofs.Filters.{member_at, filtered_start, filtered_next, filtered_end, kept_next}
use Rattle.rdx_enum.proofs.atoms.of_kind.Goals as goal

pub loop-t-init : goal.loop-t-init
loop-t-init c =
    let n : map tree_of c.new-found.result.items ≡ [] = grind (arith, common_steps) in
    record {
      complete = λ L. filtered_start (λ t. IsTrue (rules.is_of_kind L c.args.kind t)) (map tree_of c.args.pool.now) _;
      among = λ t h. no_member (In_along _ _ n h);
    }

pub loop-t-preserved : goal.loop-t-preserved
loop-t-preserved c =
    let xs = c.args.pool.now in
    let e : map tree_of (drop c.loop-t.t-index xs) ≡ tree_of c.t-item.result ∷ map tree_of (drop (c.loop-t.t-index + 1) xs) =
    rest_at tree_of xs c.loop-t.t-index c.t-item.result c.loop-t-test.true c.t-item.is in
    record {
      complete = λ L. filtered_next (λ t. IsTrue (rules.is_of_kind L c.args.kind t)) (map tree_of xs) _ _ _ _ (tree_of c.t-item.result) c.may_be.result e c.in_ok-add_if.ensures (c.may_be.ensures L) (c.loop-t.invariant.complete L);
      among = kept_next (map tree_of xs) _ _ (tree_of c.t-item.result) c.may_be.result c.in_ok-add_if.ensures
          (map-in tree_of xs c.t-item.result (member_at xs c.loop-t.t-index c.t-item.result c.loop-t-test.true c.t-item.is)) c.loop-t.invariant.among;
    }

pub returns-clause-complete : goal.returns-clause-complete
returns-clause-complete c = λ L. filtered_end (λ t. IsTrue (rules.is_of_kind L c.args.kind t)) (map tree_of c.args.pool.now) _ _ (rest_none tree_of c.args.pool.now c.loop-t.t-index (omega arith)) (c.loop-t.invariant.complete L)
