use Rattle.std.proofs.Common.{◌≡◌, ◌+◌, ◌∷◌, [], drop, map, arith}
use Rattle.std.proofs.lemmas.Grind.{common_steps}
use Rattle.rdx_lang.specs.Checked.{language_in, pattern_in}
use Rattle.rdx_term.specs.View.{tree_of}
use Rattle.rdx_lang.proofs.Collecting.{In_along, no_member}
use Rattle.rdx_lang.proofs.MemberLaws.{map-in}
use Rattle.rdx_lang.proofs.Rest.{rest_at, rest_none}
use Rattle.rdx_enum.specs.Inside.Rows.{row_of}
use Rattle.rdx_enum.specs.UpTo.{MatchesSome}
use Rattle.rdx_enum.proofs.Filters.{member_at, filtered_start, filtered_next, filtered_end, wanted_next}
use Rattle.rdx_enum.proofs.terms.matched.Goals as goal

pub loop-t-init : goal.loop-t-init
loop-t-init g c =
    let n : row_of c.new-found.result ≡ [] = grind (arith, common_steps) in
    record {
      sound = λ t h. no_member (In_along _ _ n h);
      complete = filtered_start (MatchesSome (language_in c.args.language.now) (pattern_in c.args.pat.now)) (map tree_of c.args.terms.now) _;
    }

pub loop-t-preserved : goal.loop-t-preserved
loop-t-preserved g c =
    let xs = c.args.terms.now in
    let e : map tree_of (drop c.loop-t.t-index xs) ≡ tree_of c.t-item.result ∷ map tree_of (drop (c.loop-t.t-index + 1) xs) =
    rest_at tree_of xs c.loop-t.t-index c.t-item.result c.loop-t-test.true c.t-item.is in
    record {
      sound = wanted_next (MatchesSome (language_in c.args.language.now) (pattern_in c.args.pat.now)) (map tree_of xs) _ _ (tree_of c.t-item.result) c.in_ok-keep.keep c.in_ok-add_if.ensures
          (map-in tree_of xs c.t-item.result (member_at xs c.loop-t.t-index c.t-item.result c.loop-t-test.true c.t-item.is)) c.in_ok-keep.ensures.0 c.loop-t.invariant.sound;
      complete = filtered_next (MatchesSome (language_in c.args.language.now) (pattern_in c.args.pat.now)) (map tree_of xs) _ _ _ _ (tree_of c.t-item.result) c.in_ok-keep.keep e c.in_ok-add_if.ensures
          c.in_ok-keep.ensures.1 c.loop-t.invariant.complete;
    }

pub returns : goal.returns
returns g c = λ t. (
  c.loop-t.invariant.sound t,
  λ h. filtered_end (MatchesSome (language_in c.args.language.now) (pattern_in c.args.pat.now)) (map tree_of c.args.terms.now) _ _ (rest_none tree_of c.args.terms.now c.loop-t.t-index (omega arith)) c.loop-t.invariant.complete t h.0 h.1,
)
