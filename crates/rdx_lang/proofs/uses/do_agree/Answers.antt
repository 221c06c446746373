use Rattle.std.proofs.Common.{◌≡◌, ◌+◌, ◌∷◌, false, true, ◌∙◌, drop, sym, ap, arith}
use Rattle.std.proofs.lemmas.Bool.Decides.{nat_tests}
use Rattle.std.specs.List.{list_all}
use Rattle.rdx_lang.specs.Depths.{agree, is_shallow}
use Rattle.rdx_lang.specs.Inside.Capped.{use_in, uses_in}
use Rattle.rdx_lang.specs.Met.{met}
use Rattle.rdx_lang.proofs.RestFits.{rest_fits, rest_fits-start, rest_fits-deep, rest_fits-apart, rest_fits-met}
use Rattle.rdx_lang.proofs.Rest.{rest_at}
use Rattle.rdx_lang.proofs.uses.do_agree.Goals as goal
use Rattle.rdx_lang.proofs.uses.do_agree.Goals.{then-one-ge-DEPTH_LIMIT-via-then-one-ge-DEPTH_LIMIT, then-one-ge-DEPTH_LIMIT-via-else-one-ge-DEPTH_LIMIT+in_ok-meet+then-not-branch}

pub returns-then-one-ge-DEPTH_LIMIT : goal.returns-then-one-ge-DEPTH_LIMIT
returns-then-one-ge-DEPTH_LIMIT c =
    let all = c.args.uses.now in
    let i = c.loop-one.one-index in
    let u = use_in c.one-item.result in
    let before = met c.loop-one.depths in
    let rest = uses_in (drop (i + 1) all) in
    let e : uses_in (drop i all) ≡ u ∷ rest = rest_at use_in all i c.one-item.result c.loop-one-test.true c.one-item.is in
    let f : rest_fits before (u ∷ rest) ≡ false =
    elim c.then-one-ge-DEPTH_LIMIT.branch [
      | then-one-ge-DEPTH_LIMIT-via-then-one-ge-DEPTH_LIMIT w ↦
          let s : is_shallow u ≡ false = grind (arith, nat_tests, w.if-one-ge-DEPTH_LIMIT.true) in
          rest_fits-deep before rest u s
      | then-one-ge-DEPTH_LIMIT-via-else-one-ge-DEPTH_LIMIT+in_ok-meet+then-not-branch w ↦
          rest_fits-apart before rest u (sym w.in_ok-meet.ensures.fits ∙ w.if-not-branch.true)
    ] in
    sym f ∙ ap (rest_fits before) (sym e) ∙ c.loop-one.invariant ∙ rest_fits-start (uses_in all)

pub loop-one-preserved : goal.loop-one-preserved
loop-one-preserved c =
    let all = c.args.uses.now in
    let i = c.loop-one.one-index in
    let u = use_in c.one-item.result in
    let before = met c.loop-one.depths in
    let rest = uses_in (drop (i + 1) all) in
    let e : uses_in (drop i all) ≡ u ∷ rest = rest_at use_in all i c.one-item.result c.loop-one-test.true c.one-item.is in
    let s : is_shallow u ≡ true = grind (arith, nat_tests, c.if-one-ge-DEPTH_LIMIT.false) in
    let a : list_all (agree u) before ≡ true = sym c.in_ok-meet.ensures.fits ∙ c.if-not-branch.false in
    sym (rest_fits-met before (met c.meet.new.self) rest u (c.in_ok-meet.ensures.met c.if-not-branch.false) a s)
    ∙ ap (rest_fits before) (sym e) ∙ c.loop-one.invariant
