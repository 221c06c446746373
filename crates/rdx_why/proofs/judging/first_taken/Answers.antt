use Rattle.std.proofs.Common.{ℕ, ◌+◌, drop, map, sym, subst}
use Rattle.rdx_term.specs.Tree.{Tree}
use Rattle.rdx_term.specs.View.{tree_of}
use Rattle.rdx_lang.specs.Checked.{language_in, pattern_in}
use Rattle.rdx_lang.specs.Members.{In}
use Rattle.rdx_lang.specs.Rules.{Match}
use Rattle.rdx_lang.specs.Shown.{binding_of}
use Rattle.rdx_lang.proofs.Rest.{rest_at, rest_none}
use Rattle.rdx_bind.proofs.TurnRows.{item_in}
use Rattle.rdx_deriv.specs.DerivationView.{goal_of}
use Rattle.rdx_why.specs.Inside.Ways.{IsSeenGoal}
use Rattle.rdx_why.proofs.WaysLaws.{ahead_next, ahead_none, none_holds, some_holds}
use Rattle.rdx_why.proofs.judging.first_taken.Goals as goal

pub loop-u-preserved : goal.loop-u-preserved
loop-u-preserved g c = λ u i d m s.
    (let xs = c.args.outs.now in
    let x = c.u-item.result in
    let n : ℕ = c.loop-u.u-index in
    ahead_next u (tree_of x) (map tree_of (drop n xs)) (map tree_of (drop (n + 1) xs)) (rest_at tree_of xs n x c.loop-u-test.true c.u-item.is)
    (λ e. none_holds c.in_ok-seen.field-0 c.in_default.is c.in_ok-seen.ensures.none d
    (subst (λ (z : Tree). Match (language_in c.args.language.now) (pattern_in c.args.pat.now) z d) e m) s)
    (c.loop-u.invariant u i d m s))

pub returns-clause-none : goal.returns-clause-none
returns-clause-none g c = λ u i d m s.
    ahead_none u (map tree_of (drop c.loop-u.u-index c.args.outs.now))
    (rest_none tree_of c.args.outs.now c.loop-u.u-index c.loop-u-test.false) (c.loop-u.invariant u i d m s)

pub returns-in-Some-clause-some : goal.returns-in-Some-clause-some
returns-in-Some-clause-some g c =
    let xs = c.args.outs.now in
    let x = c.u-item.result in (
      subst (λ (z : Tree). In z (map tree_of xs)) (sym c.in_ok-outputs.ensures)
          (item_in tree_of xs c.loop-u.u-index x c.loop-u-test.true c.u-item.is),
      subst (λ (z : Tree). IsSeenGoal (language_in c.args.language.now) c.args.l.now (pattern_in c.args.pat.now) z (binding_of c.args.c.now)
          (goal_of c.in-Some.seen.goal) (binding_of c.in-Some.seen.binding)) (sym c.in_ok-outputs.ensures)
          (some_holds _ _ _ c.in-Some.is c.in_ok-seen.ensures.some),
    )
