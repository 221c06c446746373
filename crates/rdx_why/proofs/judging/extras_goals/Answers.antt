use Rattle.std.proofs.Common.{ℕ, ◌+◌, List, drop, map, refl, sym, ap, subst, ◌∙◌}
use Rattle.rdx_term.specs.View.{tree_of}
use Rattle.rdx_lang.specs.Checked.{language_in}
use Rattle.rdx_lang.specs.ProgramView.{extra_of, extras_of, program_of}
use Rattle.rdx_lang.specs.Shown.{binding_of}
use Rattle.rdx_lang.proofs.Rest.{rest_at, rest_none}
use Rattle.rdx_bind.proofs.TurnRows.{item_in}
use Rattle.rdx_eval.specs.Fresh.{avoiding}
use Rattle.rdx_deriv.specs.Derivations as model
use Rattle.rdx_deriv.specs.DerivationView.{goal_of}
use Rattle.rdx_deriv.specs.declared.goal.Goal.{Goal}
use Rattle.rdx_deriv.specs.Avoiding.{avoided_of}
use Rattle.rdx_why.specs.Inside.Ways.{IsPartOf}
use Rattle.rdx_why.proofs.WaysLaws.{first_way, part_begins, part_ends, part_more}
use Rattle.rdx_why.proofs.judging.extras_goals.Goals as goal

pub loop-extra-init : goal.loop-extra-init
loop-extra-init g c = record {
  part = subst (λ (gs : List model.Goal). IsPartOf (program_of c.args.program.now) (language_in c.args.language.now) c.args.l.now
      (avoiding (tree_of c.args.whole.now)) (extras_of c.args.extras.now) (binding_of c.args.c.now) (binding_of c.args.start)
      (avoided_of c.avoiding_all-avoids.result) (extras_of c.args.extras.now) (binding_of c.args.start) gs)
      (sym (ap (λ (xs : List Goal). map goal_of xs) c.new-under.ensures.items))
      (part_begins (program_of c.args.program.now) (language_in c.args.language.now) c.args.l.now (avoiding (tree_of c.args.whole.now))
      (avoided_of c.avoiding_all-avoids.result) (extras_of c.args.extras.now) (binding_of c.args.c.now) (binding_of c.args.start)
      c.avoiding_all-avoids.ensures c.requires.ways);
  same = refl;
}

pub along-requires-clause-known : goal.along-requires-clause-known
along-requires-clause-known g c =
    c.requires.known (extra_of c.extra-item.result)
    (item_in extra_of c.args.extras.now c.loop-extra.extra-index c.extra-item.result c.loop-extra-test.true c.extra-item.is)

pub along-requires-clause-way : goal.along-requires-clause-way
along-requires-clause-way g c =
    let xs = c.args.extras.now in
    let i : ℕ = c.loop-extra.extra-index in
    let x = c.extra-item.result in
    first_way (program_of c.args.program.now) (language_in c.args.language.now) (avoided_of c.loop-extra.avoids) (extras_of (drop i xs))
    (extras_of (drop (i + 1) xs)) (extra_of x) (binding_of c.args.c.now) (binding_of c.loop-extra.b)
    (rest_at extra_of xs i x c.loop-extra-test.true c.extra-item.is) c.loop-extra.invariant.part.ways

pub loop-extra-preserved : goal.loop-extra-preserved
loop-extra-preserved g c = record {
  part = (let xs = c.args.extras.now in
      let i : ℕ = c.loop-extra.extra-index in
      let x = c.extra-item.result in
      part_more (program_of c.args.program.now) (language_in c.args.language.now) c.args.l.now (avoiding (tree_of c.args.whole.now))
      (avoided_of c.loop-extra.avoids) (avoided_of c.pass.new.avoids) (extras_of xs) (extras_of (drop i xs)) (extras_of (drop (i + 1) xs))
      (extra_of x) (binding_of c.args.c.now) (binding_of c.args.start) (binding_of c.loop-extra.b) (binding_of c.in_ok-passed.passed.binding)
      (map goal_of c.loop-extra.under.items) (map goal_of c.in_ok-passed.passed.goals.items) (map goal_of c.more_goals.new.under.items)
      c.requires.map (rest_at extra_of xs i x c.loop-extra-test.true c.extra-item.is) c.in_ok-pass.ensures c.in_ok-more_goals.ensures
      c.loop-extra.invariant.part c.in_ok-passed.ensures.passed);
  same = c.along.ensures.same ∙ c.loop-extra.invariant.same;
}

pub returns-clause-goals : goal.returns-clause-goals
returns-clause-goals g c =
    let xs = c.args.extras.now in
    part_ends (program_of c.args.program.now) (language_in c.args.language.now) c.args.l.now (avoiding (tree_of c.args.whole.now))
    (avoided_of c.loop-extra.avoids) (extras_of xs) (extras_of (drop c.loop-extra.extra-index xs)) (binding_of c.args.c.now)
    (binding_of c.args.start) (binding_of c.loop-extra.b) (map goal_of c.loop-extra.under.items)
    (rest_none extra_of xs c.loop-extra.extra-index c.loop-extra-test.false) c.loop-extra.invariant.part
