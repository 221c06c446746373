use Rattle.std.proofs.Common.{◌≡◌, ℕ, ◌+◌, ◌∷◌, drop, refl, ◌∙◌}
use Rattle.rdx_term.specs.View.{tree_of}
use Rattle.rdx_lang.specs.ProgramView.{extra_of, extras_of, program_of}
use Rattle.rdx_lang.specs.Programs.{Program}
use Rattle.rdx_lang.proofs.Rest.{rest_at, rest_none}
use Rattle.rdx_eval.specs.Fresh.{Avoided, avoiding}
use Rattle.rdx_deriv.specs.Avoiding.{avoided_of}
use Rattle.rdx_deriv.specs.Inside.Extending.{stand_of, LeadsOn, Stand}
use Rattle.rdx_deriv.proofs.ExtraUseLaws.{begins, ends, ends_not, goes_nowhere, goes_on, no_goals, some_goals}
use Rattle.rdx_deriv.proofs.FoundOnce.{found_none, found_some}
use Rattle.rdx_deriv.proofs.extras.behind_extras.Goals as goal

pub loop-extra-init : goal.loop-extra-init
loop-extra-init g c = record {
  leads = begins (program_of c.args.program.now) c.args.l.now (avoiding (tree_of c.args.whole.now)) (avoided_of c.avoiding_all-avoids.result)
      (extras_of c.args.extras.now)
      (stand_of c.args.start) c.avoiding_all-avoids.ensures;
  same = refl;
}

pub loop-extra-preserved : goal.loop-extra-preserved
loop-extra-preserved g c = record {
  leads = (let P : Program = program_of c.args.program.now in
      let xs = c.args.extras.now in
      let i : ℕ = c.loop-extra.extra-index in
      let x = c.extra-item.result in
      let s : Stand = stand_of c.loop-extra.at in
      let w : Avoided = avoided_of c.loop-extra.avoids in
      let e : extras_of (drop i xs) ≡ extra_of x ∷ extras_of (drop (i + 1) xs) = rest_at extra_of xs i x c.loop-extra-test.true c.extra-item.is in
      goes_on P c.args.l.now (avoiding (tree_of c.args.whole.now)) w (extras_of xs) (extras_of (drop i xs)) (stand_of c.args.start) s (extra_of x)
      (extras_of (drop (i + 1) xs)) e c.loop-extra.invariant.leads (stand_of c.in-Some.more) (avoided_of c.pass.new.avoids)
      (found_some stand_of (LeadsOn P c.args.l.now w (extra_of x) s) c.in_ok-more.field-0 c.in_ok-more.ensures.leads c.in-Some.more c.in-Some.is)
      c.in_ok-pass.ensures);
  same = c.next.ensures.same ∙ c.loop-extra.invariant.same;
}

pub returns-in_default-clause-leads : goal.returns-in_default-clause-leads
returns-in_default-clause-leads g c =
    let P : Program = program_of c.args.program.now in
    let xs = c.args.extras.now in
    let i : ℕ = c.loop-extra.extra-index in
    let x = c.extra-item.result in
    let s : Stand = stand_of c.loop-extra.at in
    let w : Avoided = avoided_of c.loop-extra.avoids in
    let e : extras_of (drop i xs) ≡ extra_of x ∷ extras_of (drop (i + 1) xs) = rest_at extra_of xs i x c.loop-extra-test.true c.extra-item.is in
    goes_nowhere P c.args.l.now (avoiding (tree_of c.args.whole.now)) w (extras_of xs) (extras_of (drop i xs)) (stand_of c.args.start) s
    (extra_of x)
    (extras_of (drop (i + 1) xs)) e c.loop-extra.invariant.leads
    (found_none stand_of (LeadsOn P c.args.l.now w (extra_of x) s) c.in_ok-more.field-0 c.in_ok-more.ensures.leads c.in_default.is)

pub returns-then-is_empty-clause-leads : goal.returns-then-is_empty-clause-leads
returns-then-is_empty-clause-leads g c =
    let xs = c.args.extras.now in
    let i : ℕ = c.loop-extra.extra-index in
    ends (program_of c.args.program.now) c.args.l.now (avoiding (tree_of c.args.whole.now)) (avoided_of c.loop-extra.avoids) (extras_of xs)
    (extras_of (drop i xs))
    (stand_of c.args.start) (stand_of c.loop-extra.at) (rest_none extra_of xs i c.loop-extra-test.false) c.loop-extra.invariant.leads
    (no_goals c.loop-extra.at.under.now c.is_empty.result c.is_empty.ensures c.if-is_empty.true)

pub returns-clause-leads : goal.returns-clause-leads
returns-clause-leads g c =
    let xs = c.args.extras.now in
    let i : ℕ = c.loop-extra.extra-index in
    ends_not (program_of c.args.program.now) c.args.l.now (avoiding (tree_of c.args.whole.now)) (avoided_of c.loop-extra.avoids) (extras_of xs)
    (extras_of (drop i xs))
    (stand_of c.args.start) (stand_of c.loop-extra.at) (rest_none extra_of xs i c.loop-extra-test.false) c.loop-extra.invariant.leads
    (some_goals c.loop-extra.at.under.now c.is_empty.result c.is_empty.ensures c.if-is_empty.false)
