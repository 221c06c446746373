use Rattle.std.proofs.Common.{◌≡◌, [], ◌∷◌, ◌++◌, refl, sym, ◌∙◌, ap, subst, arith}
use Rattle.std.proofs.lemmas.Grind.{common_steps}
use Rattle.rdx_lang.specs.ProgramView.{program_of}
use Rattle.rdx_lang.specs.Programs.{Program}
use Rattle.rdx_deriv.specs.Derivations.{root}
use Rattle.rdx_deriv.specs.DerivationView.{goal_of}
use Rattle.rdx_why.specs.Explaining.{seen}
use Rattle.rdx_deriv.specs.Holds.{Holds}
use Rattle.rdx_why.specs.Inside.Frames.{IsBegun, Wait}
use Rattle.rdx_why.specs.Inside.Steps.{IsOnTheWay}
use Rattle.rdx_deriv.specs.declared.deriv.Deriv.TheViews.{roll-Deriv}
use Rattle.rdx_why.specs.declared.explaining.Frame.{Frame}
use Rattle.rdx_why.proofs.Frames.{next_on_the_way, derivation_rolled, all_done, goes_down, comes_back}
use Rattle.rdx_why.proofs.explaining.derived.Goals.{in-Some+in_ok-frame-in-Some+in_ok-push-in-Some, in-None+in-Some-pop+in_ok-push-in-Some-pop}
use Rattle.rdx_why.proofs.explaining.derived.Goals as goal

pub loop-init : goal.loop-init
loop-init g c =
    let P : Program = program_of c.args.engine.now.program.now in
    record {
      same = c.in_ok-top.ensures.same;
      kept = c.in_ok-top.ensures.kept;
      begun = c.in_ok-top.ensures.begun;
      wait = (
        goal_of c.args.goal,
        refl,
        subst (λ fs. Wait P (goal_of c.args.goal) fs (goal_of c.in_ok-top.top.goal)) (sym c.new-stack.ensures.items)
            (sym c.in_ok-top.ensures.goal),
      );
    }

pub begun-requires-in-Some-clause-way : goal.begun-requires-in-Some-clause-way
begun-requires-in-Some-clause-way g c =
    let f : Frame = c.loop.top in
    let e : Frame = record { goal = f.goal; choice = f.choice; left = c.pop.new.self; done = f.done } in
    let l : f.left.items ≡ c.pop.new.self.items ++ (c.in-Some.next ∷ []) = grind (arith, common_steps) in
    subst (λ p. IsOnTheWay (program_of p.now) (goal_of c.in-Some.next)) (sym c.loop.invariant.same)
    (next_on_the_way (program_of c.args.engine.now.program.now) f e refl refl c.in-Some.next refl l c.loop.invariant.begun)

pub returns-in-None-pop-clause-derived : goal.returns-in-None-pop-clause-derived
returns-in-None-pop-clause-derived g c =
    let P : Program = program_of c.args.engine.now.program.now in
    let f : Frame = c.loop.top in
    let w = c.loop.invariant.wait in
    let l : f.left.items ≡ [] = grind (arith, common_steps) in
    let s : c.loop.stack.items ≡ [] = grind (arith, common_steps) in
    let same : w.0 ≡ goal_of f.goal = subst (λ fs. Wait P w.0 fs (goal_of f.goal)) s w.2 in
    let e = derivation_rolled (record { goal = f.goal; choice = f.choice; under = f.done }) in
    record {
      holds = subst (Holds P) (sym e) (all_done P f l c.loop.invariant.begun);
      of_goal = ap (λ d. seen (root d)) e ∙ ap seen (sym same) ∙ w.1;
    }

pub loop-preserved : goal.loop-preserved
loop-preserved g c =
    let P : Program = program_of c.args.engine.now.program.now in
    let f : Frame = c.loop.top in
    let i = c.loop.invariant in
    elim c.match-pop.branch [
      | in-Some+in_ok-frame-in-Some+in_ok-push-in-Some w ↦
          let e : Frame = record { goal = f.goal; choice = f.choice; left = c.pop.new.self; done = f.done } in
          let l : f.left.items ≡ c.pop.new.self.items ++ (w.in-Some.next ∷ []) = grind (arith, common_steps) in
          let t : Frame = w.in_ok-frame-in-Some.frame in
          let k = w.in_ok-frame-in-Some.ensures in
          let n = goes_down P i.wait.0 c.loop.stack.items c.match-pop.stack.items f e t c.match-pop.top w.in-Some.next refl refl refl l
          (ap (λ x. x.items) w.stack-is ∙ w.in_ok-push-in-Some.ensures.items) w.top-is k.goal i.begun i.wait.2
          (subst (λ p. IsBegun (program_of p.now) t) i.same k.begun) in
          record {
            same = ap (λ x. x.program) w.engine-is ∙ k.same ∙ i.same;
            kept = ap (λ x. x.ends.program) w.finder-is ∙ k.kept ∙ i.kept;
            begun = n.0;
            wait = (i.wait.0, i.wait.1, n.1);
          }
      | in-None+in-Some-pop+in_ok-push-in-Some-pop w ↦
          let parent : Frame = w.in-Some-pop.parent in
          let e : Frame = record { goal = parent.goal; choice = parent.choice; left = parent.left; done = w.push-in-Some-pop.new.self } in
          let d = roll-Deriv (record { goal = f.goal; choice = f.choice; under = f.done }) in
          let r = derivation_rolled (record { goal = f.goal; choice = f.choice; under = f.done }) in
          let l : f.left.items ≡ [] = grind (arith, common_steps) in
          let s : c.loop.stack.items ≡ w.pop-in-None.new.self.items ++ (parent ∷ []) = grind (arith, common_steps) in
          let n = comes_back P i.wait.0 c.loop.stack.items c.match-pop.stack.items parent e c.match-pop.top (goal_of f.goal) d
          (s ∙ ap (λ x. x.items ++ (parent ∷ [])) (sym w.stack-is)) (ap root r) (subst (Holds P) (sym r) (all_done P f l i.begun)) refl refl
          w.in_ok-push-in-Some-pop.ensures.items refl w.top-is i.wait.2 in
          record {
            same = ap (λ x. x.program) w.engine-is ∙ i.same;
            kept = ap (λ x. x.ends.program) w.finder-is ∙ i.kept;
            begun = n.0;
            wait = (i.wait.0, i.wait.1, n.1);
          }
    ]
