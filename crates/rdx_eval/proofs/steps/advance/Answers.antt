use Rattle.std.proofs.Common.{List, [], refl, subst}
use Rattle.rdx_term.specs.Tree.{Tree}
use Rattle.rdx_term.specs.View.{tree_of}
use Rattle.rdx_lang.specs.Bindings.{Binding}
use Rattle.rdx_eval.specs.Answers.{Answer}
use Rattle.rdx_eval.specs.Calls.{Calls}
use Rattle.rdx_eval.specs.Inside.Frames.{After, Gives, IsPending, Pending, turns_of}
use Rattle.rdx_eval.specs.Inside.Scopes.{calls_here, bound_here}
use Rattle.rdx_eval.specs.Inside.Weights.{frame_weight, next_weight}
use Rattle.rdx_eval.specs.declared.frames.Frame.{Frame}
use Rattle.rdx_eval.proofs.Pending.{advanced-call, advances-error, goes-stop, is-step, pending-step, pending-taken, step-less, still-less, taken-less}
use Rattle.rdx_eval.proofs.steps.advance.Goals as goal

pub returns-in_err-next-in-Made : goal.returns-in_err-next-in-Made
returns-in_err-next-in-Made g c =
    let C : Calls = calls_here c.args.scope.now in
    let b : Binding = bound_here c.args.scope.now in
    let W : Answer Tree → Type 0 = Pending C b [] c.args.stack.now.items (Gives C b c.args.turns.now.items c.args.next) in
    let ws : List Frame = c.pop.new.self.items in
    let w : Frame = c.in-Some.frame in
    let u : Tree = tree_of c.in-Made.t in
    let q = pending-taken C b W c.loop-next.turns.items c.loop-next.stack.items ws w c.in-Made.t c.in-Some.ensures.items
    (subst (IsPending C b W c.loop-next.turns.items c.loop-next.stack.items) c.in-Made.is c.loop-next.invariant.pending) in
    advances-error C b W _ c.resume.new.turns.items c.resume.new.stack.items c.from_residual.result _ c.from_residual.ensures.1
    (goes-stop C b W (After C b (turns_of ws) w u) (frame_weight w) (turns_of ws) c.resume.new.turns.items ws c.resume.new.stack.items _ q.1 (c.in_err-next-in-Made.ensures (turns_of ws) q.0))

pub returns-in_err-next-in_default : goal.returns-in_err-next-in_default
returns-in_err-next-in_default g c =
    let C : Calls = calls_here c.args.scope.now in
    let b : Binding = bound_here c.args.scope.now in
    let W : Answer Tree → Type 0 = Pending C b [] c.args.stack.now.items (Gives C b c.args.turns.now.items c.args.next) in
    advances-error C b W _ c.step.new.turns.items c.step.new.stack.items c.from_residual-in_err-next-in_default.result _ c.from_residual-in_err-next-in_default.ensures.1
    (goes-stop C b W (Gives C b c.loop-next.turns.items c.loop-next.next) (next_weight c.loop-next.next) c.loop-next.turns.items c.step.new.turns.items c.loop-next.stack.items c.step.new.stack.items _ c.loop-next.invariant.pending.gives
    c.in_err-next-in_default.ensures)

pub loop-next-preserved-in-Made : goal.loop-next-preserved-in-Made
loop-next-preserved-in-Made g c =
    let C : Calls = calls_here c.args.scope.now in
    let b : Binding = bound_here c.args.scope.now in
    let W : Answer Tree → Type 0 = Pending C b [] c.args.stack.now.items (Gives C b c.args.turns.now.items c.args.next) in
    let ws : List Frame = c.pop.new.self.items in
    let w : Frame = c.in-Some.frame in
    let u : Tree = tree_of c.in-Made.t in
    let q = pending-taken C b W c.loop-next.turns.items c.loop-next.stack.items ws w c.in-Made.t c.in-Some.ensures.items
    (subst (IsPending C b W c.loop-next.turns.items c.loop-next.stack.items) c.in-Made.is c.loop-next.invariant.pending) in
    record {
      pending = pending-step C b W (After C b (turns_of ws) w u) (frame_weight w) (turns_of ws) _ ws _ _ refl q.1
          (c.in_ok-next-in-Made.ensures (turns_of ws) q.0);
      less = still-less (taken-less C b (After C b (turns_of ws) w u) (turns_of ws) _ c.loop-next.stack.items ws _ w c.in-Made.t c.loop-next.next _ c.in-Made.is
          c.in-Some.ensures.items (c.in_ok-next-in-Made.ensures (turns_of ws) q.0)) c.loop-next.invariant.less;
    }

pub loop-next-smaller-in-Made : goal.loop-next-smaller-in-Made
loop-next-smaller-in-Made g c =
    let C : Calls = calls_here c.args.scope.now in
    let b : Binding = bound_here c.args.scope.now in
    let W : Answer Tree → Type 0 = Pending C b [] c.args.stack.now.items (Gives C b c.args.turns.now.items c.args.next) in
    let ws : List Frame = c.pop.new.self.items in
    let w : Frame = c.in-Some.frame in
    let u : Tree = tree_of c.in-Made.t in
    let q = pending-taken C b W c.loop-next.turns.items c.loop-next.stack.items ws w c.in-Made.t c.in-Some.ensures.items
    (subst (IsPending C b W c.loop-next.turns.items c.loop-next.stack.items) c.in-Made.is c.loop-next.invariant.pending) in
    taken-less C b (After C b (turns_of ws) w u) (turns_of ws) _ c.loop-next.stack.items ws _ w c.in-Made.t c.loop-next.next _ c.in-Made.is
    c.in-Some.ensures.items (c.in_ok-next-in-Made.ensures (turns_of ws) q.0)

pub loop-next-preserved : goal.loop-next-preserved
loop-next-preserved g c =
    let C : Calls = calls_here c.args.scope.now in
    let b : Binding = bound_here c.args.scope.now in
    let W : Answer Tree → Type 0 = Pending C b [] c.args.stack.now.items (Gives C b c.args.turns.now.items c.args.next) in
    record {
      pending = pending-step C b W (Gives C b c.loop-next.turns.items c.loop-next.next) (next_weight c.loop-next.next) c.loop-next.turns.items _
          c.loop-next.stack.items _ _ c.loop-next.invariant.pending.turned c.loop-next.invariant.pending.gives c.in_ok-next-in_default.ensures;
      less = still-less (step-less C b (Gives C b c.loop-next.turns.items c.loop-next.next) (next_weight c.loop-next.next) c.loop-next.turns.items _
          c.loop-next.stack.items _ _ c.in_ok-next-in_default.ensures) c.loop-next.invariant.less;
    }

pub loop-next-smaller : goal.loop-next-smaller
loop-next-smaller g c =
    let C : Calls = calls_here c.args.scope.now in
    let b : Binding = bound_here c.args.scope.now in
    step-less C b (Gives C b c.loop-next.turns.items c.loop-next.next) (next_weight c.loop-next.next) c.loop-next.turns.items _
    c.loop-next.stack.items _ _ c.in_ok-next-in_default.ensures

pub returns-in-Call : goal.returns-in-Call
returns-in-Call g c =
    let C : Calls = calls_here c.args.scope.now in
    let b : Binding = bound_here c.args.scope.now in
    let W : Answer Tree → Type 0 = Pending C b [] c.args.stack.now.items (Gives C b c.args.turns.now.items c.args.next) in
    advanced-call C b W _ c.loop-next.turns.items c.loop-next.stack.items c.loop-next.next c.in-Call.f c.in-Call.args c.in-Call.is c.loop-next.invariant.pending c.loop-next.invariant.less

pub step-requires : goal.step-requires
step-requires g c = is-step c.loop-next.next c.in_default.not-Call c.in_default.not-Made
