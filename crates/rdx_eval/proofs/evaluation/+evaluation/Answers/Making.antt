-- The loop that makes a template: steps up to a call, and its value.
use Rattle.std.proofs.Common.{◌+◌, ◌<◌, ℕ, List, [], refl, subst, arith}
use Rattle.std.specs.Prelude.{Ok}
use Rattle.rdx_term.specs.Tree.{Tree}
use Rattle.rdx_term.specs.View.{tree_of}
use Rattle.rdx_lang.specs.Bindings.{Binding}
use Rattle.rdx_eval.specs.Answers.{Answer}
use Rattle.rdx_eval.specs.Calls.{Calls}
use Rattle.rdx_eval.specs.Inside.Frames.{Advances, Gives, Pending}
use Rattle.rdx_eval.specs.Inside.Scopes.{calls_here, bound_here}
use Rattle.rdx_eval.specs.Inside.Weights.{frames_weight, next_weight}
use Rattle.rdx_eval.specs.declared.frames.Frame.{Frame}
use Rattle.rdx_eval.specs.declared.frames.Stage.{Stage}
use Rattle.rdx_eval.specs.declared.frames.Stage.TheVariants as stages
use Rattle.rdx_eval.proofs.HandedOn.{error_handed_on}
use Rattle.rdx_eval.proofs.Pending.{advanced-end, advanced-stop, called-fault, called-next, pending-moved, pending-start}
use Rattle.rdx_eval.proofs.evaluation.+evaluation.Goals as goal

pub make-calls-init : goal.make-calls-init
make-calls-init g t c =
    let C : Calls = calls_here c.args.scope.now in
    let b : Binding = bound_here c.args.scope.now in
    let W : Answer Tree → Type 0 = Gives C b [] c.args.first in
    record {
      answer = pending-moved C b W [] c.new-turns.result.items [] c.new-stack.result.items c.args.first c.args.first c.new-turns.ensures.items
          c.new-stack.ensures.items refl (pending-start C b W c.args.first (λ r h. h));
      kept = c.requires.kept;
    }

pub make-returns-in_err-stage-clause-answer : goal.make-returns-in_err-stage-clause-answer
make-returns-in_err-stage-clause-answer g t c =
    let C : Calls = calls_here c.args.scope.now in
    let b : Binding = bound_here c.args.scope.now in
    let W : Answer Tree → Type 0 = Gives C b [] c.args.first in
    let V : Answer Tree → Type 0 = Pending C b [] c.calls.stack.items (Gives C b c.calls.turns.items c.calls.next) in
    let m : ℕ = frames_weight c.calls.stack.items + next_weight c.calls.next in
    let js : List ℕ = c.advance.new.turns.items in
    let vs : List Frame = c.advance.new.stack.items in
    error_handed_on tree_of tree_of W W c.from_residual.result _ c.from_residual.ensures.1 (λ f h. h)
    (advanced-stop C b V W c.calls.invariant.answer.gives m js vs _ c.in_err-stage.ensures)

pub make-returns-in_err-t-in-Calls-clause-answer : goal.make-returns-in_err-t-in-Calls-clause-answer
make-returns-in_err-t-in-Calls-clause-answer g t c =
    let C : Calls = calls_here c.args.scope.now in
    let b : Binding = bound_here c.args.scope.now in
    let W : Answer Tree → Type 0 = Gives C b [] c.args.first in
    let V : Answer Tree → Type 0 = Pending C b [] c.calls.stack.items (Gives C b c.calls.turns.items c.calls.next) in
    let m : ℕ = frames_weight c.calls.stack.items + next_weight c.calls.next in
    let js : List ℕ = c.advance.new.turns.items in
    let vs : List Frame = c.advance.new.stack.items in
    let h : Advances C b V m js vs (Ok (stages.Calls c.in-Calls.f c.in-Calls.args)) =
    subst (λ (s : Stage). Advances C b V m js vs (Ok s)) c.in-Calls.is c.in_ok-stage.ensures in
    error_handed_on tree_of tree_of (C.value_of c.in-Calls.f.now (tree_of c.in-Calls.args)) W c.from_residual-in_err-t-in-Calls.result _
    c.from_residual-in_err-t-in-Calls.ensures.1
    (λ q l. called-fault C b V W c.calls.invariant.answer.gives m js vs c.in-Calls.f c.in-Calls.args h q l) c.in_err-t-in-Calls.ensures.answer

pub make-returns-in-Ends-clause-answer : goal.make-returns-in-Ends-clause-answer
make-returns-in-Ends-clause-answer g t c =
    let C : Calls = calls_here c.args.scope.now in
    let b : Binding = bound_here c.args.scope.now in
    let W : Answer Tree → Type 0 = Gives C b [] c.args.first in
    let V : Answer Tree → Type 0 = Pending C b [] c.calls.stack.items (Gives C b c.calls.turns.items c.calls.next) in
    let m : ℕ = frames_weight c.calls.stack.items + next_weight c.calls.next in
    let js : List ℕ = c.advance.new.turns.items in
    let vs : List Frame = c.advance.new.stack.items in
    advanced-end C b V W c.calls.invariant.answer.gives m js vs c.in-Ends.t
    (subst (λ (s : Stage). Advances C b V m js vs (Ok s)) c.in-Ends.is c.in_ok-stage.ensures)

pub make-calls-preserved : goal.make-calls-preserved
make-calls-preserved g t c =
    let C : Calls = calls_here c.args.scope.now in
    let b : Binding = bound_here c.args.scope.now in
    let V : Answer Tree → Type 0 = Pending C b [] c.calls.stack.items (Gives C b c.calls.turns.items c.calls.next) in
    let m : ℕ = frames_weight c.calls.stack.items + next_weight c.calls.next in
    record {
      answer = called-next C b V (Gives C b [] c.args.first) c.calls.invariant.answer.gives m c.advance.new.turns.items c.advance.new.stack.items
          c.in_ok-stage.stage c.in-Calls.f c.in-Calls.args c.in_ok-t-in-Calls.t c.in-Calls.is c.in_ok-stage.ensures c.in_ok-t-in-Calls.ensures.answer;
      kept = c.in_ok-t-in-Calls.ensures.kept;
    }

pub make-calls-preserved-in_ok-t-in-Calls : goal.make-calls-preserved-in_ok-t-in-Calls
make-calls-preserved-in_ok-t-in-Calls g t c =
    let C : Calls = calls_here c.args.scope.now in
    let b : Binding = bound_here c.args.scope.now in
    let V : Answer Tree → Type 0 = Pending C b [] c.calls.stack.items (Gives C b c.calls.turns.items c.calls.next) in
    let m : ℕ = frames_weight c.calls.stack.items + next_weight c.calls.next in
    record {
      answer = called-next C b V (Gives C b [] c.args.first) c.calls.invariant.answer.gives m c.advance.new.turns.items c.advance.new.stack.items
          c.in_ok-stage.stage c.in-Calls.f c.in-Calls.args c.in_ok-t-in-Calls.t c.in-Calls.is c.in_ok-stage.ensures c.in_ok-t-in-Calls.ensures.answer;
      kept = c.in_ok-t-in-Calls.ensures.kept;
    }

pub make-calls-preserved-in_ok-t-in-Calls-2 : goal.make-calls-preserved-in_ok-t-in-Calls-2
make-calls-preserved-in_ok-t-in-Calls-2 g t c =
    let C : Calls = calls_here c.args.scope.now in
    let b : Binding = bound_here c.args.scope.now in
    let V : Answer Tree → Type 0 = Pending C b [] c.calls.stack.items (Gives C b c.calls.turns.items c.calls.next) in
    let m : ℕ = frames_weight c.calls.stack.items + next_weight c.calls.next in
    record {
      answer = called-next C b V (Gives C b [] c.args.first) c.calls.invariant.answer.gives m c.advance.new.turns.items c.advance.new.stack.items
          c.in_ok-stage.stage c.in-Calls.f c.in-Calls.args c.in_ok-t-in-Calls.t c.in-Calls.is c.in_ok-stage.ensures c.in_ok-t-in-Calls.ensures.answer;
      kept = c.in_ok-t-in-Calls.ensures.kept;
    }

pub make-calls-preserved-in_ok-t-in-Calls-3 : goal.make-calls-preserved-in_ok-t-in-Calls-3
make-calls-preserved-in_ok-t-in-Calls-3 g t c =
    let C : Calls = calls_here c.args.scope.now in
    let b : Binding = bound_here c.args.scope.now in
    let V : Answer Tree → Type 0 = Pending C b [] c.calls.stack.items (Gives C b c.calls.turns.items c.calls.next) in
    let m : ℕ = frames_weight c.calls.stack.items + next_weight c.calls.next in
    record {
      answer = called-next C b V (Gives C b [] c.args.first) c.calls.invariant.answer.gives m c.advance.new.turns.items c.advance.new.stack.items
          c.in_ok-stage.stage c.in-Calls.f c.in-Calls.args c.in_ok-t-in-Calls.t c.in-Calls.is c.in_ok-stage.ensures c.in_ok-t-in-Calls.ensures.answer;
      kept = c.in_ok-t-in-Calls.ensures.kept;
    }

pub make-calls-smaller : goal.make-calls-smaller
make-calls-smaller g t c =
    let C : Calls = calls_here c.args.scope.now in
    let b : Binding = bound_here c.args.scope.now in
    let V : Answer Tree → Type 0 = Pending C b [] c.calls.stack.items (Gives C b c.calls.turns.items c.calls.next) in
    let m : ℕ = frames_weight c.calls.stack.items + next_weight c.calls.next in
    let js : List ℕ = c.advance.new.turns.items in
    let vs : List Frame = c.advance.new.stack.items in
    let h : Advances C b V m js vs (Ok (stages.Calls c.in-Calls.f c.in-Calls.args)) =
    subst (λ (s : Stage). Advances C b V m js vs (Ok s)) c.in-Calls.is c.in_ok-stage.ensures in
    let l : frames_weight vs < m = h.1 in
    omega (arith, l)
