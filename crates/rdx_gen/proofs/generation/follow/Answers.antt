use Rattle.std.proofs.Common.{arith, ap, ◌∙◌, sym}
use Rattle.rdx_gen.specs.Inside.Frames.{gives, leads, pending}
use Rattle.rdx_gen.specs.Inside.Weights.{frames_weight, move_weight}
use Rattle.rdx_gen.proofs.Pending.{pending_last, frames_last}
use Rattle.rdx_gen.proofs.generation.follow.Goals as goal

pub returns-in_ok-push-in-Waits-clause-leads : goal.returns-in_ok-push-in-Waits-clause-leads
returns-in_ok-push-in-Waits-clause-leads c = λ s.
    ap (λ ws. pending c.args._setting.now ws (gives c.args._setting.now c.in-Waits.next s)) c.in_ok-push-in-Waits.ensures.items
    ∙ pending_last c.args._setting.now c.args.stack.now.items c.in-Waits.frame (gives c.args._setting.now c.in-Waits.next s)
    ∙ ap (λ m. pending c.args._setting.now c.args.stack.now.items (leads c.args._setting.now m s)) (sym c.in-Waits.is)

pub returns-in_ok-push-in-Waits-clause-weight : goal.returns-in_ok-push-in-Waits-clause-weight
returns-in_ok-push-in-Waits-clause-weight c =
    let a = ap (frames_weight c.args._setting.now) c.in_ok-push-in-Waits.ensures.items in
    let b = frames_last c.args._setting.now c.args.stack.now.items c.in-Waits.frame in
    let d = ap (move_weight c.args._setting.now) c.in-Waits.is in
    omega (arith, a, b, d)
