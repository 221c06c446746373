use Rattle.std.proofs.Common.{◌≤◌, sym, ◌∙◌, arith}
use Rattle.std.proofs.lemmas.List.{length-map}
use Rattle.rdx_leftrec.specs.Inside.Leads.{lists_of}
use Rattle.rdx_leftrec.specs.Inside.Walks.{walk_of}
use Rattle.rdx_leftrec.proofs.Sorted.{most-last}
use Rattle.rdx_leftrec.proofs.Walking.{walk-popped, last_pending, all-reach}
use Rattle.rdx_leftrec.proofs.walk.Walk.finish.Goals as goal

pub follow-requires-clause-walk : goal.follow-requires-clause-walk
follow-requires-clause-walk c =
    walk-popped (lists_of c.args.targets.now) (walk_of c.loop-bound.self) c.next_step.new.pending.items c.in-Some-next_step.step c.loop-bound.invariant.walk c.in-Some-next_step.ensures.0

pub follow-requires-clause-inside : goal.follow-requires-clause-inside
follow-requires-clause-inside c =
    let i = last_pending (lists_of c.args.targets.now) (walk_of c.loop-bound.self) c.next_step.new.pending.items c.in-Some-next_step.step c.loop-bound.invariant.walk c.in-Some-next_step.ensures.0 in
    let o = c.loop-bound.invariant.walk.kept c.in-Some-next_step.step i in
    let l = c.requires.targets o.0 c.in-Some-next_step.step.to o.2 in
    let k = length-map c.args.targets.now (λ v. v.items) in
    omega arith

pub follow-requires-clause-from : goal.follow-requires-clause-from
follow-requires-clause-from c =
    let e = sym c.deref.ensures.value ∙ c.in-Some.ensures.whole in
    all-reach (lists_of c.args.targets.now) (walk_of c.loop-bound.self) c.next_step.new.pending.items c.in-Some-next_step.step c.loop-bound.invariant.walk c.in-Some-next_step.ensures.0
    (λ b i.
    let l = most-last c.loop-bound.self.bounds.items c.in-Some.ensures.front c.in-Some.bound b c.loop-bound.invariant.walk.sorted e i in
    let m : c.in-Some.bound ≤ c.in-Some-next_step.step.from = c.in-Some-next_step.ensures.1 in
    omega arith)
