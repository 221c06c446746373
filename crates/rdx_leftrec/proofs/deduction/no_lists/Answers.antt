use Rattle.std.proofs.Common.{◌≡◌, ◌∷◌, ◌++◌, ℕ, [], replicate, ◌∙◌, ap, arith}
use Rattle.rdx_leftrec.specs.Inside.Leads.{lists_of}
use Rattle.rdx_leftrec.proofs.Occurring.{lists-push, replicate-end}
use Rattle.rdx_leftrec.proofs.deduction.no_lists.Goals as goal

pub loop-init : goal.loop-init
loop-init c = ap lists_of c.new-lists.ensures.items

pub loop-preserved : goal.loop-preserved
loop-preserved c =
    ap lists_of c.in_ok-push.ensures.items ∙ lists-push c.loop.lists.items c.new.result
    ∙ (λ i. c.loop.invariant i ++ c.new.ensures.items i ∷ []) ∙ replicate-end c.loop.counter []

pub returns : goal.returns
returns c =
    let e : c.loop.counter ≡ c.args.size = (let l = c.loop.auto.counter-end in let m = c.loop-test.false in omega arith) in
    c.loop.invariant ∙ ap (λ (n : ℕ). replicate n []) e
