use Rattle.std.proofs.Common.{[], arith, get_or, ℕ}
use Rattle.std.proofs.lemmas.List.{get_or_default}
use Rattle.rdx_gen.specs.Heights.{no_height}
use Rattle.rdx_gen.specs.declared.height.Height.{Height}
use Rattle.rdx_gen.specs.Inside.Places.{lists_of}
use Rattle.rdx_gen.specs.Inside.Waiting.{IsWoken}
use Rattle.rdx_gen.proofs.MarkLaws.{marks-none, woken-more, woken-whole}
use Rattle.rdx_gen.proofs.table.wake.Goals as goal

pub loop-place-init : goal.loop-place-init
loop-place-init c = marks-none (IsWoken (lists_of c.args.users.now) []) c.args.waits.now.items c.args.waiting.now.items (λ j w. elim w.1 [ ])

pub loop-place-preserved : goal.loop-place-preserved
loop-place-preserved c =
    let ps = c.args.found.now in
    let i = c.loop-place.place-index in
    let p : ℕ × Height = get_or ps i (0, no_height) in
    woken-more (lists_of c.args.users.now) ps i p c.args.waits.now.items c.loop-place.waits.items c.wake_users.new.waits.items
    c.args.waiting.now.items c.loop-place.waiting.items c.wake_users.new.waiting.items c.loop-place-test.true (get_or_default ps i (0, no_height) p c.loop-place-test.true) c.loop-place.invariant
    c.in_ok-wake_users.ensures

pub returns : goal.returns
returns c = woken-whole (lists_of c.args.users.now) c.args.found.now c.loop-place.place-index c.args.waits.now.items c.loop-place.waits.items c.args.waiting.now.items c.loop-place.waiting.items
    (omega arith) c.loop-place.invariant
