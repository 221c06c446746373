use Rattle.std.proofs.Common.{◌≡◌, ◌∙◌, ◌+◌, ◌++◌, ◌∷◌, [], List, drop, map, ap, sym, subst, refl}
use Rattle.std.proofs.lemmas.List.{map-append}
use Rattle.rdx_lang.specs.Bindings.{Binding}
use Rattle.rdx_lang.specs.Patterns.{Items}
use Rattle.rdx_lang.specs.PatternView.{slot_of, items_of}
use Rattle.rdx_lang.specs.Shown.{binding_of, bindings_of}
use Rattle.rdx_deriv.specs.Inside.Layouts.{state_of}
use Rattle.rdx_deriv.proofs.Going.{IsGoing, going_on, going_not, going_last, going_short, items_ahead, items_over}
use Rattle.rdx_deriv.proofs.layout.take_items.Goals as goal

pub returns-in_default-clause-none : goal.returns-in_default-clause-none
returns-in_default-clause-none c =
    let items = c.args.items.now in
    let i = c.loop-item.item-index in
    let x = state_of c.args.rest in
    let y = state_of c.loop-item.left in
    let bs = bindings_of c.loop-item.parts.items in
    let inv = subst (λ (qs : Items). IsGoing c.args.l.now x (items_of (map slot_of items)) c.args.choice.now y qs c.loop-item.lengths.now bs)
    (items_ahead items i c.item-item.result c.loop-item-test.true c.item-item.is) c.loop-item.invariant in
    going_not c.args.l.now x (items_of (map slot_of items)) c.args.choice.now y (slot_of c.item-item.result) (map slot_of (drop (i + 1) items)) c.loop-item.lengths.now bs inv
    (rw c.in_default.is at c.in_ok-step.ensures.none)

pub loop-item-preserved : goal.loop-item-preserved
loop-item-preserved c =
    let items = c.args.items.now in
    let i = c.loop-item.item-index in
    let x = state_of c.args.rest in
    let y = state_of c.loop-item.left in
    let z = state_of c.in-Some.step.rest in
    let bs = bindings_of c.loop-item.parts.items in
    let b = binding_of c.in-Some.step.binding in
    let inv = subst (λ (qs : Items). IsGoing c.args.l.now x (items_of (map slot_of items)) c.args.choice.now y qs c.loop-item.lengths.now bs)
    (items_ahead items i c.item-item.result c.loop-item-test.true c.item-item.is) c.loop-item.invariant in
    let e : bindings_of c.push.new.self.items ≡ bs ++ b ∷ [] =
    ap bindings_of c.in_ok-push.ensures.items ∙ map-append binding_of c.loop-item.parts.items (c.in-Some.step.binding ∷ []) in
    subst (λ (cs : List Binding). IsGoing c.args.l.now x (items_of (map slot_of items)) c.args.choice.now z (items_of (map slot_of (drop (i + 1) items))) c.in-Some.step.choice.now cs) (sym e)
    (going_on c.args.l.now x (items_of (map slot_of items)) c.args.choice.now y (slot_of c.item-item.result) (map slot_of (drop (i + 1) items)) c.loop-item.lengths.now bs b z
    c.in-Some.step.choice.now inv (rw c.in-Some.is at c.in_ok-step.ensures.some))

pub returns-then-is_used_up-clause-some : goal.returns-then-is_used_up-clause-some
returns-then-is_used_up-clause-some c =
    let items = c.args.items.now in
    let i = c.loop-item.item-index in
    let x = state_of c.args.rest in
    let y = state_of c.loop-item.left in
    let bs = bindings_of c.loop-item.parts.items in
    let inv = subst (λ (qs : Items). IsGoing c.args.l.now x (items_of (map slot_of items)) c.args.choice.now y qs c.loop-item.lengths.now bs)
    (items_over items i c.loop-item-test.false) c.loop-item.invariant in
    going_last c.args.l.now x (items_of (map slot_of items)) c.args.choice.now y c.loop-item.lengths.now bs inv (c.if-is_used_up.ensures.0 refl)

pub returns-else-is_used_up-clause-none : goal.returns-else-is_used_up-clause-none
returns-else-is_used_up-clause-none c h =
    let items = c.args.items.now in
    let i = c.loop-item.item-index in
    let x = state_of c.args.rest in
    let y = state_of c.loop-item.left in
    let bs = bindings_of c.loop-item.parts.items in
    let inv = subst (λ (qs : Items). IsGoing c.args.l.now x (items_of (map slot_of items)) c.args.choice.now y qs c.loop-item.lengths.now bs)
    (items_over items i c.loop-item-test.false) c.loop-item.invariant in
    going_short c.args.l.now x (items_of (map slot_of items)) c.args.choice.now y c.loop-item.lengths.now bs inv
    (λ u. let k = c.if-is_used_up.ensures.1 u in cc)
