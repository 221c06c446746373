use Rattle.std.proofs.Common.{get_or, ℕ, ap, ◌∙◌, ◌<◌, length, rules}
use Rattle.rdx_leftrec.proofs.Lists.{read-in, behind-first, none-behind}
use Rattle.rdx_leftrec.proofs.components.has_number.Goals as goal

pub bounds-numbers-place : goal.bounds-numbers-place
bounds-numbers-place c = c.requires (get_or c.args.places.now c.loop-place.place-index 0) (read-in c.args.places.now c.loop-place.place-index 0 c.loop-place-test.true)

pub offset_bounds-numbers-place : goal.offset_bounds-numbers-place
offset_bounds-numbers-place c =
    let k : get_or c.args.places.now c.loop-place.place-index 0 < length c.args.numbers.now =
    c.requires (get_or c.args.places.now c.loop-place.place-index 0) (read-in c.args.places.now c.loop-place.place-index 0 c.loop-place-test.true) in
    search rules

pub returns-then-numbers-place-clause-yes : goal.returns-then-numbers-place-clause-yes
returns-then-numbers-place-clause-yes c e = (get_or c.args.places.now c.loop-place.place-index 0, read-in c.args.places.now c.loop-place.place-index 0 c.loop-place-test.true, c.if-numbers-place.true)

pub loop-place-preserved : goal.loop-place-preserved
loop-place-preserved c j h e = behind-first c.args.places.now c.loop-place.place-index j (c.loop-place.invariant j h e) (λ d. c.if-numbers-place.false (ap (λ (k : ℕ). get_or c.args.numbers.now k 0) d ∙ e))

pub returns-clause-no : goal.returns-clause-no
returns-clause-no c e j h d = none-behind c.args.places.now c.loop-place.place-index j c.loop-place-test.false (c.loop-place.invariant j h d)
