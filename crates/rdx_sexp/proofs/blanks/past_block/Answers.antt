use Rattle.std.proofs.Common.{◌<◌, ◌++◌, length, Option, sym, ◌∙◌, ap, arith}
use Rattle.std.specs.Option.{option_to_list}
use Rattle.std.specs.Vec.{vec_len}
use Rattle.rdx_base.specs.declared.place.Place.{Place}
use Rattle.rdx_sexp.proofs.Steps.{block_begins, block_ends, block_goes_on}
use Rattle.rdx_sexp.proofs.blanks.past_block.Goals as goal

pub loop-innermost-preserved-then-begins_block : goal.loop-innermost-preserved-then-begins_block
loop-innermost-preserved-then-begins_block c =
    let some : 0 < length c.loop-innermost.open.items = grind (arith, c.in-Some.ensures, c.deref.ensures) in (
      block_begins c.loop-innermost.open.items c.nest-then-begins_block.new.places.items c.loop-innermost.at.place c.skip_one-at.result.place c.in-Some-step.rest.place
          c.in-Some-step.c c.loop-innermost.at.rest.now c.in-Some-step.rest.rest.now c.skip_one-at.result.rest.now some c.in_ok-nest-2.ensures.ok
          c.in-Some-step.ensures.0 c.in-Some-step.ensures.1 c.skip_one-at.ensures.value (sym c.begins_block.ensures ∙ c.if-begins_block.true) ∙ c.loop-innermost.invariant.0,
      omega (arith, c.loop-innermost.invariant.1, c.skip_one-at.ensures.shorter, ap length c.in-Some-step.ensures.0),
    )

pub loop-innermost-preserved-then-ends_block : goal.loop-innermost-preserved-then-ends_block
loop-innermost-preserved-then-ends_block c =
    let some : 0 < vec_len c.loop-innermost.open = grind (arith, c.in-Some.ensures, c.deref.ensures) in
    let last = c.pop.ensures.value c.args.place some in
    let items = c.pop.ensures.items ∙ ap (λ (o : Option Place). c.pop.new.self.items ++ option_to_list o) last in (
      block_ends c.loop-innermost.open.items c.pop.new.self.items _ c.loop-innermost.at.place c.skip_one-at-then-ends_block.result.place c.in-Some-step.rest.place
          c.in-Some-step.c c.loop-innermost.at.rest.now c.in-Some-step.rest.rest.now c.skip_one-at-then-ends_block.result.rest.now items
          c.in-Some-step.ensures.0 c.in-Some-step.ensures.1 c.skip_one-at-then-ends_block.ensures.value
          (sym c.begins_block.ensures ∙ c.if-begins_block.false) (sym c.ends_block.ensures ∙ c.if-ends_block.true) ∙ c.loop-innermost.invariant.0,
      omega (arith, c.loop-innermost.invariant.1, c.skip_one-at-then-ends_block.ensures.shorter, ap length c.in-Some-step.ensures.0),
    )

pub loop-innermost-preserved : goal.loop-innermost-preserved
loop-innermost-preserved c =
    let some : 0 < length c.loop-innermost.open.items = grind (arith, c.in-Some.ensures, c.deref.ensures) in (
      block_goes_on c.loop-innermost.open.items c.loop-innermost.at.place c.in-Some-step.rest.place
          c.in-Some-step.c c.loop-innermost.at.rest.now c.in-Some-step.rest.rest.now some
          c.in-Some-step.ensures.0 c.in-Some-step.ensures.1 (sym c.begins_block.ensures ∙ c.if-begins_block.false) (sym c.ends_block.ensures ∙ c.if-ends_block.false) ∙ c.loop-innermost.invariant.0,
      omega (arith, c.loop-innermost.invariant.1, ap length c.in-Some-step.ensures.0),
    )
