use Rattle.std.proofs.Common.{◌∙◌, List, Bool, ap, subst, sym, arith, length, false, get_or, drop, ◌+◌}
use Rattle.std.proofs.lemmas.List.{length-set}
use Rattle.rdx_gen.specs.Inside.Waiting.{AreListed}
use Rattle.rdx_gen.proofs.MarkLaws.{unmark-next, unmark-whole}
use Rattle.rdx_gen.proofs.marking.unmark.Goals as goal

pub loop-place-preserved : goal.loop-place-preserved
loop-place-preserved c =
    let i = get_or c.args.places.now c.loop-place.place-index 0 in
    record {
      size = ap length c.clear.ensures ∙ length-set c.loop-place.marks.items i false ∙ c.loop-place.invariant.size;
      rest = subst (λ (ms : List Bool). AreListed ms (drop (c.loop-place.place-index + 1) c.args.places.now)) (sym c.clear.ensures)
          (unmark-next c.loop-place.marks.items c.args.places.now c.loop-place.place-index c.loop-place-test.true c.loop-place.invariant.rest);
    }

pub returns-clause-none : goal.returns-clause-none
returns-clause-none c = unmark-whole c.loop-place.marks.items c.args.places.now c.loop-place.place-index (omega arith) c.loop-place.invariant.rest
