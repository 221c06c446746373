use Rattle.std.proofs.Common.{◌<◌, ◌∙◌, length, get_or, sym, subst, ap}
use Rattle.std.proofs.lemmas.List.{length-set}
use Rattle.rdx_gen.specs.PlaceView.{place_of}
use Rattle.rdx_gen.proofs.GroupLaws.{first-bound, gather-step}
use Rattle.rdx_gen.proofs.groups.gather.Goals as goal

pub add_place-requires-clause-first_in : goal.add_place-requires-clause-first_in
add_place-requires-clause-first_in c = first-bound place_of c.args.all.now c.args.firsts.now c.loop-i.i c.requires c.loop-i-test.true

pub add_place-requires-clause-group_in : goal.add_place-requires-clause-group_in
add_place-requires-clause-group_in c = subst (λ n. get_or c.args.firsts.now c.loop-i.i 0 < n) (sym c.loop-i.invariant.size) (first-bound place_of c.args.all.now c.args.firsts.now c.loop-i.i c.requires c.loop-i-test.true)

pub loop-i-preserved : goal.loop-i-preserved
loop-i-preserved c = record {
  size = ap length c.add_place.ensures ∙ length-set c.loop-i.groups.items (get_or c.args.firsts.now c.loop-i.i 0) _ ∙ c.loop-i.invariant.size;
  gathered = gather-step place_of c.args.all.now c.args.firsts.now c.loop-i.groups.items c.add_place.new.groups.items c.loop-i.i c.index-all-i.result c.loop-i.invariant.size c.requires c.loop-i-test.true
      c.index-all-i.is c.loop-i.invariant.gathered c.add_place.ensures;
}
