use Rattle.std.proofs.Common.{◌∙◌, map, get_or, ap}
use Rattle.std.proofs.lemmas.List.{take_all}
use Rattle.rdx_gen.specs.Inside.Groups.{no_group}
use Rattle.rdx_gen.specs.PlaceView.{place_of}
use Rattle.rdx_gen.proofs.GroupLaws.{groups-whole}
use Rattle.rdx_gen.proofs.groups.groups_of.Goals as goal

pub returns : goal.returns
returns c =
    c.loop-first.invariant
    ∙ ap (map (λ j. get_or c.in_ok-groups.groups.items j no_group)) (take_all c.loop-first.first-index c.deref-first-items.result.now c.loop-first-test.false ∙ c.deref-first-items.ensures.value)
    ∙ groups-whole place_of c.args.all.now c.in_ok-firsts.firsts.items c.in_ok-groups.groups.items c.in_ok-firsts.ensures c.in_ok-groups.ensures.groups
