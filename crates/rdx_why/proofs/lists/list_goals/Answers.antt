use Rattle.std.proofs.Common.{◌∙◌, map, refl, ap}
use Rattle.std.proofs.lemmas.List.{map-append, nil_from_length}
use Rattle.rdx_lang.specs.PatternView.{slot_of}
use Rattle.rdx_lang.specs.Shown.{binding_of}
use Rattle.rdx_deriv.specs.DerivationView.{goal_of}
use Rattle.rdx_why.proofs.LaidGoals.{going_at, going_room, going_on, going_end}
use Rattle.rdx_why.proofs.lists.list_goals.Goals as goal

pub take_item-requires-clause-room : goal.take_item-requires-clause-room
take_item-requires-clause-room c =
    going_room (slot_of c.in-Some.item.now) (slot_of c.in-Some-split_first.first.now) (map slot_of c.in-Some.behind_item.now)
    (map slot_of c.in-Some-split_first.behind_first.now)
    (going_at (ap (map slot_of) c.in-Some.ensures.cases.0) (ap (map slot_of) c.in-Some-split_first.ensures.cases.0) c.loop-item.invariant)

pub loop-item-preserved : goal.loop-item-preserved
loop-item-preserved c =
    going_on (map slot_of c.in-Some.behind_item.now) (map slot_of c.in-Some-split_first.behind_first.now)
    (going_at (ap (map slot_of) c.in-Some.ensures.cases.0) (ap (map slot_of) c.in-Some-split_first.ensures.cases.0) c.loop-item.invariant)
    c.in_ok-taken.ensures
    (ap (map goal_of) c.in_ok-append.ensures.items ∙ map-append goal_of c.loop-item.goals.items c.in_ok-taken.taken.goals.items)

pub returns-clause-uses : goal.returns-clause-uses
returns-clause-uses c =
    (going_end (binding_of c.args.b.now) c.requires.stands
    (going_at (ap (map slot_of) (nil_from_length c.loop-item.others.now c.in_default.ensures.cases)) refl c.loop-item.invariant)).0

pub returns-clause-follow : goal.returns-clause-follow
returns-clause-follow c =
    (going_end (binding_of c.args.b.now) c.requires.stands
    (going_at (ap (map slot_of) (nil_from_length c.loop-item.others.now c.in_default.ensures.cases)) refl c.loop-item.invariant)).1
