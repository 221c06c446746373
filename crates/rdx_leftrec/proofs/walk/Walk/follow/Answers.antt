use Rattle.rdx_leftrec.specs.Inside.Leads.{lists_of}
use Rattle.rdx_leftrec.specs.Inside.Walks.{walk_of}
use Rattle.rdx_leftrec.specs.declared.walk.State.TheVariants.{New, Open, Done}
use Rattle.rdx_leftrec.proofs.Walking.{state-at, has-state, walk-merged, walk-done}
use Rattle.rdx_leftrec.proofs.walk.Walk.follow.Goals as goal

pub enter-requires-clause-new : goal.enter-requires-clause-new
enter-requires-clause-new c =
    state-at c.args.self.now.states.items c.args.place c.index.result.now New (has-state c.args.targets.now _ (walk_of c.args.self.now) c.args.place c.requires.walk c.requires.inside) c.index.ensures c.in-New.is

pub returns-in-Open-clause-walk : goal.returns-in-Open-clause-walk
returns-in-Open-clause-walk c =
    let a = state-at c.args.self.now.states.items c.args.place c.index.result.now (Open c.in-Open.position)
    (has-state c.args.targets.now _ (walk_of c.args.self.now) c.args.place c.requires.walk c.requires.inside) c.index.ensures c.in-Open.is in
    walk-merged (lists_of c.args.targets.now) (walk_of c.args.self.now) c.args.place c.requires.walk c.in-Open.position a c.requires.from c.drop_above.new.bounds.items c.drop_above.ensures.sorted c.drop_above.ensures.members

pub returns-in-Done-clause-walk : goal.returns-in-Done-clause-walk
returns-in-Done-clause-walk c =
    let a = state-at c.args.self.now.states.items c.args.place c.index.result.now (Done c.in-Done.field-0)
    (has-state c.args.targets.now _ (walk_of c.args.self.now) c.args.place c.requires.walk c.requires.inside) c.index.ensures c.in-Done.is in
    walk-done (lists_of c.args.targets.now) (walk_of c.args.self.now) c.args.place c.in-Done.field-0 c.requires.walk a
