use Rattle.std.proofs.Common.{◌≡◌, ℕ, List, [], subst, inl, inr}
use Rattle.rdx_lang.specs.Members.{In}
use Rattle.rdx_leftrec.specs.Inside.Leads.{lists_of}
use Rattle.rdx_leftrec.specs.Inside.Walks.{walk_of}
use Rattle.rdx_leftrec.specs.declared.walk.State.TheVariants.{New, Open, Done}
use Rattle.rdx_leftrec.proofs.Lists.{at-length, at_same}
use Rattle.rdx_leftrec.proofs.Walking.{state-at, has-state, new_open, new_done, walk-more}
use Rattle.rdx_leftrec.proofs.walk.Walk.explore.Goals as goal

pub enter-requires-clause-walk : goal.enter-requires-clause-walk
enter-requires-clause-walk c = walk-more (lists_of c.args.targets.now) (walk_of c.args.self.now) (λ j. j ≡ c.args.place) c.requires.walk

pub enter-requires-clause-new : goal.enter-requires-clause-new
enter-requires-clause-new c =
    state-at c.args.self.now.states.items c.args.place c.index.result.now New (has-state c.args.targets.now _ (walk_of c.args.self.now) c.args.place c.requires.walk c.requires.inside) c.index.ensures c.in-New.is

pub enter-requires-clause-from : goal.enter-requires-clause-from
enter-requires-clause-from c v t h =
    let b = c.requires.walk.bottom t (at-length c.args.self.now.opened.items t v h) in
    let i : In b.0 [] = subst (λ (bs : List ℕ). In b.0 bs) c.requires.ended b.1 in
    elim i [ ]

pub returns-in-Open : goal.returns-in-Open
returns-in-Open c =
    let l = has-state c.args.targets.now _ (walk_of c.args.self.now) c.args.place c.requires.walk c.requires.inside in
    record {
      walk = c.requires.walk;
      kept = λ v h. h;
      ended = c.requires.ended;
      met = λ h. elim c.in-Open.is [
        | inl k ↦ new_open (at_same c.args.self.now.states.items c.args.place New (Open k.0) h (state-at c.args.self.now.states.items c.args.place c.index.result.now (Open k.0) l c.index.ensures k.1))
        | inr k ↦ new_done (at_same c.args.self.now.states.items c.args.place New (Done k.0) h (state-at c.args.self.now.states.items c.args.place c.index.result.now (Done k.0) l c.index.ensures k.1))
      ];
    }
