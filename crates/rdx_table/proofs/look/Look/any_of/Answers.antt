use Rattle.std.proofs.Common.{◌≡◌, ℕ, ◌+◌, ◌<◌, nat_eq, Bool, ◌||◌, List, length, drop, sym, ◌∙◌, ap, subst, arith}
use Rattle.std.proofs.lemmas.List.{take_rest}
use Rattle.std.specs.Prelude.{not}
use Rattle.rdx_bind.specs.Spots.{Spot, spots_of}
use Rattle.rdx_bind.specs.declared.rows.Row.{Row}
use Rattle.rdx_nodes.specs.Nodes.{AreBelow}
use Rattle.rdx_table.specs.Inside.Looks.{patterns_of_look, Meets}
use Rattle.rdx_table.specs.declared.look.Look.{Look}
use Rattle.rdx_table.specs.declared.task.Goal.{Goal}
use Rattle.rdx_table.proofs.AskedForms.{below-at, below-rest}
use Rattle.rdx_table.proofs.TriedPatterns.{goal_among, AnyUpTo, any-more, spots-more, any-found, any-all}
use Rattle.rdx_table.proofs.look.Look.any_of.Goals as goal

pub row_of_first-requires-clause-goal : goal.row_of_first-requires-clause-goal
row_of_first-requires-clause-goal c =
    let n : ℕ = length (patterns_of_look c.args.self.now) in
    record { number = below-at c.args.numbers.now n c.loop-i.i c.requires.numbers (omega arith); id = c.requires.goal.id }

pub row_of_first-requires-clause-numbers : goal.row_of_first-requires-clause-numbers
row_of_first-requires-clause-numbers c =
    let n : ℕ = length (patterns_of_look c.args.self.now) in
    let rest : AreBelow (drop c.loop-i.i c.args.numbers.now) n = below-rest c.args.numbers.now n c.loop-i.i c.requires.numbers in
    subst (λ (ns : List ℕ). AreBelow ns n) (sym (take_rest c.args.numbers.now c.loop-i.i)) rest

pub returns-then-not-goal-clause-found : goal.returns-then-not-goal-clause-found
returns-then-not-goal-clause-found c =
    let l : Look = c.args.self.now in
    let g : Goal = c.args.goal in
    let ns : List ℕ = c.args.numbers.now in
    let i : ℕ = c.loop-i.i in
    let row : Row = c.in_ok-row.row in
    let any : Bool = c.loop-i.any || not c.is_empty.result in
    let m : Meets l (goal_among g ns i) row = c.in_ok-row.ensures.found in
    let e : c.is_empty.result ≡ nat_eq (length row.matches.items) 0 = c.is_empty.ensures ∙ ap (λ k. nat_eq k 0) row.matches.ok.0 in
    let u : AnyUpTo l g ns (i + 1) any = any-more l g ns i c.loop-i.any c.is_empty.result row (omega arith) m e c.loop-i.invariant.0 in
    let found : Row = record { matches = c.in_ok-matches.matches; spots = c.new-spots.result } in
    any-found l g ns (i + 1) any found c.if-not-goal.true c.if-any.true c.in_ok-matches.ensures (ap spots_of c.new-spots.ensures.items) u

pub loop-i-preserved : goal.loop-i-preserved
loop-i-preserved c =
    let l : Look = c.args.self.now in
    let g : Goal = c.args.goal in
    let ns : List ℕ = c.args.numbers.now in
    let i : ℕ = c.loop-i.i in
    let row : Row = c.in_ok-row.row in
    let m : Meets l (goal_among g ns i) row = c.in_ok-row.ensures.found in
    let e : c.is_empty.result ≡ nat_eq (length row.matches.items) 0 = c.is_empty.ensures ∙ ap (λ k. nat_eq k 0) row.matches.ok.0 in
    let old : List Spot = spots_of c.loop-i.gathered.spots.items in
    let new : List Spot = spots_of c.add.new.self.spots.items in
    let h : i < length ns = omega arith in (
      any-more l g ns i c.loop-i.any c.is_empty.result row h m e c.loop-i.invariant.0,
      spots-more l g ns i row old new h m c.in_ok-add.ensures c.loop-i.invariant.1,
    )

pub returns-clause-found : goal.returns-clause-found
returns-clause-found c =
    any-all c.args.self.now c.args.goal c.args.numbers.now c.loop-i.i c.loop-i.any c.in_ok-nameless_row.field-0
    (spots_of c.loop-i.gathered.spots.items) (omega arith)
    c.in_ok-nameless_row.ensures.matches c.in_ok-nameless_row.ensures.spots c.loop-i.invariant.0 c.loop-i.invariant.1
