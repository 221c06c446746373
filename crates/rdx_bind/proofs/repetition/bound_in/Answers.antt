use Rattle.std.proofs.Common.{◌≡◌, ◌+◌, ℕ, List, [], ◌∷◌, Vec, drop, sym, arith}
use Rattle.std.specs.declared.alloc.Global.{Global}
use Rattle.rdx_lang.specs.Bindings.{Binding}
use Rattle.rdx_lang.specs.Collections.{IsRepetition}
use Rattle.rdx_lang.specs.Collecting.{Adds, Arises}
use Rattle.rdx_lang.specs.Members.{In, here}
use Rattle.rdx_lang.specs.Shown.{bindings_of}
use Rattle.rdx_lang.specs.declared.binding.Binding as code
use Rattle.rdx_lang.proofs.Rest.{rest_at, rest_none}
use Rattle.rdx_lang.proofs.Collecting.{In_along, collects-next, collects-end}
use Rattle.rdx_bind.specs.Choices.{length_name}
use Rattle.rdx_bind.specs.Combining.{rows_of}
use Rattle.rdx_bind.proofs.Gathering.{exactly_added}
use Rattle.rdx_bind.proofs.repetition.bound_in.Goals as goal

pub add_bound-requires-clause-bound : goal.add_bound-requires-clause-bound
add_bound-requires-clause-bound c b i =
    let xs = c.args.lists.now in
    let k : ℕ = c.loop-turns.turns-index in
    let turns : List Binding = bindings_of c.turns-item.result.items in
    let e : rows_of (drop k xs) ≡ turns ∷ rows_of (drop (k + 1) xs) =
    rest_at (λ (ts : Vec code.Binding Global). bindings_of ts.items) xs k c.turns-item.result c.loop-turns-test.true c.turns-item.is in
    let j : In b turns = rw c.deref.ensures.value at i in
    c.requires.bound turns b (c.loop-turns.invariant.part turns (In_along (turns ∷ rows_of (drop (k + 1) xs)) (rows_of (drop k xs)) (sym e) (here (λ n. turns)))) j

pub loop-turns-preserved : goal.loop-turns-preserved
loop-turns-preserved c =
    let nothing : List Binding = [] in
    let xs = c.args.lists.now in
    let k : ℕ = c.loop-turns.turns-index in
    let turns : List Binding = bindings_of c.turns-item.result.items in
    let step : List Binding → Binding → Type 0 =
    λ cs. IsRepetition c.args.repetition.names.now cs (length_name c.args.repetition.length) in
    let e : rows_of (drop k xs) ≡ turns ∷ rows_of (drop (k + 1) xs) =
    rest_at (λ (ts : Vec code.Binding Global). bindings_of ts.items) xs k c.turns-item.result c.loop-turns-test.true c.turns-item.is in
    let a : Adds (step turns) (bindings_of c.loop-turns.found.items) (bindings_of c.add_bound.new.found.items) =
    rw c.deref.ensures.value at c.in_ok-add_bound.ensures in
    collects-next step (rows_of xs) nothing turns _ _ _ _ e c.loop-turns.invariant a

pub returns : goal.returns
returns c =
    let nothing : List Binding = [] in
    let xs = c.args.lists.now in
    let k : ℕ = c.loop-turns.turns-index in
    let step : List Binding → Binding → Type 0 =
    λ cs. IsRepetition c.args.repetition.names.now cs (length_name c.args.repetition.length) in
    exactly_added (Arises step (rows_of xs))
    (collects-end step (rows_of xs) (rows_of (drop k xs)) nothing _ (rest_none (λ (ts : Vec code.Binding Global). bindings_of ts.items) xs k (omega arith)) c.loop-turns.invariant)
