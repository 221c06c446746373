use Rattle.std.proofs.Common.{◌≡◌, ◌+◌, ◌++◌, ◌≤◌, List, [], ◌∷◌, length, drop, arith}
use Rattle.std.proofs.lemmas.Grind.{common_steps}
use Rattle.rdx_lang.specs.Bindings.{Binding}
use Rattle.rdx_lang.specs.Shown.{binding_of, bindings_of}
use Rattle.rdx_bind.specs.Combining.{JoinsWith}
use Rattle.rdx_lang.proofs.Rest.{rest_at, rest_none}
use Rattle.rdx_lang.proofs.Collecting.{collects-next, collects-end}
use Rattle.rdx_bind.proofs.Gathering.{adds_exactly}
use Rattle.rdx_bind.proofs.TurnRows.{joined_unit, adds_members}
use Rattle.rdx_bind.proofs.AcrossRows.{bindings_are_maps}
use Rattle.rdx_bind.proofs.combining.add_all.Goals as goal

pub returns-then-is_no_names_alone : goal.returns-then-is_no_names_alone
returns-then-is_no_names_alone c =
    let firsts : List Binding = bindings_of c.args.firsts.items in
    let others : List Binding = bindings_of c.args.others.now in
    let old : List Binding = bindings_of c.args.found.now.items in
    let new : List Binding = bindings_of c.append.new.self.items in
    let e : new ≡ old ++ firsts = grind (arith, common_steps) in
    adds_exactly firsts old new (joined_unit firsts others (c.is_no_names_alone.ensures.0 cc) (bindings_are_maps c.args.firsts.items)) (adds_members old firsts new e)

pub loop-first-preserved : goal.loop-first-preserved
loop-first-preserved c =
    let xs = c.args.firsts.items in
    let e : bindings_of (drop c.loop-first.first-index xs) ≡ binding_of c.first-item.result ∷ bindings_of (drop (c.loop-first.first-index + 1) xs) =
    rest_at binding_of xs c.loop-first.first-index c.first-item.result (rw c.deref-first-items.ensures.value at c.loop-first-test.true) (rw c.deref-first-items.ensures.value at c.first-item.is) in
    collects-next (JoinsWith (bindings_of c.args.others.now)) (bindings_of xs) (bindings_of c.args.found.now.items) (binding_of c.first-item.result) _ _ _ _ e c.loop-first.invariant c.in_ok-add_joins.ensures

pub returns : goal.returns
returns c =
    let xs = c.args.firsts.items in
    let n : length c.deref-first-items.result.now ≤ c.loop-first.first-index = omega arith in
    let e : bindings_of (drop c.loop-first.first-index xs) ≡ [] =
    rest_none binding_of xs c.loop-first.first-index (rw c.deref-first-items.ensures.value at n) in
    collects-end (JoinsWith (bindings_of c.args.others.now)) (bindings_of xs) (bindings_of (drop c.loop-first.first-index xs)) (bindings_of c.args.found.now.items) _ e c.loop-first.invariant
