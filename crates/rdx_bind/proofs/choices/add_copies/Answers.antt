use Rattle.std.proofs.Common.{◌≡◌, ◌+◌, ◌++◌, List, [], ◌∷◌, drop, refl, arith}
use Rattle.std.proofs.lemmas.Grind.{common_steps}
use Rattle.rdx_lang.specs.Bindings.{Binding}
use Rattle.rdx_lang.specs.Collecting.{Adds}
use Rattle.rdx_lang.specs.Shown.{binding_of, bindings_of}
use Rattle.rdx_lang.proofs.Rest.{rest_at, rest_none}
use Rattle.rdx_lang.proofs.Collecting.{collects-next, collects-end, adds_one}
use Rattle.rdx_bind.specs.Choices.{IsWith}
use Rattle.rdx_bind.specs.Combining.{rows_of}
use Rattle.rdx_bind.proofs.choices.add_copies.Goals as goal

pub loop-last-preserved : goal.loop-last-preserved
loop-last-preserved c =
    let xs = c.args.row.now in
    let cs : List Binding = bindings_of c.args.list.now in
    let last : Binding = binding_of c.last-item.result in
    let e : bindings_of (drop c.loop-last.last-index xs) ≡ last ∷ bindings_of (drop (c.loop-last.last-index + 1) xs) =
    rest_at binding_of xs c.loop-last.last-index c.last-item.result c.loop-last-test.true c.last-item.is in
    let f : rows_of c.push.new.self.items ≡ rows_of c.loop-last.found.items ++ (cs ++ last ∷ []) ∷ [] = grind (arith, common_steps) in
    let a : Adds (IsWith cs last) (rows_of c.loop-last.found.items) (rows_of c.push.new.self.items) =
    adds_one (IsWith cs last) _ _ (cs ++ last ∷ []) f refl (λ y h. h) in
    collects-next (IsWith cs) (bindings_of xs) (rows_of c.args.found.now.items) last _ _ _ _ e c.loop-last.invariant a

pub returns : goal.returns
returns c =
    let xs = c.args.row.now in
    collects-end (IsWith (bindings_of c.args.list.now)) (bindings_of xs) (bindings_of (drop c.loop-last.last-index xs)) _ _ (rest_none binding_of xs c.loop-last.last-index (omega arith)) c.loop-last.invariant
