use Rattle.std.proofs.Common.{◌≡◌, ◌++◌, [], ◌∷◌, arith}
use Rattle.std.proofs.lemmas.Grind.{common_steps}
use Rattle.rdx_lang.specs.Bindings.{Binding}
use Rattle.rdx_lang.specs.Shown.{binding_of, bindings_of}
use Rattle.rdx_lang.proofs.Collecting.{adds_one}
use Rattle.rdx_bind.specs.Choices.{IsCounted, length_name}
use Rattle.rdx_bind.proofs.Repeating.{one_counted, adds_nothing}
use Rattle.rdx_bind.proofs.repetition.add_counted.Goals as goal

pub returns-in_ok-push : goal.returns-in_ok-push
returns-in_ok-push c =
    let e : bindings_of c.push.new.self.items ≡ bindings_of c.args.found.now.items ++ binding_of c.in-Some.counted ∷ [] =
    grind (arith, common_steps) in
    let j : IsCounted (binding_of c.args.collected) c.args.turns (length_name c.args.name) (binding_of c.in-Some.counted) =
    rw c.in-Some.is at c.in_ok-counted.ensures.some in
    adds_one (IsCounted (binding_of c.args.collected) c.args.turns (length_name c.args.name)) _ _ (binding_of c.in-Some.counted) e j (λ y k. one_counted j k)

pub returns-in_default : goal.returns-in_default
returns-in_default c =
    let f : (b : Binding) → ¬ IsCounted (binding_of c.args.collected) c.args.turns (length_name c.args.name) b =
    rw c.in_default.is at c.in_ok-counted.ensures.none in
    adds_nothing (IsCounted (binding_of c.args.collected) c.args.turns (length_name c.args.name)) (bindings_of c.args.found.now.items) f
