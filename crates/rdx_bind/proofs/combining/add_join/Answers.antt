use Rattle.std.proofs.Common.{◌≡◌, ◌++◌, [], ◌∷◌, arith}
use Rattle.std.proofs.lemmas.Grind.{common_steps}
use Rattle.rdx_lang.specs.Join.{IsJoin}
use Rattle.rdx_lang.proofs.JoinLaws.{one_join}
use Rattle.rdx_lang.specs.Shown.{binding_of, bindings_of}
use Rattle.rdx_lang.proofs.Collecting.{adds_one}
use Rattle.rdx_bind.proofs.combining.add_join.Goals as goal

pub returns-in_ok-push : goal.returns-in_ok-push
returns-in_ok-push c =
    let e : bindings_of c.push.new.self.items ≡ bindings_of c.args.found.now.items ++ binding_of c.in-Some.joined ∷ [] = grind (arith, common_steps) in
    let j : IsJoin (binding_of c.args.a.now) (binding_of c.args.b.now) (binding_of c.in-Some.joined) = rw c.in-Some.is at c.in_ok-joined.ensures.some in
    adds_one (IsJoin (binding_of c.args.a.now) (binding_of c.args.b.now)) _ _ (binding_of c.in-Some.joined) e j
    (λ y k. one_join (binding_of c.args.a.now) (binding_of c.args.b.now) y (binding_of c.in-Some.joined) k j)
