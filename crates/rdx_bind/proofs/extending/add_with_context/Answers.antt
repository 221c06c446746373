use Rattle.std.proofs.Common.{◌≡◌, ◌++◌, [], ◌∷◌, refl, ◌∙◌, ap, subst, arith}
use Rattle.std.proofs.lemmas.Grind.{common_steps}
use Rattle.rdx_lang.proofs.Collecting.{adds_one}
use Rattle.rdx_lang.specs.Bindings.{Binding}
use Rattle.rdx_lang.specs.Join.{IsJoin}
use Rattle.rdx_lang.specs.Shown.{binding_of}
use Rattle.rdx_term.specs.AtPaths.{context_at}
use Rattle.rdx_term.specs.Tree.{Tree}
use Rattle.rdx_bind.proofs.Extended.{one_named}
use Rattle.rdx_bind.specs.Namings.{Naming, naming_of, alone}
use Rattle.rdx_bind.specs.Spots.{Spot, spot_of, spots_of}
use Rattle.rdx_bind.specs.Splitting.{NamesContext}
use Rattle.rdx_bind.proofs.extending.add_with_context.Goals as goal

pub returns-in_ok-push : goal.returns-in_ok-push
returns-in_ok-push c t f =
    let n : Naming = naming_of c.args.name in
    let s : Spot = spot_of c.args.spot in
    let u : Spot = record { path = s.path; binding = binding_of c.in-Some.binding } in
    let e : spots_of c.push.new.self.items ≡ spots_of c.args.found.now.items ++ u ∷ [] = grind (arith, common_steps) in
    let named : binding_of c.in_ok-named.named ≡ alone n (context_at t s.path) = c.in_ok-named.ensures ∙ ap (λ (w : Tree). alone n w) f in
    let j : IsJoin s.binding (binding_of c.in_ok-named.named) u.binding = rw c.in-Some.is at c.in_ok-binding.ensures.some in
    let named_so : NamesContext n t s u = record { same = refl; joined = subst (λ (b : Binding). IsJoin s.binding b u.binding) named j } in
    adds_one (NamesContext n t s) (spots_of c.args.found.now.items) (spots_of c.push.new.self.items) u e named_so (λ y m. one_named n t s u y named_so m)
