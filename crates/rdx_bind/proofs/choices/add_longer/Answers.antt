use Rattle.std.proofs.Common.{◌≡◌, ◌++◌, List, [], ◌∷◌, sym, subst, arith}
use Rattle.std.proofs.lemmas.Grind.{common_steps}
use Rattle.rdx_lang.specs.Bindings.{Binding}
use Rattle.rdx_lang.specs.Collecting.{Adds}
use Rattle.rdx_lang.specs.Shown.{binding_of, bindings_of}
use Rattle.rdx_bind.specs.Choices.{IsLonger}
use Rattle.rdx_bind.specs.Combining.{rows_of}
use Rattle.rdx_bind.proofs.ChoiceLaws.{adds_longer}
use Rattle.rdx_bind.proofs.choices.add_longer.Goals as goal

pub returns : goal.returns
returns c =
    let first : Binding = binding_of c.in-Some.first.now in
    let others : List Binding = bindings_of c.in-Some.others.now in
    let cs : List Binding = bindings_of c.args.list.items in
    let e : bindings_of c.args.row.now ≡ first ∷ others = grind (arith, common_steps, c.in-Some.ensures.cases) in
    let f : rows_of c.push-2.new.self.items ≡ rows_of c.add_copies.new.found.items ++ (cs ++ first ∷ []) ∷ [] =
    grind (arith, common_steps) in
    let a : Adds (IsLonger others cs) (rows_of c.args.found.now.items) (rows_of c.add_copies.new.found.items) =
    rw c.deref.ensures.value at c.in_ok-add_copies.ensures in
    subst (λ (row : List Binding). Adds (IsLonger row cs) (rows_of c.args.found.now.items) (rows_of c.push-2.new.self.items)) (sym e) (adds_longer first others cs _ _ _ a f)
