use Rattle.std.proofs.Common.{◌≡◌, ◌++◌, List, [], ◌∷◌, length, ap, arith}
use Rattle.std.proofs.lemmas.Grind.{common_steps}
use Rattle.std.proofs.lemmas.List.{nil_from_length}
use Rattle.rdx_lang.specs.Bindings.{Binding}
use Rattle.rdx_lang.specs.Collecting.{Arises}
use Rattle.rdx_lang.specs.Shown.{bindings_of}
use Rattle.rdx_lang.proofs.Collecting.{collects-end}
use Rattle.rdx_bind.specs.Choices.{IsLonger}
use Rattle.rdx_bind.specs.Combining.{rows_of}
use Rattle.rdx_bind.proofs.Gathering.{collects-last, exactly_added}
use Rattle.rdx_bind.proofs.choices.with_one_of.Goals as goal

pub loop-list-preserved : goal.loop-list-preserved
loop-list-preserved c =
    let nothing : List (List Binding) = [] in
    let list : List Binding = bindings_of c.in-Some.list.items in
    let e : rows_of c.loop-list.rest.items ≡ rows_of c.pop.new.self.items ++ list ∷ [] = grind (arith, common_steps) in
    collects-last (IsLonger (bindings_of c.args.row.now)) (rows_of c.args.lists.items) nothing list (rows_of c.loop-list.rest.items) (rows_of c.pop.new.self.items) _ _ e c.loop-list.invariant c.in_ok-add_longer.ensures

pub returns : goal.returns
returns c =
    let nothing : List (List Binding) = [] in
    let step = IsLonger (bindings_of c.args.row.now) in
    let all : List (List Binding) = rows_of c.args.lists.items in
    let n : length c.loop-list.rest.items ≡ 0 = grind (arith, common_steps) in
    let e : rows_of c.loop-list.rest.items ≡ [] = ap rows_of (nil_from_length c.loop-list.rest.items n) in
    exactly_added (Arises step all) (collects-end step all (rows_of c.loop-list.rest.items) nothing _ e c.loop-list.invariant)
