use Rattle.std.proofs.Common.{◌≡◌, ◌+◌, ◌++◌, List, [], ◌∷◌, drop, map, sym, ◌∙◌, ap, arith}
use Rattle.std.proofs.lemmas.Grind.{common_steps}
use Rattle.rdx_lang.specs.BindingView.{value_of}
use Rattle.rdx_lang.specs.Bindings.{Value, Binding}
use Rattle.rdx_lang.specs.Shown.{binding_of, bindings_of}
use Rattle.rdx_lang.proofs.Rest.{rest_at}
use Rattle.rdx_bind.specs.Inside.ValueColumns.{column, pair_at}
use Rattle.rdx_bind.proofs.ValueColumnLaws.{in_images, one_done}
use Rattle.rdx_bind.proofs.collecting.values_at.Goals as goal

pub value_at-requires : goal.value_at-requires
value_at-requires c =
    c.requires (binding_of c.binding-item.result) (in_images binding_of c.args.list.now c.loop-binding.binding-index c.binding-item.result c.loop-binding-test.true c.binding-item.is)

pub loop-binding-preserved : goal.loop-binding-preserved
loop-binding-preserved c =
    let xs = c.args.list.now in
    let n = c.args.place in
    let b : Binding = binding_of c.binding-item.result in
    let v : Value = value_of c.in_ok-value.value in
    let done : List Value = map value_of c.loop-binding.values.items in
    let more : List Binding = bindings_of (drop (c.loop-binding.binding-index + 1) xs) in
    let e : bindings_of (drop c.loop-binding.binding-index xs) ≡ b ∷ more =
    rest_at binding_of xs c.loop-binding.binding-index c.binding-item.result c.loop-binding-test.true c.binding-item.is in
    let f : v ≡ (pair_at n b.pairs).1 = c.in_ok-value.ensures ∙ c.value_at.ensures in
    let g : column n (bindings_of (drop c.loop-binding.binding-index xs)) ≡ v ∷ column n more =
    ap (column n) e ∙ ap (λ (w : Value). w ∷ column n more) (sym f) in
    let h : map value_of c.push.new.self.items ≡ done ++ v ∷ [] = grind (arith, common_steps) in
    one_done done (map value_of c.push.new.self.items) (column n (bindings_of (drop c.loop-binding.binding-index xs))) (column n more) (column n (bindings_of xs)) v h g c.loop-binding.invariant
