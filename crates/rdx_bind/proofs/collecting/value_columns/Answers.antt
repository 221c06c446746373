use Rattle.std.proofs.Common.{◌≡◌, ◌+◌, ◌++◌, ℕ, List, [], ◌∷◌, drop, map, arith}
use Rattle.std.proofs.lemmas.Grind.{common_steps}
use Rattle.rdx_lang.specs.BindingView.{value_of, pairs_of}
use Rattle.rdx_lang.specs.Bindings.{many, values, Pair, Binding}
use Rattle.rdx_lang.specs.Shown.{bindings_of}
use Rattle.rdx_lang.proofs.ValueEquations.{value_many}
use Rattle.rdx_bind.specs.Inside.ValueColumns.{column, columns_from}
use Rattle.rdx_bind.proofs.ValueColumnLaws.{has_place, columns-next, one_done}
use Rattle.rdx_bind.proofs.collecting.value_columns.Goals as goal

pub values_at-requires : goal.values_at-requires
values_at-requires c b i = has_place b c.args.names.now c.loop-place.place (c.requires b i) c.loop-place-test.true

pub loop-place-preserved : goal.loop-place-preserved
loop-place-preserved c =
    let xs = c.args.names.now in
    let bs : List Binding = bindings_of c.args.list.now in
    let n : ℕ = c.loop-place.place in
    let p : Pair = (c.index-names-place.result, many (values (column n bs))) in
    let e : columns_from n (drop n xs) bs ≡ p ∷ columns_from (n + 1) (drop (n + 1) xs) bs = columns-next xs bs n c.index-names-place.result c.loop-place-test.true c.index-names-place.is in
    let f : map value_of c.in_ok-values.values.items ≡ column n bs = c.in_ok-values.ensures in
    let k = value_many c.in_ok-values.values in
    let h : pairs_of c.push.new.self.items ≡ pairs_of c.loop-place.pairs.items ++ p ∷ [] = grind (arith, common_steps, f, k) in
    one_done (pairs_of c.loop-place.pairs.items) (pairs_of c.push.new.self.items) (columns_from n (drop n xs) bs) (columns_from (n + 1) (drop (n + 1) xs) bs) (columns_from 0 xs bs) p h e c.loop-place.invariant
