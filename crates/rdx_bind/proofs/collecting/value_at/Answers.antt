use Rattle.std.proofs.Common.{◌≡◌, ◌<◌, ℕ, List, length, subst, sym, ◌∙◌, ap, rules}
use Rattle.std.proofs.lemmas.List.{length-map}
use Rattle.rdx_lang.specs.BindingView.{pair_of, pairs_of}
use Rattle.rdx_lang.specs.Bindings.{Pair}
use Rattle.rdx_lang.specs.Shown.{binding_of}
use Rattle.rdx_bind.specs.Inside.ValueColumns.{pair_at}
use Rattle.rdx_bind.proofs.ValueColumnLaws.{pair_read}
use Rattle.rdx_bind.proofs.collecting.value_at.Goals as goal

pub bounds-pairs-place : goal.bounds-pairs-place
bounds-pairs-place c =
    let e : length (binding_of c.args.binding.now).pairs ≡ length c.pairs-pairs.result.now = ap length (sym c.pairs-pairs.ensures.value) ∙ length-map c.pairs-pairs.result.now pair_of in
    subst (λ (n : ℕ). c.args.place < n) e c.requires

pub offset_bounds-pairs-place : goal.offset_bounds-pairs-place
offset_bounds-pairs-place c =
    let e : length (binding_of c.args.binding.now).pairs ≡ length c.pairs-pairs.result.now = ap length (sym c.pairs-pairs.ensures.value) ∙ length-map c.pairs-pairs.result.now pair_of in
    let k : c.args.place < length c.pairs-pairs.result.now = subst (λ (n : ℕ). c.args.place < n) e c.requires in
    search rules

pub returns : goal.returns
returns c =
    let e : length (binding_of c.args.binding.now).pairs ≡ length c.pairs-pairs.result.now = ap length (sym c.pairs-pairs.ensures.value) ∙ length-map c.pairs-pairs.result.now pair_of in
    let k : c.args.place < length c.pairs-pairs.result.now = subst (λ (n : ℕ). c.args.place < n) e c.requires in
    let f : pair_at c.args.place (pairs_of c.pairs-pairs.result.now) ≡ pair_of c.index-pairs-place.result = pair_read pair_of c.pairs-pairs.result.now c.args.place c.index-pairs-place.result k c.index-pairs-place.is in
    let g : pair_at c.args.place (binding_of c.args.binding.now).pairs ≡ pair_of c.index-pairs-place.result = ap (λ (ps : List Pair). pair_at c.args.place ps) (sym c.pairs-pairs.ensures.value) ∙ f in
    ap (λ p. (pair_of p).1) (sym c.index-pairs-place.is) ∙ ap (λ (p : Pair). p.1) (sym g)
