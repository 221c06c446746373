use Rattle.std.proofs.Common.{◌≡◌, ◌∙◌, ◌+◌, ◌-◌, ◌<◌, ◌∷◌, ℕ, suc, List, length, drop, sym, ap, subst, arith}
use Rattle.std.proofs.lemmas.Grind.{common_steps}
use Rattle.std.proofs.lemmas.Map.Text.{btree_map_updates_text}
use Rattle.std.specs.BTreeMap.{get_by_text}
use Rattle.std.specs.Prelude.{Some}
use Rattle.std.specs.String.{string_bytes}
use Rattle.rdx_patterns.proofs.Rests.{drop-at}
use Rattle.rdx_lang.specs.Model.Places.{FindsPlaces}
use Rattle.rdx_lang.proofs.FirstPlaces.{places-next}
use Rattle.rdx_templates.proofs.scope.places_of.Goals as goal

pub loop-place-preserved : goal.loop-place-preserved
loop-place-preserved c =
    let ns = c.args.names.now in
    let j : ℕ = c.loop-place.place in
    let i : ℕ = j - 1 in
    let n = c.index-names-place.result in
    let m : suc i ≡ j = omega arith in
    let k : i + 1 ≡ j = omega arith in
    let l : i < length ns = grind (arith, common_steps) in
    let key = string_bytes c.in_ok-from_str.field-0 in
    let e : drop i ns ≡ n ∷ drop j ns = drop-at ns i n l c.index-names-place.is ∙ ap (λ m. n ∷ drop m ns) k in
    subst (λ (xs : List (List ℕ)). FindsPlaces (λ n. n) (get_by_text c.insert.new.self) i xs) (sym e)
    (places-next (λ n. n) i j key n (drop j ns) (get_by_text c.loop-place.places) (get_by_text c.insert.new.self) m
    (c.in_ok-from_str.ensures.ok ∙ c.text.ensures.value) (btree_map_updates_text key c.loop-place.places c.insert.new.self (Some i) c.in_ok-insert.ensures.updates) c.loop-place.invariant)
