use Rattle.std.proofs.Common.{◌≡◌, ◌∙◌, ◌+◌, ◌-◌, ◌<◌, ◌∷◌, ℕ, suc, length, drop, sym, ap, subst, arith}
use Rattle.std.proofs.lemmas.Grind.{common_steps}
use Rattle.std.proofs.lemmas.Map.Text.{btree_map_updates_text}
use Rattle.std.specs.BTreeMap.{get_by_text}
use Rattle.std.specs.Prelude.{Some}
use Rattle.std.specs.String.{string_bytes}
use Rattle.rdx_patterns.proofs.Rests.{drop-at}
use Rattle.rdx_lang.specs.Model.Places.{FindsPlaces}
use Rattle.rdx_lang.proofs.FirstPlaces.{places-next}
use Rattle.rdx_templates.proofs.scope.judgement_places.Goals as goal

pub loop-place-preserved : goal.loop-place-preserved
loop-place-preserved c =
    let js = c.args.judgements.now in
    let k : ℕ = c.loop-place.place in
    let i : ℕ = k - 1 in
    let j = c.index-judgements-place.result in
    let m : suc i ≡ k = omega arith in
    let n : i + 1 ≡ k = omega arith in
    let l : i < length js = grind (arith, common_steps) in
    let key = string_bytes c.in_ok-from_str.field-0 in
    let e : drop i js ≡ j ∷ drop k js = drop-at js i j l c.index-judgements-place.is ∙ ap (λ m. j ∷ drop m js) n in
    subst (λ xs. FindsPlaces (λ j. j.0) (get_by_text c.insert.new.self) i xs) (sym e)
    (places-next (λ j. j.0) i k key j (drop k js) (get_by_text c.loop-place.places) (get_by_text c.insert.new.self) m
    (c.in_ok-from_str.ensures.ok ∙ c.text.ensures.value ∙ ap (λ j. j.0) (sym c.index-judgements-place.is)) (btree_map_updates_text key c.loop-place.places c.insert.new.self (Some i) c.in_ok-insert.ensures.updates) c.loop-place.invariant)
