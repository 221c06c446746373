use Rattle.std.proofs.Common.{arith, ◌≡◌, ◌∙◌, ◌-◌, ◌<◌, ◌∷◌, ℕ, List, suc, Some, length, drop, drop-cons, sym, ap, subst}
use Rattle.std.proofs.lemmas.Grind.{common_steps}
use Rattle.std.proofs.lemmas.Map.Text.{btree_map_updates_str}
use Rattle.rdx_lang.specs.Model.Places.{place_in}
use Rattle.rdx_lang.proofs.FirstPlaces.{places-next}
use Rattle.rdx_answer.specs.Model.Found.{AreFoundFrom}
use Rattle.rdx_answer.proofs.FoundForms.{Named, name_of}
use Rattle.rdx_answer.proofs.bound.places_of.Goals as goal

pub loop-place-preserved : goal.loop-place-preserved
loop-place-preserved c =
    let fs : List Named = c.args.forms.now in
    let j : ℕ = c.loop-place.place in
    let i : ℕ = j - 1 in
    let k : suc i ≡ j = omega arith in
    let l : i < length fs = grind (arith, common_steps) in
    let f : Named = c.index-forms-place.result in
    let key = c.text.result.now in
    let e : drop i fs ≡ f ∷ drop j fs =
    drop-cons fs i f l ∙ ap (λ y. y ∷ drop (suc i) fs) (sym c.index-forms-place.is) ∙ ap (λ m. f ∷ drop m fs) k in
    subst (AreFoundFrom i c.insert.new.self) (sym e)
    (places-next name_of i j key f (drop j fs) (place_in c.loop-place.places) (place_in c.insert.new.self) k
    (c.text.ensures.value ∙ ap name_of (sym c.index-forms-place.is))
    (btree_map_updates_str key c.loop-place.places c.insert.new.self (Some i) c.in_ok-insert.ensures.updates) c.loop-place.invariant)
