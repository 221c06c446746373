use Rattle.std.proofs.Common.{◌≡◌, ◌∙◌, ◌+◌, ◌-◌, ◌<◌, ◌∷◌, ℕ, suc, List, length, drop, sym, ap, subst, arith}
use Rattle.std.proofs.lemmas.Grind.{common_steps}
use Rattle.std.proofs.lemmas.Map.Text.{btree_map_updates_str}
use Rattle.std.specs.Prelude.{Some}
use Rattle.rdx_lang.specs.Model.Places.{place_in}
use Rattle.rdx_lang.proofs.FirstPlaces.{places-next}
use Rattle.rdx_lang.proofs.Rest.{rest_at}
use Rattle.rdx_patterns.specs.Parts.{text_of}
use Rattle.rdx_relations.specs.Inside.Arrows.{FindsPlaces}
use Rattle.rdx_relations.specs.Inside.ShortcutViews.{shortcut_of, shortcuts_in}
use Rattle.rdx_relations.specs.Shorthand.{Shortcut}
use Rattle.rdx_relations.proofs.shorthand.arrows.Arrows.new.Goals as goal

pub loop-place-preserved : goal.loop-place-preserved
loop-place-preserved c =
    let ss = c.args.shortcuts.items in
    let j : ℕ = c.loop-place.place in
    let i : ℕ = j - 1 in
    let n : suc i ≡ j = omega arith in
    let k : i + 1 ≡ j = omega arith in
    let l : i < length ss = grind (arith, common_steps) in
    let e : shortcuts_in (drop i ss) ≡ shortcut_of c.index.result.now ∷ shortcuts_in (drop j ss) =
    rest_at shortcut_of ss i c.index.result.now l c.index.ensures
    ∙ ap (λ m. shortcut_of c.index.result.now ∷ shortcuts_in (drop m ss)) k in
    subst (λ (zs : List Shortcut). FindsPlaces c.insert.new.self i zs) (sym e)
    (places-next (λ (s : Shortcut). text_of s.new) i j c.text.result.now (shortcut_of c.index.result.now) (shortcuts_in (drop j ss)) (place_in c.loop-place.places) (place_in c.insert.new.self) n
    c.text.ensures (btree_map_updates_str c.text.result.now c.loop-place.places c.insert.new.self (Some i) c.in_ok-insert.ensures.updates) c.loop-place.invariant)
