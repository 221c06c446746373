use Rattle.std.proofs.Common.{◌≡◌, ◌+◌, ◌-◌, ◌<◌, ◌∷◌, ℕ, List, length, drop, map, sym, ◌∙◌, ap, arith}
use Rattle.std.proofs.lemmas.Grind.{common_steps}
use Rattle.std.proofs.lemmas.Map.Text.{hash_map_updates_str}
use Rattle.std.specs.HashMap.{get_by}
use Rattle.std.specs.Prelude.{bytes_eq}
use Rattle.rdx_lang.proofs.Rest.{rest_at}
use Rattle.rdx_gen.specs.Inside.Groups.{first_place}
use Rattle.rdx_gen.specs.NameRules.{Place}
use Rattle.rdx_gen.specs.PlaceView.{place_of}
use Rattle.rdx_gen.proofs.GroupLaws.{number-first}
use Rattle.rdx_gen.proofs.groups.index_of.Goals as goal

pub loop-number-preserved : goal.loop-number-preserved
loop-number-preserved c x =
    let ps = c.args.all.now in
    let i : ℕ = c.loop-number.number - 1 in
    let k : i + 1 ≡ c.loop-number.number = omega arith in
    let l : i < length ps = grind (arith, common_steps) in
    let p = c.index-all-number.result in
    let rest : List Place = map place_of (drop c.loop-number.number ps) in
    let e : map place_of (drop i ps) ≡ place_of p ∷ rest = rest_at place_of ps i p l c.index-all-number.is ∙ ap (λ n. place_of p ∷ map place_of (drop n ps)) k in
    number-first i (length ps) x c.text.result.now (place_of p) rest (get_by (λ k. bytes_eq x k.now) c.insert.new.self) (get_by (λ k. bytes_eq x k.now) c.loop-number.index)
    (c.text.ensures.value ∙ ap (λ q. q.name.now) (sym c.index-all-number.is)) (hash_map_updates_str c.text.result.now c.loop-number.index c.insert.new.self _ c.in_ok-insert.ensures.updates x) (c.loop-number.invariant x ∙ omega arith)
    ∙ ap (λ (us : List Place). i + first_place x us) (sym e)
