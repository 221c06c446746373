use Rattle.std.proofs.Common.{◌≡◌, ◌+◌, ◌-◌, ◌<◌, ◌∷◌, ℕ, List, length, drop, get_or, map, sym, ◌∙◌, ap, arith}
use Rattle.std.proofs.lemmas.Grind.{common_steps}
use Rattle.rdx_lang.proofs.Rest.{rest_at}
use Rattle.rdx_lang.specs.Patterns.{Definition}
use Rattle.rdx_lang.specs.PatternView.{definition_of}
use Rattle.rdx_lang.specs.declared.pattern.Ref.{Ref}
use Rattle.rdx_gen.specs.Inside.Index.{found_in}
use Rattle.rdx_gen.specs.Inside.Places.{place}
use Rattle.rdx_gen.proofs.IndexPlaces.{place-first}
use Rattle.rdx_gen.proofs.nonterminals.index_of.Goals as goal

pub loop-place-preserved : goal.loop-place-preserved
loop-place-preserved c = λ x.
    let ds = c.args.definitions.now in
    let i : ℕ = c.loop-place.place - 1 in
    let k : i + 1 ≡ c.loop-place.place = omega arith in
    let rest : List Ref = map (λ (d : Definition). d.0) (map definition_of (drop c.loop-place.place ds)) in
    let l : i < length ds = grind (arith, common_steps) in
    let r = c.index-definitions-place.result in
    let y : Ref = (get_or ds i r).0 in
    let e : map (λ (d : Definition). d.0) (map definition_of (drop i ds)) ≡ y ∷ rest =
    ap (map (λ (d : Definition). d.0)) (rest_at definition_of ds i r l c.index-definitions-place.is)
    ∙ ap (λ n. r.0 ∷ map (λ (d : Definition). d.0) (map definition_of (drop n ds))) k
    ∙ ap (λ q. q.0 ∷ rest) c.index-definitions-place.is in
    place-first i (length ds) x y rest (found_in c.insert.new.self.texts c.insert.new.self.pairs x) (found_in c.loop-place.index.texts c.loop-place.index.pairs x)
    (c.in_ok-insert.ensures x) (c.loop-place.invariant x ∙ omega arith)
    ∙ ap (λ (ys : List Ref). i + place x ys) (sym e)
