use Rattle.std.proofs.Common.{◌≡◌, ◌+◌, ◌-◌, ◌<◌, ◌∷◌, ℕ, List, length, drop, map, sym, ◌∙◌, ap, arith}
use Rattle.std.proofs.lemmas.Grind.{common_steps}
use Rattle.rdx_lang.proofs.Rest.{rest_at}
use Rattle.rdx_lang.specs.Patterns.{Definition}
use Rattle.rdx_lang.specs.PatternView.{definition_of}
use Rattle.rdx_lang.specs.declared.pattern.Ref.{Ref}
use Rattle.rdx_leftrec.specs.Inside.Index.{found_in}
use Rattle.rdx_leftrec.specs.Inside.Leads.{place}
use Rattle.rdx_leftrec.proofs.IndexPlaces.{place-first}
use Rattle.rdx_leftrec.proofs.nonterminals.Nonterminals.new.Goals as goal

pub loop-place-preserved : goal.loop-place-preserved
loop-place-preserved c = λ x.
    let nts = c.args.language.now.nts.items in
    let i : ℕ = c.loop-place.place - 1 in
    let k : i + 1 ≡ c.loop-place.place = omega arith in
    let rest : List Ref = map (λ (d : Definition). d.0) (map definition_of (drop c.loop-place.place nts)) in
    let l : i < length nts = grind (arith, common_steps) in
    let e : map (λ (d : Definition). d.0) (map definition_of (drop i nts)) ≡ c.index.result.now.0 ∷ rest =
    ap (map (λ (d : Definition). d.0)) (rest_at definition_of nts i c.index.result.now l c.index.ensures)
    ∙ ap (λ n. c.index.result.now.0 ∷ map (λ (d : Definition). d.0) (map definition_of (drop n nts))) k in
    place-first i (length nts) x c.index.result.now.0 rest (found_in c.insert.new.self.texts c.insert.new.self.pairs x) (found_in c.loop-place.index.texts c.loop-place.index.pairs x)
    (c.in_ok-insert.ensures x) (c.loop-place.invariant x ∙ omega arith)
    ∙ ap (λ (ys : List Ref). i + place x ys) (sym e)
