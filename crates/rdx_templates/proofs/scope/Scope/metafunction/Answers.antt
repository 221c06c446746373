use Rattle.std.proofs.Common.{◌≡◌, ◌∙◌, ◌<◌, Some, None, length, sym, ap, arith}
use Rattle.std.proofs.lemmas.Grind.{common_steps}
use Rattle.std.specs.Cmp.Lexicographic.{bytes_decides}
use Rattle.std.specs.Prelude.{ℕ, List, is_some, option_map}
use Rattle.rdx_lang.specs.Model.Places.{place_from}
use Rattle.rdx_lang.proofs.FirstPlaces.{place-named, place-some, place-within}
use Rattle.rdx_templates.proofs.scope.Scope.metafunction.Goals as goal

pub index-requires : goal.index-requires
index-requires c =
    let x = c.args.text.now in
    let ns = c.args.self.now.metafunctions.items in
    let p = c.in-Some.place.now in
    let at : place_from (λ (n : List ℕ). n) 0 x ns ≡ Some p =
    sym (c.args.self.now.finds_functions x) ∙ sym c.get.ensures.value ∙ ap (option_map (λ p. p.now)) c.in-Some.is in
    let h : p < length ns = place-within (λ n. n) 0 p p x ns at (omega arith) in
    grind (arith, common_steps)

pub returns-in-Some-clause-some : goal.returns-in-Some-clause-some
returns-in-Some-clause-some c =
    let x = c.args.text.now in
    let ns = c.args.self.now.metafunctions.items in
    let p = c.in-Some.place.now in
    let at : place_from (λ (n : List ℕ). n) 0 x ns ≡ Some p =
    sym (c.args.self.now.finds_functions x) ∙ sym c.get.ensures.value ∙ ap (option_map (λ p. p.now)) c.in-Some.is in
    ap is_some (sym at) ∙ place-some (λ n. n) 0 x ns

pub returns-in-Some-clause-name : goal.returns-in-Some-clause-name
returns-in-Some-clause-name c =
    let x = c.args.text.now in
    let ns = c.args.self.now.metafunctions.items in
    let p = c.in-Some.place.now in
    let n = c.index.result.now in
    let at : place_from (λ (n : List ℕ). n) 0 x ns ≡ Some p =
    sym (c.args.self.now.finds_functions x) ∙ sym c.get.ensures.value ∙ ap (option_map (λ p. p.now)) c.in-Some.is in
    (bytes_decides n x).0 (place-named (λ n. n) 0 p p x ns n at (omega arith) c.index.ensures)

pub returns-in-None-clause-some : goal.returns-in-None-clause-some
returns-in-None-clause-some c =
    let x = c.args.text.now in
    let ns = c.args.self.now.metafunctions.items in
    let at : place_from (λ (n : List ℕ). n) 0 x ns ≡ None =
    sym (c.args.self.now.finds_functions x) ∙ sym c.get.ensures.value ∙ ap (option_map (λ p. p.now)) c.in-None.is in
    ap is_some (sym at) ∙ place-some (λ n. n) 0 x ns
