use Rattle.std.proofs.Common.{◌≡◌, ◌∙◌, ◌<◌, Some, None, length, map, refl, sym, ap, arith}
use Rattle.std.proofs.lemmas.Grind.{common_steps}
use Rattle.std.specs.Cmp.Lexicographic.{bytes_decides}
use Rattle.std.specs.Prelude.{option_map}
use Rattle.rdx_lang.specs.Model.Places.{place_from}
use Rattle.rdx_lang.proofs.FirstPlaces.{none-stands, place-named, stands-at}
use Rattle.rdx_templates.specs.Scope.{mode_among}
use Rattle.rdx_templates.proofs.scope.Scope.judgement.Goals as goal

pub index-requires : goal.index-requires
index-requires c =
    let x = c.args.text.now in
    let js = c.args.self.now.judgements.items in
    let p = c.in-Some.place.now in
    let at : place_from (λ j. j.0) 0 x js ≡ Some p =
    sym (c.args.self.now.finds_judgements x) ∙ sym c.get.ensures.value ∙ ap (option_map (λ p. p.now)) c.in-Some.is in
    let s = stands-at (λ j. j.0) (λ j. j.1.items) (λ ks. mode_among (map (λ j. (j.0, j.1.items)) ks)) (λ y. refl) (λ k ks y. refl) js x (Some p) p (sym at) refl in
    let h : p < length js = s.within in
    grind (arith, common_steps)

pub returns-in-Some-clause-mode : goal.returns-in-Some-clause-mode
returns-in-Some-clause-mode c =
    let x = c.args.text.now in
    let js = c.args.self.now.judgements.items in
    let p = c.in-Some.place.now in
    let at : place_from (λ j. j.0) 0 x js ≡ Some p =
    sym (c.args.self.now.finds_judgements x) ∙ sym c.get.ensures.value ∙ ap (option_map (λ p. p.now)) c.in-Some.is in
    let s = stands-at (λ j. j.0) (λ j. j.1.items) (λ ks. mode_among (map (λ j. (j.0, j.1.items)) ks)) (λ y. refl) (λ k ks y. refl) js x (Some p) p (sym at) refl in
    sym (s.stands c.index.result.now ∙ ap (λ j. Some j.1.items) (sym c.index.ensures))

pub returns-in-Some-clause-name : goal.returns-in-Some-clause-name
returns-in-Some-clause-name c =
    let x = c.args.text.now in
    let js = c.args.self.now.judgements.items in
    let p = c.in-Some.place.now in
    let j = c.index.result.now in
    let at : place_from (λ j. j.0) 0 x js ≡ Some p =
    sym (c.args.self.now.finds_judgements x) ∙ sym c.get.ensures.value ∙ ap (option_map (λ p. p.now)) c.in-Some.is in
    (bytes_decides j.0 x).0 (place-named (λ j. j.0) 0 p p x js j at (omega arith) c.index.ensures)

pub returns-in-None-clause-mode : goal.returns-in-None-clause-mode
returns-in-None-clause-mode c =
    let x = c.args.text.now in
    let js = c.args.self.now.judgements.items in
    let at : place_from (λ j. j.0) 0 x js ≡ None =
    sym (c.args.self.now.finds_judgements x) ∙ sym c.get.ensures.value ∙ ap (option_map (λ p. p.now)) c.in-None.is in
    sym (none-stands (λ j. j.0) (λ j. j.1.items) (λ ks. mode_among (map (λ j. (j.0, j.1.items)) ks)) (λ y. refl) (λ k ks y. refl) js x None (sym at) refl)
