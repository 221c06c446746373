use Rattle.std.proofs.Common.{◌≡◌, ◌∙◌, ◌<◌, ℕ, List, Some, None, length, sym, ap, arith}
use Rattle.std.proofs.lemmas.Grind.{common_steps}
use Rattle.std.specs.Prelude.{option_map}
use Rattle.rdx_alpha.specs.View.{forms_of}
use Rattle.rdx_lang.specs.Model.Places.{place_from, place_in}
use Rattle.rdx_answer.proofs.FoundForms.{Named, name_of, found-forms, found-within, no-forms}
use Rattle.rdx_answer.proofs.bound.FormTable.named.Goals as goal

pub bounds-self-place : goal.bounds-self-place
bounds-self-place c =
    let x : List ℕ = c.args.name.now in
    let fs : List Named = c.args.self.now.forms.now in
    let p : ℕ = c.in-Some.place.now in
    let at : place_from name_of 0 x fs ≡ Some p =
    sym (c.args.self.now.found x) ∙ ap (place_in c.args.self.now.places) (sym c.text.ensures.value) ∙ sym c.get.ensures.value
    ∙ ap (option_map (λ p. p.now)) c.in-Some.is in
    let h : p < length fs = found-within fs x p at in
    grind (arith, common_steps)

pub returns-in-Some : goal.returns-in-Some
returns-in-Some c =
    let x : List ℕ = c.args.name.now in
    let fs : List Named = c.args.self.now.forms.now in
    let p : ℕ = c.in-Some.place.now in
    let at : place_from name_of 0 x fs ≡ Some p =
    sym (c.args.self.now.found x) ∙ ap (place_in c.args.self.now.places) (sym c.text.ensures.value) ∙ sym c.get.ensures.value
    ∙ ap (option_map (λ p. p.now)) c.in-Some.is in
    ap forms_of c.deref.ensures.value ∙ found-forms fs x p c.index-self-place.result at

pub returns-in-None : goal.returns-in-None
returns-in-None c =
    let x : List ℕ = c.args.name.now in
    let fs : List Named = c.args.self.now.forms.now in
    let at : place_from name_of 0 x fs ≡ None =
    sym (c.args.self.now.found x) ∙ ap (place_in c.args.self.now.places) (sym c.text.ensures.value) ∙ sym c.get.ensures.value
    ∙ ap (option_map (λ p. p.now)) c.in-None.is in
    no-forms fs x at

pub offset_bounds-self-place : goal.offset_bounds-self-place
offset_bounds-self-place c =
    let x : List ℕ = c.args.name.now in
    let fs : List Named = c.args.self.now.forms.now in
    let p : ℕ = c.in-Some.place.now in
    let at : place_from name_of 0 x fs ≡ Some p =
    sym (c.args.self.now.found x) ∙ ap (place_in c.args.self.now.places) (sym c.text.ensures.value) ∙ sym c.get.ensures.value
    ∙ ap (option_map (λ p. p.now)) c.in-Some.is in
    let h : p < length fs = found-within fs x p at in
    grind (arith, common_steps)
