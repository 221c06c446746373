use Rattle.std.proofs.Common.{◌≡◌, ◌++◌, ◌∙◌, ℕ, List, [], ◌∷◌, Some, map, append-nil, sym, ap}
use Rattle.std.proofs.lemmas.List.{map-append}
use Rattle.std.specs.Option.{option_to_list}
use Rattle.std.specs.Prelude.{option_map}
use Rattle.rdx_lang.specs.Programs.{Mode}
use Rattle.rdx_defs.specs.Inside.FormViews.{judgement_form_of}
use Rattle.rdx_defs.specs.JudgementForms.{judgement_form}
use Rattle.rdx_defs.specs.Scopes.{defined_judgements}
use Rattle.rdx_defs.proofs.ScopeParts.{moded, defined-some}
use Rattle.rdx_defs.proofs.scopes.add_judgements.Goals as goal

pub returns-in_ok-push : goal.returns-in_ok-push
returns-in_ok-push c =
    let d = c.args.d.now in
    let j = c.in-Some-2.judgement in
    let old = c.args.out.now.items in
    let f : judgement_form d ≡ Some (judgement_form_of c.in-Some.form) = sym c.judgement_form.ensures ∙ ap (option_map judgement_form_of) c.in-Some.is in
    let e : moded j ∷ [] ≡ defined_judgements d =
    sym (ap (λ o. option_to_list (option_map moded o)) c.in-Some-2.is) ∙ c.in_ok-judgement.ensures ∙ sym (defined-some d (judgement_form_of c.in-Some.form) f) in
    ap (map moded) c.in_ok-push.ensures.items ∙ map-append moded old (j ∷ []) ∙ ap (λ (xs : List (List ℕ × Mode)). map moded old ++ xs) e

pub returns-in_default-2 : goal.returns-in_default-2
returns-in_default-2 c =
    let d = c.args.d.now in
    let old = c.args.out.now.items in
    let f : judgement_form d ≡ Some (judgement_form_of c.in-Some.form) = sym c.judgement_form.ensures ∙ ap (option_map judgement_form_of) c.in-Some.is in
    let e : [] ≡ defined_judgements d =
    sym (ap (λ o. option_to_list (option_map moded o)) c.in_default-2.is) ∙ c.in_ok-judgement.ensures ∙ sym (defined-some d (judgement_form_of c.in-Some.form) f) in
    sym (append-nil (map moded old)) ∙ ap (λ (xs : List (List ℕ × Mode)). map moded old ++ xs) e
