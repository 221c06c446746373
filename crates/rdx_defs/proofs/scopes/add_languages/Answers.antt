use Rattle.std.proofs.Common.{◌≡◌, ◌++◌, ◌∙◌, ℕ, List, [], ◌∷◌, Some, map, append-nil, sym, ap}
use Rattle.std.proofs.lemmas.List.{map-append}
use Rattle.std.specs.Option.{option_to_list}
use Rattle.std.specs.Prelude.{option_map}
use Rattle.std.specs.Rc.{rc_str_bytes}
use Rattle.rdx_lang.specs.Programs.{Mode}
use Rattle.rdx_defs.specs.Inside.FormViews.{judgement_form_of}
use Rattle.rdx_defs.specs.JudgementForms.{judgement_form}
use Rattle.rdx_defs.specs.Scopes.{defined_judgements}
use Rattle.rdx_defs.proofs.ScopeParts.{moded, in_language, defined-some, language-some, languages-some, languages-none}
use Rattle.rdx_defs.proofs.scopes.add_languages.Goals as goal

pub returns-in_default-2 : goal.returns-in_default-2
returns-in_default-2 c =
    let d = c.args.d.now in
    let old = map in_language c.args.out.now.items in
    let f : judgement_form d ≡ Some (judgement_form_of c.in-Some.form) = sym c.judgement_form.ensures ∙ ap (option_map judgement_form_of) c.in-Some.is in
    let e : [] ≡ defined_judgements d =
    sym (ap (λ o. option_to_list (option_map moded o)) c.in_default-2.is) ∙ c.in_ok-judgement.ensures ∙ sym (defined-some d (judgement_form_of c.in-Some.form) f) in
    sym (append-nil old) ∙ ap (λ (xs : List (List ℕ × List ℕ)). old ++ xs) (sym (languages-none d (sym e)))

pub returns : goal.returns
returns c =
    let d = c.args.d.now in
    let old = c.args.out.now.items in
    let form = judgement_form_of c.in-Some.form in
    let j = c.in-Some-2.judgement in
    let l = c.in_ok-language.language in
    let f : judgement_form d ≡ Some form = sym c.judgement_form.ensures ∙ ap (option_map judgement_form_of) c.in-Some.is in
    let e : ◌≡◌ {A = List (List ℕ × Mode)} ((j, c.in-Some-2.field-0-1.items) ∷ []) (defined_judgements d) =
    sym (ap (λ o. option_to_list (option_map moded o)) c.in-Some-2.is) ∙ c.in_ok-judgement.ensures ∙ sym (defined-some d form f) in
    ap (map in_language) c.in_ok-push.ensures.items
    ∙ map-append in_language old ((j, l) ∷ [])
    ∙ ap (λ (xs : List (List ℕ × List ℕ)). map in_language old ++ xs)
    (sym (languages-some d j (rc_str_bytes l) c.in-Some-2.field-0-1.items (sym e) (language-some d form f ∙ sym (c.in_ok-language.ensures.ok ∙ c.text.ensures))))
