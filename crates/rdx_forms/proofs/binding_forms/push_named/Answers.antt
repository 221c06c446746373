use Rattle.std.proofs.Common.{◌≡◌, ◌++◌, ℕ, List, [], ◌∷◌, length, map, sym, ap, ◌∙◌, subst, arith}
use Rattle.std.proofs.lemmas.Grind.{common_steps}
use Rattle.std.proofs.lemmas.List.{length-map}
use Rattle.rdx_answer.specs.Views.{bound_of}
use Rattle.rdx_forms.specs.Model.Tabled.{FindsFirsts}
use Rattle.rdx_forms.proofs.FileForms.{NamedForms, names-more, one-more}
use Rattle.rdx_forms.proofs.binding_forms.push_named.Goals as goal

pub returns-clause-added : goal.returns-clause-added
returns-clause-added c =
    ap bound_of c.in_ok-push.ensures.items ∙ one-more c.args.found.now.forms.items c.args.name c.args.forms

pub returns-clause-found : goal.returns-clause-found
returns-clause-found c =
    let ps = c.args.found.now.forms.items in
    let names : List (List ℕ) = map (λ (p : NamedForms). p.0) ps in
    let place : length names ≡ c.len-place.result = length-map ps (λ (p : NamedForms). p.0) ∙ grind (arith, common_steps) in
    subst (λ (xs : List (List ℕ)). FindsFirsts c.add_text.new.firsts xs)
    (ap (λ (x : List ℕ). names ++ x ∷ []) c.text.ensures.value ∙ sym (ap (map (λ (p : NamedForms). p.0)) c.in_ok-push.ensures.items ∙ names-more ps c.args.name c.args.forms))
    (c.in_ok-add_text.ensures.added names place c.requires)
