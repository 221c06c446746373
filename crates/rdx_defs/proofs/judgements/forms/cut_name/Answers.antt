use Rattle.std.proofs.Common.{◌≡◌, ◌++◌, ◌∙◌, Bool, [], ◌∷◌, Some, None, true, false, sym, ap, if◌then◌else◌}
use Rattle.rdx_defs.specs.JudgementForms.{is_label, cut_name}
use Rattle.rdx_defs.proofs.RuleForms.{cut_name-last}
use Rattle.rdx_defs.proofs.judgements.forms.cut_name.Goals as goal

pub returns-then-is_label : goal.returns-then-is_label
returns-then-is_label c =
    let ds = c.in-Some.premises.now in
    let d = c.in-Some.last.now in
    let e : c.args.parts.now ≡ ds ++ d ∷ [] = c.in-Some.ensures.cases.0 in
    let t : is_label d ≡ true = sym c.is_label.ensures ∙ c.if-is_label.true in
    sym (ap cut_name e ∙ cut_name-last ds d ∙ ap (λ (b : Bool). if b then (ds, Some d) else (ds ++ d ∷ [], None)) t)

pub returns-else-is_label : goal.returns-else-is_label
returns-else-is_label c =
    let ds = c.in-Some.premises.now in
    let d = c.in-Some.last.now in
    let e : c.args.parts.now ≡ ds ++ d ∷ [] = c.in-Some.ensures.cases.0 in
    let t : is_label d ≡ false = sym c.is_label.ensures ∙ c.if-is_label.false in
    (λ i. (e i, None)) ∙ sym (ap cut_name e ∙ cut_name-last ds d ∙ ap (λ (b : Bool). if b then (ds, Some d) else (ds ++ d ∷ [], None)) t)
