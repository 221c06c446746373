use Rattle.std.proofs.Common.{◌≡◌, ◌∙◌, Some, sym, ap}
use Rattle.std.specs.Prelude.{option_map}
use Rattle.rdx_sexp.specs.Sexp.{list, sexps, span_of}
use Rattle.rdx_relations.specs.Expansion as model
use Rattle.rdx_relations.specs.Inside.Filling.{case_parts, parts_by}
use Rattle.rdx_relations.specs.Inside.FormViews.{case_form_of}
use Rattle.rdx_relations.specs.Inside.ShortcutViews.{shortcuts_in}
use Rattle.rdx_relations.specs.RelationForms.{case_form}
use Rattle.rdx_relations.proofs.NestedShortcuts.{parts-by}
use Rattle.rdx_relations.proofs.shorthand.expanding.expanded_by.Goals as goal

pub returns-clause-made : goal.returns-clause-made
returns-clause-made c =
    let d = c.args.d.now in
    let ss = shortcuts_in c.args.arrows.now.shortcuts.items in
    let k = case_form_of c.in-Some.case in
    let f : case_form d ≡ Some k = sym c.case_form.ensures ∙ ap (option_map case_form_of) c.in-Some.is in
    let us = ap shortcuts_in c.deref.ensures.value in
    c.list_at.ensures
    ∙ ap (λ xs. list (sexps xs) (span_of d))
    (c.in_ok-parts.ensures.made ∙ ap (λ ts. parts_by ts k) us ∙ parts-by (shortcuts_in c.in_ok-used.used.items) k ∙ ap (λ x. case_parts (model.settled k x)) c.in_ok-used.ensures)
    ∙ ap (model.expanded_by ss d) (sym f)
