use Rattle.std.proofs.Common.{◌≡◌, ◌∙◌, Some, sym, ap}
use Rattle.std.specs.Prelude.{option_map}
use Rattle.rdx_relations.specs.Inside.FormViews.{relation_form_of}
use Rattle.rdx_relations.specs.RelationForms.{relation_form}
use Rattle.rdx_relations.proofs.PlainRelations.{ends-of, no-data}
use Rattle.rdx_relations.proofs.relations.ends.relation_ends.Goals as goal

pub returns-then-is_empty : goal.returns-then-is_empty
returns-then-is_empty c =
    let r = relation_form_of c.in-Some.parts in
    let f : relation_form c.args.form.now ≡ Some r = sym c.relation_form.ensures ∙ ap (option_map relation_form_of) c.in-Some.is in
    let cut = c.cut_at_with-cut.result in
    let n = no-data cut.shortcuts.now c.is_empty.result c.is_empty.ensures c.if-is_empty.true in
    ends-of c.expanded_ends.result c.args.form.now r cut.cases.now f c.cut_at_with-cut.ensures.cases (sym c.cut_at_with-cut.ensures.shortcuts ∙ n) c.expanded_ends.ensures
