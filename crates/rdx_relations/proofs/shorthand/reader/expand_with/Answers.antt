use Rattle.std.proofs.Common.{◌≡◌, ◌∙◌, Some, map, sym, ap}
use Rattle.std.specs.Prelude.{option_map}
use Rattle.rdx_patterns.specs.Refusal.{refusal_of}
use Rattle.rdx_relations.specs.Expansion.{expanded_by, used_shortcuts, shorthand_refusal, expansion_refusal_by, expansion_refusal}
use Rattle.rdx_relations.specs.Inside.FormViews.{relation_form_of}
use Rattle.rdx_relations.specs.Inside.ShortcutViews.{shortcuts_in}
use Rattle.rdx_relations.specs.RelationForms.{case_form, relation_form}
use Rattle.rdx_relations.proofs.shorthand.reader.expand_with.Goals as goal

pub refuse_shorthand-requires : goal.refuse_shorthand-requires
refuse_shorthand-requires c = ap shortcuts_in c.in_ok-arrows.ensures ∙ c.in_ok-shortcuts_among.ensures

pub returns-in-Some-2 : goal.returns-in-Some-2
returns-in-Some-2 c =
    let d = c.args.form.now in
    let r = relation_form_of c.in-Some.parts in
    let f : relation_form d ≡ Some r = sym c.relation_form.ensures ∙ ap (option_map relation_form_of) c.in-Some.is in
    let cut = c.cut_at_with-cut.ensures in
    let x : expansion_refusal d ≡ option_map refusal_of c.in_ok-refusal.field-0 =
    ap (expansion_refusal_by d) f ∙ (λ i. shorthand_refusal (sym cut.cases i) (sym cut.shortcuts i)) ∙ sym c.in_ok-refusal.ensures in
    record { expands = x ∙ ap (option_map refusal_of) c.in-Some-2.is }

pub returns : goal.returns
returns c =
    let d = c.args.form.now in
    let r = relation_form_of c.in-Some.parts in
    let f : relation_form d ≡ Some r = sym c.relation_form.ensures ∙ ap (option_map relation_form_of) c.in-Some.is in
    let cut = c.cut_at_with-cut.ensures in
    let x : expansion_refusal d ≡ option_map refusal_of c.in_ok-refusal.field-0 =
    ap (expansion_refusal_by d) f ∙ (λ i. shorthand_refusal (sym cut.cases i) (sym cut.shortcuts i)) ∙ sym c.in_ok-refusal.ensures in
    record {
      expands = record {
        passes = x ∙ ap (option_map refusal_of) c.in_default-2.is;
        parts = r;
        is_form = f;
        are = c.in_ok-expanded_cases.ensures.cases ∙ (λ i. map (λ d. expanded_by (used_shortcuts (cut.shortcuts i)) d (case_form d)) (cut.cases i));
      };
    }
