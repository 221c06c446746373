use Rattle.std.proofs.Common.{◌≡◌, ◌++◌, ◌∙◌, ℕ, List, [], sym, ap, subst}
use Rattle.std.specs.Prelude.{option_map}
use Rattle.rdx_sexp.specs.Sexp.{Sexp}
use Rattle.rdx_patterns.specs.Readable.{IsReadable}
use Rattle.rdx_patterns.specs.Refusal.{refusal_of}
use Rattle.rdx_relations.specs.Inside.BareForms.{relation_stands}
use Rattle.rdx_relations.specs.Inside.FormOutlines.{domain_patterns, relation_outline}
use Rattle.rdx_parts.specs.Outlines.{Outline}
use Rattle.rdx_parts.specs.Stands.{Stand}
use Rattle.rdx_relations.specs.RelationForms.{RelationForm}
use Rattle.rdx_relations.specs.RelationStands.{expanded_stands, shortcuts_stand}
use Rattle.rdx_parts.specs.StandRefusal.{stands_refusal}
use Rattle.rdx_templates.specs.Scope.{Scope, scope_of}
use Rattle.rdx_parts.specs.FormRefusals.{form_refusal}
use Rattle.rdx_relations.specs.Inside.FormViews.{relation_form_of}
use Rattle.rdx_parts.specs.PartViews.{outline_of, stands_of}
use Rattle.rdx_parts.specs.PartsHave.{OutlineHas, can_bind}
use Rattle.rdx_relations.proofs.FormRefusals.{relation-refused}
use Rattle.rdx_relations.proofs.PartsOfForms.{RelationHas}
use Rattle.rdx_relations.proofs.PassedForms.{relation-early}
use Rattle.rdx_relations.proofs.ReadableParts.{each-readable}
use Rattle.rdx_relations.proofs.relations.reader.passed_outline.Goals as goal

pub refuse_parts-requires : goal.refuse_parts-requires
refuse_parts-requires c =
    let S = scope_of c.args.scope.now in
    let r = relation_form_of c.args.form in
    let ds = c.args.shortcuts.now in
    let h : RelationHas IsReadable r =
    record { domain = each-readable (domain_patterns r.domain) c.requires.domain; cases = each-readable r.cases c.requires.cases; language = c.requires.named } in
    let q : stands_of c.deref.result.now ≡ relation_stands S r ds = ap stands_of c.deref.ensures.value ∙ c.in_ok-found.ensures in
    λ e. subst (λ (o : Outline). OutlineHas S (can_bind c.args.names.now) o) (sym c.in_ok-outline.ensures)
    (relation-early S c.args.names.now r ds (stands_of c.deref.result.now) h q e)

-- the refusal of what stands in a relation, by that and its outline
by_parts : (S : Scope) (ns : List (List ℕ)) (r : RelationForm) (ds : List Sexp) (xs : List Stand) (o : Outline)
    → xs ≡ relation_stands S r ds → o ≡ relation_outline r → stands_refusal S ns (expanded_stands S ns r ++ shortcuts_stand [] ds) ≡ form_refusal S ns xs o
by_parts S ns r ds xs o q e = relation-refused S ns r ds ∙ (λ i. form_refusal S ns (sym q i) (sym e i))

pub returns-in-Some-clause-refused : goal.returns-in-Some-clause-refused
returns-in-Some-clause-refused c =
    let S = scope_of c.args.scope.now in
    let ns = c.args.names.now in
    let r = relation_form_of c.args.form in
    let ds = c.args.shortcuts.now in
    let e =
    by_parts S ns r ds (stands_of c.deref.result.now) (outline_of c.in_ok-outline.outline) (ap stands_of c.deref.ensures.value ∙ c.in_ok-found.ensures)
    c.in_ok-outline.ensures
    in
    sym (c.in_ok-refusal-2.ensures S ns (expanded_stands S ns r ++ shortcuts_stand [] ds) (c.in_ok-refusal.ensures ∙ sym e)) ∙ ap (option_map refusal_of) c.in-Some.is

pub returns-clause-passes : goal.returns-clause-passes
returns-clause-passes c =
    let S = scope_of c.args.scope.now in
    let ns = c.args.names.now in
    let r = relation_form_of c.args.form in
    let ds = c.args.shortcuts.now in
    let e =
    by_parts S ns r ds (stands_of c.deref.result.now) (outline_of c.in_ok-outline.outline) (ap stands_of c.deref.ensures.value ∙ c.in_ok-found.ensures)
    c.in_ok-outline.ensures
    in
    sym (c.in_ok-refusal-2.ensures S ns (expanded_stands S ns r ++ shortcuts_stand [] ds) (c.in_ok-refusal.ensures ∙ sym e)) ∙ ap (option_map refusal_of) c.in_default.is
