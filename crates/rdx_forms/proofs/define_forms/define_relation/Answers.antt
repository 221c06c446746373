use Rattle.std.proofs.Common.{◌≡◌, Option, Some, ap, subst, ◌∙◌}
use Rattle.rdx_patterns.specs.Among.{AreAmong}
use Rattle.rdx_forms.specs.DefineParts.{DefineParts, by_cases, by_contexts, by_crosses, define_parts}
use Rattle.rdx_forms.specs.Ends.{define_ends}
use Rattle.rdx_forms.specs.declared.parts.DefineKind as code
use Rattle.rdx_forms.specs.Inside.PartViews.{define_kind_of, defining_of}
use Rattle.rdx_forms.specs.KnownView.{known_of}
use Rattle.rdx_forms.proofs.ClosureChecks.{relates-contexts, relates-crosses}
use Rattle.rdx_forms.proofs.DefineChecks.{sole_parts, parts-shown, body-readable, name-spelled}
use Rattle.rdx_forms.proofs.GainingNothing.{body-asks, define-asked}
use Rattle.rdx_forms.proofs.RelationChecks.{relates-cases}
use Rattle.rdx_forms.proofs.define_forms.define_relation.Goals as goal

pub define_by_cases-requires-clause-spelled : goal.define_by_cases-requires-clause-spelled
define_by_cases-requires-clause-spelled c =
    let p = c.in-Some.parts in
    let k = define_kind_of p.kind in
    let e = parts-shown c.args.form.now (defining_of p) c.in-Some.ensures c.if-parts.false in
    name-spelled c.args.form.now k p.name.now p.body.now e c.requires.readable

pub define_by_cases-requires-clause-body : goal.define_by_cases-requires-clause-body
define_by_cases-requires-clause-body c =
    let p = c.in-Some.parts in
    let k = define_kind_of p.kind in
    let e = parts-shown c.args.form.now (defining_of p) c.in-Some.ensures c.if-parts.false in
    body-readable c.args.form.now k p.name.now p.body.now e c.requires.readable

pub define_by_cases-requires-clause-crossed : goal.define_by_cases-requires-clause-crossed
define_by_cases-requires-clause-crossed c = c.requires.fitting.crossed

pub define_by_cases-requires-clause-ends : goal.define_by_cases-requires-clause-ends
define_by_cases-requires-clause-ends c =
    let p = c.in-Some.parts in
    let e = parts-shown c.args.form.now (defining_of p) c.in-Some.ensures c.if-parts.false in
    let f : define_parts c.args.form.now ≡ Some (sole_parts by_cases p.name.now p.body.now) =
    e ∙ ap (λ (l : code.DefineKind). let o : Option DefineParts = Some (sole_parts (define_kind_of l) p.name.now p.body.now) in o) c.in-Cases.is in
    subst (λ (o : Option DefineParts). AreAmong (define_ends o) c.args.known.now.ends.items) f
    (define-asked c.args.known.now.ends.items c.args.form.now c.requires.ends)

pub define_by_contexts-requires-clause-spelled : goal.define_by_contexts-requires-clause-spelled
define_by_contexts-requires-clause-spelled c =
    let p = c.in-Some.parts in
    let k = define_kind_of p.kind in
    let e = parts-shown c.args.form.now (defining_of p) c.in-Some.ensures c.if-parts.false in
    name-spelled c.args.form.now k p.name.now p.body.now e c.requires.readable

pub define_by_contexts-requires-clause-body : goal.define_by_contexts-requires-clause-body
define_by_contexts-requires-clause-body c =
    let p = c.in-Some.parts in
    let k = define_kind_of p.kind in
    let e = parts-shown c.args.form.now (defining_of p) c.in-Some.ensures c.if-parts.false in
    body-readable c.args.form.now k p.name.now p.body.now e c.requires.readable

pub define_by_contexts-requires-clause-ends : goal.define_by_contexts-requires-clause-ends
define_by_contexts-requires-clause-ends c =
    let p = c.in-Some.parts in
    let e = parts-shown c.args.form.now (defining_of p) c.in-Some.ensures c.if-parts.false in
    body-asks c.args.known.now.ends.items c.args.form.now (sole_parts (define_kind_of p.kind) p.name.now p.body.now) e c.requires.ends

pub define_by_crosses-requires-clause-spelled : goal.define_by_crosses-requires-clause-spelled
define_by_crosses-requires-clause-spelled c =
    let p = c.in-Some.parts in
    let k = define_kind_of p.kind in
    let e = parts-shown c.args.form.now (defining_of p) c.in-Some.ensures c.if-parts.false in
    name-spelled c.args.form.now k p.name.now p.body.now e c.requires.readable

pub define_by_crosses-requires-clause-body : goal.define_by_crosses-requires-clause-body
define_by_crosses-requires-clause-body c =
    let p = c.in-Some.parts in
    let k = define_kind_of p.kind in
    let e = parts-shown c.args.form.now (defining_of p) c.in-Some.ensures c.if-parts.false in
    body-readable c.args.form.now k p.name.now p.body.now e c.requires.readable

pub define_by_crosses-requires-clause-ends : goal.define_by_crosses-requires-clause-ends
define_by_crosses-requires-clause-ends c =
    let p = c.in-Some.parts in
    let e = parts-shown c.args.form.now (defining_of p) c.in-Some.ensures c.if-parts.false in
    let f : define_parts c.args.form.now ≡ Some (sole_parts by_crosses p.name.now p.body.now) =
    e ∙ ap (λ (l : code.DefineKind). let o : Option DefineParts = Some (sole_parts (define_kind_of l) p.name.now p.body.now) in o) c.in-Crosses.is in
    subst (λ (o : Option DefineParts). AreAmong (define_ends o) c.args.known.now.ends.items) f
    (define-asked c.args.known.now.ends.items c.args.form.now c.requires.ends)

pub returns-in-Cases-clause-relates : goal.returns-in-Cases-clause-relates
returns-in-Cases-clause-relates c =
    let p = c.in-Some.parts in
    let k = define_kind_of p.kind in
    let e = parts-shown c.args.form.now (defining_of p) c.in-Some.ensures c.if-parts.false in
    let f : define_parts c.args.form.now ≡ Some (sole_parts by_cases p.name.now p.body.now) =
    e ∙ ap (λ (l : code.DefineKind). let o : Option DefineParts = Some (sole_parts (define_kind_of l) p.name.now p.body.now) in o) c.in-Cases.is in
    relates-cases (known_of c.args.known.now) c.args.known.now.tabled.nameable c.args.form.now p.name.now p.body.now f c.define_by_cases.result c.requires.relation
    c.define_by_cases.ensures.relates

pub returns-in-Contexts-clause-relates : goal.returns-in-Contexts-clause-relates
returns-in-Contexts-clause-relates c =
    let p = c.in-Some.parts in
    let k = define_kind_of p.kind in
    let e = parts-shown c.args.form.now (defining_of p) c.in-Some.ensures c.if-parts.false in
    let f : define_parts c.args.form.now ≡ Some (sole_parts by_contexts p.name.now p.body.now) =
    e ∙ ap (λ (l : code.DefineKind). let o : Option DefineParts = Some (sole_parts (define_kind_of l) p.name.now p.body.now) in o) c.in-Contexts.is in
    relates-contexts (known_of c.args.known.now) c.args.form.now p.name.now p.body.now f c.define_by_contexts.result c.requires.relation
    c.define_by_contexts.ensures.closes

pub returns-in-Crosses-clause-relates : goal.returns-in-Crosses-clause-relates
returns-in-Crosses-clause-relates c =
    let p = c.in-Some.parts in
    let k = define_kind_of p.kind in
    let e = parts-shown c.args.form.now (defining_of p) c.in-Some.ensures c.if-parts.false in
    let f : define_parts c.args.form.now ≡ Some (sole_parts by_crosses p.name.now p.body.now) =
    e ∙ ap (λ (l : code.DefineKind). let o : Option DefineParts = Some (sole_parts (define_kind_of l) p.name.now p.body.now) in o) c.in-Crosses.is in
    relates-crosses (known_of c.args.known.now) c.args.form.now p.name.now p.body.now f c.define_by_crosses.result c.requires.relation
    c.define_by_crosses.ensures.closes
