use Rattle.std.proofs.Common.{◌≡◌, [], ◌∷◌, List, Option, Some, None, sym, ap, ◌∙◌, subst}
use Rattle.std.specs.Prelude.{option_map, IfOk}
use Rattle.rdx_grammar.specs.Checks.{bad_names}
use Rattle.rdx_grammar.specs.Inside.BaseView.{base_in}
use Rattle.rdx_grammar.specs.Inside.BoundView.{BindNames}
use Rattle.rdx_grammar.specs.Inside.PartViews.{parts_of}
use Rattle.rdx_grammar.specs.Inside.StandView.{stands_of}
use Rattle.rdx_patterns.specs.Refusal.{Refusal, refusal_of, named, first_refusal}
use Rattle.rdx_grammar.specs.Refused.{shape_at, duplicate_at, bad_name_at, bad_pattern_at, depth_clash_at, names_over}
use Rattle.rdx_grammar.specs.Stands.{Stand, form_stands}
use Rattle.rdx_patterns.specs.declared.shape.fault.DefKind.TheVariants.{BadName}
use Rattle.rdx_patterns.proofs.Firsts.{nothing, none_or, early_of, late_of}
use Rattle.rdx_grammar.proofs.FormsRead.{form-names}
use Rattle.rdx_grammar.proofs.NamedForms.{AreNamedIn-passed}
use Rattle.rdx_grammar.proofs.languages.refusals.refuse_form.Goals as goal

-- the first of the early checks that refuses what stands in a form
abbrev early : List Stand → Option Refusal
early ss = first_refusal (shape_at ss ∷ duplicate_at ss ∷ bad_name_at ss ∷ [])

pub names_over-requires : goal.names_over-requires
names_over-requires c =
    let g = option_map parts_of c.args.parts in
    let ss = form_stands c.args.form.now g in
    let r : stands_of c.args.found.now ≡ ss = c.requires.stands in
    let e : early ss ≡ None = ap early (sym r) ∙ sym c.in_ok-refusal.ensures ∙ ap (option_map refusal_of) c.in_default.is in
    let f = (none_or (shape_at ss) _ e).1 in
    let k = (none_or (duplicate_at ss) _ f).1 in
    AreNamedIn-passed c.args.form.now g c.requires.spelled (none_or (bad_name_at ss) None k).0

pub refuse_late-requires : goal.refuse_late-requires
refuse_late-requires c =
    let g = option_map parts_of c.args.parts in
    let ss = form_stands c.args.form.now g in
    let r : stands_of c.args.found.now ≡ ss = c.requires.stands in
    let e : early ss ≡ None = ap early (sym r) ∙ sym c.in_ok-refusal.ensures ∙ ap (option_map refusal_of) c.in_default.is in
    let f = (none_or (shape_at ss) _ e).1 in
    let k = (none_or (duplicate_at ss) _ f).1 in
    let n = nothing (named BadName) (bad_names ss) (none_or (bad_name_at ss) None k).0 in
    subst (λ (rs : List Stand). BindNames c.in_ok-names.names rs) (sym r) (form-names c.in_ok-names.names c.args.form.now g c.requires.spelled c.requires.shallow n)

pub returns-in-Some : goal.returns-in-Some
returns-in-Some c =
    let B = base_in (option_map (λ b. b.now) c.args.base) in
    let g = option_map parts_of c.args.parts in
    let ss = form_stands c.args.form.now g in
    let ns = names_over B g in
    let e : Some (refusal_of c.in-Some.refusal) ≡ early ss =
    sym (ap (option_map refusal_of) c.in-Some.is) ∙ c.in_ok-refusal.ensures ∙ ap early c.requires.stands in
    early_of (shape_at ss) (duplicate_at ss) (bad_name_at ss) (bad_pattern_at B ns ss ∷ depth_clash_at ns ss ∷ []) (refusal_of c.in-Some.refusal) e

pub returns : goal.returns
returns c =
    let B = base_in (option_map (λ b. b.now) c.args.base) in
    let g = option_map parts_of c.args.parts in
    let ss = form_stands c.args.form.now g in
    let ns = names_over B g in
    let r : stands_of c.args.found.now ≡ ss = c.requires.stands in
    let e : early ss ≡ None = ap early (sym r) ∙ sym c.in_ok-refusal.ensures ∙ ap (option_map refusal_of) c.in_default.is in
    let n0 : c.in_ok-all.all.items ≡ ns = c.in_ok-all.ensures in
    let n : c.in_ok-names.names ≡ ns = c.in_ok-names.ensures ∙ n0 in
    subst (λ (o : Option Refusal). IfOk c.refuse_late.result (λ r. option_map refusal_of r ≡ o))
    ((λ i. first_refusal (bad_pattern_at B (n i) (r i) ∷ depth_clash_at (n i) (r i) ∷ []))
    ∙ sym (late_of (shape_at ss) (duplicate_at ss) (bad_name_at ss) (bad_pattern_at B ns ss ∷ depth_clash_at ns ss ∷ []) e))
    c.refuse_late.ensures
