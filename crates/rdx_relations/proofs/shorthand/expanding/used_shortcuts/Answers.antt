use Rattle.std.proofs.Common.{◌≡◌, ◌∙◌, ◌<◌, ◌≤◌, ◌∷◌, [], List, Some, None, length, reverse, take, sym, ap, arith}
use Rattle.std.proofs.lemmas.Grind.{common_steps}
use Rattle.std.proofs.lemmas.List.{length-map, reverse-append, take_all}
use Rattle.rdx_patterns.specs.Parts.{text_of}
use Rattle.rdx_relations.specs.Expansion.{expanded_case}
use Rattle.rdx_relations.specs.Inside.Arrows.{below, place_from}
use Rattle.rdx_relations.specs.Inside.Filling.{by_shortcuts}
use Rattle.rdx_relations.specs.Inside.FormViews.{case_form_of}
use Rattle.rdx_relations.specs.Inside.ShortcutViews.{shortcut_of, shortcuts_in}
use Rattle.rdx_relations.specs.RelationForms.{CaseForm}
use Rattle.rdx_relations.specs.Shorthand as model
use Rattle.rdx_relations.specs.declared.shorthand.forms.Shortcut.{Shortcut}
use Rattle.rdx_relations.proofs.ExpandedCases.{below-within, expanded-last, expanded-step, shortcut-at}
use Rattle.rdx_relations.proofs.shorthand.expanding.used_shortcuts.Goals as goal

pub loop-place-init : goal.loop-place-init
loop-place-init c =
    let items = c.args.arrows.now.shortcuts.items in
    let ss = shortcuts_in items in
    let k = case_form_of c.args.case in
    let l : length items ≤ c.len-limit.result = grind (arith, common_steps) in
    let m : length ss ≡ length items = length-map items shortcut_of in
    let t : take c.len-limit.result ss ≡ ss = take_all c.len-limit.result ss (omega arith) in
    let e = sym c.new-used.ensures.items in (
      λ i. expanded_case (sym t i) (by_shortcuts (shortcuts_in (reverse (e i))) k),
      ap (λ (us : List Shortcut). (by_shortcuts (shortcuts_in (reverse us)) k).arrow) e,
    )

pub loop-place-preserved : goal.loop-place-preserved
loop-place-preserved c =
    let items = c.args.arrows.now.shortcuts.items in
    let ss = shortcuts_in items in
    let k = case_form_of c.args.case in
    let n = c.loop-place.limit in
    let i = c.in-Some.place in
    let x = c.index-shortcut.result.now in
    let us = shortcuts_in (reverse c.loop-place.used.items) in
    let b : CaseForm = by_shortcuts us k in
    let q : below n (place_from 0 (text_of b.arrow) ss) ≡ Some i =
    ap (λ y. below n (place_from 0 y ss)) (sym (c.text.ensures ∙ ap text_of c.loop-place.invariant.1)) ∙ sym c.place_below.ensures ∙ c.in-Some.is in
    let e : shortcuts_in (reverse c.push.new.self.items) ≡ shortcut_of x ∷ us =
    ap (λ (xs : List Shortcut). shortcuts_in (reverse xs)) c.in_ok-push.ensures.items ∙ ap shortcuts_in (reverse-append c.loop-place.used.items (x ∷ [])) in
    let g = shortcut-at items i x c.index-shortcut.ensures in (
      c.loop-place.invariant.0 ∙ expanded-step ss n i b (shortcut_of x) c.requires q g
          ∙ ap (λ (vs : List model.Shortcut). expanded_case (take i ss) (by_shortcuts vs k)) (sym e),
      ap (λ (vs : List model.Shortcut). (by_shortcuts vs k).arrow) (sym e),
    )

pub index-shortcut-requires : goal.index-shortcut-requires
index-shortcut-requires c =
    let items = c.args.arrows.now.shortcuts.items in
    let ss = shortcuts_in items in
    let n = c.loop-place.limit in
    let i = c.in-Some.place in
    let b : CaseForm = by_shortcuts (shortcuts_in (reverse c.loop-place.used.items)) (case_form_of c.args.case) in
    let q : below n (place_from 0 (text_of b.arrow) ss) ≡ Some i =
    ap (λ y. below n (place_from 0 y ss)) (sym (c.text.ensures ∙ ap text_of c.loop-place.invariant.1)) ∙ sym c.place_below.ensures ∙ c.in-Some.is in
    let h : i < length ss = below-within n i (text_of b.arrow) ss q in
    let m : length ss ≡ length items = length-map items shortcut_of in
    let j : i < length items = omega arith in
    grind (arith, common_steps)

pub returns : goal.returns
returns c =
    let ss = shortcuts_in c.args.arrows.now.shortcuts.items in
    let k = case_form_of c.args.case in
    let n = c.loop-place.limit in
    let b : CaseForm = by_shortcuts (shortcuts_in (reverse c.loop-place.used.items)) k in
    let q : below n (place_from 0 (text_of b.arrow) ss) ≡ None =
    ap (λ y. below n (place_from 0 y ss)) (sym (c.text.ensures ∙ ap text_of c.loop-place.invariant.1)) ∙ sym c.place_below.ensures ∙ c.in_default.is in
    ap (λ (us : List Shortcut). by_shortcuts (shortcuts_in us) k) c.reverse.ensures.items
    ∙ sym (c.loop-place.invariant.0 ∙ expanded-last ss n b q)
