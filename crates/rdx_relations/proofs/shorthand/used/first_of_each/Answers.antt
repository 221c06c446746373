use Rattle.std.proofs.Common.{◌≡◌, ◌++◌, ◌∙◌, ◌+◌, drop, List, [], ◌∷◌, sym, ap, if◌then◌else◌}
use Rattle.std.specs.Prelude.{is_none}
use Rattle.rdx_patterns.specs.Inside.Repeats.{texts_in}
use Rattle.rdx_patterns.specs.Refusal.{first}
use Rattle.rdx_relations.specs.Inside.Arrows.{again}
use Rattle.rdx_relations.specs.Inside.ShortcutViews.{shortcut_of, shortcuts_in}
use Rattle.rdx_relations.specs.Shorthand as model
use Rattle.rdx_relations.specs.declared.shorthand.forms.Shortcut.{Shortcut}
use Rattle.rdx_relations.proofs.ShorthandRefused.{firsts-next, found-more, none-mapped, none-tested}
use Rattle.rdx_relations.proofs.shorthand.used.first_of_each.Goals as goal
use Rattle.rdx_relations.proofs.shorthand.used.first_of_each.Goals.{then-is_none+in_ok-push, else-is_none}

pub loop-shortcut-preserved : goal.loop-shortcut-preserved
loop-shortcut-preserved c =
    let xs = texts_in c.loop-shortcut.seen in
    let ys = texts_in c.repeated_arrow.new.seen in
    let s = c.shortcut-item.result in
    let fs = c.loop-shortcut.found.items in
    let rest = model.first_of_each ys (shortcuts_in (drop (c.loop-shortcut.shortcut-index + 1) c.args.shortcuts.now)) in
    let n : is_none (first (again xs s.new.now)) ≡ c.is_none.result =
    ap is_none (sym c.in_ok-repeated_arrow.ensures.again) ∙ none-mapped (λ d. d.now) c.in_ok-repeated_arrow.field-0
    ∙ none-tested c.in_ok-repeated_arrow.field-0 c.is_none.result (sym c.is_none.ensures) in
    let k = firsts-next c.args.shortcuts.now c.loop-shortcut.shortcut-index s xs ys c.is_none.result c.loop-shortcut-test.true c.shortcut-item.is n c.in_ok-repeated_arrow.ensures.seen in
    elim c.if-is_none.branch [
      | then-is_none+in_ok-push w ↦
          ap (λ (gs : List Shortcut). shortcuts_in gs ++ rest) (ap (λ v. v.items) w.found-is ∙ w.in_ok-push.ensures.items)
          ∙ found-more fs s rest
          ∙ ap (λ b. shortcuts_in fs ++ ((if b then shortcut_of s ∷ [] else []) ++ rest)) (sym w.if-is_none.true)
          ∙ ap (λ zs. shortcuts_in fs ++ zs) (sym k) ∙ c.loop-shortcut.invariant
      | else-is_none w ↦
          ap (λ v. shortcuts_in v.items ++ rest) w.found-is
          ∙ ap (λ b. shortcuts_in fs ++ ((if b then shortcut_of s ∷ [] else []) ++ rest)) (sym w.if-is_none.false)
          ∙ ap (λ zs. shortcuts_in fs ++ zs) (sym k) ∙ c.loop-shortcut.invariant
    ]
