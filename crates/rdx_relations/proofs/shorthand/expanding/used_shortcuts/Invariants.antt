use Rattle.std.proofs.Common.{◌≡◌, reverse, take}
use Rattle.rdx_relations.specs.Expansion.{expanded_case}
use Rattle.rdx_relations.specs.Inside.Filling.{by_shortcuts}
use Rattle.rdx_relations.specs.Inside.FormViews.{case_form_of}
use Rattle.rdx_relations.specs.Inside.ShortcutViews.{shortcuts_in}
use Rattle.rdx_relations.proofs.shorthand.expanding.used_shortcuts.Given as goal

abbrev pub invariant-loop-place : goal.invariant-loop-place
invariant-loop-place l =
    (expanded_case (shortcuts_in l.arrows.shortcuts.items) (case_form_of l.fn.case)
    ≡ expanded_case (take l.limit (shortcuts_in l.arrows.shortcuts.items)) (by_shortcuts (shortcuts_in (reverse l.used.items)) (case_form_of l.fn.case)))
    × (l.arrow ≡ (by_shortcuts (shortcuts_in (reverse l.used.items)) (case_form_of l.fn.case)).arrow)

abbrev pub decreases-loop-place : goal.decreases-loop-place
decreases-loop-place l = l.limit
