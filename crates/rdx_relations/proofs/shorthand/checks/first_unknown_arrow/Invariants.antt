use Rattle.std.proofs.Common.{◌≡◌, drop}
use Rattle.rdx_patterns.specs.Refusal.{first}
use Rattle.rdx_relations.specs.Expansion.{new_arrows, unknown_arrows}
use Rattle.rdx_relations.specs.Inside.ShortcutViews.{shortcuts_in}
use Rattle.rdx_relations.proofs.shorthand.checks.first_unknown_arrow.Given as goal

abbrev pub invariant-loop-d : goal.invariant-loop-d
invariant-loop-d l =
    first (unknown_arrows (new_arrows (shortcuts_in l.arrows.shortcuts.items)) l.cases)
    ≡ first (unknown_arrows (new_arrows (shortcuts_in l.arrows.shortcuts.items)) (drop l.d-index l.cases))
