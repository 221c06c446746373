use Rattle.std.proofs.Common.{◌≡◌, drop, []}
use Rattle.rdx_patterns.specs.Inside.Repeats.{texts_in}
use Rattle.rdx_patterns.specs.Refusal.{first}
use Rattle.rdx_relations.specs.Expansion.{repeated_arrows}
use Rattle.rdx_relations.specs.Inside.ShortcutViews.{shortcuts_in}
use Rattle.rdx_relations.proofs.shorthand.checks.first_repeated_arrow.Given as goal

abbrev pub invariant-loop-shortcut : goal.invariant-loop-shortcut
invariant-loop-shortcut l =
    first (repeated_arrows [] (shortcuts_in l.shortcuts))
    ≡ first (repeated_arrows (texts_in l.seen) (shortcuts_in (drop l.shortcut-index l.shortcuts)))
