use Rattle.std.proofs.Common.{◌≡◌, drop, []}
use Rattle.rdx_patterns.specs.Inside.Repeats.{texts_in}
use Rattle.rdx_patterns.specs.Refusal.{first}
use Rattle.rdx_relations.specs.Expansion.{unknown_olds}
use Rattle.rdx_relations.specs.Inside.ShortcutViews.{shortcuts_in}
use Rattle.rdx_relations.proofs.shorthand.checks.first_unknown_old.Given as goal

abbrev pub invariant-loop-shortcut : goal.invariant-loop-shortcut
invariant-loop-shortcut l =
    first (unknown_olds [] (shortcuts_in l.shortcuts))
    ≡ first (unknown_olds (texts_in l.seen) (shortcuts_in (drop l.shortcut-index l.shortcuts)))
