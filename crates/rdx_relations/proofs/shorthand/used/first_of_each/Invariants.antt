use Rattle.std.proofs.Common.{◌≡◌, ◌++◌, [], drop}
use Rattle.rdx_patterns.specs.Inside.Repeats.{texts_in}
use Rattle.rdx_relations.specs.Inside.ShortcutViews.{shortcuts_in}
use Rattle.rdx_relations.specs.Shorthand as model
use Rattle.rdx_relations.proofs.shorthand.used.first_of_each.Given as goal

abbrev pub invariant-loop-shortcut : goal.invariant-loop-shortcut
invariant-loop-shortcut l =
    shortcuts_in l.found.items ++ model.first_of_each (texts_in l.seen) (shortcuts_in (drop l.shortcut-index l.shortcuts))
    ≡ model.first_of_each [] (shortcuts_in l.shortcuts)
