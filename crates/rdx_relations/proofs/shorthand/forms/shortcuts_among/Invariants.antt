use Rattle.std.proofs.Common.{◌≡◌, ◌++◌, drop}
use Rattle.rdx_relations.specs.Inside.ShortcutViews.{shortcuts_in}
use Rattle.rdx_relations.specs.Shorthand.{shortcuts_of}
use Rattle.rdx_relations.proofs.shorthand.forms.shortcuts_among.Given as goal

abbrev pub invariant-loop-d : goal.invariant-loop-d
invariant-loop-d l = shortcuts_in l.found.items ++ shortcuts_of (drop l.d-index l.parts) ≡ shortcuts_of l.parts
