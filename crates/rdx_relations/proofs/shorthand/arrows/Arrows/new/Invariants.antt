use Rattle.std.proofs.Common.{drop}
use Rattle.rdx_relations.specs.Inside.Arrows.{FindsPlaces}
use Rattle.rdx_relations.specs.Inside.ShortcutViews.{shortcuts_in}
use Rattle.rdx_relations.proofs.shorthand.arrows.Arrows.new.Given as goal

abbrev pub invariant-loop-place : goal.invariant-loop-place
invariant-loop-place l = FindsPlaces l.places l.place (shortcuts_in (drop l.place l.shortcuts.items))
