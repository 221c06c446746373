use Rattle.std.proofs.Common.{◌∙◌, ap}
use Rattle.std.specs.Prelude.{is_some}
use Rattle.rdx_relations.specs.Inside.ShortcutViews.{shortcuts_in}
use Rattle.rdx_relations.proofs.ArrowPlaces.{place-among}
use Rattle.rdx_relations.proofs.shorthand.arrows.Arrows.has.Goals as goal

pub returns : goal.returns
returns c = c.is_some.ensures ∙ ap is_some c.place.ensures ∙ place-among 0 c.args.arrow.now (shortcuts_in c.args.self.now.shortcuts.items)
