use Rattle.std.proofs.Common.{◌≡◌, ◌≤◌, ◌∷◌, take}
use Rattle.rdx_sexp.specs.Sexp.{sexps}
use Rattle.rdx_sexp.specs.Size.{sexps_depth}
use Rattle.rdx_relations.specs.Inside.Filling.{deepest, nested, old_arrow, layers_at}
use Rattle.rdx_relations.specs.Inside.ShortcutViews.{shortcuts_in}
use Rattle.rdx_relations.specs.declared.shorthand.filling.Side.TheVariants.{OfPattern, OfResult}
use Rattle.rdx_relations.proofs.shorthand.expanding.expanded_parts.Given as goal

abbrev pub invariant-loop-extra : goal.invariant-loop-extra
invariant-loop-extra l =
    (l.parts.items
    ≡ old_arrow (shortcuts_in l.used) l.fn.case.arrow.now
    ∷ nested OfPattern (layers_at (shortcuts_in l.used) l.fn.case.arrow.now) l.fn.case.pattern.now
    ∷ nested OfResult (layers_at (shortcuts_in l.used) l.fn.case.arrow.now) l.fn.case.result.now
    ∷ take l.extra-index l.fn.case.extras.now)
    × (sexps_depth (sexps l.parts.items) ≤ deepest)
