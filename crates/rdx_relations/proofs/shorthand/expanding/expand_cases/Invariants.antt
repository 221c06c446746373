use Rattle.std.proofs.Common.{◌≡◌, ◌+◌, ◌≤◌, map, take}
use Rattle.rdx_sexp.specs.Sexp.{sexps}
use Rattle.rdx_sexp.specs.Size.{sexps_depth}
use Rattle.rdx_relations.specs.Expansion as model
use Rattle.rdx_relations.specs.Inside.Filling.{deepest}
use Rattle.rdx_relations.specs.Inside.ShortcutViews.{shortcuts_in}
use Rattle.rdx_relations.specs.RelationForms.{case_form}
use Rattle.rdx_relations.proofs.shorthand.expanding.expand_cases.Given as goal

abbrev pub invariant-loop-d : goal.invariant-loop-d
invariant-loop-d l =
    (l.expanded.items ≡ map (λ d. model.expanded_by (shortcuts_in l.arrows.shortcuts.items) d (case_form d)) (take l.d-index l.cases))
    × (sexps_depth (sexps l.expanded.items) ≤ deepest + 1)
