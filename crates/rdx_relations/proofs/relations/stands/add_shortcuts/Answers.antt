use Rattle.std.proofs.Common.{◌++◌, ◌∙◌, ◌+◌, drop, List, sym, ap, append_assoc}
use Rattle.rdx_patterns.specs.Inside.Repeats.{texts_in}
use Rattle.rdx_parts.specs.PartViews.{stands_of}
use Rattle.rdx_relations.specs.RelationStands.{shortcut_stands, shortcuts_stand}
use Rattle.rdx_relations.specs.Shorthand.{shortcut_form}
use Rattle.rdx_parts.specs.Stands.{Stand}
use Rattle.rdx_relations.proofs.ShortcutStands.{shortcuts-from}
use Rattle.rdx_relations.proofs.relations.stands.add_shortcuts.Goals as goal

pub loop-d-preserved : goal.loop-d-preserved
loop-d-preserved c =
    let ds = c.args.shortcuts.now in
    let i = c.loop-d.d-index in
    let d = c.d-item.result in
    let xs = texts_in c.loop-d.seen in
    let ys = texts_in c.add_shortcut.new.seen in
    let rest = shortcuts_stand ys (drop (i + 1) ds) in
    let k = shortcuts-from ds i d xs ys c.loop-d-test.true c.d-item.is c.in_ok-add_shortcut.ensures.seen in
    ap (λ (ss : List Stand). ss ++ rest) c.in_ok-add_shortcut.ensures.stands
    ∙ append_assoc (stands_of c.loop-d.out.items) (shortcut_stands xs d (shortcut_form d)) rest
    ∙ ap (λ (ss : List Stand). stands_of c.loop-d.out.items ++ ss) (sym k)
    ∙ c.loop-d.invariant
