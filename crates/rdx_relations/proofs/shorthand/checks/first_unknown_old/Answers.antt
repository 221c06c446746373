use Rattle.std.proofs.Common.{◌∙◌, ◌∷◌, sym, ap}
use Rattle.std.specs.List.{list_any}
use Rattle.std.specs.Prelude.{bytes_eq}
use Rattle.rdx_patterns.specs.Inside.Repeats.{texts_in, HaveSame}
use Rattle.rdx_patterns.specs.Parts.{text_of}
use Rattle.rdx_patterns.specs.Refusal.{first}
use Rattle.rdx_patterns.proofs.Seen.{texts-inserted}
use Rattle.rdx_relations.proofs.ShorthandRefused.{olds-here, olds-later}
use Rattle.rdx_relations.proofs.shorthand.checks.first_unknown_old.Goals as goal

pub loop-shortcut-preserved : goal.loop-shortcut-preserved
loop-shortcut-preserved c =
    let seen = texts_in c.loop-shortcut.seen in
    let s = c.shortcut-item.result in
    let h : HaveSame (texts_in c.insert.new.self) (text_of s.new.now ∷ seen) =
    (λ x. texts-inserted c.text.result c.loop-shortcut.seen c.insert.new.self c.in_ok-insert.ensures.updates x
    ∙ ap (λ y. list_any (bytes_eq x) (y ∷ seen)) c.text.ensures) in
    c.loop-shortcut.invariant
    ∙ ap first (olds-later c.args.shortcuts.now c.loop-shortcut.shortcut-index s seen (texts_in c.insert.new.self)
    c.loop-shortcut-test.true c.shortcut-item.is (sym c.is_known.ensures ∙ c.if-is_known.true) h)

pub returns-else-is_known : goal.returns-else-is_known
returns-else-is_known c =
    sym (c.loop-shortcut.invariant
    ∙ ap first (olds-here c.args.shortcuts.now c.loop-shortcut.shortcut-index c.shortcut-item.result (texts_in c.loop-shortcut.seen)
    c.loop-shortcut-test.true c.shortcut-item.is (sym c.is_known.ensures ∙ c.if-is_known.false)))
