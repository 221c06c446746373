use Rattle.std.proofs.Common.{◌≡◌, ◌∙◌, ◌∷◌, Some, sym, ap, subst}
use Rattle.std.specs.List.{list_any}
use Rattle.std.specs.Prelude.{Option, bytes_eq, option_map}
use Rattle.rdx_patterns.specs.Inside.Repeats.{texts_in, HaveSame}
use Rattle.rdx_patterns.specs.Parts.{text_of}
use Rattle.rdx_patterns.proofs.Seen.{texts-inserted}
use Rattle.rdx_relations.specs.Inside.ShortcutViews.{shortcut_of}
use Rattle.rdx_relations.specs.RelationStands.{arrows_with}
use Rattle.rdx_relations.specs.Shorthand.{Shortcut, shortcut_form}
use Rattle.rdx_relations.proofs.relations.stands.add_shortcut.Goals as goal

pub returns-clause-seen : goal.returns-clause-seen
returns-clause-seen c =
    let seen = texts_in c.args.seen.now in
    let s = c.in-Some.shortcut in
    let h : HaveSame (texts_in c.insert.new.self) (text_of s.new.now ∷ seen) =
    (λ x. texts-inserted c.text.result c.args.seen.now c.insert.new.self c.in_ok-insert.ensures.updates x ∙ ap (λ y. list_any (bytes_eq x) (y ∷ seen)) c.text.ensures) in
    let f : shortcut_form c.args.d.now ≡ Some (shortcut_of s) = sym c.shortcut_form.ensures ∙ ap (option_map shortcut_of) c.in-Some.is in
    subst (λ (o : Option Shortcut). HaveSame (texts_in c.insert.new.self) (arrows_with seen o)) (sym f) h
