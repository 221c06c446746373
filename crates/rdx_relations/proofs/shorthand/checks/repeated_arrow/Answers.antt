use Rattle.std.proofs.Common.{◌≡◌, ◌∙◌, ◌∷◌, [], not, ap, if◌then◌else◌}
use Rattle.std.specs.List.{list_any}
use Rattle.std.specs.Prelude.{bytes_eq}
use Rattle.rdx_patterns.specs.Inside.Repeats.{texts_in}
use Rattle.rdx_patterns.specs.Kinds.{is_among}
use Rattle.rdx_patterns.specs.Parts.{text_of}
use Rattle.rdx_patterns.specs.Refusal.{first}
use Rattle.rdx_patterns.proofs.Seen.{contains-texts, texts-inserted, not_either}
use Rattle.rdx_relations.proofs.ArrowPlaces.{among-turned}
use Rattle.rdx_relations.proofs.shorthand.checks.repeated_arrow.Goals as goal

pub returns-clause-again : goal.returns-clause-again
returns-clause-again c =
    let d = c.args.shortcut.new.now in
    let seen = texts_in c.args.seen.now in
    let b : not c.in_ok-is_new.is_new ≡ is_among seen (text_of d) =
    not_either c.in_ok-is_new.is_new _ c.in_ok-is_new.ensures.added
    ∙ contains-texts c.text.result.now c.args.seen.now.keys ∙ ap (λ x. list_any (bytes_eq x) seen) c.text.ensures ∙ among-turned (text_of d) seen in
    c.when.ensures ∙ ap (λ t. first (if t then d ∷ [] else [])) b

pub returns-clause-seen : goal.returns-clause-seen
returns-clause-seen c =
    let seen = texts_in c.args.seen.now in
    let h = texts-inserted c.text.result c.args.seen.now c.insert.new.self c.in_ok-is_new.ensures.updates in
    λ x. h x ∙ ap (λ y. list_any (bytes_eq x) (y ∷ seen)) c.text.ensures
