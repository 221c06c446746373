use Rattle.std.proofs.Common.{◌≡◌, ◌++◌, ◌∙◌, not, [], ◌∷◌, sym, ap}
use Rattle.std.specs.List.{list_any}
use Rattle.std.specs.Prelude.{bytes_eq}
use Rattle.rdx_patterns.specs.Inside.Repeats.{texts_in}
use Rattle.rdx_patterns.specs.Parts.{text_of}
use Rattle.rdx_patterns.specs.PatternChecks.{when}
use Rattle.rdx_patterns.proofs.Seen.{contains-texts, texts-inserted, not_either}
use Rattle.rdx_templates.specs.Earliest.{start, earliest}
use Rattle.rdx_templates.proofs.EarliestPlaces.{earliest-when}
use Rattle.rdx_parts.specs.PartViews.{stand_of}
use Rattle.rdx_parts.specs.NamesAgain.{name_again, bound_with}
use Rattle.rdx_parts.specs.StandChecks.{label, names_with}
use Rattle.rdx_parts.proofs.RepeatedNames.{last-same}
use Rattle.rdx_parts.proofs.stands.checks.name_again.Goals as goal

pub returns-in_ok-is_new-in-Fresh-clause-again : goal.returns-in_ok-is_new-in-Fresh-clause-again
returns-in_ok-is_new-in-Fresh-clause-again c =
    let d = c.in-Fresh.d.now in
    let seen = texts_in c.args.seen.now in
    let bound = texts_in c.args.bound.now in
    let b : not c.in_ok-is_new-in-Fresh.is_new ≡ list_any (bytes_eq (text_of d)) bound =
    not_either c.in_ok-is_new-in-Fresh.is_new _ c.in_ok-is_new-in-Fresh.ensures.added
    ∙ contains-texts c.text.result.now c.args.bound.now.keys ∙ ap (λ x. list_any (bytes_eq x) bound) c.text.ensures in
    c.when.ensures ∙ sym (earliest-when start (not c.in_ok-is_new-in-Fresh.is_new) d) ∙ ap (λ t. earliest start (when t d)) b
    ∙ ap (λ s. earliest start (name_again seen bound (stand_of s))) (sym c.in-Fresh.is)

pub returns-in_ok-is_new-in-Fresh-clause-bound : goal.returns-in_ok-is_new-in-Fresh-clause-bound
returns-in_ok-is_new-in-Fresh-clause-bound c =
    let ns = c.args.names.now in
    let bound = texts_in c.args.bound.now in
    let h = texts-inserted c.text.result c.args.bound.now c.insert.new.self c.in_ok-is_new-in-Fresh.ensures.updates in
    λ x. h x ∙ last-same c.text.result.now bound x ∙ ap (λ y. list_any (bytes_eq x) (bound ++ y ∷ [])) c.text.ensures
    ∙ ap (λ s. list_any (bytes_eq x) (bound_with ns bound (stand_of s))) (sym c.in-Fresh.is)

pub returns-in_ok-is_new-in-Named-clause-again : goal.returns-in_ok-is_new-in-Named-clause-again
returns-in_ok-is_new-in-Named-clause-again c =
    let d = c.in-Named.d.now in
    let seen = texts_in c.args.seen.now in
    let bound = texts_in c.args.bound.now in
    let b : not c.in_ok-is_new-in-Named.is_new ≡ list_any (bytes_eq (label d)) seen =
    not_either c.in_ok-is_new-in-Named.is_new _ c.in_ok-is_new-in-Named.ensures.added
    ∙ contains-texts c.label.result.now c.args.seen.now.keys ∙ ap (λ x. list_any (bytes_eq x) seen) c.label.ensures in
    c.when-in-Named.ensures ∙ sym (earliest-when start (not c.in_ok-is_new-in-Named.is_new) d) ∙ ap (λ t. earliest start (when t d)) b
    ∙ ap (λ s. earliest start (name_again seen bound (stand_of s))) (sym c.in-Named.is)

pub returns-in_ok-is_new-in-Named-clause-seen : goal.returns-in_ok-is_new-in-Named-clause-seen
returns-in_ok-is_new-in-Named-clause-seen c =
    let seen = texts_in c.args.seen.now in
    let h = texts-inserted c.label.result c.args.seen.now c.insert-in-Named.new.self c.in_ok-is_new-in-Named.ensures.updates in
    λ x. h x ∙ ap (λ y. list_any (bytes_eq x) (y ∷ seen)) c.label.ensures
    ∙ ap (λ s. list_any (bytes_eq x) (names_with seen (stand_of s))) (sym c.in-Named.is)
