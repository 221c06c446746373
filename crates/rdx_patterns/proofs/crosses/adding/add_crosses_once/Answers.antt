use Rattle.std.proofs.Common.{◌≡◌, ◌++◌, [], ◌∷◌, Bool, not, List, map, sym, ap, ◌∙◌, if◌then◌else◌}
use Rattle.std.proofs.lemmas.List.{append-nil}
use Rattle.std.specs.List.{list_any}
use Rattle.std.specs.Prelude.{bytes_eq}
use Rattle.rdx_lang.specs.Crosses as model
use Rattle.rdx_lang.specs.PatternView.{definition_of}
use Rattle.rdx_lang.specs.Patterns.{Definition}
use Rattle.rdx_patterns.specs.Inside.CrossesTo.{language_among}
use Rattle.rdx_patterns.specs.Inside.Repeats.{texts_in}
use Rattle.rdx_patterns.proofs.Seen.{contains-texts, texts-inserted, not_either}
use Rattle.rdx_patterns.proofs.crosses.adding.add_crosses_once.Goals as goal

pub returns-in_ok-add_crosses_to-clause-added : goal.returns-in_ok-add_crosses_to-clause-added
returns-in_ok-add_crosses_to-clause-added c =
    let seen = texts_in c.args.seen.now in
    let b : not c.in_ok-insert.field-0 ≡ list_any (bytes_eq c.args.to.now) seen =
    not_either c.in_ok-insert.field-0 _ c.in_ok-insert.ensures.added ∙ contains-texts c.text.result.now c.args.seen.now.keys
    ∙ ap (λ x. list_any (bytes_eq x) seen) c.text.ensures.value in
    let new : List Definition = model.new_crosses (language_among (map definition_of c.args.definitions.now)) c.args.to.now in
    c.in_ok-add_crosses_to.ensures
    ∙ ap (λ (t : Bool). map definition_of c.args.added.now.items ++ (if t then [] else new)) (sym (ap not c.if-branch.true) ∙ b)

pub returns-in_ok-add_crosses_to-clause-seen : goal.returns-in_ok-add_crosses_to-clause-seen
returns-in_ok-add_crosses_to-clause-seen c =
    let seen = texts_in c.args.seen.now in
    let h = texts-inserted c.text.result c.args.seen.now c.insert.new.self c.in_ok-insert.ensures.updates in
    λ x. h x ∙ ap (λ y. list_any (bytes_eq x) (y ∷ seen)) c.text.ensures.value

pub returns-else-branch-clause-added : goal.returns-else-branch-clause-added
returns-else-branch-clause-added c =
    let seen = texts_in c.args.seen.now in
    let b : not c.in_ok-insert.field-0 ≡ list_any (bytes_eq c.args.to.now) seen =
    not_either c.in_ok-insert.field-0 _ c.in_ok-insert.ensures.added ∙ contains-texts c.text.result.now c.args.seen.now.keys
    ∙ ap (λ x. list_any (bytes_eq x) seen) c.text.ensures.value in
    let new : List Definition = model.new_crosses (language_among (map definition_of c.args.definitions.now)) c.args.to.now in
    sym (append-nil (map definition_of c.args.added.now.items))
    ∙ ap (λ (t : Bool). map definition_of c.args.added.now.items ++ (if t then [] else new)) (sym (ap not c.if-branch.false) ∙ b)

pub returns-else-branch-clause-seen : goal.returns-else-branch-clause-seen
returns-else-branch-clause-seen c =
    let seen = texts_in c.args.seen.now in
    let h = texts-inserted c.text.result c.args.seen.now c.insert.new.self c.in_ok-insert.ensures.updates in
    λ x. h x ∙ ap (λ y. list_any (bytes_eq x) (y ∷ seen)) c.text.ensures.value
