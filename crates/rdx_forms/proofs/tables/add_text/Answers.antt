use Rattle.std.proofs.Common.{◌≡◌, true, false}
use Rattle.std.proofs.lemmas.Map.Text.{btree_map_updates_text}
use Rattle.std.specs.BTreeMap.{get_by_text}
use Rattle.std.specs.Prelude.{Some}
use Rattle.std.specs.String.{string_bytes}
use Rattle.rdx_lang.proofs.FirstPlaces.{finds-again, finds-new, places-behind}
use Rattle.rdx_forms.proofs.tables.add_text.Goals as goal

pub returns-then-contains_key-clause-added : goal.returns-then-contains_key-clause-added
returns-then-contains_key-clause-added c xs e =
    let found = get_by_text c.args.firsts.now in
    places-behind (λ y. y) c.args.place c.args.text.now xs found found e
    (finds-again found c.args.text.now c.args.place (let f : c.contains_key.result ≡ true = c.if-contains_key.true in cc))

pub returns-clause-added : goal.returns-clause-added
returns-clause-added c xs e =
    let found = get_by_text c.args.firsts.now in
    let more = get_by_text c.insert.new.self in
    let key = string_bytes c.in_ok-key.key in
    places-behind (λ y. y) c.args.place c.args.text.now xs found more e
    (finds-new found more key c.args.text.now c.args.place c.in_ok-key.ensures.ok
    (btree_map_updates_text key c.args.firsts.now c.insert.new.self (Some c.args.place) c.in_ok-insert.ensures.updates)
    (let f : c.contains_key.result ≡ false = c.if-contains_key.false in cc))
