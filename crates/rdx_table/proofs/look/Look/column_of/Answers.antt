use Rattle.std.proofs.Common.{◌≡◌, ◌+◌, ◌-◌, ℕ, suc, List, ◌∷◌, length, take, drop, refl, sym, ◌∙◌, ap, arith}
use Rattle.std.proofs.lemmas.List.{length-map}
use Rattle.rdx_term.specs.Tree.{Tree}
use Rattle.rdx_lang.specs.PatternView.{Slot}
use Rattle.rdx_bind.proofs.AskedRows.{nothings-length}
use Rattle.rdx_bind.specs.Ones.{nothings}
use Rattle.rdx_bind.specs.declared.asks.Ask.{Ask}
use Rattle.rdx_store.specs.Stored.{tree_by_id, trees_by_ids}
use Rattle.rdx_nodes.specs.Nodes.{slot_at, slots_at}
use Rattle.rdx_table.specs.Inside.Looks.{patterns_of_look, trees_of_look, aim_pattern, aim_tree}
use Rattle.rdx_table.specs.Inside.Tasks.{slots_in, items_in}
use Rattle.rdx_table.proofs.look.Look.column_of.Goals as goal

pub returns-clause-task : goal.returns-clause-task
returns-clause-task c =
    let ps = patterns_of_look c.args.self.now in
    let n = length-map c.args.part.entries.now (slot_at ps) in
    let m = length-map c.args.part.ids.now (tree_by_id (trees_of_look c.args.self.now)) in
    let k : length c.in_ok-asks.asks.items ≡ suc (length (nothings (length c.args.part.ids.now))) = ap length c.in_ok-asks.ensures in
    let j = nothings-length (length c.args.part.ids.now) in
    let s = c.requires.within.last_slot in
    let t = c.requires.within.last_term in
    record {
      number = c.requires.goal.number;
      id = c.requires.goal.id;
      items = omega arith;
      within = omega arith;
      some = omega arith;
      places = omega arith;
    }

pub returns-clause-part : goal.returns-clause-part
returns-clause-part c =
    let ps = patterns_of_look c.args.self.now in
    let slots : List Slot = slots_at ps c.args.part.entries.now in
    let terms : List Tree = trees_by_ids (trees_of_look c.args.self.now) c.args.part.ids.now in
    let n = length-map c.args.part.entries.now (slot_at ps) in
    let m : length terms ≡ length c.args.part.ids.now = length-map c.args.part.ids.now (tree_by_id (trees_of_look c.args.self.now)) in
    let k : length c.in_ok-asks.asks.items ≡ suc (length (nothings (length c.args.part.ids.now))) = ap length c.in_ok-asks.ensures in
    let j = nothings-length (length c.args.part.ids.now) in
    let a : c.args.part.place + length c.args.part.entries.now - c.args.part.place ≡ length slots = omega arith in
    let b : length c.in_ok-asks.asks.items - 1 ≡ length terms = omega arith in
    record {
      slots = ap (λ (i : ℕ). take i (drop c.args.part.place (slots_in (aim_pattern c.args.self.now c.args.goal)))) a ∙ c.requires.within.slots;
      trees = ap (λ (i : ℕ). take i (drop c.args.part.place (items_in (aim_tree c.args.self.now c.args.goal)))) b ∙ c.requires.within.terms;
      place = refl;
      asks = c.in_ok-asks.ensures ∙ ap (λ (i : ℕ). c.asked_where.result ∷ nothings i) (sym m)
          ∙ ap (λ (x : Ask). x ∷ nothings (length terms)) c.asked_where.ensures;
    }
