use Rattle.std.proofs.Common.{◌<◌, length, arith}
use Rattle.std.proofs.lemmas.List.{length-map}
use Rattle.rdx_store.specs.Stored.{tree_by_id}
use Rattle.rdx_nodes.specs.Nodes.{slot_at}
use Rattle.rdx_table.specs.Inside.Looks.{patterns_of_look, trees_of_look}
use Rattle.rdx_table.proofs.Entries.{number_below, slot_by_number, id_below, tree_by_place}
use Rattle.rdx_table.proofs.look.Look.goal_at.Goals as goal

pub returns-clause-goal : goal.returns-clause-goal
returns-clause-goal c =
    let ps = patterns_of_look c.args.self.now in
    let es = c.args.part.entries.now in
    let is = c.args.part.ids.now in
    let n = length-map es (slot_at ps) in
    let m = length-map is (tree_by_id (trees_of_look c.args.self.now)) in
    let s = c.requires.single.as_many in
    let h : c.args.i < length es = omega arith in
    record {
      number = number_below ps es c.args.i c.number_at.result c.requires.part.entries h c.number_at.ensures;
      id = id_below is c.args.i 0 c.requires.part.ids c.requires.place;
    }

pub returns-clause-at : goal.returns-clause-at
returns-clause-at c =
    let ps = patterns_of_look c.args.self.now in
    let es = c.args.part.entries.now in
    let is = c.args.part.ids.now in
    let n = length-map es (slot_at ps) in
    let m = length-map is (tree_by_id (trees_of_look c.args.self.now)) in
    let s = c.requires.single.as_many in
    let h : c.args.i < length es = omega arith in
    record {
      slot = slot_by_number ps es c.args.i c.number_at.result c.requires.single.single h c.number_at.ensures;
      tree = tree_by_place (trees_of_look c.args.self.now) is c.args.i 0 c.requires.place;
    }
