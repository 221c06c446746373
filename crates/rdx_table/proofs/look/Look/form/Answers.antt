use Rattle.std.proofs.Common.{◌≡◌, ◌<◌, length, arith}
use Rattle.std.proofs.lemmas.Grind.{common_steps}
use Rattle.rdx_nodes.proofs.NodePatterns.{patterns_in-length}
use Rattle.rdx_table.specs.Inside.Looks.{patterns_of_look}
use Rattle.rdx_table.proofs.LookForms.{form_of_node}
use Rattle.rdx_table.proofs.look.Look.form.Goals as goal

pub index-requires : goal.index-requires
index-requires c =
    let ns = c.args.self.now.setting.now.nodes.items in
    let m : length (patterns_of_look c.args.self.now) ≡ length ns = patterns_in-length ns in
    let h : c.args.number < length ns = omega (arith, m, c.requires.number) in
    grind (arith, common_steps)

pub returns : goal.returns
returns c = form_of_node c.args.self.now c.args.number c.index.result.now c.requires.look c.requires.number c.index.ensures
