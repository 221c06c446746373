use Rattle.std.proofs.Common.{List, length, ap, sym, ◌∙◌, subst, arith}
use Rattle.rdx_lang.specs.Patterns.{Pattern}
use Rattle.rdx_nodes.specs.Nodes.{AreEntries}
use Rattle.rdx_nodes.specs.declared.node.Entry.{Entry}
use Rattle.rdx_table.specs.Inside.LookForms.{entries_in}
use Rattle.rdx_table.specs.Inside.Looks.{language_of_look, patterns_of_look}
use Rattle.rdx_table.proofs.LookForms.{entries_right}
use Rattle.rdx_table.proofs.look.Look.row_by_parts.Goals as goal

pub list-requires-clause-entries : goal.list-requires-clause-entries
list-requires-clause-entries c =
    let ps : List Pattern = patterns_of_look c.args.self.now in
    subst (λ (es : List Entry). AreEntries ps (length ps) es) (ap entries_in c.in-Seq.is ∙ sym c.deref.ensures.value)
    (entries_right (language_of_look c.args.self.now) ps c.args.goal.number (length ps) c.args.form.now
    (omega (arith, c.requires.goal.number)) c.requires.form.right)
