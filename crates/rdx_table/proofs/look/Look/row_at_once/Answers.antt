use Rattle.std.proofs.Common.{IfOk, IfSome, List, sym, subst}
use Rattle.rdx_term.specs.Tree.{Tree}
use Rattle.rdx_lang.specs.Patterns.{Language, Pattern}
use Rattle.rdx_lang.specs.Rules.{Match}
use Rattle.rdx_bind.specs.Columns.{HasAsked}
use Rattle.rdx_bind.specs.Rows.{split_row_of}
use Rattle.rdx_bind.specs.Spots.{SplitsAt}
use Rattle.rdx_nodes.specs.Asked.{asked_where}
use Rattle.rdx_nodes.specs.Nodes.{pattern_by}
use Rattle.rdx_table.specs.Inside.Looks.{language_of_look, patterns_of_look, aim_tree}
use Rattle.rdx_table.proofs.look.Look.row_at_once.Goals as goal

pub returns-clause-row : goal.returns-clause-row
returns-clause-row c =
    let L : Language = language_of_look c.args.self.now in
    let ps : List Pattern = patterns_of_look c.args.self.now in
    let t : Tree = aim_tree c.args.self.now c.args.goal in
    subst (λ (p : Pattern). IfSome c.row_by_term.result (λ r. IfOk r
    (λ row. HasAsked (Match L p t) (SplitsAt L p t) (asked_where c.args.goal.splits) (split_row_of row))))
    (sym c.requires.form.pattern)
    (subst (λ (u : Tree). IfSome c.row_by_term.result (λ r. IfOk r
    (λ row. HasAsked (Match L (pattern_by ps c.args.form.now) u) (SplitsAt L (pattern_by ps c.args.form.now) u) (asked_where c.args.goal.splits)
    (split_row_of row))))
    c.term-t.ensures (c.row_by_term.ensures.row ps))
