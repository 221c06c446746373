use Rattle.std.proofs.Common.{◌≡◌, ◌∙◌, ap, subst}
use Rattle.std.proofs.lemmas.Result.{IfOk-weaker}
use Rattle.rdx_term.specs.Tree.{Tree}
use Rattle.rdx_lang.specs.Checked.{language_in, pattern_in}
use Rattle.rdx_lang.specs.Patterns.{Language, Pattern}
use Rattle.rdx_lang.specs.PatternView.{pattern_of}
use Rattle.rdx_lang.specs.Rules.{Match}
use Rattle.rdx_bind.specs.Columns.{HasAsked}
use Rattle.rdx_bind.specs.Rows.{split_row_of}
use Rattle.rdx_bind.specs.Spots.{SplitsAt}
use Rattle.rdx_store.specs.Stored.{tree_by_id}
use Rattle.rdx_nodes.specs.Asked.{asked_where}
use Rattle.rdx_nodes.specs.Interned.{tree_in}
use Rattle.rdx_nodes.specs.Nodes.{pattern_at}
use Rattle.rdx_nodes.specs.Settings.{language_at, patterns_at_hand, trees_at_hand, DoesAsWell, Grows}
use Rattle.rdx_nodes.proofs.RowLaws.{row_as_well}
use Rattle.rdx_table.proofs.table.row_of.Goals as goal

pub returns : goal.returns
returns c =
    let L : Language = language_in c.args.language.now in
    let new = c.add.new.self in
    let grows : Grows c.new-setting.result new = c.in_ok-number.ensures.grows in
    let l : language_at new ≡ L = grows.language ∙ c.new-setting.ensures.language in
    let p : Pattern = pattern_at (patterns_at_hand new) c.in_ok-number.number in
    let q : Pattern = pattern_in c.args.pat.now in
    let id = c.args.whole.now.id in
    let t : Tree = tree_in c.args.whole.now in
    let well : DoesAsWell (language_at new) p (pattern_of c.pat.result.now) = c.in_ok-number.ensures.pattern in
    let w : DoesAsWell L p q = subst (λ (k : Language). DoesAsWell k p q) l
    (subst (λ (r : Pattern). DoesAsWell (language_at new) p r) c.pat.ensures well) in
    let u : tree_by_id (trees_at_hand new) id ≡ t = ap (λ ts. tree_by_id ts id) (grows.terms ∙ c.new-setting.ensures.terms) in
    IfOk-weaker c.solve.result _ _ (λ row h.
    let k : HasAsked (Match (language_at new) p (tree_by_id (trees_at_hand new) id)) (SplitsAt (language_at new) p (tree_by_id (trees_at_hand new) id))
    (asked_where c.args.splits) (split_row_of row) = h in
    let g : HasAsked (Match L p t) (SplitsAt L p t) (asked_where c.args.splits) (split_row_of row) =
    subst (λ (k : Language). HasAsked (Match k p t) (SplitsAt k p t) (asked_where c.args.splits) (split_row_of row)) l
    (subst (λ (v : Tree). HasAsked (Match (language_at new) p v) (SplitsAt (language_at new) p v) (asked_where c.args.splits)
    (split_row_of row)) u k) in
    row_as_well c.args.splits w g) c.solve.ensures
