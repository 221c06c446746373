use Rattle.std.proofs.Common.{◌≡◌, true, ap}
use Rattle.std.proofs.lemmas.Result.{IfOk-weaker}
use Rattle.rdx_lang.specs.Patterns.{wild, of_kind, except, prefix, lit}
use Rattle.rdx_lang.proofs.RuleSteps.{wild_splits, kind_splits, except_splits, prefix_splits, lit_splits}
use Rattle.rdx_term.specs.View.{tree_of}
use Rattle.rdx_bind.proofs.AtomListings.{listing_wild, listing_kind, listing_except, listing_prefix, listing_lit}
use Rattle.rdx_nodes.specs.Nodes.{pattern_by}
use Rattle.rdx_nodes.proofs.RowLaws.{row_where}
use Rattle.rdx_nodes.proofs.by_term.row_by_term.Goals as goal

pub returns-in-Wild-clause-row : goal.returns-in-Wild-clause-row
returns-in-Wild-clause-row c ps =
    let e : pattern_by ps c.args.form.now ≡ wild = ap (pattern_by ps) c.in-Wild.is in
    IfOk-weaker c.plain_row.result _ _ (λ row r. row_where c.args.splits true e (λ bs f. listing_wild f)
    (λ s h. wild_splits h.split) r) c.plain_row.ensures

pub returns-in-Kind-clause-row : goal.returns-in-Kind-clause-row
returns-in-Kind-clause-row c ps =
    let e : pattern_by ps c.args.form.now ≡ of_kind c.in-Kind.kind = ap (pattern_by ps) c.in-Kind.is in
    IfOk-weaker c.plain_row-in-Kind.result _ _ (λ row r. row_where c.args.splits c.is_of_kind.result e
    (λ bs f. listing_kind c.is_of_kind.result f c.is_of_kind.ensures) (λ s h. kind_splits h.split) r) c.plain_row-in-Kind.ensures

pub returns-in-Except-clause-row : goal.returns-in-Except-clause-row
returns-in-Except-clause-row c ps =
    let e : pattern_by ps c.args.form.now ≡ except c.in-Except.names.now = ap (pattern_by ps) c.in-Except.is in
    IfOk-weaker c.plain_row-in-Except.result _ _ (λ row r. row_where c.args.splits c.is_other_symbol.result e
    (λ bs f. listing_except c.is_other_symbol.result f c.is_other_symbol.ensures) (λ s h. except_splits h.split) r) c.plain_row-in-Except.ensures

pub returns-in-Prefix-clause-row : goal.returns-in-Prefix-clause-row
returns-in-Prefix-clause-row c ps =
    let e : pattern_by ps c.args.form.now ≡ prefix c.in-Prefix.prefix.now = ap (pattern_by ps) c.in-Prefix.is in
    IfOk-weaker c.plain_row-in-Prefix.result _ _ (λ row r. row_where c.args.splits c.has_prefix.result e
    (λ bs f. listing_prefix c.has_prefix.result f c.has_prefix.ensures) (λ s h. prefix_splits h.split) r) c.plain_row-in-Prefix.ensures

pub returns-in-Lit-clause-row : goal.returns-in-Lit-clause-row
returns-in-Lit-clause-row c ps =
    let e : pattern_by ps c.args.form.now ≡ lit (tree_of c.in-Lit.literal.now) = ap (pattern_by ps) c.in-Lit.is in
    IfOk-weaker c.plain_row-in-Lit.result _ _ (λ row r. row_where c.args.splits c.same_bare.result e
    (λ bs f. listing_lit c.same_bare.result f c.same_bare.ensures) (λ s h. lit_splits h.split) r) c.plain_row-in-Lit.ensures
