use Rattle.std.proofs.Common.{false, subst}
use Rattle.std.proofs.lemmas.Result.{IfOk-weaker}
use Rattle.rdx_lang.specs.Listing.{IsListing}
use Rattle.rdx_lang.specs.Members.{In}
use Rattle.rdx_lang.specs.Order.{binding_cmp}
use Rattle.rdx_lang.specs.Shown.{bindings_of}
use Rattle.rdx_bind.proofs.Seeing.{matches_seen}
use Rattle.rdx_nodes.proofs.RowLaws.{row_matches}
use Rattle.rdx_table.proofs.table.TableMatcher.matches.Goals as goal

pub returns : goal.returns
returns c =
    let found = bindings_of c.in_ok-row.row.matches.items in
    IfOk-weaker c.listing.result _ _ (λ v l. matches_seen found (row_matches false c.in_ok-row.ensures)
    (subst (λ bs. IsListing binding_cmp (bindings_of v.items) (λ b. In b bs)) c.in_ok-all_visible.ensures l)) c.listing.ensures
