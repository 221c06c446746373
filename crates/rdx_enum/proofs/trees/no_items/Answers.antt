use Rattle.std.proofs.Common.{◌≡◌, [], refl, sym, ◌∙◌, ap, arith}
use Rattle.std.proofs.lemmas.Grind.{common_steps}
use Rattle.rdx_term.specs.Tree.{tree_nodes}
use Rattle.rdx_lang.specs.Members.{here}
use Rattle.rdx_lang.proofs.Collecting.{In_along, no_member, only}
use Rattle.rdx_enum.specs.Inside.Rows.{row_of}
use Rattle.rdx_enum.proofs.trees.no_items.Goals as goal

pub returns-then-m-eq1-clause-empty : goal.returns-then-m-eq1-clause-empty
returns-then-m-eq1-clause-empty c = λ e. In_along _ _ (sym c.in_ok-row.ensures) (here refl)

pub returns-then-m-eq1-clause-sized : goal.returns-then-m-eq1-clause-sized
returns-then-m-eq1-clause-sized c = λ t h. ap tree_nodes (only (In_along _ _ c.in_ok-row.ensures h)) ∙ sym c.if-m-eq1.true

pub returns-clause-sized : goal.returns-clause-sized
returns-clause-sized c = let n : row_of c.new.result ≡ [] = grind (arith, common_steps) in λ t h. no_member (In_along _ _ n h)
