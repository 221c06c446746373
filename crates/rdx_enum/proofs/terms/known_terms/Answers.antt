use Rattle.std.proofs.Common.{◌≡◌, ◌<◌, [], ◌∙◌, ap, arith}
use Rattle.std.proofs.lemmas.Grind.{common_steps}
use Rattle.rdx_term.specs.Tree.{tree_nodes}
use Rattle.rdx_enum.specs.Inside.Rows.{row_of, row_at}
use Rattle.rdx_enum.proofs.TableLaws.{knows_none, knows_more}
use Rattle.rdx_enum.proofs.terms.known_terms.Goals as goal

pub loop-m-init : goal.loop-m-init
loop-m-init c = let e : row_of c.new-found.result ≡ [] = grind (arith, common_steps) in λ L P a. knows_none L P c.args.name.now _ e

pub loop-m-preserved : goal.loop-m-preserved
loop-m-preserved c = λ L P a.
    knows_more L P c.args.tables.now c.args.name.now c.args.k c.loop-m.m c.in-Some.table.now _ _ _ a c.requires.there c.in-Some.ensures.among c.in-Some.ensures.name (omega arith)
    (c.row.ensures ∙ ap (λ rows. row_at rows c.loop-m.m) c.deref.ensures.value) c.in_ok-add_all.ensures (c.loop-m.invariant L P a)

pub returns-clause-all : goal.returns-clause-all
returns-clause-all c = λ L P a t o l s. (c.loop-m.invariant L P a).all t o (omega arith) s

pub returns-clause-only : goal.returns-clause-only
returns-clause-only c = λ L P a t h.
    let k : tree_nodes t < c.loop-m.m = (c.loop-m.invariant L P a).small t h in
    (omega arith, (c.loop-m.invariant L P a).met t h)
