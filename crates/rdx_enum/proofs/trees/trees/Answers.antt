use Rattle.std.proofs.Common.{map, sym, subst, arith}
use Rattle.std.proofs.lemmas.Grind.{common_steps}
use Rattle.rdx_term.specs.View.{tree_of}
use Rattle.rdx_enum.specs.Inside.Rows.{row_of, AreSized, HaveNodes, Combines, Keeps}
use Rattle.rdx_enum.specs.declared.way.Way.TheVariants.{Item}
use Rattle.rdx_enum.proofs.AllTrees.{all_start, all_next, all_trees}
use Rattle.rdx_enum.proofs.trees.trees.Goals as goal

pub lists-requires-clause-all : goal.lists-requires-clause-all
lists-requires-clause-all c = subst AreSized (sym c.deref.ensures.value) c.loop-m.invariant.sized_all

pub lists-requires-clause-lists : goal.lists-requires-clause-lists
lists-requires-clause-lists c = subst AreSized (sym c.deref-in-loop-m.ensures.value) c.loop-m.invariant.sized_lists

pub with_atoms-requires-clause-lists : goal.with_atoms-requires-clause-lists
with_atoms-requires-clause-lists c = subst (λ xs. HaveNodes c.loop-m.m (map tree_of xs)) (sym c.deref-in-loop-m-2.ensures.value) c.in_ok-row_lists.ensures.sized

pub loop-m-init : goal.loop-m-init
loop-m-init c = all_start (map tree_of c.args.pool.now) _ _ c.new-all.ensures.items c.new-of_lists.ensures.items

pub loop-m-preserved : goal.loop-m-preserved
loop-m-preserved c =
    all_next (map tree_of c.args.pool.now) c.loop-m.m c.loop-m.all.items c.push.new.self.items c.loop-m.of_lists.items c.push-in-loop-m.new.self.items c.in_ok-row_all.row_all c.in_ok-row_lists.row_lists
    (grind (arith, common_steps)) (grind (arith, common_steps)) c.loop-m.invariant
    c.in_ok-row_all.ensures.atoms c.in_ok-row_lists.ensures.empty
    (subst (λ xs. Combines Item xs c.loop-m.of_lists.items 0 c.loop-m.m (row_of c.in_ok-row_lists.row_lists)) c.deref.ensures.value
    (subst (λ ys. Combines Item c.deref.result.now ys 0 c.loop-m.m (row_of c.in_ok-row_lists.row_lists)) c.deref-in-loop-m.ensures.value c.in_ok-row_lists.ensures.made))
    (subst (λ xs. Keeps (map tree_of xs) (row_of c.in_ok-row_all.row_all)) c.deref-in-loop-m-2.ensures.value c.in_ok-row_all.ensures.kept)
    c.in_ok-row_all.ensures.sized c.in_ok-row_lists.ensures.sized

pub returns-clause-sized : goal.returns-clause-sized
returns-clause-sized c = c.loop-m.invariant.sized_all

pub returns-clause-all : goal.returns-clause-all
returns-clause-all c = λ t o l. all_trees (map tree_of c.args.pool.now) c.loop-m.m c.loop-m.all.items c.loop-m.of_lists.items c.loop-m.invariant t o (omega arith)
