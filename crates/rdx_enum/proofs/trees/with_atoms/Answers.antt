use Rattle.std.proofs.Common.{◌≡◌, ℕ, ◌++◌, ◌⊎◌, inl, inr, List, sym, ◌∙◌, map, arith}
use Rattle.rdx_term.specs.Tree.{Tree, tree_nodes}
use Rattle.rdx_term.specs.View.{tree_of}
use Rattle.rdx_lang.specs.Members.{In}
use Rattle.rdx_lang.proofs.Collecting.{In_along}
use Rattle.rdx_lang.proofs.MemberLaws.{in-append, append-left, append-right}
use Rattle.rdx_enum.specs.Inside.Rows.{row_of, HaveNodes}
use Rattle.rdx_enum.proofs.trees.with_atoms.Goals as goal

-- the atoms and the lists of one node have one
sized_both : (lists pool : List Tree) (m : ℕ) (row out : List Tree) → HaveNodes m lists → HaveNodes 1 pool → m ≡ 1 → row ≡ lists → out ≡ row ++ pool → HaveNodes m out
sized_both lists pool m row out a b e f g t h = go (in-append row pool t (In_along out (row ++ pool) g h))
  where
    go : In t row ⊎ In t pool → tree_nodes t ≡ m
    go (inl k) = a t (In_along row lists f k)
    go (inr k) = b t k ∙ sym e

pub returns-then-m-ne1-clause-atoms : goal.returns-then-m-ne1-clause-atoms
returns-then-m-ne1-clause-atoms c = λ t e h. absurd (omega arith)

pub returns-then-m-ne1-clause-kept : goal.returns-then-m-ne1-clause-kept
returns-then-m-ne1-clause-kept c = λ x h. In_along (map tree_of c.args.lists.now) _ (sym c.in_ok-row.ensures) h

pub returns-clause-atoms : goal.returns-clause-atoms
returns-clause-atoms c = λ t e h. In_along _ (row_of c.add_all.new.out) (sym c.in_ok-add_all.ensures) (append-right (row_of c.in_ok-row.row) (map tree_of c.args.pool.now) t h)

pub returns-clause-kept : goal.returns-clause-kept
returns-clause-kept c = λ x h. In_along _ (row_of c.add_all.new.out) (sym c.in_ok-add_all.ensures) (append-left (row_of c.in_ok-row.row) (map tree_of c.args.pool.now) x
    (In_along (map tree_of c.args.lists.now) (row_of c.in_ok-row.row) (sym c.in_ok-row.ensures) h))

pub returns-then-m-ne1-clause-sized : goal.returns-then-m-ne1-clause-sized
returns-then-m-ne1-clause-sized c = λ t h. c.requires.lists t (In_along (row_of c.in_ok-row.row) (map tree_of c.args.lists.now) c.in_ok-row.ensures h)

pub returns-clause-sized : goal.returns-clause-sized
returns-clause-sized c = λ t h. sized_both (map tree_of c.args.lists.now) (map tree_of c.args.pool.now) c.args.m (row_of c.in_ok-row.row) _ c.requires.lists c.requires.pool (omega arith) c.in_ok-row.ensures c.in_ok-add_all.ensures t h
