use Rattle.std.proofs.Common.{◌≡◌, ◌+◌, ◌-◌, inl, sym, ◌∙◌, ap, arith}
use Rattle.rdx_term.specs.Tree.{tree_nodes}
use Rattle.rdx_lang.proofs.Collecting.{In_along}
use Rattle.rdx_enum.specs.Inside.Rows.{row_at}
use Rattle.rdx_enum.proofs.Loops.{adds_keeps, adds_pairs, adds_only}
use Rattle.rdx_enum.proofs.rows.add_level.Goals as goal

pub add_across-requires : goal.add_across-requires
add_across-requires c t u h k =
    let a : tree_nodes t ≡ c.args.j = c.requires.heads c.args.j t (In_along _ (row_at c.args.heads.now c.args.j) c.row.ensures h) in
    let b : tree_nodes u ≡ c.args.total - c.args.j = c.requires.tails (c.args.total - c.args.j) u (In_along _ (row_at c.args.tails.now (c.args.total - c.args.j)) c.row-2.ensures k) in
    omega arith

pub returns-then-j-total-clause-only : goal.returns-then-j-total-clause-only
returns-then-j-total-clause-only c = λ x h. inl h

pub returns-clause-kept : goal.returns-clause-kept
returns-clause-kept c = adds_keeps _ _ _ c.in_ok-add_across.ensures

pub returns-clause-made : goal.returns-clause-made
returns-clause-made c i t u x e h g k =
    let f : c.args.total - c.args.j ≡ i = omega arith in
    adds_pairs c.args.way _ _ _ _ t u x c.in_ok-add_across.ensures
    (In_along (row_at c.args.heads.now c.args.j) _ (sym c.row.ensures) h)
    (In_along (row_at c.args.tails.now i) _ (sym (c.row-2.ensures ∙ ap (row_at c.args.tails.now) f)) g) k

pub returns-clause-only : goal.returns-clause-only
returns-clause-only c =
    let f : c.args.j + (c.args.total - c.args.j) ≡ c.args.total = omega arith in
    adds_only c.args.way c.args.heads.now c.args.tails.now c.args.j (c.args.total - c.args.j) c.args.total _ _ _ _ c.row.ensures c.row-2.ensures f c.in_ok-add_across.ensures
