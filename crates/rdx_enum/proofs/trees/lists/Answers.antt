use Rattle.std.proofs.Common.{◌≡◌, ◌+◌, subst, arith}
use Rattle.rdx_enum.specs.Inside.Rows.{row_of, HasOnly}
use Rattle.rdx_enum.specs.declared.way.Way.TheVariants.{Item}
use Rattle.rdx_enum.proofs.Sizes.{only_size}
use Rattle.rdx_enum.proofs.trees.lists.Goals as goal

pub returns-clause-empty : goal.returns-clause-empty
returns-clause-empty c = λ e. c.in_ok-add_combined.ensures.kept _ (c.in_ok-row.ensures.empty e)

pub returns-clause-sized : goal.returns-clause-sized
returns-clause-sized c =
    let same : c.args.m ≡ c.args.m + 0 = omega arith in
    only_size Item c.args.all.now c.args.lists.now c.requires.all c.requires.lists c.args.m _ _ c.in_ok-row.ensures.sized
    (subst (λ total. HasOnly Item c.args.all.now c.args.lists.now total (row_of c.in_ok-row.row) (row_of c.add_combined.new.out)) same c.in_ok-add_combined.ensures.only)

pub returns-clause-made : goal.returns-clause-made
returns-clause-made c = c.in_ok-add_combined.ensures.made
