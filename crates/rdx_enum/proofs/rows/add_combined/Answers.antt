use Rattle.std.proofs.Common.{inl, arith}
use Rattle.rdx_enum.proofs.Loops.{keeps_then, only_then, levels_next, levels_all}
use Rattle.rdx_enum.proofs.rows.add_combined.Goals as goal

pub loop-j-init : goal.loop-j-init
loop-j-init c = record {
  kept = λ x h. h;
  made = λ j l k. absurd (omega arith);
  only = λ x h. inl h;
}

pub loop-j-preserved : goal.loop-j-preserved
loop-j-preserved c = record {
  kept = keeps_then _ _ _ c.loop-j.invariant.kept c.in_ok-add_level.ensures.kept;
  made = levels_next c.args.way c.args.heads.now c.args.tails.now c.args.from c.args.total c.loop-j.j _ _ c.loop-j.invariant.made c.in_ok-add_level.ensures.kept c.in_ok-add_level.ensures.made;
  only = only_then c.args.way c.args.heads.now c.args.tails.now c.args.total _ _ _ c.loop-j.invariant.only c.in_ok-add_level.ensures.only;
}

pub returns-clause-made : goal.returns-clause-made
returns-clause-made c = levels_all c.args.way c.args.heads.now c.args.tails.now c.args.from c.args.total c.loop-j.j _ (omega arith) c.loop-j.invariant.made
