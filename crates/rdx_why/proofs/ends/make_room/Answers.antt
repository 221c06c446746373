use Rattle.rdx_eval.proofs.MemoLaws.{in-none}
use Rattle.rdx_why.proofs.ends.make_room.Goals as goal

pub returns-then-nodes-gt-FULL : goal.returns-then-nodes-gt-FULL
returns-then-nodes-gt-FULL c k h = in-none c.none.result.kept.items c.args.store.now.kept.items k c.none.ensures h
