use Rattle.rdx_eval.proofs.MemoLaws.{in-none}
use Rattle.rdx_eval.proofs.memo.make_room.Goals as goal

pub returns-then-nodes-gt-FULL : goal.returns-then-nodes-gt-FULL
returns-then-nodes-gt-FULL g c e h = in-none c.none.result.kept.items c.args.answers.now.kept.items e c.none.ensures h
