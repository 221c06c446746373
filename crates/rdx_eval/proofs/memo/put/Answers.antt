use Rattle.rdx_eval.proofs.MemoLaws.{in-put, in-set}
use Rattle.rdx_eval.proofs.memo.put.Goals as goal

pub returns-then-place-len : goal.returns-then-place-len
returns-then-place-len g c e h = in-set c.args.answers.now.kept.items _ c.args.entry e h

pub returns : goal.returns
returns g c e h = in-put c.args.answers.now.kept.items c.push.new.self.items c.args.entry e c.in_ok-push.ensures.items h
