use Rattle.rdx_why.proofs.EndLaws.{put-more}
use Rattle.rdx_why.proofs.ends.put.Goals as goal

pub returns : goal.returns
returns c k h = put-more c.args.store.now.kept.items _ c.push.new.self.items c.args.kept k c.make_room.ensures c.in_ok-push.ensures.items h
