use Rattle.std.proofs.Common.{sym, subst, List, ℕ, arith}
use Rattle.rdx_lang.specs.Members.{In}
use Rattle.rdx_gen.proofs.UserLaws.{put-there, put-kept}
use Rattle.rdx_gen.proofs.users.add_at.Goals as goal

pub returns-in_ok-add_once-clause-here : goal.returns-in_ok-add_once-clause-here
returns-in_ok-add_once-clause-here c l = subst (λ (is : List ℕ). In c.args.number is) (sym (put-there c.args.lists.now.items c.args.place c.add_once.new.list l)) c.in_ok-add_once.ensures.here

pub returns-in_ok-add_once-clause-kept : goal.returns-in_ok-add_once-clause-kept
returns-in_ok-add_once-clause-kept c = put-kept c.args.lists.now.items c.args.place c.index_mut.result.now c.add_once.new.list (omega arith) c.index_mut.ensures.value c.in_ok-add_once.ensures.kept
