use Rattle.std.proofs.Common.{List, ℕ, subst, sym, [], ◌∷◌, refl}
use Rattle.rdx_lang.proofs.MemberLaws.{append-left, append-right}
use Rattle.rdx_lang.specs.Members.{In, here}
use Rattle.rdx_gen.proofs.users.add_once.Goals as goal

pub returns-clause-here : goal.returns-clause-here
returns-clause-here c = subst (λ (is : List ℕ). In c.args.number is) (sym c.in_ok-push.ensures.items) (append-right c.args.list.now.items (c.args.number ∷ []) c.args.number (here refl))

pub returns-clause-kept : goal.returns-clause-kept
returns-clause-kept c j i = subst (λ (is : List ℕ). In j is) (sym c.in_ok-push.ensures.items) (append-left c.args.list.now.items (c.args.number ∷ []) j i)
