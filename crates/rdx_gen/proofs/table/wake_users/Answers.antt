use Rattle.std.proofs.Common.{◌≡◌, ◌∙◌, sym, subst, List, ℕ, []}
use Rattle.rdx_lang.specs.Members.{In}
use Rattle.rdx_gen.specs.Inside.Places.{list_at, lists_of}
use Rattle.rdx_gen.specs.Inside.Waiting.{Marks}
use Rattle.rdx_gen.proofs.MarkLaws.{marks-none}
use Rattle.rdx_gen.proofs.UserLaws.{past-none}
use Rattle.rdx_gen.proofs.SameHeights.{read-map}
use Rattle.rdx_gen.proofs.table.wake_users.Goals as goal

pub returns-in_ok-mark_all : goal.returns-in_ok-mark_all
returns-in_ok-mark_all c =
    let e : c.deref.result.now ≡ list_at (lists_of c.args.users.now) c.args.place =
    c.deref.ensures.value ∙ sym (read-map (λ v. v.items) c.args.users.now c.args.place c.index-users-place.result [] c.if-place-users.true c.index-users-place.is) in
    subst (λ (is : List ℕ). Marks (λ j. In j is) c.args.waits.now.items c.mark_all.new.marks.items c.args.waiting.now.items c.mark_all.new.listed.items) e c.in_ok-mark_all.ensures

pub returns-else-place-users : goal.returns-else-place-users
returns-else-place-users c = marks-none (λ j. In j (list_at (lists_of c.args.users.now) c.args.place)) c.args.waits.now.items c.args.waiting.now.items
    (λ j i. elim (subst (λ (is : List ℕ). In j is) (past-none c.args.users.now c.args.place c.if-place-users.false) i) [ ])
