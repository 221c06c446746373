use Rattle.std.proofs.Common.{◌≡◌, List, ℕ, subst, sym, arith, set, true}
use Rattle.rdx_gen.specs.Inside.Waiting.{Marks}
use Rattle.rdx_gen.proofs.MarkLaws.{mark-new}
use Rattle.rdx_gen.proofs.marking.mark.Goals as goal

pub returns-in_ok-push : goal.returns-in_ok-push
returns-in_ok-push c = subst (λ (ls : List ℕ). Marks (λ j. j ≡ c.args.place) c.args.marks.now.items (set c.args.marks.now.items c.args.place true) c.args.listed.now.items ls)
    (sym c.in_ok-push.ensures.items) (mark-new c.args.marks.now.items c.args.listed.now.items c.args.place (omega arith))
