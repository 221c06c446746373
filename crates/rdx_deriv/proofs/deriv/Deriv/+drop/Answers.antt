use Rattle.std.proofs.Common.{rules, ◌≡◌, ◌++◌, ◌∷◌, [], ◌<◌, ℕ, subst, arith}
use Rattle.std.proofs.lemmas.Grind.{common_steps}
use denote.Param.Weighed.{most}
use Rattle.rdx_deriv.proofs.deriv.Deriv.TheLaws.{the_size}
use Rattle.rdx_deriv.proofs.Dropping.{falls, most_kept, under_less}
use Rattle.rdx_deriv.proofs.deriv.Deriv.+drop.Goals as goal

pub loop-next-smaller : goal.loop-next-smaller
loop-next-smaller t c =
    falls c.pop.new.self.items c.loop-next.left.items c.apart-under.result.items c.append.new.self.items c.in-Some.next (grind (arith, common_steps)) c.apart-under.ensures.under _ c.append.ensures.items

pub loop-next-preserved : goal.loop-next-preserved
loop-next-preserved t c =
    let k : most the_size c.apart-under.result.items < the_size c.in-Some.next = c.apart-under.ensures.smaller in
    let e : c.loop-next.left.items ≡ c.pop.new.self.items ++ c.in-Some.next ∷ [] = grind (arith, common_steps) in
    most_kept the_size (the_size c.args.self) c.pop.new.self.items c.loop-next.left.items c.apart-under.result.items c.append.new.self.items c.in-Some.next _ e k c.append.ensures.items c.loop-next.invariant

pub drop-under-requires : goal.drop-under-requires
drop-under-requires t c κs =
    let e : c.loop-next.left.items ≡ c.pop.new.self.items ++ c.in-Some.next ∷ [] = grind (arith, common_steps) in
    let k : most the_size c.append.new.other.items < the_size c.args.self =
    under_less the_size (the_size c.args.self) c.pop.new.self.items c.loop-next.left.items c.apart-under.result.items c.append.new.other.items c.in-Some.next _ e c.apart-under.ensures.smaller c.append.ensures.other_items c.loop-next.invariant in
    (((subst (λ (n : ℕ). most the_size c.append.new.other.items < n) c.decreases k, tt), tt), search rules)
