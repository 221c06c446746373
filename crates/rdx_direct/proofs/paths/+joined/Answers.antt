use Rattle.std.proofs.Common.{◌≡◌, ◌∙◌, ◌⊎◌, inl, inr, ◌++◌, ℕ, List, [], ◌∷◌, refl, sym, ap, subst, arith, append-nil, reverse}
use Rattle.std.specs.Prelude.{◌↔◌}
use Rattle.std.proofs.lemmas.Grind.{common_steps}
use Rattle.rdx_direct.specs.Inside.Paths.{LeadsIn}
use Rattle.rdx_direct.proofs.PathLaws.{leads_alone, leads_both, leads_nowhere, leads_together, leads_turned, made_both, merged, moves_last}
use Rattle.rdx_direct.specs.declared.paths.Branch.{Branch, out-Branch, roll-Branch}
use Rattle.rdx_direct.specs.declared.paths.Paths.{Paths, out-Paths, out-roll-Paths}
use Rattle.rdx_direct.proofs.paths.+joined.Goals.{joined_branches-in-Some-take_same+in_ok-joined-in-Some-take_same, joined_branches-in-None}
use Rattle.rdx_direct.proofs.paths.+joined.Goals as goal

pub Paths::joined-returns : goal.Paths::joined-returns
Paths::joined-returns t c =
    made_both c.args.self c.args.more _ _ c.in_ok-inside-2.inside
    (sym (ap (λ x. x.here) (out-roll-Paths (out-Paths c.args.self)))) (sym (ap (λ x. x.here) (out-roll-Paths (out-Paths c.args.more)))) c.in_ok-inside-2.ensures

pub joined_branches-returns-then-are_apart : goal.joined_branches-returns-then-are_apart
joined_branches-returns-then-are_apart t c w =
    let e : c.append.new.self.items ≡ c.args.firsts.items ++ c.args.others.items = grind (arith, common_steps) in
    leads_together c.args.firsts.items c.args.others.items c.append.new.self.items w e

pub joined_branches-loop-branch-preserved : goal.joined_branches-loop-branch-preserved
joined_branches-loop-branch-preserved t c w =
    let b : Branch = c.in-Some.branch in
    let found : List Branch = c.move_later.new.moved.items in
    let left : List Branch = c.move_later.new.branches.items in
    let left' : List Branch = c.take_same.new.branches.items in
    let right : c.loop-branch.right.items ≡ c.pop.new.self.items ++ b ∷ [] = grind (arith, common_steps) in
    let pushed : c.push.new.self.items ≡ found ++ c.match-take_same.both ∷ [] = grind (arith, common_steps) in
    let onward = λ (ss : List Branch) (e : left ≡ left' ++ ss) (j : LeadsIn (c.match-take_same.both ∷ []) w ↔ (LeadsIn ss w ⊎ LeadsIn (b ∷ []) w)).
    merged (leads_together c.pop.new.self.items (b ∷ []) c.loop-branch.right.items w right) (c.in_ok-move_later.ensures w) (leads_together left' ss left w e) j
    (leads_together found (c.match-take_same.both ∷ []) c.push.new.self.items w pushed) (c.loop-branch.invariant w) in
    elim c.match-take_same.branch [
      | joined_branches-in-Some-take_same+in_ok-joined-in-Some-take_same x ↦
          let s : Branch = x.in-Some-take_same.same in
          let n : ℕ = (out-Branch b).place in
          let P : Paths = x.in_ok-joined-in-Some-take_same.field-0 in
          let both : c.match-take_same.both ≡ roll-Branch (record { place = n; paths = P }) = x.both-is in
          onward (s ∷ []) x.in-Some-take_same.ensures.1
          (subst (λ k. LeadsIn (k ∷ []) w ↔ (LeadsIn (s ∷ []) w ⊎ LeadsIn (b ∷ []) w)) (sym both)
          (leads_both n s b P w x.in-Some-take_same.ensures.0 refl x.in_ok-joined-in-Some-take_same.ensures))
      | joined_branches-in-None x ↦
          onward [] (sym x.in-None.ensures ∙ sym (append-nil left'))
          (subst (λ k. LeadsIn (k ∷ []) w ↔ (LeadsIn [] w ⊎ LeadsIn (b ∷ []) w)) (sym x.both-is) (leads_alone (b ∷ []) w))
    ]

pub joined_branches-loop-branch-2-init : goal.joined_branches-loop-branch-2-init
joined_branches-loop-branch-2-init t c w =
    let e : c.loop-branch.right.items ≡ [] = grind (arith, common_steps) in
    let i = c.loop-branch.invariant w in (
      elim [ inl f ↦ i.0 (inl f) | inr l ↦ i.0 (inr (inl l)) ],
      λ h. elim (i.1 h) [ inl f ↦ inl f | inr (inl l) ↦ inr l | inr (inr r) ↦ leads_nowhere c.loop-branch.right.items w e r ],
    )

pub joined_branches-loop-branch-2-preserved : goal.joined_branches-loop-branch-2-preserved
joined_branches-loop-branch-2-preserved t c =
    let e : c.loop-branch-2.left.items ≡ c.pop-in-loop-branch-2.new.self.items ++ c.in-Some-pop.branch ∷ [] = grind (arith, common_steps) in
    let f : c.push-in-Some-pop.new.self.items ≡ c.loop-branch-2.found.items ++ c.in-Some-pop.branch ∷ [] = grind (arith, common_steps) in
    moves_last c.loop-branch-2.found.items c.push-in-Some-pop.new.self.items c.loop-branch-2.left.items c.pop-in-loop-branch-2.new.self.items c.args.firsts.items c.args.others.items
    c.in-Some-pop.branch e f c.loop-branch-2.invariant

pub joined_branches-returns : goal.joined_branches-returns
joined_branches-returns t c w =
    let e : c.loop-branch-2.left.items ≡ [] = grind (arith, common_steps) in
    let f : c.reverse.new.self.items ≡ reverse c.loop-branch-2.found.items = grind (arith, common_steps) in
    let i = c.loop-branch-2.invariant w in
    let turned = leads_turned c.loop-branch-2.found.items w in (
      λ l. i.0 (inl (turned.0 (subst (λ bs. LeadsIn bs w) f l))),
      λ h. elim (i.1 h) [ inl l ↦ subst (λ bs. LeadsIn bs w) (sym f) (turned.1 l) | inr l ↦ leads_nowhere c.loop-branch-2.left.items w e l ],
    )
