use Rattle.std.proofs.Common.{◌≡◌, ◌++◌, ◌+◌, ℕ, List, [], ◌∷◌, IsTrue, drop, arith, subst}
use Rattle.std.proofs.lemmas.Grind.{common_steps}
use Rattle.rdx_lang.specs.Collecting.{Adds}
use Rattle.rdx_lang.proofs.Collecting.{collects-end, collects-next}
use Rattle.rdx_direct.specs.Inside.Paths.{GoesBehind, paths_in}
use Rattle.rdx_direct.specs.declared.paths.Branch.{Branch, out-Branch}
use Rattle.rdx_direct.specs.declared.paths.Paths.{out-Paths}
use Rattle.rdx_direct.proofs.PathLaws.{GoesAlong, goes_added, root_added, root_left}
use Rattle.rdx_direct.proofs.paths.Paths.+list.Goals.{then-self+in_ok-copy+in_ok-extend_from_slice+in_ok-push, else-self}
use Rattle.rdx_direct.proofs.paths.Paths.+list.Goals as goal

pub loop-branch-preserved : goal.loop-branch-preserved
loop-branch-preserved t c =
    let v : List ℕ = c.args.path.now.items in
    let b : Branch = c.branch-item.result in
    let pushed : c.push-in-loop-branch.new.self.items ≡ v ++ (out-Branch b).place ∷ [] = grind (arith, common_steps, c.loop-branch.invariant.path) in
    let next : drop c.loop-branch.branch-index c.deref-branch-items.result.now ≡ b ∷ drop (c.loop-branch.branch-index + 1) c.deref-branch-items.result.now = grind (arith, common_steps) in
    record {
      path = grind (arith, common_steps);
      found = collects-next (GoesAlong v) (out-Paths c.args.self.now).inside.items (paths_in c.if-self.found.items) b (drop c.loop-branch.branch-index c.deref-branch-items.result.now)
          (drop (c.loop-branch.branch-index + 1) c.deref-branch-items.result.now) (paths_in c.loop-branch.found.items) (paths_in c.list_behind.new.found.items) next c.loop-branch.invariant.found
          (subst (λ u. Adds (GoesBehind u (out-Branch b).paths) (paths_in c.loop-branch.found.items) (paths_in c.list_behind.new.found.items)) pushed c.in_ok-list_behind.ensures.found);
    }

pub returns-clause-found : goal.returns-clause-found
returns-clause-found t c =
    let v : List ℕ = c.args.path.now.items in
    let bs : List Branch = (out-Paths c.args.self.now).inside.items in
    let end : drop c.loop-branch.branch-index c.deref-branch-items.result.now ≡ [] = grind (arith, common_steps) in
    let first : Adds (λ w. IsTrue (out-Paths c.args.self.now).here × (w ≡ v)) (paths_in c.args.found.now.items) (paths_in c.if-self.found.items) =
    elim c.if-self.branch [
      | then-self+in_ok-copy+in_ok-extend_from_slice+in_ok-push x ↦
          root_added (out-Paths c.args.self.now).here v x.extend_from_slice.new.self c.args.found.now.items c.if-self.found.items x.if-self.true (grind (arith, common_steps)) (grind (arith, common_steps))
      | else-self x ↦ root_left (out-Paths c.args.self.now).here v c.args.found.now.items c.if-self.found.items x.if-self.false (grind (arith, common_steps))
    ] in
    goes_added v c.args.self.now (paths_in c.args.found.now.items) (paths_in c.if-self.found.items) (paths_in c.loop-branch.found.items) first
    (collects-end (GoesAlong v) bs (drop c.loop-branch.branch-index c.deref-branch-items.result.now) (paths_in c.if-self.found.items) (paths_in c.loop-branch.found.items) end c.loop-branch.invariant.found)
