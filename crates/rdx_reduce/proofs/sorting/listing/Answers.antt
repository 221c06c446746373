use Rattle.std.proofs.Common.{◌≡◌, ◌++◌, ◌⊎◌, List, [], ◌∷◌, ◌∙◌, ap, sym, subst, map, arith}
use Rattle.std.proofs.lemmas.Grind.{common_steps}
use Rattle.std.specs.Prelude.{◌↔◌}
use Rattle.std.specs.BTreeSet.{insert_key}
use Rattle.rdx_lang.specs.Ascending.{IsAscending}
use Rattle.rdx_lang.specs.Members.{In}
use Rattle.rdx_lang.proofs.Collecting.{listing_itself}
use Rattle.rdx_lang.proofs.Keys.{ascends-inserted, moved_members, map-inserted}
use Rattle.rdx_reduce.specs.Model.TotalOrder.{step_cmp-total}
use Rattle.rdx_reduce.specs.Steps.{Step, step_cmp}
use Rattle.rdx_reduce.specs.StepView.{step_of, steps_in}
use Rattle.rdx_reduce.specs.declared.step.Step as code_step
use Rattle.rdx_reduce.proofs.StepOrder.{step_cmp-tells}
use Rattle.rdx_reduce.proofs.sorting.listing.Goals as goal

pub loop-step-preserved : goal.loop-step-preserved
loop-step-preserved c =
    let s : Step = step_of c.in-Some.step in
    let keys : List Step = map step_of c.loop-step.set.keys in
    let e : insert_key step_cmp keys s ≡ map step_of c.insert.new.self.keys =
    sym (ap (λ (ks : List code_step.Step). map step_of ks) c.in_ok-insert.ensures.keys ∙ map-inserted step_of step_cmp c.loop-step.set.keys c.in-Some.step) in
    let f : steps_in c.loop-step.rest ≡ steps_in c.pop.new.self ++ s ∷ [] = grind (arith, common_steps) in
    record {
      ascending = subst (λ (ks : List Step). IsAscending step_cmp ks) e (ascends-inserted step_cmp step_cmp-total keys s c.loop-step.invariant.ascending);
      members = subst (λ (ks : List Step). (z : Step) → ((In z ks ⊎ In z (steps_in c.pop.new.self)) ↔ In z (steps_in c.args.found))) e
          (moved_members step_cmp step_cmp-total step_cmp-tells keys (steps_in c.loop-step.rest) (steps_in c.pop.new.self) (steps_in c.args.found) s f c.loop-step.invariant.members);
    }

pub returns-then-is_listed : goal.returns-then-is_listed
returns-then-is_listed c = listing_itself step_cmp step_of c.args.found.items (omega arith)
