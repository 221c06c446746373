use Rattle.std.proofs.Common.{◌≡◌, ◌++◌, ◌⊎◌, List, [], ◌∷◌, ◌∙◌, map, ap, sym, subst, arith}
use Rattle.std.proofs.lemmas.Grind.{common_steps}
use Rattle.std.specs.Prelude.{◌↔◌}
use Rattle.std.specs.BTreeSet.{insert_key}
use Rattle.rdx_lang.specs.Ascending.{IsAscending}
use Rattle.rdx_lang.specs.Members.{In}
use Rattle.rdx_lang.proofs.Keys.{ascends-inserted, moved_members, map-inserted}
use Rattle.rdx_reduce.specs.StepView.{step_of}
use Rattle.rdx_term.proofs.OrderLaws.{tree_cmp-equal}
use Rattle.rdx_term.specs.Model.TotalOrder.{tree_cmp-total}
use Rattle.rdx_term.specs.Order.{tree_cmp}
use Rattle.rdx_term.specs.Tree.{Tree}
use Rattle.rdx_term.specs.View.{tree_of}
use Rattle.rdx_answer.specs.StepAnswers.{reducts_in}
use Rattle.rdx_answer.proofs.step_answers.reducts_of.Goals as goal

pub loop-step-preserved : goal.loop-step-preserved
loop-step-preserved c =
    let t : Tree = tree_of c.in-Some.step.reduct in
    let keys : List Tree = map tree_of c.loop-step.set.keys in
    let e : insert_key tree_cmp keys t ≡ map tree_of c.insert.new.self.keys =
    sym (ap (map tree_of) c.in_ok-insert.ensures.keys ∙ map-inserted tree_of tree_cmp c.loop-step.set.keys c.in-Some.step.reduct) in
    let rest : List Tree = reducts_in (map step_of c.loop-step.rest.items) in
    let more : List Tree = reducts_in (map step_of c.pop.new.self.items) in
    let all : List Tree = reducts_in (map step_of c.args.found.items) in
    let f : rest ≡ more ++ t ∷ [] = grind (arith, common_steps) in
    record {
      ascending = subst (λ (ks : List Tree). IsAscending tree_cmp ks) e (ascends-inserted tree_cmp tree_cmp-total keys t c.loop-step.invariant.ascending);
      members = subst (λ (ks : List Tree). (z : Tree) → ((In z ks ⊎ In z more) ↔ In z all)) e
          (moved_members tree_cmp tree_cmp-total tree_cmp-equal keys rest more all t f c.loop-step.invariant.members);
    }
