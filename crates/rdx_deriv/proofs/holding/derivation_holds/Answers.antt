use Rattle.std.proofs.Common.{◌≡◌, ◌∙◌, ◌++◌, ◌∷◌, [], Bool, true, false, map, subst, arith}
use Rattle.std.proofs.lemmas.Grind.{common_steps}
use Rattle.rdx_lang.specs.ProgramView.{program_of}
use Rattle.rdx_lang.specs.declared.program.Program.{Program}
use Rattle.std.specs.Borrow.{Bor}
use Rattle.rdx_eval.specs.Views.{program_in}
use Rattle.rdx_deriv.specs.DerivationView.{derivation_of}
use Rattle.rdx_deriv.specs.Inside.Named.{IsNodeOf}
use Rattle.rdx_deriv.specs.Inside.Worklists.{listed}
use Rattle.rdx_deriv.proofs.HeldLists.{one_fails, one_holds}
use Rattle.rdx_deriv.proofs.Worklists.{nodes_fall}
use Rattle.rdx_deriv.proofs.holding.derivation_holds.Goals as goal

pub returns-then-not-branch-clause-holds : goal.returns-then-not-branch-clause-holds
returns-then-not-branch-clause-holds g c =
    let P = program_of (program_in c.args.engine.now).now in
    let d = derivation_of c.in-Some.next.now in
    let e : listed c.loop-next.left.items ≡ listed c.pop.new.self.items ++ d ∷ [] = grind (arith, common_steps) in
    let f : c.in_ok-is_node.field-0 ≡ false = cc in
    one_fails P (derivation_of c.args.d.now) (listed c.pop.new.self.items) (listed c.loop-next.left.items) d e c.loop-next.invariant.holding
    (subst (λ (p : Bor Program). IsNodeOf false (program_of p.now) d) c.loop-next.invariant.same
    (subst (λ (r : Bool). IsNodeOf r (program_of (program_in c.loop-next.engine).now) d) f c.in_ok-is_node.ensures.node))

pub loop-next-smaller : goal.loop-next-smaller
loop-next-smaller g c =
    let d = derivation_of c.in-Some.next.now in
    let e : listed c.loop-next.left.items ≡ listed c.pop.new.self.items ++ d ∷ [] = grind (arith, common_steps) in
    nodes_fall (listed c.pop.new.self.items) (listed c.loop-next.left.items) (map derivation_of c.under.result.now) (listed c.put_all.new.left.items) d e c.under.ensures c.in_ok-put_all.ensures

pub loop-next-preserved : goal.loop-next-preserved
loop-next-preserved g c =
    let P = program_of (program_in c.args.engine.now).now in
    let d = derivation_of c.in-Some.next.now in
    let e : listed c.loop-next.left.items ≡ listed c.pop.new.self.items ++ d ∷ [] = grind (arith, common_steps) in
    let f : c.in_ok-is_node.field-0 ≡ true = cc in
    let n : IsNodeOf true P d =
    subst (λ (p : Bor Program). IsNodeOf true (program_of p.now) d) c.loop-next.invariant.same
    (subst (λ (r : Bool). IsNodeOf r (program_of (program_in c.loop-next.engine).now) d) f c.in_ok-is_node.ensures.node) in
    record {
      holding = one_holds P (derivation_of c.args.d.now) (listed c.pop.new.self.items) (listed c.loop-next.left.items) d e c.loop-next.invariant.holding
          n (map derivation_of c.under.result.now) c.under.ensures (listed c.put_all.new.left.items) c.in_ok-put_all.ensures;
      same = c.is_node.ensures.same ∙ c.loop-next.invariant.same;
    }
