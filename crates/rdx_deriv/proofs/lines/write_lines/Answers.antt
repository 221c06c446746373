use Rattle.std.proofs.Common.{◌≡◌, ◌++◌, ◌∷◌, [], ◌+◌, List, length, map, ap, refl, arith}
use Rattle.std.proofs.lemmas.Grind.{common_steps}
use Rattle.rdx_lang.specs.ProgramView.{program_of}
use Rattle.rdx_deriv.specs.Derivations.{derivations, more, root, chosen}
use Rattle.rdx_deriv.specs.DerivationView.{derivation_of}
use Rattle.rdx_deriv.specs.Inside.Stacks.{stacked}
use Rattle.rdx_deriv.specs.declared.deriv.Deriv as code_deriv
use Rattle.rdx_deriv.proofs.LineStacks.{turn_lighter, turn_written, end_lighter, end_written, stacked_length, empty_slice, when_none}
use Rattle.rdx_deriv.proofs.lines.write_lines.Goals as goal

pub loop-rest-smaller-in-Continue-branch-5 : goal.loop-rest-smaller-in-Continue-branch-5
loop-rest-smaller-in-Continue-branch-5 c =
    let r = derivations (map derivation_of c.in-Some.rest.now) in
    let d = derivation_of c.in-Some-split_first.first.now in
    let os = derivations (map derivation_of c.in-Some-split_first.others.now) in
    let us = derivations (map derivation_of c.under-in-Some-split_first.result.now) in
    let e : stacked c.loop-rest.stack.items ≡ stacked c.pop.new.self.items ++ r ∷ [] = grind (arith, common_steps) in
    let f : r ≡ more d os = ap (λ (ds : List code_deriv.Deriv). derivations (map derivation_of ds)) c.in-Some-split_first.ensures.cases.0 in
    let l : stacked c.push-in-Some-split_first-2.new.self.items ≡ (stacked c.pop.new.self.items ++ os ∷ []) ++ us ∷ [] = grind (arith, common_steps) in
    turn_lighter (stacked c.loop-rest.stack.items) (stacked c.pop.new.self.items) r e d os us (stacked c.push-in-Some-split_first-2.new.self.items) f c.under-in-Some-split_first.ensures l

pub loop-rest-preserved-in-Continue-branch-5 : goal.loop-rest-preserved-in-Continue-branch-5
loop-rest-preserved-in-Continue-branch-5 c =
    let r = derivations (map derivation_of c.in-Some.rest.now) in
    let d = derivation_of c.in-Some-split_first.first.now in
    let os = derivations (map derivation_of c.in-Some-split_first.others.now) in
    let us = derivations (map derivation_of c.under-in-Some-split_first.result.now) in
    let e : stacked c.loop-rest.stack.items ≡ stacked c.pop.new.self.items ++ r ∷ [] = grind (arith, common_steps) in
    let f : r ≡ more d os = ap (λ (ds : List code_deriv.Deriv). derivations (map derivation_of ds)) c.in-Some-split_first.ensures.cases.0 in
    let l : stacked c.push-in-Some-split_first-2.new.self.items ≡ (stacked c.pop.new.self.items ++ os ∷ []) ++ us ∷ [] = grind (arith, common_steps) in
    let m : c.len-level.result + 1 ≡ length (stacked c.pop.new.self.items) + 1 = (let k = stacked_length c.pop.new.self.items in let n = c.len-level.ensures in omega arith) in
    turn_written (stacked c.loop-rest.stack.items) (stacked c.pop.new.self.items) r e d os us (stacked c.push-in-Some-split_first-2.new.self.items) f c.under-in-Some-split_first.ensures l
    (program_of c.args.program.now) (c.len-level.result + 1) (root d) (chosen d) _ c.loop-rest.out.items c.write_node-in-Some-split_first.new.out.items
    m refl refl c.in_ok-write_node-2.ensures c.loop-rest.invariant

pub loop-rest-smaller : goal.loop-rest-smaller
loop-rest-smaller c =
    let r = derivations (map derivation_of c.in-Some.rest.now) in
    let e : stacked c.loop-rest.stack.items ≡ stacked c.pop.new.self.items ++ r ∷ [] = grind (arith, common_steps) in
    end_lighter (stacked c.loop-rest.stack.items) (stacked c.pop.new.self.items) r e (empty_slice c.in-Some.rest.now (when_none c.split_first.result _ _ c.in_default-split_first.is c.split_first.ensures.cases))

pub loop-rest-preserved : goal.loop-rest-preserved
loop-rest-preserved c =
    let r = derivations (map derivation_of c.in-Some.rest.now) in
    let e : stacked c.loop-rest.stack.items ≡ stacked c.pop.new.self.items ++ r ∷ [] = grind (arith, common_steps) in
    end_written (stacked c.loop-rest.stack.items) (stacked c.pop.new.self.items) r e (empty_slice c.in-Some.rest.now (when_none c.split_first.result _ _ c.in_default-split_first.is c.split_first.ensures.cases)) (program_of c.args.program.now) _ c.loop-rest.out.items c.loop-rest.invariant
