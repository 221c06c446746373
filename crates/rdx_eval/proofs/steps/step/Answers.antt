use Rattle.std.proofs.Common.{ℕ, ◌+◌, List, sym, subst}
use Rattle.rdx_lang.specs.Bindings.{Binding}
use Rattle.rdx_eval.specs.Calls.{Calls}
use Rattle.rdx_eval.specs.Inside.Frames.{ArgumentsGive, Gives, Goes}
use Rattle.rdx_eval.specs.Inside.Parts.{hosts_in}
use Rattle.rdx_eval.specs.Inside.Scopes.{calls_here, bound_here}
use Rattle.rdx_eval.specs.Inside.Weights.{hosts_weight, next_weight}
use Rattle.rdx_eval.specs.Views.{terms_in}
use Rattle.rdx_eval.specs.declared.frames.Next.{Next}
use Rattle.rdx_eval.proofs.steps.step.Goals as goal

pub returns-in-Host : goal.returns-in-Host
returns-in-Host g c =
    let C : Calls = calls_here c.args.scope.now in
    let b : Binding = bound_here c.args.scope.now in
    let is : List ℕ = c.args.turns.now.items in
    subst (λ (n : Next). Goes C b (Gives C b is n) (next_weight n) is c.args.stack.now.items c.args.turns.now.items c.args.stack.now.items c.begin_host.result)
    (sym c.in-Host.is) (c.begin_host.ensures c.args.turns.now.items c.args.stack.now.items)

pub returns-in-Row : goal.returns-in-Row
returns-in-Row g c =
    let C : Calls = calls_here c.args.scope.now in
    let b : Binding = bound_here c.args.scope.now in
    let is : List ℕ = c.args.turns.now.items in
    subst (λ (n : Next). Goes C b (Gives C b is n) (next_weight n) is c.args.stack.now.items c.in_row.new.turns.items c.in_row.new.stack.items c.in_row.result)
    (sym c.in-Row.is) (c.in_row.ensures)

pub returns-in-Arguments : goal.returns-in-Arguments
returns-in-Arguments g c =
    let C : Calls = calls_here c.args.scope.now in
    let b : Binding = bound_here c.args.scope.now in
    let is : List ℕ = c.args.turns.now.items in
    subst (λ (n : Next). Goes C b (Gives C b is n) (next_weight n) is c.args.stack.now.items is c.in_arguments.new.stack.items c.in_arguments.result)
    (sym c.in-Arguments.is)
    (subst (λ (js : List ℕ). Goes C b (ArgumentsGive C b js c.in-Arguments.op (hosts_in c.in-Arguments.hs.now) (terms_in c.in-Arguments.found)) (hosts_weight (hosts_in c.in-Arguments.hs.now) + 1) js c.args.stack.now.items js c.in_arguments.new.stack.items c.in_arguments.result)
    c.deref-in-Arguments.ensures.value c.in_arguments.ensures)

pub returns-in-And : goal.returns-in-And
returns-in-And g c =
    let C : Calls = calls_here c.args.scope.now in
    let b : Binding = bound_here c.args.scope.now in
    let is : List ℕ = c.args.turns.now.items in
    subst (λ (n : Next). Goes C b (Gives C b is n) (next_weight n) is c.args.stack.now.items c.args.turns.now.items c.in_and.new.stack.items c.in_and.result)
    (sym c.in-And.is) (c.in_and.ensures c.args.turns.now.items)

pub returns-in-Or : goal.returns-in-Or
returns-in-Or g c =
    let C : Calls = calls_here c.args.scope.now in
    let b : Binding = bound_here c.args.scope.now in
    let is : List ℕ = c.args.turns.now.items in
    subst (λ (n : Next). Goes C b (Gives C b is n) (next_weight n) is c.args.stack.now.items c.args.turns.now.items c.in_or.new.stack.items c.in_or.result)
    (sym c.in-Or.is) (c.in_or.ensures c.args.turns.now.items)
