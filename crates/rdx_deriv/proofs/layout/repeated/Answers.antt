use Rattle.std.proofs.Common.{sym, subst, Option, List, ℕ}
use Rattle.std.proofs.lemmas.Result.{IfOk-weaker}
use Rattle.rdx_lang.specs.Collections.{IsRepetition, without_length}
use Rattle.rdx_lang.specs.Shown.{binding_of, bindings_of}
use Rattle.rdx_deriv.proofs.Repeats.{counted_some, counted_none}
use Rattle.rdx_deriv.proofs.layout.repeated.Goals as goal

pub returns-in-None-clause-some : goal.returns-in-None-clause-some
returns-in-None-clause-some c =
    subst (λ (n : Option (List ℕ)). IsRepetition c.args.names.now (bindings_of c.args.turns.now) n (binding_of c.in-Some.collected)) (sym c.in-None.is)
    (without_length (rw c.in-Some.is at c.in_ok-collected.ensures.some))

pub returns-in-Some-length-clause-some : goal.returns-in-Some-length-clause-some
returns-in-Some-length-clause-some c =
    IfOk-weaker c.counted.result _ _
    (counted_some c.args.names.now c.args.turns.now c.args.length.now c.in-Some-length.name (binding_of c.in-Some.collected) c.in-Some-length.is
    (rw c.in-Some.is at c.in_ok-collected.ensures.some))
    c.counted.ensures.some

pub returns-in-Some-length-clause-none : goal.returns-in-Some-length-clause-none
returns-in-Some-length-clause-none c =
    IfOk-weaker c.counted.result _ _
    (counted_none c.args.names.now c.args.turns.now c.args.length.now c.in-Some-length.name (binding_of c.in-Some.collected) c.in-Some-length.is
    (rw c.in-Some.is at c.in_ok-collected.ensures.some) c.requires)
    c.counted.ensures.none
