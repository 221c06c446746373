use Rattle.std.proofs.lemmas.Result.{IfOk-weaker}
use Rattle.std.proofs.lemmas.Option.{IfSome_then}
use Rattle.rdx_bind.specs.Choices.{not_counted, counted}
use Rattle.rdx_lang.proofs.ValueEquations.{value_len}
use Rattle.rdx_bind.proofs.Repeating.{never_counted, if_none_then}
use Rattle.rdx_bind.proofs.repetition.with_count.Goals as goal

pub returns-in-None-clause-some : goal.returns-in-None-clause-some
returns-in-None-clause-some c = rw c.in-None.is not_counted

pub returns-in_ok-counted-in-Some-clause-some : goal.returns-in_ok-counted-in-Some-clause-some
returns-in_ok-counted-in-Some-clause-some c =
    rw c.in-Some.is
    (IfOk-weaker c.join.result _ _ (λ r h. IfSome_then r h (λ b j. counted (rw (c.in_ok-counted-in-Some.ensures, value_len) at j))) c.join.ensures.some)

pub returns-in_ok-counted-in-Some-clause-none : goal.returns-in_ok-counted-in-Some-clause-none
returns-in_ok-counted-in-Some-clause-none c =
    rw c.in-Some.is
    (IfOk-weaker c.join.result _ _ (λ r h. if_none_then r h (λ f b. never_counted b (rw (c.in_ok-counted-in-Some.ensures, value_len) at (f b)))) c.join.ensures.none)
