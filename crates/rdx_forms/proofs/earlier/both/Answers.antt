use Rattle.std.proofs.Common.{◌≡◌, Option, Some, Err, sym, subst, ◌∙◌, ap}
use Rattle.rdx_patterns.specs.Refusal.{Refusal, refusal_of}
use Rattle.rdx_forms.specs.Reported.{earlier}
use Rattle.rdx_forms.specs.Faults.{IsFaultAt, IsRefusedBy}
use Rattle.rdx_forms.proofs.earlier.both.Goals as goal

pub returns-in-Err-Refused-clause-refused : goal.returns-in-Err-Refused-clause-refused
returns-in-Err-Refused-clause-refused g c = λ o p a b.
    let e : o ≡ Some (refusal_of c.in-Err-Refused.refusal) = subst (IsRefusedBy o) (c.in-Err-Refused.is ∙ ap Err c.in-Err-Refused.field-0-is) a in
    subst (λ (q : Option Refusal). IsFaultAt (earlier q p) c.first_fault.result) (sym e) (c.first_fault.ensures p b)
