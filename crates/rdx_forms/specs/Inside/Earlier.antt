-- The fault that is reported of a refusal and of what was read.
use Rattle.std.specs.Prelude.{◌≡◌, Option, Some, None, Result, Ok, Err}
use Rattle.rdx_patterns.specs.Refusal.{Refusal, refusal_of}
use Rattle.rdx_patterns.specs.declared.shape.fault.DefFault.{DefFault}
use Rattle.rdx_patterns.specs.declared.shape.fault.DefRefusal.{DefRefusal}
use Rattle.rdx_forms.specs.Faults.{IsFaultAt, IsRefusedBy}
use Rattle.rdx_forms.specs.Reported.{earlier}

-- the fault is the one that is reported of this refusal and of what was read
abbrev pub IsFirstFault : {A : Type 0} → DefRefusal → Result A DefFault → DefFault → Type 0
IsFirstFault r x e = (o : Option Refusal) → IsRefusedBy o x → IsFaultAt (earlier (Some (refusal_of r)) o) e

-- y is what was read, where there is no refusal before it, and else the fault that is reported of both
abbrev pub IsUnless : {A : Type 0} → Option DefRefusal → Result A DefFault → Result A DefFault → Type 0
IsUnless None x y = y ≡ x
IsUnless (Some r) x (Ok v) = ⊥
IsUnless (Some r) x (Err e) = IsFirstFault r x e
