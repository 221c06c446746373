-- When a fault is a refusal.
use Rattle.std.specs.Prelude.{◌≡◌, Option, Some, None, Result, Ok, Err}
use Rattle.rdx_patterns.specs.Refusal.{Refusal, refusal_of}
use Rattle.rdx_patterns.specs.declared.shape.fault.DefFault.{DefFault}
use Rattle.rdx_patterns.specs.declared.shape.fault.DefFault.TheVariants.{Refused, NoMemory}

-- the fault is this refusal, or want of memory
abbrev pub IsFaultAt : Option Refusal → DefFault → Type 0
IsFaultAt o (Refused r) = o ≡ Some (refusal_of r)
IsFaultAt o NoMemory = Unit {0}

-- what is read is refused so, or there is no refusal, unless memory ran out
abbrev pub IsRefusedBy : {A : Type 0} → Option Refusal → Result A DefFault → Type 0
IsRefusedBy o (Ok x) = o ≡ None
IsRefusedBy o (Err e) = IsFaultAt o e
