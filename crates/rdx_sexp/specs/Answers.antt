-- What the reader answers.
use Rattle.std.specs.Prelude.{◌≡◌, ℕ, List, Result, Ok, Err}
use Rattle.std.specs.declared.vec.Vec.{Vec}
use Rattle.rdx_sexp.specs.declared.datum.Datum.{Datum}
use Rattle.rdx_sexp.specs.declared.fault.ReadFault.{ReadFault}
use Rattle.rdx_sexp.specs.declared.fault.ReadFault.TheVariants.{Refused, NoMemory}
use Rattle.rdx_sexp.specs.declared.fault.ReadRefusal.{ReadRefusal}
use Rattle.rdx_sexp.specs.Sexp.{Sexp}
use Rattle.rdx_sexp.specs.Reads.{FirstFault}

-- why bytes are not read: their first fault, or want of memory
abbrev pub IsFaultOf : List ℕ → ReadFault → Type 0
IsFaultOf bytes (Refused r) = FirstFault bytes r
IsFaultOf bytes NoMemory = Unit {0}

-- the result is these data, unless memory ran out
abbrev pub HasData : {Z : Type 0} → List Sexp → Result (Vec Datum Z) ReadFault → Type 0
HasData ds (Ok v) = v.items ≡ ds
HasData ds (Err e) = e ≡ NoMemory

-- the fault is this refusal, or memory ran out
abbrev pub IsRefusal : ReadRefusal → ReadFault → Type 0
IsRefusal r (Refused q) = q ≡ r
IsRefusal r NoMemory = Unit {0}

-- the result is this refusal, unless memory ran out
abbrev pub HasRefusal : {Z : Type 0} → ReadRefusal → Result (Vec Datum Z) ReadFault → Type 0
HasRefusal r (Ok v) = ⊥
HasRefusal r (Err e) = IsRefusal r e
