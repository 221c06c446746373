-- The program's stack as the machine's frames, and what a step over them gives.
use Rattle.std.specs.Prelude.{◌≡◌, List, map, reverse, Result, Ok, Err}
use Rattle.std.specs.declared.vec.Vec.{Vec}
use Rattle.rdx_sexp.specs.declared.datum.Datum.{Datum}
use Rattle.rdx_sexp.specs.declared.fault.ReadFault.{ReadFault}
use Rattle.rdx_sexp.specs.declared.fault.ReadFault.TheVariants.{Refused, NoMemory}
use Rattle.rdx_sexp.specs.declared.reader.Level.{Level}
use Rattle.rdx_sexp.specs.Inside.Machine.{Frame, frame, Outcome}
use Rattle.rdx_sexp.specs.Inside.Lexemes.{opener_of}

-- the frame of a level
abbrev pub frame_of : Level → Frame
frame_of l = frame (opener_of l.opener) l.before.items

-- the frames of the stack, innermost first; the program has the innermost last
abbrev pub frames : List Level → List Frame
frames ls = reverse (map frame_of ls)

-- the refusal is the outcome, or memory ran out
abbrev pub Fails : ReadFault → Outcome → Type 0
Fails (Refused r) o = o ≡ Err r
Fails NoMemory o = Unit {0}

-- a step that went well leads from an outcome to the same one
abbrev pub Steps : {A : Type 0} → Result A ReadFault → Outcome → Outcome → Type 0
Steps (Ok x) o n = o ≡ n
Steps (Err e) o n = Fails e o

-- the result is the outcome, unless memory ran out
abbrev pub Gives : {Z : Type 0} → Result (Vec Datum Z) ReadFault → Outcome → Type 0
Gives (Ok v) o = o ≡ Ok v.items
Gives (Err e) o = Fails e o
