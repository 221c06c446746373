-- What results of the code stand for.
use Rattle.std.specs.Prelude.{List}
use Rattle.rdx_sexp.specs.Sexp.{Sexp}
use Rattle.rdx_patterns.specs.Refusal.{refusal_of}
use Rattle.rdx_patterns.specs.declared.shape.fault.DefFault.{DefFault}
use Rattle.rdx_patterns.specs.declared.shape.fault.DefFault.TheVariants.{Refused, NoMemory}
use Rattle.rdx_query.specs.File.{IsFileRefusal}

-- the data are refused so, by their first form that is refused, unless memory ran out
abbrev pub IsFileFault : List Sexp → DefFault → Type 0
IsFileFault ds (Refused r) = IsFileRefusal ds (refusal_of r)
IsFileFault ds NoMemory = Unit {0}
