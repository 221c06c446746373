-- Faults that the code passes over. No public contract cites it.
use Rattle.rdx_eval.specs.declared.fault.EvalFault.{EvalFault}
use Rattle.rdx_eval.specs.declared.fault.EvalFault.TheVariants.{Named, NoMemory}

-- it is a fault, and no want of memory
abbrev pub IsNamed : EvalFault → Type 0
IsNamed (Named f) = Unit {0}
IsNamed NoMemory = ⊥
