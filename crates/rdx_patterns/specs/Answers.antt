-- What the readers of patterns answer.
use Rattle.std.specs.Prelude.{◌≡◌, ℕ, List, Some, None, IsTrue, Result, Ok, Err}
use Rattle.rdx_sexp.specs.Sexp.{Sexp}
use Rattle.rdx_lang.specs.Checked.{pattern_in}
use Rattle.rdx_lang.specs.Patterns.{Language}
use Rattle.rdx_lang.specs.WellFormed.{is_well_formed, defined}
use Rattle.rdx_lang.specs.declared.checked.CheckedPat.{CheckedPat}
use Rattle.rdx_patterns.specs.PatternRefusal.{pattern_refusal}
use Rattle.rdx_patterns.specs.Reading.{reading}
use Rattle.rdx_patterns.specs.Refusal.{refusal_of}
use Rattle.rdx_patterns.specs.declared.shape.fault.DefFault.{DefFault}
use Rattle.rdx_patterns.specs.declared.shape.fault.DefFault.TheVariants.{Refused, NoMemory}
use Rattle.rdx_patterns.specs.declared.patterns.position.Position.TheVariants.{Query}

-- the pattern names only nonterminals of the language
abbrev pub IsWellFormedIn : Language → CheckedPat → Type 0
IsWellFormedIn L c = IsTrue (is_well_formed (defined L) (pattern_in c))

-- the datum is refused so as a pattern, unless memory ran out
abbrev pub IsPatternFault : List (List ℕ) → Sexp → DefFault → Type 0
IsPatternFault ns d (Refused r) = pattern_refusal ns d ≡ Some (refusal_of r)
IsPatternFault ns d NoMemory = Unit {0}

-- the datum is this pattern over these nonterminals, or it is refused so
abbrev pub ReadsPattern : List (List ℕ) → Sexp → Result CheckedPat DefFault → Type 0
ReadsPattern ns d (Ok c) = (pattern_refusal ns d ≡ None) × (pattern_in c ≡ reading ns Query d)
ReadsPattern ns d (Err e) = IsPatternFault ns d e
