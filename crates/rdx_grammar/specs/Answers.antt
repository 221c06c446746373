-- What the readers of forms answer.
use Rattle.std.specs.Prelude.{Option, Result, Ok, Err}
use Rattle.rdx_sexp.specs.Sexp.{Sexp}
use Rattle.rdx_lang.specs.Checked.{language_in}
use Rattle.rdx_lang.specs.Patterns.{Language}
use Rattle.rdx_lang.specs.declared.checked.CheckedLang.{CheckedLang}
use Rattle.rdx_grammar.specs.Forms.{GrammarForm}
use Rattle.rdx_patterns.specs.Refusal.{refusal_of}
use Rattle.rdx_grammar.specs.Refused.{IsLanguage, IsRefused}
use Rattle.rdx_patterns.specs.declared.shape.fault.DefFault.{DefFault}
use Rattle.rdx_patterns.specs.declared.shape.fault.DefFault.TheVariants.{Refused, NoMemory}

-- the form is refused so, unless memory ran out
abbrev pub IsFaultOf : Language → Sexp → Option GrammarForm → DefFault → Type 0
IsFaultOf base d g (Refused r) = IsRefused base d g (refusal_of r)
IsFaultOf base d g NoMemory = Unit {0}

-- the form is this language, or it is refused so
abbrev pub ReadsForm : Language → Sexp → Option GrammarForm → Result CheckedLang DefFault → Type 0
ReadsForm base d g (Ok c) = IsLanguage base d g (language_in c)
ReadsForm base d g (Err e) = IsFaultOf base d g e
