-- A form that has passed the checks before left recursion, and that check.
use Rattle.std.specs.Prelude.{◌≡◌, ◌<◌, List, Option, Some, None, IsTrue, Result, Ok, Err}
use Rattle.rdx_sexp.specs.Sexp.{Sexp, sexps}
use Rattle.rdx_sexp.specs.Size.{sexp_depth, AreSpelled}
use Rattle.rdx_term.specs.Spelling.{is_name, is_symbol_spelling}
use Rattle.rdx_lang.specs.Checked.{language_in}
use Rattle.rdx_lang.specs.Edges.{IsFree, IsFirstRecursive}
use Rattle.rdx_lang.specs.Members.{In}
use Rattle.rdx_lang.specs.Patterns.{Language}
use Rattle.rdx_lang.specs.declared.checked.CheckedLang.{CheckedLang}
use Rattle.rdx_lang.specs.declared.pattern.Ref.{Ref}
use Rattle.rdx_grammar.specs.Forms.{GrammarForm}
use Rattle.rdx_patterns.specs.AreNames.{AreNames}
use Rattle.rdx_grammar.specs.Nonterminals.{names_in}
use Rattle.rdx_patterns.specs.Parts.{text_of}
use Rattle.rdx_patterns.specs.Refusal.{refusal_of}
use Rattle.rdx_grammar.specs.Refused.{recursion_at}
use Rattle.rdx_patterns.specs.declared.shape.fault.DefFault.{DefFault}
use Rattle.rdx_patterns.specs.declared.shape.fault.DefFault.TheVariants.{Refused, NoMemory}
use Rattle.rdx_patterns.specs.declared.shape.fault.DefRefusal.{DefRefusal}

-- the language and the nonterminals that a form defines have names
pub record AreNamed (g : GrammarForm) : Type 0 where
  pub language : IsTrue (is_name (text_of g.name))
  pub nonterminals : AreNames (names_in g.definitions)

-- where there are parts
abbrev pub AreNamedIn : Option GrammarForm → Type 0
AreNamedIn None = Unit {0}
AreNamedIn (Some g) = AreNamed g

-- the symbols in them are spelled as those of terms
pub record AreSpelledParts (g : GrammarForm) : Type 0 where
  pub language : IsTrue (is_symbol_spelling (text_of g.name))
  pub definitions : AreSpelled (sexps g.definitions)

-- where there are parts
abbrev pub AreSpelledIn : Option GrammarForm → Type 0
AreSpelledIn None = Unit {0}
AreSpelledIn (Some g) = AreSpelledParts g

-- each of these nests less than 2^32 deep
abbrev pub AreShallow : List Sexp → Type 0
AreShallow ds = (d : Sexp) → In d ds → sexp_depth d < 4294967296

-- where there are parts, each of the definitions does
abbrev pub AreShallowIn : Option GrammarForm → Type 0
AreShallowIn None = Unit {0}
AreShallowIn (Some g) = AreShallow g.definitions

-- a language is left-recursive, and refused so
pub record IsRecursionRefusal (L : Language) (d : Sexp) (r : DefRefusal) : Type 0 where
  pub nonterminal : Ref
  pub recursive : IsFirstRecursive L nonterminal
  pub refused : refusal_of r ≡ recursion_at d nonterminal

-- the same, unless memory ran out
abbrev pub IsRecursionFault : Language → Sexp → DefFault → Type 0
IsRecursionFault L d (Refused r) = IsRecursionRefusal L d r
IsRecursionFault L d NoMemory = Unit {0}

-- a well-formed language that a form stands for is not left-recursive, or it is refused so
abbrev pub ChecksRecursion : Language → Sexp → Result CheckedLang DefFault → Type 0
ChecksRecursion L d (Ok c) = (language_in c ≡ L) × IsFree L
ChecksRecursion L d (Err e) = IsRecursionFault L d e
