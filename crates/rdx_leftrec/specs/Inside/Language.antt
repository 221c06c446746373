-- The language whose nonterminals have places.
use Rattle.rdx_lang.specs.PatternView.{language_of}
use Rattle.rdx_lang.specs.Patterns.{Language}
use Rattle.rdx_leftrec.specs.declared.nonterminals.Nonterminals.{Nonterminals}

-- its plain data
abbrev pub language_at : Nonterminals → Language
language_at n = language_of n.language.now
