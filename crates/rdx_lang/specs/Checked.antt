-- What checked languages and patterns hold.
use Rattle.std.specs.Prelude.{ℕ, List}
use Rattle.rdx_lang.specs.Patterns.{Pattern, Language}
use Rattle.rdx_lang.specs.PatternView.{pattern_of, language_of, ranks_of}
use Rattle.rdx_lang.specs.declared.checked.CheckedLang.{CheckedLang}
use Rattle.rdx_lang.specs.declared.checked.CheckedPat.{CheckedPat}

-- the language that was checked
abbrev pub language_in : CheckedLang → Language
language_in c = language_of c.language

-- its ranks
abbrev pub ranks_in : CheckedLang → List ℕ
ranks_in c = ranks_of c.ranks

-- the pattern that was checked
abbrev pub pattern_in : CheckedPat → Pattern
pattern_in c = pattern_of c.pat
