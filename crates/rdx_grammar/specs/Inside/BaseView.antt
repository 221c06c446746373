-- The language that a form extends.
use Rattle.std.specs.Prelude.{Option, Some, None}
use Rattle.rdx_lang.specs.Checked.{language_in}
use Rattle.rdx_lang.specs.Patterns.{Language}
use Rattle.rdx_lang.specs.declared.checked.CheckedLang.{CheckedLang}
use Rattle.rdx_grammar.specs.Languages.{empty_language}

-- a form that extends none has the empty one
abbrev pub base_in : Option CheckedLang → Language
base_in None = empty_language
base_in (Some c) = language_in c
