use Rattle.std.proofs.Common.{◌≡◌, ◌++◌, map}
use Rattle.rdx_lang.specs.Checked.{language_in}
use Rattle.rdx_facts.proofs.programs.known_languages.Given as goal

abbrev pub invariant-loop-language : goal.invariant-loop-language
invariant-loop-language l =
    map language_in l.known.items ++ map language_in l.language-iterator.rest.items ≡ map language_in l.fn.languages.items
