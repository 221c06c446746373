use Rattle.std.proofs.Common.{◌≡◌, drop, map}
use Rattle.rdx_lang.specs.Literals as literals
use Rattle.rdx_lang.specs.PatternView.{definition_of, language_of}
use Rattle.rdx_bind.proofs.literals.is_mentioned.Given as goal

abbrev pub invariant-loop-alternatives : goal.invariant-loop-alternatives
invariant-loop-alternatives l = literals.definitions_mention l.name (map definition_of (drop l.alternatives-index l.alternatives-items)) ≡ literals.is_mentioned (language_of l.language) l.name
