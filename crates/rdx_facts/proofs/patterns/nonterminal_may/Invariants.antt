use Rattle.std.proofs.Common.{◌≡◌, drop, map}
use Rattle.rdx_lang.specs.PatternView.{definition_of, language_of}
use Rattle.rdx_facts.specs.Inside.Flags.{marks_at, may_by}
use Rattle.rdx_facts.proofs.patterns.nonterminal_may.Given as goal

abbrev pub invariant-loop-place : goal.invariant-loop-place
invariant-loop-place l = marks_at l.marks l.place (map definition_of (drop l.place l.language.nts.items)) l.name ≡ may_by (language_of l.language) l.marks l.name
