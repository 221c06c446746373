use Rattle.std.proofs.Common.{◌≡◌, drop}
use Rattle.rdx_lang.specs.PatternView.{patterns_of, language_of}
use Rattle.rdx_facts.specs.Inside.Flags.{may_by, are_within}
use Rattle.rdx_facts.proofs.closing.are_within.Given as goal

abbrev pub invariant-loop-pat : goal.invariant-loop-pat
invariant-loop-pat l =
    are_within (may_by (language_of l.language) l.marks) (patterns_of (drop l.pat-index l.pats)) l.bound
    ≡ are_within (may_by (language_of l.language) l.marks) (patterns_of l.pats) l.bound
