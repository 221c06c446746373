use Rattle.std.proofs.Common.{◌≡◌, drop}
use Rattle.std.specs.Prelude.{not}
use Rattle.rdx_lang.specs.PatternView.{patterns_of}
use Rattle.rdx_lang.specs.WellFormed.{all_patterns}
use Rattle.rdx_leftrec.specs.Inside.EmptyRules.{is_empty_alone}
use Rattle.rdx_leftrec.proofs.empty.are_not_empty_alone.Given as goal

abbrev pub invariant-loop-pat : goal.invariant-loop-pat
invariant-loop-pat l =
    all_patterns (λ p. not (is_empty_alone p)) (patterns_of (drop l.pat-index l.pats)) ≡ all_patterns (λ p. not (is_empty_alone p)) (patterns_of l.pats)
