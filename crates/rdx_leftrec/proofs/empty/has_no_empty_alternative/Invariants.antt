use Rattle.std.proofs.Common.{◌≡◌, drop, map}
use Rattle.std.specs.Prelude.{not}
use Rattle.rdx_lang.specs.PatternView.{definition_of, language_of}
use Rattle.rdx_lang.specs.WellFormed.{all_alternatives}
use Rattle.rdx_leftrec.specs.Inside.EmptyRules.{is_empty_alone}
use Rattle.rdx_leftrec.proofs.empty.has_no_empty_alternative.Given as goal

abbrev pub invariant-loop-alternatives : goal.invariant-loop-alternatives
invariant-loop-alternatives l =
    all_alternatives (λ p. not (is_empty_alone p)) (map definition_of (drop l.alternatives-index l.alternatives-items))
    ≡ all_alternatives (λ p. not (is_empty_alone p)) (language_of l.language).nonterminals
