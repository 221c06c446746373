use Rattle.std.proofs.Common.{◌≡◌, ◌++◌, [], length, map}
use Rattle.std.specs.Prelude.{option_map}
use Rattle.rdx_defs.specs.Inside.FormOutlines.{options_patterns}
use Rattle.rdx_defs.specs.Inside.FormViews.{keys_of, paired}
use Rattle.rdx_defs.proofs.judgements.stands.options_patterns.Given as goal

abbrev pub invariant-loop-option : goal.invariant-loop-option
invariant-loop-option l =
    map (λ d. d.now) l.found.items ++ options_patterns (option_map (λ d. d.now) l.judgement) (keys_of l.seen.items) (paired l.left) ≡ options_patterns (option_map (λ d. d.now) l.judgement) [] (paired l.options)

abbrev pub decreases-loop-option : goal.decreases-loop-option
decreases-loop-option l = length l.left
