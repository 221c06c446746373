use Rattle.std.proofs.Common.{◌≡◌, ◌++◌, [], length}
use Rattle.std.specs.Prelude.{option_map}
use Rattle.rdx_defs.specs.Inside.FormOutlines.{options_patterns}
use Rattle.rdx_defs.specs.Inside.FormViews.{keys_of, paired}
use Rattle.rdx_parts.specs.PartViews.{stands_of}
use Rattle.rdx_parts.specs.PartsHave.{AreReadable}
use Rattle.rdx_defs.specs.JudgementStands.{options_stand}
use Rattle.rdx_defs.proofs.judgements.stands.add_options.Given as goal

abbrev pub invariant-loop-option : goal.invariant-loop-option
invariant-loop-option l =
    (stands_of l.out.items ++ options_stand (option_map (λ d. d.now) l.judgement) (option_map (λ m. m.now) l.mode) (keys_of l.seen.items) (paired l.left)
    ≡ stands_of l.fn.out.items ++ options_stand (option_map (λ d. d.now) l.judgement) (option_map (λ m. m.now) l.mode) [] (paired l.options))
    × AreReadable (options_patterns (option_map (λ d. d.now) l.judgement) (keys_of l.seen.items) (paired l.left))

abbrev pub decreases-loop-option : goal.decreases-loop-option
decreases-loop-option l = length l.left
