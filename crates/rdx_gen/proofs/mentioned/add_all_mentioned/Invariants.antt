use Rattle.std.proofs.Common.{◌≡◌, ◌++◌, drop}
use Rattle.rdx_gen.specs.NameRules as model
use Rattle.rdx_gen.specs.Inside.Refs.{refs_in}
use Rattle.rdx_lang.specs.PatternView.{patterns_of}
use Rattle.rdx_gen.proofs.mentioned.add_all_mentioned.Given as goal

abbrev pub invariant-loop-pat : goal.invariant-loop-pat
invariant-loop-pat l = refs_in l.out ++ model.all_mentioned (patterns_of (drop l.pat-index l.pats)) ≡ refs_in l.initial.out ++ model.all_mentioned (patterns_of l.pats)
