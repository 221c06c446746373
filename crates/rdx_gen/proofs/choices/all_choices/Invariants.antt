use Rattle.std.proofs.Common.{◌≡◌, ◌++◌, drop, map}
use Rattle.rdx_lang.specs.Checked.{language_in}
use Rattle.rdx_lang.specs.PatternView.{definition_of}
use Rattle.rdx_gen.specs.Inside.Picks.{choices_in, choices_over}
use Rattle.rdx_gen.specs.KnownView.{known_of}
use Rattle.rdx_gen.proofs.choices.all_choices.Given as goal

abbrev pub invariant-loop-i : goal.invariant-loop-i
invariant-loop-i l = map choices_in l.all.items ++ map (choices_over (known_of l.known)) (map definition_of (drop l.i l.nts.items))
    ≡ map (choices_over (known_of l.known)) (language_in l.known.nonterminals.now.language.now).nonterminals
