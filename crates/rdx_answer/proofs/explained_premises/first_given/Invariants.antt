use Rattle.std.proofs.Common.{◌≡◌, drop, map}
use Rattle.rdx_term.specs.View.{tree_of}
use Rattle.rdx_lang.specs.Checked.{language_in, pattern_in}
use Rattle.rdx_lang.specs.Shown.{binding_of}
use Rattle.rdx_eval.specs.Views.{program_in}
use Rattle.rdx_answer.specs.Inside.Explaining.{HasGiven}
use Rattle.rdx_answer.proofs.explained_premises.first_given.Given as goal

abbrev pub invariant-loop-given : goal.invariant-loop-given
invariant-loop-given g l = record {
  same : program_in l.engine ≡ program_in l.fn.engine;
  left : HasGiven (language_in l.language) (pattern_in l.pat) (map tree_of (drop l.given-index l.outputs)) (binding_of l.b);
}
