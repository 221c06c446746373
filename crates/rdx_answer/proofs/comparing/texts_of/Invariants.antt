use Rattle.std.proofs.Common.{◌≡◌, [], drop, map}
use Rattle.rdx_lang.specs.Bindings.{name_cmp}
use Rattle.rdx_term.specs.Terms.{IsTerm}
use Rattle.rdx_term.specs.Text.{tree_text}
use Rattle.rdx_term.specs.View.{tree_of}
use Rattle.rdx_answer.proofs.AllInserted.{all_inserted}
use Rattle.rdx_answer.proofs.EachSoFar.{EachSoFar}
use Rattle.rdx_answer.specs.Inside.Comparing.{bytes_in}
use Rattle.rdx_answer.proofs.comparing.texts_of.Given as goal

abbrev pub invariant-loop-term : goal.invariant-loop-term
invariant-loop-term l = record {
  texts : all_inserted name_cmp (bytes_in l.texts) (map tree_text (map tree_of (drop l.term-index l.terms)))
      ≡ all_inserted name_cmp [] (map tree_text (map tree_of l.terms));
  terms : EachSoFar IsTerm (map tree_of l.terms) (map tree_of (drop l.term-index l.terms));
}
