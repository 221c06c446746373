use Rattle.std.proofs.Common.{◌≡◌, ◌++◌, [], drop, map}
use Rattle.rdx_lang.specs.Bindings.{name_cmp}
use Rattle.rdx_term.specs.Terms.{IsTerm}
use Rattle.rdx_term.specs.Text.{tree_text}
use Rattle.rdx_term.specs.View.{tree_of}
use Rattle.rdx_eval.specs.Views.{terms_in}
use Rattle.rdx_answer.proofs.EachSoFar.{EachSoFar}
use Rattle.rdx_answer.proofs.FirstOfEach.{first_of_each}
use Rattle.rdx_answer.specs.Inside.Comparing.{bytes_in}
use Rattle.rdx_answer.proofs.comparing.distinct.Given as goal

abbrev pub invariant-loop-term : goal.invariant-loop-term
invariant-loop-term l = record {
  kept : terms_in l.kept ++ first_of_each tree_text name_cmp (bytes_in l.seen) (map tree_of (drop l.term-index l.term-items))
      ≡ first_of_each tree_text name_cmp [] (map tree_of l.term-items);
  terms : EachSoFar IsTerm (map tree_of l.term-items) (map tree_of (drop l.term-index l.term-items));
}
