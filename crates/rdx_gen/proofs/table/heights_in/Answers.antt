use Rattle.std.proofs.Common.{◌≡◌, ◌∙◌, ap, sym, length, arith}
use Rattle.std.specs.Fn.{iterate}
use Rattle.std.proofs.lemmas.Bool.Decides.{nat_tests}
use Rattle.std.proofs.lemmas.List.{nil_from_length}
use Rattle.rdx_lang.specs.Checked.{language_in}
use Rattle.rdx_lang.specs.Patterns.{Language}
use Rattle.rdx_gen.specs.Heights.{next_heights}
use Rattle.rdx_gen.proofs.Rounds.{stays}
use Rattle.rdx_gen.proofs.Settling.{round-still}
use Rattle.rdx_gen.proofs.table.heights_in.Goals as goal
use Rattle.rdx_gen.proofs.table.heights_in.Goals.{then-loop-left-test+else-not-is_empty, else-loop-left-test}

pub returns : goal.returns
returns c =
    let L : Language = language_in c.args.nonterminals.now.language.now in
    let hs = c.loop-left.heights.items in
    elim c.loop-left-test.branch [
      | then-loop-left-test+else-not-is_empty w ↦
          let l : length c.loop-left.waiting.items ≡ 0 = grind (arith, nat_tests) in
          sym (stays (next_heights L) c.loop-left.left hs (round-still L hs c.loop-left.waits.items c.loop-left.waiting.items c.loop-left.invariant.rounded (nil_from_length c.loop-left.waiting.items l)))
          ∙ c.loop-left.invariant.same
      | else-loop-left-test w ↦
          let l : c.loop-left.left ≡ 0 = omega arith in
          sym (ap (λ n. iterate (next_heights L) n hs) l) ∙ c.loop-left.invariant.same
    ]
