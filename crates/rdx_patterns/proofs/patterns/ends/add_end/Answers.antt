use Rattle.std.proofs.Common.{arith, ap, sym, ◌++◌, ◌∙◌, List, ℕ}
use Rattle.std.proofs.lemmas.Grind.{common_steps}
use Rattle.std.proofs.lemmas.List.{append-nil}
use Rattle.rdx_patterns.proofs.FewItems.{end_of-other, end_of-none}
use Rattle.rdx_patterns.proofs.patterns.ends.add_end.Goals as goal
use Rattle.rdx_patterns.proofs.patterns.ends.add_end.Goals.{else-items-eq2-via-then-items-eq2+else-is_word, else-items-eq2-via-else-items-eq2}

pub returns-else-items-eq2 : goal.returns-else-items-eq2
returns-else-items-eq2 c =
    let old = c.args.out.now.items in
    let items = c.args.items.now in
    elim c.else-items-eq2.branch [
      | else-items-eq2-via-then-items-eq2+else-is_word w ↦ sym (ap (λ (xs : List (List ℕ)). old ++ xs) (end_of-other items w.index-items-0.result w.if-items-eq2.true (grind (arith, common_steps))) ∙ append-nil old)
      | else-items-eq2-via-else-items-eq2 w ↦ sym (ap (λ (xs : List (List ℕ)). old ++ xs) (end_of-none items w.if-items-eq2.false) ∙ append-nil old)
    ]
