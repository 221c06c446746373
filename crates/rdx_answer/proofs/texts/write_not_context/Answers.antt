use Rattle.std.proofs.Common.{◌≡◌, ◌++◌, ◌∙◌, ℕ, List, append_assoc, ap, subst, codes}
use Rattle.std.specs.Prelude.{OnOk, decimal}
use Rattle.rdx_eval.specs.Answers.{not_context}
use Rattle.rdx_answer.specs.AnswerText.{fault_name}
use Rattle.rdx_answer.proofs.texts.write_not_context.Goals as goal

pub returns : goal.returns
returns c =
    let old : List ℕ = c.args.out.now.items in
    let e : (c.extend_from_slice.new.self.items ++ decimal c.args.holes) ≡ (old ++ fault_name (not_context c.args.holes)) =
    ap (λ (xs : List ℕ). xs ++ decimal c.args.holes) c.in_ok-extend_from_slice.ensures.items ∙ append_assoc old (codes "NotContext ") (decimal c.args.holes) in
    subst (λ (xs : List ℕ). OnOk c.write_number.result (c.write_number.new.out.items ≡ xs)) e c.write_number.ensures
