use Rattle.std.proofs.Common.{◌≡◌, ◌∙◌, ◌++◌, ℕ, List, ap, append_assoc, codes}
use Rattle.rdx_answer.proofs.alpha_answers.write_head_name.Goals as goal

pub returns : goal.returns
returns c =
    let out : List ℕ = c.args.out.now.items in
    let fault : List ℕ = codes "fault HeadName " in
    let k : List ℕ = c.as_bytes.result.now in
    let e : k ≡ c.args.head.now = c.as_bytes.ensures.value ∙ c.text.ensures.value in
    c.in_ok-push.ensures.items
    ∙ ap (λ (z : List ℕ). z ++ codes "\n") c.in_ok-extend_from_slice-2.ensures.items
    ∙ ap (λ (z : List ℕ). (z ++ k) ++ codes "\n") c.in_ok-extend_from_slice.ensures.items
    ∙ append_assoc (out ++ fault) k (codes "\n")
    ∙ append_assoc out fault (k ++ codes "\n")
    ∙ ap (λ (z : List ℕ). out ++ (fault ++ (z ++ codes "\n"))) e
