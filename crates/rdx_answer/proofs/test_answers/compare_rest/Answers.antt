use Rattle.std.proofs.Common.{◌≡◌, ◌∙◌, List, [], ◌∷◌, map, ap, subst}
use Rattle.std.proofs.lemmas.Result.{IfOk-weaker}
use Rattle.rdx_term.specs.Tree.{Tree}
use Rattle.rdx_term.specs.View.{tree_of}
use Rattle.rdx_answer.specs.Tests.{Compares}
use Rattle.rdx_answer.proofs.test_answers.compare_rest.Goals as goal

pub returns : goal.returns
returns c =
    let wanted : List Tree = map tree_of c.args.wanted.now in
    let e : map tree_of c.deref.result.now ≡ tree_of c.args.rest ∷ [] = ap (map tree_of) (c.deref.ensures.value ∙ c.in_ok-found.ensures.items) in
    IfOk-weaker c.write_comparison.result _ _
    (λ met a. record { text = a.text; answer = subst (λ (ts : List Tree). Compares ts wanted a.text met) e a.answer; gained = a.gained })
    c.write_comparison.ensures
