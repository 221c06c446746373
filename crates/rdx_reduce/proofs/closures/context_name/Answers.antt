use Rattle.std.proofs.Common.{◌≡◌, ◌∙◌, ◌<◌, false, List, length, ap, subst, arith}
use Rattle.std.proofs.lemmas.Result.{IfOk-weaker}
use Rattle.std.specs.List.{list_any}
use Rattle.std.specs.Prelude.{ℕ, ◌^◌, bytes_eq}
use Rattle.rdx_lang.specs.Closures.{rule_names}
use Rattle.rdx_lang.specs.ProgramView.{rule_of}
use Rattle.rdx_lang.proofs.VariantLaws.{first_is_free}
use Rattle.rdx_reduce.proofs.closures.context_name.Goals as goal

pub returns-clause-free : goal.returns-clause-free
returns-clause-free c =
    let names : List (List ℕ) = rule_names (rule_of c.args.rule.now) in
    let taken = c.deref.result.now in
    let all : taken ≡ names = c.deref.ensures.value ∙ c.in_ok-names.ensures in
    let few : length taken < 10 ^ 64 = omega (arith, c.deref.ensures.len, c.in_ok-names.names.ok, c.in_ok-names.names.small) in
    IfOk-weaker c.first_variant-2.result _ _
    (λ x e. subst (λ (ns : List (List ℕ)). list_any (bytes_eq x) ns ≡ false) all
    (ap (λ y. list_any (bytes_eq y) taken) e ∙ (first_is_free _ taken few).free))
    c.first_variant-2.ensures
