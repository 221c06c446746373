use Rattle.std.proofs.Common.{◌≡◌, ◌++◌, ◌∙◌, ◌+◌, ℕ, suc, List, append_assoc, codes, sym, ap, arith}
use Rattle.std.proofs.lemmas.List.{append-nil}
use Rattle.rdx_answer.specs.Workload as model
use Rattle.rdx_answer.proofs.workload.workload_text.Goals as goal

pub loop-k-init : goal.loop-k-init
unfolding lib.Utf8.encode
loop-k-init c =
    c.in_ok-extend_from_slice.ensures.items ∙ (λ i. c.new-out.ensures.items i ++ c.as_bytes.ensures.value i) ∙ sym (append-nil model.definitions)

pub loop-k-preserved : goal.loop-k-preserved
loop-k-preserved c =
    let k = c.loop-k.k in
    let more : suc k ≡ k + 1 = omega arith in
    c.in_ok-write_test.ensures ∙ ap (λ (x : List ℕ). x ++ model.test (k + 1)) c.loop-k.invariant ∙ append_assoc model.definitions (model.tests k) (model.test (k + 1))
    ∙ (ap (λ (n : ℕ). model.definitions ++ (model.tests k ++ model.test n)) (sym more) ∙ ap (λ (n : ℕ). model.definitions ++ model.tests n) more)

pub returns : goal.returns
returns c =
    let last : List ℕ = codes "(test-results)\n" in
    let all : c.loop-k.k ≡ c.args.n = omega (arith, c.loop-k-test.false, c.loop-k.auto.k-end) in
    c.in_ok-extend_from_slice-2.ensures.items ∙ ap (λ (x : List ℕ). x ++ last) c.loop-k.invariant ∙ ap model.workload all
