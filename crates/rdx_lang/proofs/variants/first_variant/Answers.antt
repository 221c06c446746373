use Rattle.std.proofs.Common.{◌≡◌, ℕ, List, IfOk, length, sym, ◌∙◌, subst, arith}
use Rattle.rdx_lang.specs.Variants.{variant}
use Rattle.rdx_lang.proofs.FirstFree.{first_here, first_behind, first_at_end}
use Rattle.rdx_lang.proofs.TextSets.{found-texts}
use Rattle.rdx_lang.proofs.variants.first_variant.Goals as goal

pub returns-then-not-contains : goal.returns-then-not-contains
returns-then-not-contains c =
    let x = c.args.name.now in
    let names = c.args.taken.now in
    let k = c.loop-number.number in
    let found = found-texts c.text.result (variant x k) c.in_ok-taken_texts.taken_texts names c.contains.result
    c.contains.ensures (c.text.ensures.value ∙ c.in_ok-made.ensures) c.in_ok-taken_texts.ensures in
    c.in_ok-made.ensures ∙ sym (first_here x names k (length names) c.loop-number-test.true (found ∙ c.if-not-contains.true)) ∙ c.loop-number.invariant

pub loop-number-preserved : goal.loop-number-preserved
loop-number-preserved c =
    let x = c.args.name.now in
    let names = c.args.taken.now in
    let k = c.loop-number.number in
    let found = found-texts c.text.result (variant x k) c.in_ok-taken_texts.taken_texts names c.contains.result
    c.contains.ensures (c.text.ensures.value ∙ c.in_ok-made.ensures) c.in_ok-taken_texts.ensures in
    sym (first_behind x names k (length names) c.loop-number-test.true (found ∙ c.if-not-contains.false)) ∙ c.loop-number.invariant

pub returns : goal.returns
returns c =
    let x = c.args.name.now in
    let names = c.args.taken.now in
    let same = sym (first_at_end x names c.loop-number.number (length names) (omega arith)) ∙ c.loop-number.invariant in
    subst (λ (z : List ℕ). IfOk c.variant-2.result (λ y. y ≡ z)) same c.variant-2.ensures
