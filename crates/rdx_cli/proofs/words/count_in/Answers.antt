use Rattle.std.proofs.Common.{◌≡◌, ◌<◌, ◌≤◌, sym, ◌∙◌, arith}
use Rattle.std.proofs.lemmas.Grind.{common_steps}
use Rattle.std.proofs.lemmas.Fmt.{decimal_injective}
use Rattle.rdx_cli.proofs.words.count_in.Goals as goal

pub returns-in-Some-2-clause-none : goal.returns-in-Some-2-clause-none
returns-in-Some-2-clause-none c = λ n h.
    let few : n ≤ c.args.most = h.few in
    let most : c.args.most ≤ 2000 = c.requires in
    let some : 1 ≤ n = h.some in
    let is = c.in-Some.ensures.some in
    let small : c.in-Some.number < 1000000000 = is.small in
    let same : n ≡ c.in-Some.number = decimal_injective n c.in-Some.number (omega arith) (omega arith) (sym h.word_is ∙ is.word_is) in
    let out = c.if-contains.ensures.value in
    grind (arith, common_steps)
