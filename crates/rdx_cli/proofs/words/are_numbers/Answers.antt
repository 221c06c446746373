use Rattle.std.proofs.Common.{rules, ◌+◌, subst, drop}
use Rattle.std.specs.Prelude.{string_bytes}
use Rattle.rdx_lang.proofs.Rest.{rest_at}
use Rattle.rdx_cli.specs.Inside.Rows.{IsNoNumber, IsNumber}
use Rattle.rdx_cli.specs.Words.{texts}
use Rattle.rdx_cli.proofs.Numbers.{found_number, not_numbers, numbers_behind}
use Rattle.rdx_cli.proofs.words.are_numbers.Goals as goal

pub returns-then-is_none : goal.returns-then-is_none
returns-then-is_none c =
    let i = c.loop-word.word-index in
    let e = rest_at string_bytes c.args.words.now i c.word-item.result c.loop-word-test.true c.word-item.is in
    let none : IsNoNumber (string_bytes c.word-item.result) = search rules in
    let rest = texts (drop i c.args.words.now) in
    let more = texts (drop (i + 1) c.args.words.now) in
    (λ f. absurd cc, λ h. absurd (not_numbers (string_bytes c.word-item.result) rest more e none (c.loop-word.invariant.0 h)))

pub loop-word-preserved : goal.loop-word-preserved
loop-word-preserved c =
    let i = c.loop-word.word-index in
    let e = rest_at string_bytes c.args.words.now i c.word-item.result c.loop-word-test.true c.word-item.is in
    let found = found_number c.as_str.result.now c.number_in.result c.if-is_none.ensures c.number_in.ensures.some in
    let number = subst (λ w. IsNumber w found.0) c.as_str.ensures.value found.1 in
    let rest = texts (drop i c.args.words.now) in
    let more = texts (drop (i + 1) c.args.words.now) in
    numbers_behind (string_bytes c.word-item.result) found.0 (texts c.args.words.now) rest more e number c.loop-word.invariant
