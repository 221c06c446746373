use Rattle.std.proofs.Common.{rules, ◌≡◌, ◌+◌, ◌++◌, [], ◌∷◌, map, sym, subst, drop}
use Rattle.std.specs.Prelude.{decimal, string_bytes}
use Rattle.rdx_lang.proofs.Rest.{rest_at}
use Rattle.rdx_cli.specs.Inside.Rows.{IsNoNumber, IsNumber, AreSomeNumbers}
use Rattle.rdx_cli.specs.Words.{AreSmall, texts}
use Rattle.rdx_cli.proofs.Numbers.{not_numbers, numbers_rest, known_more, small_more}
use Rattle.rdx_cli.proofs.words.numbers_in.Goals as goal

pub unreachable-requires : goal.unreachable-requires
unreachable-requires c =
    let i = c.loop-word.word-index in
    let e = rest_at string_bytes c.args.words.now i c.word-item.result c.loop-word-test.true c.word-item.is in
    let none : IsNoNumber (string_bytes c.word-item.result) = subst IsNoNumber c.as_str.ensures.value c.in-None.ensures.none in
    not_numbers (string_bytes c.word-item.result) (texts (drop i c.args.words.now)) (texts (drop (i + 1) c.args.words.now)) e none c.loop-word.invariant.rest

pub loop-word-preserved : goal.loop-word-preserved
loop-word-preserved c =
    let i = c.loop-word.word-index in
    let word = string_bytes c.word-item.result in
    let rest = texts (drop i c.args.words.now) in
    let more = texts (drop (i + 1) c.args.words.now) in
    let e : rest ≡ word ∷ more = rest_at string_bytes c.args.words.now i c.word-item.result c.loop-word-test.true c.word-item.is in
    let number = subst (λ w. IsNumber w c.in-Some.number) c.as_str.ensures.value c.in-Some.ensures.some in
    let pushed : c.push.new.self.items ≡ c.loop-word.numbers.items ++ c.in-Some.number ∷ [] = search rules in
    let all = texts c.args.words.now in
    let known = known_more word c.in-Some.number all rest more c.loop-word.numbers.items e number c.loop-word.invariant.so_far in
    record {
      so_far = subst (λ ns. all ≡ map decimal ns ++ more) (sym pushed) known;
      small = subst AreSmall (sym pushed) (small_more c.loop-word.numbers.items c.in-Some.number c.loop-word.invariant.small number.small);
      rest = numbers_rest word more (subst AreSomeNumbers e c.loop-word.invariant.rest);
    }
