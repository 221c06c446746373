use Rattle.std.proofs.Common.{List, arith, subst, length, ◌<◌, ◌^◌, ℕ, map}
use Rattle.rdx_lang.specs.Checked.{language_in}
use Rattle.rdx_lang.specs.PatternView.{definition_of}
use Rattle.rdx_lang.specs.Patterns.{Language}
use Rattle.rdx_gen.specs.Inside.Symbols.{DefinitionsHaveSymbols}
use Rattle.rdx_gen.proofs.CountedSymbols.{counted}
use Rattle.rdx_gen.proofs.symbols.literal_count.Goals as goal

pub returns-clause-counted : goal.returns-clause-counted
returns-clause-counted c =
    let have = subst (λ nts. DefinitionsHaveSymbols (map definition_of nts)) c.deref.ensures.value c.read_definition_prefixes.ensures in
    let ok = c.in_ok-literals.literals.ok in
    let small = c.in_ok-literals.literals.small in
    let few : length c.in_ok-literals.literals.items < 2 ^ 64 = let a = ok.0 in let b = ok.1 in omega (arith, a, b, small) in
    counted (language_in c.args.language.now)
    (subst (λ (L : Language). DefinitionsHaveSymbols L.nonterminals) c.language.ensures.value have)
    (subst (λ (xs : List (List ℕ)). length xs < 2 ^ 64) c.in_ok-literals.ensures few)
