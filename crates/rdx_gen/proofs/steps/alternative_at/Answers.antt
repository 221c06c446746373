use Rattle.std.proofs.Common.{arith, ◌≡◌, ◌<◌, ◌∙◌, ap, sym, map, List, length}
use Rattle.std.proofs.lemmas.List.{length-map}
use Rattle.std.specs.Prelude.{slice_index_or}
use Rattle.rdx_lang.specs.Patterns.{Pattern, Language, wild}
use Rattle.rdx_lang.specs.PatternView.{definition_of, pattern_of, patterns_of}
use Rattle.rdx_gen.specs.Inside.Scopes.{alternatives_there, language_here}
use Rattle.rdx_gen.specs.Inside.Weights.{patterns_weight}
use Rattle.rdx_gen.proofs.Levels.{defined_there, one_weight, pattern_there as there}
use Rattle.rdx_gen.proofs.steps.alternative_at.Goals as goal

pub returns-clause-there : goal.returns-clause-there
returns-clause-there c =
    let L : Language = language_here c.args.setting.now in
    let ds = c.language.result.now.nts.items in
    let e : map definition_of ds ≡ L.nonterminals = ap (λ (l : Language). l.nonterminals) c.language.ensures.value in
    let n : length (map definition_of ds) ≡ length ds = length-map ds definition_of in
    let l : c.args.place < length ds = (let m = ap length e in omega (arith, m, n, c.requires)) in
    let h : alternatives_there c.args.setting.now c.args.place ≡ patterns_of c.index.result.now.1.items =
    defined_there L definition_of ds c.args.place c.index.result.now e l c.index.ensures in
    sym (ap (λ (ps : List Pattern). slice_index_or ps c.args.k wild) h
    ∙ there pattern_of c.index.result.now.1.items c.args.k c.index-2.result.now (omega arith) c.index-2.ensures)

pub returns-clause-less : goal.returns-clause-less
returns-clause-less c = λ W.
    let L : Language = language_here c.args.setting.now in
    let ds = c.language.result.now.nts.items in
    let e : map definition_of ds ≡ L.nonterminals = ap (λ (l : Language). l.nonterminals) c.language.ensures.value in
    let n : length (map definition_of ds) ≡ length ds = length-map ds definition_of in
    let l : c.args.place < length ds = (let m = ap length e in omega (arith, m, n, c.requires)) in
    let h : alternatives_there c.args.setting.now c.args.place ≡ patterns_of c.index.result.now.1.items =
    defined_there L definition_of ds c.args.place c.index.result.now e l c.index.ensures in
    let k = one_weight pattern_of W c.index.result.now.1.items c.args.k c.index-2.result.now (omega arith) c.index-2.ensures in
    let d = ap (patterns_weight W) h in
    omega (arith, k, d)
