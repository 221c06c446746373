use Rattle.std.proofs.Common.{◌≡◌, ◌∙◌, ◌<◌, ap, sym, arith, map, length}
use Rattle.std.proofs.lemmas.List.{length-map}
use Rattle.rdx_lang.specs.Checked.{language_in}
use Rattle.rdx_lang.specs.PatternView.{definition_of, patterns_of}
use Rattle.rdx_lang.specs.Patterns.{Language}
use Rattle.rdx_gen.specs.Heights.{height_over}
use Rattle.rdx_gen.specs.KnownView.{known_of}
use Rattle.rdx_gen.proofs.SameHeights.{next-defined}
use Rattle.rdx_gen.proofs.known.Known.height_at.Goals as goal

pub returns : goal.returns
returns c =
    let L : Language = language_in c.args.self.now.nonterminals.now.language.now in
    let ds = c.language.result.now.nts.items in
    let e : map definition_of ds ≡ L.nonterminals = ap (λ (l : Language). l.nonterminals) c.language.ensures.value in
    let n : length (map definition_of ds) ≡ length ds = length-map ds definition_of in
    let l : c.args.place < length ds = (let m = ap length e in omega arith) in
    c.in_ok-height_over.ensures
    ∙ ap (λ ps. height_over (known_of c.args.self.now) (patterns_of ps)) c.deref.ensures.value
    ∙ sym (next-defined L c.args.self.now.heights.now definition_of ds c.args.place c.index.result.now e l c.index.ensures)
