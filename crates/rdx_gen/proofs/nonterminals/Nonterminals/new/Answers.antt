use Rattle.std.proofs.Common.{◌≡◌, ◌∙◌, ap, map}
use Rattle.rdx_lang.specs.Checked.{language_in}
use Rattle.rdx_lang.specs.PatternView.{definition_of}
use Rattle.rdx_lang.specs.Patterns.{Language}
use Rattle.rdx_gen.specs.Inside.Index.{place_in}
use Rattle.rdx_gen.proofs.SameHeights.{index-exact}
use Rattle.rdx_gen.proofs.nonterminals.Nonterminals.new.Goals as goal

pub invariant_of-result : goal.invariant_of-result
invariant_of-result c =
    let L : Language = language_in c.args.language.now in
    let e : map definition_of c.deref.result.now ≡ L.nonterminals = ap (map definition_of) c.deref.ensures.value ∙ ap (λ (l : Language). l.nonterminals) c.language.ensures.value in
    record { exact = index-exact (λ n x. place_in c.in_ok-index.index.texts c.in_ok-index.index.pairs n x) definition_of c.deref.result.now L e c.in_ok-index.ensures }
