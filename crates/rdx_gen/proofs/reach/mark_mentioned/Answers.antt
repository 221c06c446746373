use Rattle.std.proofs.Common.{◌≡◌, ◌<◌, ◌++◌, ◌∙◌, ap, sym, map, length, arith, Bor}
use Rattle.std.proofs.lemmas.List.{length-map}
use Rattle.rdx_lang.specs.Checked.{language_in}
use Rattle.rdx_lang.specs.PatternView.{definition_of, patterns_of}
use Rattle.rdx_lang.specs.Patterns.{Language}
use Rattle.rdx_lang.specs.declared.pattern.Ref.{Ref}
use Rattle.rdx_gen.specs.Inside.Places.{mentioned_at}
use Rattle.rdx_gen.specs.NameRules.{all_mentioned}
use Rattle.rdx_gen.proofs.ReachedSteps.{names-same}
use Rattle.rdx_gen.proofs.SameHeights.{mentioned-defined}
use Rattle.rdx_gen.proofs.reach.mark_mentioned.Goals as goal

pub returns : goal.returns
returns c =
    let L : Language = language_in c.args.nonterminals.now.language.now in
    let ds = c.language.result.now.nts.items in
    let e : map definition_of ds ≡ L.nonterminals = ap (λ (l : Language). l.nonterminals) c.language.ensures.value in
    let l : c.args.place < length ds = (let n = length-map ds definition_of in let m = ap length e in omega arith) in
    let b : map (λ (r : Bor Ref). r.now) c.deref-2.result.now ≡ mentioned_at L c.args.place =
    ap (map (λ (r : Bor Ref). r.now)) c.deref-2.ensures.value ∙ c.in_ok-add_all_mentioned.ensures
    ∙ (λ i. map (λ (r : Bor Ref). r.now) (c.new-names.ensures.items i) ++ all_mentioned (patterns_of (c.deref.ensures.value i)))
    ∙ sym (mentioned-defined L definition_of ds c.args.place c.index.result.now e l c.index.ensures) in
    names-same L (map (λ (r : Bor Ref). r.now) c.deref-2.result.now) (mentioned_at L c.args.place) c.args.marks.now.items c.mark_names.new.marks.items c.args.listed.now.items c.mark_names.new.listed.items b
    c.in_ok-mark_names.ensures
