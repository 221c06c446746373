use Rattle.std.proofs.Common.{◌≡◌, List, map, sym, ◌∙◌, ap, subst}
use Rattle.rdx_lang.specs.Checked.{language_in}
use Rattle.rdx_lang.specs.Facts.{AreFacts, AreKnown}
use Rattle.rdx_lang.specs.Members.{In}
use Rattle.rdx_lang.specs.Patterns.{Definition, Language, Pattern}
use Rattle.rdx_lang.specs.PatternView.{definition_of, patterns_of}
use Rattle.rdx_lang.specs.declared.facts.Known.{Known}
use Rattle.rdx_lang.specs.declared.pattern.Ref.{Ref}
use Rattle.rdx_nodes.proofs.NonterminalNodes.{alternatives-defined}
use Rattle.rdx_direct.proofs.known.choices_in.Goals as goal

pub returns-in-Some : goal.returns-in-Some
returns-in-Some c =
    let L : Language = language_in c.args.language.now in
    let x : Ref = c.args.name.now in
    let nts = c.deref-in-loop-place.result.now in
    let ps : List Pattern = patterns_of c.in-Some.found.pats.now in
    let all : map definition_of nts ≡ L.nonterminals =
    ap (map definition_of) c.deref-in-loop-place.ensures.value ∙ ap (λ (M : Language). M.nonterminals) c.language.ensures.value in
    let facts : AreFacts L c.in_ok-known.field-0.now = c.in_ok-known.ensures in
    record {
      all = alternatives-defined L x ps c.language.ensures.well_formed.distinct (subst (λ (ds : List Definition). In (x, ps) ds) all c.in-Some.ensures.all);
      known = c.in-Some.ensures.known L (subst (λ (ks : List Known). AreKnown L (map definition_of nts) ks) (sym c.deref-in-loop-place-2.ensures.value)
          (subst (λ (ds : List Definition). AreKnown L ds c.in_ok-known.field-0.now.nonterminals.items) (sym all) facts.nonterminals));
    }
