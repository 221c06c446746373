use Rattle.std.proofs.Common.{◌≡◌, List, map, ◌∙◌, ap, subst}
use Rattle.rdx_lang.specs.Checked.{language_in}
use Rattle.rdx_lang.specs.Members.{In}
use Rattle.rdx_lang.specs.Patterns.{Definition, Language, Pattern}
use Rattle.rdx_lang.specs.PatternView.{definition_of, patterns_of}
use Rattle.rdx_nodes.proofs.NonterminalNodes.{alternatives-defined}
use Rattle.rdx_nodes.proofs.places.alternatives_at.Goals as goal

pub returns-in-Some-defined_at : goal.returns-in-Some-defined_at
returns-in-Some-defined_at c =
    let L : Language = language_in c.args.language.now in
    let x = c.args.name.now in
    let ps : List Pattern = patterns_of c.in-Some-defined_at.alternatives.now in
    let all : map definition_of c.deref-in-Some.result.now ≡ L.nonterminals =
    ap (map definition_of) c.deref-in-Some.ensures.value ∙ ap (λ (M : Language). M.nonterminals) c.language.ensures.value in
    let member : In (x, ps) L.nonterminals = subst (λ (ds : List Definition). In (x, ps) ds) all c.in-Some-defined_at.ensures in
    alternatives-defined L x ps c.language.ensures.well_formed.distinct member
