use Rattle.std.proofs.Common.{◌<◌, Bool, length, sym, subst, arith}
use Rattle.std.proofs.lemmas.Grind.{common_steps}
use Rattle.rdx_lang.specs.Edges.{IsFirstRecursive}
use Rattle.rdx_lang.specs.PatternView.{definition_of, language_of}
use Rattle.rdx_lang.specs.Patterns.{Definition, Language}
use Rattle.rdx_lang.specs.declared.pattern.Ref.{Ref}
use Rattle.rdx_leftrec.specs.Inside.EmptyRules.{empty_by}
use Rattle.rdx_leftrec.specs.Inside.Lists.{At}
use Rattle.rdx_leftrec.proofs.Lists.{at_mapped}
use Rattle.rdx_leftrec.proofs.Paths.{first-recursive}
use Rattle.rdx_leftrec.proofs.recursion.refusal.Goals as goal

pub returns-in-Ok : goal.returns-in-Ok
returns-in-Ok c =
    let L : Language = language_of c.args.nonterminals.now.language.now in
    let E : Ref → Bool = empty_by L c.args.empty.now in
    let d : Definition = definition_of c.index.result.now in
    let l : c.args.place < length c.args.nonterminals.now.language.now.nts.items = grind (arith, common_steps) in
    let a : At L.nonterminals c.args.place d = at_mapped definition_of c.args.nonterminals.now.language.now.nts.items c.args.place c.index.result.now l c.index.ensures in
    subst (λ (x : Ref). IsFirstRecursive L x) (sym c.in-Ok.ensures) (first-recursive L c.requires.well_formed E c.requires.empty c.args.place d a c.requires.first)
