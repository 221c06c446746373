use Rattle.std.proofs.Common.{◌≡◌, List, map, ap, sym, ◌∙◌, subst}
use Rattle.rdx_lang.specs.Checked.{language_in, ranks_in}
use Rattle.rdx_lang.specs.Crosses.{with_crosses_to}
use Rattle.rdx_lang.specs.Edges.{IsFree}
use Rattle.rdx_lang.specs.PatternView.{definition_of}
use Rattle.rdx_lang.specs.Patterns.{Definition, Language}
use Rattle.rdx_lang.specs.declared.checked.CheckedLang.{CheckedLang}
use Rattle.rdx_patterns.specs.Inside.CrossesTo.{with_definitions}
use Rattle.rdx_patterns.proofs.crosses.checked.add_crosses_of.Goals as goal

pub with_added-new-requires-clause-free : goal.with_added-new-requires-clause-free
with_added-new-requires-clause-free c =
    let l = c.args.language.now in
    let added : List Definition = map definition_of c.in_ok-added.added.items in
    let e : with_definitions (language_in c.replace-old.result) added ≡ with_crosses_to (language_in l) c.args.ends.now =
    ap (λ (k : CheckedLang). with_definitions (language_in k) added) c.replace-old.ensures.value
    ∙ ap (λ (L : Language). with_definitions L added) (sym c.language.ensures.value) ∙ c.in_ok-added.ensures
    ∙ ap (λ (L : Language). with_crosses_to L c.args.ends.now) c.language.ensures.value in
    subst (λ (L : Language). IsFree L) (sym e)
    (c.crosses_stay.ensures.free (language_in l) c.args.ends.now l.well_formed (c.ranks_fall.ensures.free (language_in l) (ranks_in l) l.well_formed l.ranked))
