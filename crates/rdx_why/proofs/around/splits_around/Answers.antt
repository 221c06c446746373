use Rattle.std.proofs.Common.{◌≡◌, ◌∙◌, true, false, sym, ap}
use Rattle.std.proofs.lemmas.Option.{same_Some}
use Rattle.rdx_term.specs.View.{tree_of}
use Rattle.rdx_lang.specs.Checked.{language_in}
use Rattle.rdx_lang.specs.Patterns.{nt}
use Rattle.rdx_lang.proofs.LookupLaws.{is_same-equal}
use Rattle.rdx_why.specs.Inside.Around.{IsPath}
use Rattle.rdx_why.proofs.PathLaws.{path-split, split-path}
use Rattle.rdx_why.proofs.around.splits_around.Goals as goal

pub returns-clause-yes : goal.returns-clause-yes
returns-clause-yes g c h =
    let L = language_in c.args.language.now in
    let w : IsPath L (tree_of c.args.t.now) (tree_of c.args.context.now) (tree_of c.args.part.now) c.in-Some.path.name (tree_of c.in-Some.path.inner)
    (tree_of c.in-Some.path.around) =
    rw c.in-Some.is at c.requires in
    let same : c.in-Some-nonterminal_in.name.now ≡ c.in-Some.path.name =
    is_same-equal c.in-Some-nonterminal_in.name.now c.in-Some.path.name (sym c.same.ensures ∙ c.if-not-same.false) in
    path-split w c.in-Some-way_of.ensures.way (c.in-Some-nonterminal_in.ensures ∙ ap nt same) c.in_ok-pat.ensures
    (c.in_ok-binds_nothing.ensures c.if-not-branch.false)
    (c.in_ok-found.ensures.yes (same_Some c.in_ok-found.found true h))

pub returns-clause-no : goal.returns-clause-no
returns-clause-no g c h b m =
    let L = language_in c.args.language.now in
    let w : IsPath L (tree_of c.args.t.now) (tree_of c.args.context.now) (tree_of c.args.part.now) c.in-Some.path.name (tree_of c.in-Some.path.inner)
    (tree_of c.in-Some.path.around) =
    rw c.in-Some.is at c.requires in
    let same : c.in-Some-nonterminal_in.name.now ≡ c.in-Some.path.name =
    is_same-equal c.in-Some-nonterminal_in.name.now c.in-Some.path.name (sym c.same.ensures ∙ c.if-not-same.false) in
    c.in_ok-found.ensures.no (same_Some c.in_ok-found.found false h) b
    (split-path w c.in-Some-way_of.ensures.way (c.in-Some-nonterminal_in.ensures ∙ ap nt same) c.in_ok-pat.ensures m)
