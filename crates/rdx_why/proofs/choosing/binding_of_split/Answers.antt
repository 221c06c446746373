use Rattle.std.proofs.Common.{◌≡◌, ◌∙◌, Some, sym, ap, subst}
use Rattle.rdx_term.specs.View.{tree_of}
use Rattle.rdx_lang.specs.Bindings.{Binding, no_names, of_pairs}
use Rattle.rdx_lang.specs.BindingView.{pairs_of}
use Rattle.rdx_lang.specs.Checked.{language_in}
use Rattle.rdx_lang.specs.PatternView.{pattern_of}
use Rattle.rdx_lang.specs.Patterns.{Pattern, Language}
use Rattle.rdx_lang.specs.Rules.{Split}
use Rattle.rdx_lang.specs.Shown.{binding_of}
use Rattle.rdx_lang.proofs.RuleSteps.{SomeSplit}
use Rattle.rdx_why.specs.Inside.Forms.{BindsNothing}
use Rattle.rdx_why.proofs.Alternatives.{nothing_split}
use Rattle.rdx_why.proofs.AroundAnswers.{some_where, none_where}
use Rattle.rdx_why.proofs.choosing.binding_of_split.Goals as goal

pub returns-then-branch-clause-some : goal.returns-then-branch-clause-some
returns-then-branch-clause-some g c =
    let L : Language = language_in c.args.language.now in
    let t = tree_of c.args.t.now in
    let C = tree_of c.args.context.now in
    let u = tree_of c.args.part.now in
    let q : Pattern = pattern_of c.args.q.now in
    let m : SomeSplit L q t C u = c.requires.sure c.if-is_sure.true in
    let nothing : BindsNothing q = c.in_ok-binds_nothing.ensures c.if-branch.true in
    let made : binding_of c.new-then-branch.result ≡ no_names =
    c.new-then-branch.ensures ∙ ap (λ ps. of_pairs (pairs_of ps)) c.new.ensures.items in
    subst (λ (b : Binding). Split L q t C u b) (nothing_split nothing m.split ∙ sym made) m.split

pub returns-in-Some-clause-some : goal.returns-in-Some-clause-some
returns-in-Some-clause-some g c =
    some_where binding_of (Split (language_in c.args.language.now) (pattern_of c.args.q.now) (tree_of c.args.t.now) (tree_of c.args.context.now)
    (tree_of c.args.part.now))
    c.in-Some.splits c.nothing_where.result c.nothing_where.ensures.some
    (λ h. c.in_ok-splits.ensures.yes (c.in-Some.is ∙ ap Some h))

pub returns-in-Some-clause-none : goal.returns-in-Some-clause-none
returns-in-Some-clause-none g c =
    none_where (Split (language_in c.args.language.now) (pattern_of c.args.q.now) (tree_of c.args.t.now) (tree_of c.args.context.now)
    (tree_of c.args.part.now))
    c.in-Some.splits c.nothing_where.result c.nothing_where.ensures.none
    (λ h. c.in_ok-splits.ensures.no (c.in-Some.is ∙ ap Some h))
