use Rattle.std.proofs.Common.{◌≡◌, ◌∙◌, sym, ap, subst}
use Rattle.rdx_term.specs.View.{tree_of}
use Rattle.rdx_lang.specs.Bindings.{Binding, no_names, of_pairs}
use Rattle.rdx_lang.specs.BindingView.{pairs_of}
use Rattle.rdx_lang.specs.Checked.{language_in}
use Rattle.rdx_lang.specs.PatternView.{pattern_of}
use Rattle.rdx_lang.specs.Patterns.{Pattern, Language}
use Rattle.rdx_lang.specs.Rules.{Match}
use Rattle.rdx_lang.specs.Shown.{binding_of}
use Rattle.rdx_lang.proofs.RuleSteps.{SomeMatch}
use Rattle.rdx_why.specs.Inside.Forms.{BindsNothing}
use Rattle.rdx_why.proofs.Alternatives.{nothing_matched}
use Rattle.rdx_why.proofs.choosing.binding_of_match.Goals as goal

pub returns-then-branch-clause-some : goal.returns-then-branch-clause-some
returns-then-branch-clause-some g c =
    let L : Language = language_in c.args.language.now in
    let t = tree_of c.args.t.now in
    let q : Pattern = pattern_of c.args.q.now in
    let m : SomeMatch L q t = c.requires c.if-is_sure.true in
    let nothing : BindsNothing q = c.in_ok-binds_nothing.ensures c.if-branch.true in
    let made : binding_of c.new-then-branch.result ≡ no_names =
    c.new-then-branch.ensures ∙ ap (λ ps. of_pairs (pairs_of ps)) c.new.ensures.items in
    subst (λ (b : Binding). Match L q t b) (nothing_matched nothing m.matched ∙ sym made) m.matched
