use Rattle.std.proofs.Common.{ℕ, subst}
use Rattle.std.proofs.lemmas.Result.{IfOk-weaker}
use Rattle.std.specs.Prelude.{IfNone}
use Rattle.rdx_lang.specs.Bindings.{Binding}
use Rattle.rdx_lang.specs.Checked.{language_in}
use Rattle.rdx_lang.specs.PatternView.{pattern_of}
use Rattle.rdx_lang.specs.Shown.{binding_of}
use Rattle.rdx_term.specs.Tree.{Tree}
use Rattle.rdx_term.specs.Building.{mark_for}
use Rattle.rdx_term.specs.View.{tree_of, trees_of}
use Rattle.rdx_deriv.specs.Uses.{at}
use Rattle.rdx_why.specs.Inside.Around.{Asks}
use Rattle.rdx_why.specs.Inside.Laying.{HasLength, IsAnswered}
use Rattle.rdx_why.proofs.AroundAnswers.{found_around, none_around}
use Rattle.rdx_why.proofs.lists.length_at.Goals as goal

pub returns-in-Some-clause-some : goal.returns-in-Some-clause-some
returns-in-Some-clause-some g c =
    let sought = c.args.sought in
    let a : Asks (language_in c.args.language.now) (pattern_of c.args.pat.now) (trees_of c.args.terms.now) c.args.place (tree_of c.args.context.now)
    (pattern_of c.in-Some.question.pat) (tree_of c.in-Some.question.around) =
    rw c.in-Some.is at c.in_ok-question.ensures in
    IfOk-weaker c.length_matched.result _ _
    (λ r h. found_around a (mark_for (trees_of c.args.terms.now)) (tree_of c.args.part.now)
    (λ e k. HasLength (binding_of sought.wanted.now) sought.names.now sought.length.now e k) c.requires.there.0 c.requires.there.1 r h)
    c.length_matched.ensures.some

pub returns-in-Some-clause-none : goal.returns-in-Some-clause-none
returns-in-Some-clause-none g c =
    let sought = c.args.sought in
    let a : Asks (language_in c.args.language.now) (pattern_of c.args.pat.now) (trees_of c.args.terms.now) c.args.place (tree_of c.args.context.now)
    (pattern_of c.in-Some.question.pat) (tree_of c.in-Some.question.around) =
    rw c.in-Some.is at c.in_ok-question.ensures in
    IfOk-weaker c.length_matched.result _ _
    (λ r h. none_around a (mark_for (trees_of c.args.terms.now)) (tree_of c.args.part.now)
    (λ e k. HasLength (binding_of sought.wanted.now) sought.names.now sought.length.now e k) r h)
    c.length_matched.ensures.none

pub returns-in_ok-t-in-None-clause-none : goal.returns-in_ok-t-in-None-clause-none
returns-in_ok-t-in-None-clause-none g c =
    let sought = c.args.sought in
    IfOk-weaker c.length_split.result _ _
    (λ r h. subst
    (λ (u : Tree). IfNone r ((e : Binding) (k : ℕ) → IsAnswered (language_in c.args.language.now) (pattern_of c.args.pat.now) u
    (at c.args.place (tree_of c.args.context.now) (tree_of c.args.part.now)) e
    → HasLength (binding_of sought.wanted.now) sought.names.now sought.length.now e k → ⊥)) c.in_ok-t-in-None.ensures h)
    c.length_split.ensures.none
