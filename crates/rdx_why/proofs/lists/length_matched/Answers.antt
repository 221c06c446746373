use Rattle.std.proofs.Common.{List, sym, subst}
use Rattle.std.proofs.lemmas.Result.{IfOk-weaker}
use Rattle.rdx_lang.specs.Checked.{language_in}
use Rattle.rdx_lang.specs.Listing.{IsSeen}
use Rattle.rdx_lang.specs.Members.{In}
use Rattle.rdx_lang.specs.PatternView.{pattern_of}
use Rattle.rdx_lang.specs.Patterns.{Pattern}
use Rattle.rdx_lang.specs.Rules.{Match}
use Rattle.rdx_lang.specs.Shown.{binding_of, bindings_of}
use Rattle.rdx_lang.specs.declared.binding.Binding.{Binding}
use Rattle.rdx_term.specs.View.{tree_of}
use Rattle.rdx_why.specs.Inside.Laying.{HasLength}
use Rattle.rdx_why.proofs.AroundAnswers.{none_listed}
use Rattle.rdx_why.proofs.lists.length_matched.Goals as goal

pub returns-clause-none : goal.returns-clause-none
returns-clause-none g c =
    let L = language_in c.args.language.now in
    let sought = c.args.sought in
    IfOk-weaker c.length_among.result _ _
    (λ r h. none_listed (IsSeen (Match L (pattern_of c.args.pat.now) (tree_of c.args.t.now))) (bindings_of c.deref.result.now)
    (λ e k. HasLength (binding_of sought.wanted.now) sought.names.now sought.length.now e k) r
    (λ e s. subst (λ (xs : List Binding). In e (bindings_of xs)) (sym c.deref.ensures.value)
    (c.in_ok-found.ensures.complete e
    (subst (λ (p : Pattern). IsSeen (Match L p (tree_of c.args.t.now)) e) (sym c.in_ok-question.ensures) s)))
    h)
    c.length_among.ensures.none
