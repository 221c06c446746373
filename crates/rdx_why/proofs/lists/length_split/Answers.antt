use Rattle.std.proofs.Common.{List, refl, sym, subst}
use Rattle.std.proofs.lemmas.Result.{IfOk-weaker}
use Rattle.rdx_lang.specs.Checked.{language_in}
use Rattle.rdx_lang.specs.Listing.{SplitsVisibly}
use Rattle.rdx_lang.specs.Members.{In}
use Rattle.rdx_lang.specs.PatternView.{pattern_of}
use Rattle.rdx_lang.specs.Patterns.{Pattern}
use Rattle.rdx_lang.specs.Shown.{binding_of, decompositions_of}
use Rattle.rdx_lang.specs.declared.split.Split.{Split}
use Rattle.rdx_term.specs.View.{tree_of}
use Rattle.rdx_deriv.specs.Uses.{at}
use Rattle.rdx_why.proofs.AskedLengths.{none_at_place}
use Rattle.rdx_why.proofs.lists.length_split.Goals as goal

pub returns-clause-none : goal.returns-clause-none
returns-clause-none g c =
    let L = language_in c.args.language.now in
    let sought = c.args.sought in
    let C = tree_of c.args.context.now in
    let s = tree_of c.args.part.now in
    IfOk-weaker c.length_among_splits.result _ _
    (λ r h. none_at_place L (pattern_of c.args.pat.now) (tree_of c.args.t.now) c.args.place C s (at c.args.place C s) (binding_of sought.wanted.now)
    sought.names.now sought.length.now (decompositions_of c.deref.result.now) r refl h
    (λ d v. subst (λ (xs : List Split). In d (decompositions_of xs)) (sym c.deref.ensures.value)
    (c.in_ok-found.ensures.complete d
    (subst (λ (p : Pattern). SplitsVisibly L p (tree_of c.args.t.now) d) (sym c.in_ok-question.ensures) v))))
    c.length_among_splits.ensures.none
