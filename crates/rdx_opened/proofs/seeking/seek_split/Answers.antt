use Rattle.std.proofs.Common.{refl, ap}
use Rattle.rdx_lang.specs.Checked.{language_in, pattern_in}
use Rattle.rdx_lang.specs.Members.{In}
use Rattle.rdx_lang.specs.PatternView.{pattern_of}
use Rattle.rdx_lang.specs.Rules.{Split}
use Rattle.rdx_lang.specs.Shown.{binding_of, decompositions_of}
use Rattle.rdx_term.specs.View.{tree_of}
use Rattle.rdx_opened.specs.Inside.Marks.{into}
use Rattle.rdx_opened.specs.Opening.{HasStanding}
use Rattle.rdx_opened.specs.Seeking.{IsWanted, marks_of}
use Rattle.rdx_opened.proofs.Sought.{at_found, at_none, split_found, split_none}
use Rattle.rdx_opened.proofs.seeking.seek_split.Goals as goal

pub returns-in_ok-binding-in-Some-clause-some : goal.returns-in_ok-binding-in-Some-clause-some
returns-in_ok-binding-in-Some-clause-some g c =
    let L = language_in c.args.language.now in
    let o = pattern_of c.in_ok-opened.opened.pat in
    let ms = marks_of c.in_ok-opened.opened.marks.items in
    let t = tree_of c.args.t.now in
    let C = tree_of c.args.context.now in
    let s = tree_of c.args.part.now in
    let b = binding_of c.in_ok-binding-in-Some.binding in
    let found = c.in_ok-binding.field-0 in
    let first = c.in-Some.binding in
    let r : Split L o t C s b × HasStanding ms b (IsWanted c.args.wanted) =
    split_found L (pattern_of c.args.pat.now) o (pattern_in c.in_ok-question.question) ms (marks_of c.deref.result.now) c.in_ok-opened.ensures
    c.in_ok-question.ensures (ap marks_of c.deref.ensures.value) t (IsWanted c.args.wanted) C s (decompositions_of c.in_ok-found.found.items)
    (decompositions_of c.deref-2.result.now) c.in_ok-found.ensures (ap decompositions_of c.deref-2.ensures.value) (binding_of first.now) b
    (at_found (λ x. binding_of x.now) found (λ d. In (into C s d) (decompositions_of c.deref-2.result.now)) first c.in-Some.is
    c.in_ok-binding.ensures.found
    (binding_of first.now) refl)
    (at_found (λ x. binding_of x.now) found (λ d. HasStanding (marks_of c.deref.result.now) d (IsWanted c.args.wanted)) first c.in-Some.is
    c.in_ok-binding.ensures.standing (binding_of first.now) refl)
    c.in_ok-binding-in-Some.ensures in
    record { opened = c.in_ok-opened.ensures; holds = r.0; standing = r.1 }

pub returns-in-None-clause-none : goal.returns-in-None-clause-none
returns-in-None-clause-none g c =
    split_none (language_in c.args.language.now) (pattern_of c.args.pat.now) (pattern_of c.in_ok-opened.opened.pat)
    (pattern_in c.in_ok-question.question)
    (marks_of c.in_ok-opened.opened.marks.items) (marks_of c.deref.result.now) c.in_ok-opened.ensures c.in_ok-question.ensures
    (ap marks_of c.deref.ensures.value)
    (tree_of c.args.t.now) (IsWanted c.args.wanted) (tree_of c.args.context.now) (tree_of c.args.part.now)
    (decompositions_of c.in_ok-found.found.items)
    (decompositions_of c.deref-2.result.now) c.in_ok-found.ensures (ap decompositions_of c.deref-2.ensures.value)
    (at_none (λ x. binding_of x.now) c.in_ok-binding.field-0 c.in-None.is c.in_ok-binding.ensures.none)
