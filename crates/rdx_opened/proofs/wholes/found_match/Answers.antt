use Rattle.std.proofs.Common.{IfSome, sym, subst}
use Rattle.rdx_term.specs.View.{tree_of}
use Rattle.rdx_lang.specs.Checked.{language_in}
use Rattle.rdx_lang.specs.PatternView.{pattern_of}
use Rattle.rdx_lang.specs.Rules.{Match}
use Rattle.rdx_lang.specs.Shown.{binding_of}
use Rattle.rdx_opened.specs.Opening.{IsApart, Stands}
use Rattle.rdx_opened.specs.Seeking.{IsFound, marks_of}
use Rattle.rdx_opened.proofs.FoundWholes.{match_found}
use Rattle.rdx_opened.proofs.wholes.found_match.Goals as goal

pub whole-requires-clause-apart : goal.whole-requires-clause-apart
whole-requires-clause-apart g c =
    let h =
    subst (λ r. IfSome r (IsFound (pattern_of c.args.pat.now)
    (λ o b. Match (language_in c.args.language.now) o (tree_of c.args.t.now) b)
    c.args.wanted)) c.in-Some.is
    c.in_ok-found.ensures.some in
    subst (λ ms. IsApart (marks_of ms) (binding_of c.in-Some.found.binding)) (sym c.deref.ensures.value) h.standing.stands.apart

pub returns-clause-some : goal.returns-clause-some
returns-clause-some g c =
    let h =
    subst (λ r. IfSome r (IsFound (pattern_of c.args.pat.now)
    (λ o b. Match (language_in c.args.language.now) o (tree_of c.args.t.now) b)
    c.args.wanted)) c.in-Some.is
    c.in_ok-found.ensures.some in
    match_found (language_in c.args.language.now) (pattern_of c.args.pat.now) c.args.wanted c.in-Some.found
    (binding_of c.in_ok-b.b) (tree_of c.args.t.now) h
    (subst (λ ms. Stands (marks_of ms) (binding_of c.in-Some.found.binding) (binding_of c.in_ok-b.b)) c.deref.ensures.value c.in_ok-b.ensures)
