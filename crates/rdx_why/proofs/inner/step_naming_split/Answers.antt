use Rattle.std.proofs.Common.{◌≡◌, ◌∙◌, IfSome, List, sym, subst}
use Rattle.std.proofs.lemmas.Result.{IfOk-weaker}
use Rattle.rdx_term.specs.View.{tree_of}
use Rattle.rdx_lang.specs.Bindings.{Binding}
use Rattle.rdx_lang.specs.Checked.{language_in}
use Rattle.rdx_lang.specs.Names.{names}
use Rattle.rdx_lang.specs.PatternView.{pattern_of}
use Rattle.rdx_lang.specs.Patterns.{named}
use Rattle.rdx_lang.specs.Shown.{binding_of}
use Rattle.rdx_bind.specs.Namings.{naming_of}
use Rattle.rdx_deriv.specs.DerivationView.{goal_of}
use Rattle.rdx_opened.specs.Opening.{Mark, IsApart, Stands}
use Rattle.rdx_opened.specs.Picking.{picked}
use Rattle.rdx_opened.specs.Seeking.{marks_of}
use Rattle.rdx_why.proofs.FoundSides.{split_part_apart, naming_form, naming_split_part}
use Rattle.rdx_why.proofs.TwoPatterns.{naming_split_step}
use Rattle.rdx_why.proofs.inner.step_naming_split.Goals as goal

pub unreachable-requires : goal.unreachable-requires
unreachable-requires g c =
    let h = c.in_ok-found.ensures in
    let f = c.in_ok-found.found in
    let none = rw c.in_default.is at c.under_name.ensures.none in
    naming_form (language_in c.args.language.now) (pattern_of c.args.pat.now) (pattern_of f.opened.pat) (marks_of f.opened.marks.items) h.opened
    (binding_of f.binding) h.standing.whole h.standing.stands (naming_of c.args.naming) (pattern_of c.args.q.now) c.requires.naming none

pub part_of-requires-clause-apart : goal.part_of-requires-clause-apart
part_of-requires-clause-apart g c =
    let h = c.in_ok-found.ensures in
    let f = c.in_ok-found.found in
    let a = split_part_apart (language_in c.args.language.now) (pattern_of c.args.pat.now) (pattern_of f.opened.pat)
    (marks_of f.opened.marks.items) h.opened (binding_of f.binding) h.standing.whole h.standing.stands (tree_of c.args.t.now) (tree_of c.args.context.now) (tree_of c.args.part.now) h.holds
    (names (pattern_of c.in-Some.inner.now)) in
    subst (λ ms. IsApart (marks_of ms) (picked (binding_of f.binding) (names (pattern_of c.in-Some.inner.now)))) (sym c.deref.ensures.value) a

pub returns : goal.returns
returns g c =
    let L = language_in c.args.language.now in
    let h = c.in_ok-found.ensures in
    let f = c.in_ok-found.found in
    let ms : List Mark = marks_of f.opened.marks.items in
    let n = naming_of c.args.naming in
    let q = pattern_of c.args.q.now in
    let t = tree_of c.args.t.now in
    let b = binding_of c.args.b.now in
    let u = pattern_of c.in-Some.inner.now in
    let a = binding_of c.in_ok-c.c in
    let s : Stands ms (binding_of f.binding) b = subst (λ (w : Binding). Stands ms (binding_of f.binding) w) h.standing.holds h.standing.stands in
    let k : Stands ms (picked (binding_of f.binding) (names u)) a =
    subst (λ xs. Stands (marks_of xs) (picked (binding_of f.binding) (names u)) a) c.deref.ensures.value c.in_ok-c.ensures in
    let form = subst (λ r. IfSome r (λ v. (x : _) × (pattern_of f.opened.pat ≡ named x (pattern_of v.now)))) c.in-Some.is c.under_name.ensures.some in
    let m = naming_split_part L (pattern_of c.args.pat.now) (pattern_of f.opened.pat) ms h.opened (binding_of f.binding) b s n q
    c.requires.naming u form t (tree_of c.args.context.now) (tree_of c.args.part.now) h.holds a k in
    IfOk-weaker c.one_under.result _ _
    (λ r e. naming_split_step L c.args.l.now r (pattern_of c.args.pat.now) (e.0 ∙ c.new.ensures.items) (goal_of c.in_ok-split_goal.field-0) e.1 n q
    c.requires.known c.requires.naming t (tree_of c.args.context.now) (tree_of c.args.part.now) b a c.in_ok-split_goal.ensures m)
    c.one_under.ensures
