use Rattle.std.proofs.Common.{◌≡◌, [], IfSome, List, refl, sym, subst}
use Rattle.std.proofs.lemmas.Result.{IfOk-weaker}
use Rattle.rdx_term.specs.View.{tree_of}
use Rattle.rdx_lang.specs.Bindings.{Binding}
use Rattle.rdx_lang.specs.Checked.{language_in}
use Rattle.rdx_lang.specs.Names.{names}
use Rattle.rdx_lang.specs.PatternView.{pattern_of}
use Rattle.rdx_lang.specs.Shown.{binding_of}
use Rattle.rdx_lang.specs.Patterns.{in_hole}
use Rattle.rdx_opened.specs.Opening.{Mark, IsApart, Stands}
use Rattle.rdx_opened.specs.Seeking.{marks_of}
use Rattle.rdx_why.proofs.FoundSides.{match_part_apart, hole_form, hole_match_there, hole_match_part}
use Rattle.rdx_why.proofs.TwoPatterns.{hole_match_step}
use Rattle.rdx_why.proofs.inner.step_in_hole_match.Goals as goal

pub unreachable-requires : goal.unreachable-requires
unreachable-requires g c =
    let h = c.in_ok-found.ensures in
    let f = c.in_ok-found.found in
    let none = rw c.in_default.is at c.two_patterns.ensures.none in
    hole_form (language_in c.args.language.now) (pattern_of c.args.pat.now) (pattern_of f.opened.pat) (marks_of f.opened.marks.items) h.opened
    (binding_of f.binding) h.standing.whole h.standing.stands (pattern_of c.args.inside.left.now) (pattern_of c.args.inside.right.now)
    c.requires.two none

pub find_hole-requires : goal.find_hole-requires
find_hole-requires g c =
    let h = c.in_ok-found.ensures in
    let f = c.in_ok-found.found in
    let form = subst (λ r. IfSome r (λ v. pattern_of f.opened.pat ≡ in_hole (pattern_of v.left.now) (pattern_of v.right.now))) c.in-Some.is
    c.two_patterns.ensures.some in
    hole_match_there (language_in c.args.language.now) (pattern_of c.args.pat.now) (pattern_of f.opened.pat) (marks_of f.opened.marks.items) h.opened
    (binding_of f.binding) h.standing.whole h.standing.stands (pattern_of c.args.inside.left.now) (pattern_of c.args.inside.right.now)
    c.requires.two (pattern_of c.in-Some.opened.left.now) (pattern_of c.in-Some.opened.right.now) form
    (binding_of c.in_ok-sides.sides.outer) (binding_of c.in_ok-sides.sides.inner) c.in_ok-sides.ensures.outer c.in_ok-sides.ensures.inner
    (tree_of c.args.t.now) h.holds

pub whole_sides-requires-clause-outer_plain : goal.whole_sides-requires-clause-outer_plain
whole_sides-requires-clause-outer_plain g c =
    subst (λ (v : Binding). v.differs ≡ []) (sym c.in_ok-sides.ensures.outer) refl

pub whole_sides-requires-clause-inner_plain : goal.whole_sides-requires-clause-inner_plain
whole_sides-requires-clause-inner_plain g c =
    subst (λ (v : Binding). v.differs ≡ []) (sym c.in_ok-sides.ensures.inner) refl

pub whole_sides-requires-clause-outer_apart : goal.whole_sides-requires-clause-outer_apart
whole_sides-requires-clause-outer_apart g c =
    let h = c.in_ok-found.ensures in
    let f = c.in_ok-found.found in
    let a = match_part_apart (language_in c.args.language.now) (pattern_of c.args.pat.now) (pattern_of f.opened.pat)
    (marks_of f.opened.marks.items) h.opened (binding_of f.binding) h.standing.whole h.standing.stands (tree_of c.args.t.now) h.holds
    (names (pattern_of c.in-Some.opened.left.now)) in
    subst (λ ms. IsApart (marks_of ms) (binding_of c.in_ok-sides.sides.outer)) (sym c.deref.ensures.value)
    (subst (λ (v : Binding). IsApart (marks_of f.opened.marks.items) v) (sym c.in_ok-sides.ensures.outer) a)

pub whole_sides-requires-clause-inner_apart : goal.whole_sides-requires-clause-inner_apart
whole_sides-requires-clause-inner_apart g c =
    let h = c.in_ok-found.ensures in
    let f = c.in_ok-found.found in
    let a = match_part_apart (language_in c.args.language.now) (pattern_of c.args.pat.now) (pattern_of f.opened.pat)
    (marks_of f.opened.marks.items) h.opened (binding_of f.binding) h.standing.whole h.standing.stands (tree_of c.args.t.now) h.holds
    (names (pattern_of c.in-Some.opened.right.now)) in
    subst (λ ms. IsApart (marks_of ms) (binding_of c.in_ok-sides.sides.inner)) (sym c.deref.ensures.value)
    (subst (λ (v : Binding). IsApart (marks_of f.opened.marks.items) v) (sym c.in_ok-sides.ensures.inner) a)

pub returns : goal.returns
returns g c =
    let L = language_in c.args.language.now in
    let h = c.in_ok-found.ensures in
    let f = c.in_ok-found.found in
    let p = pattern_of c.args.pat.now in
    let o = pattern_of f.opened.pat in
    let ms : List Mark = marks_of f.opened.marks.items in
    let q = pattern_of c.args.inside.left.now in
    let r = pattern_of c.args.inside.right.now in
    let t = tree_of c.args.t.now in
    let b = binding_of c.args.b.now in
    let v = c.in-Some.opened in
    let x = binding_of c.in_ok-sides.sides.outer in
    let y = binding_of c.in_ok-sides.sides.inner in
    let a = binding_of c.in_ok-sides-2.sides.outer in
    let d = binding_of c.in_ok-sides-2.sides.inner in
    let s : Stands ms (binding_of f.binding) b = subst (λ (w : Binding). Stands ms (binding_of f.binding) w) h.standing.holds h.standing.stands in
    let k : Stands ms x a = subst (λ xs. Stands (marks_of xs) x a) c.deref.ensures.value c.in_ok-sides-2.ensures.outer in
    let l : Stands ms y d = subst (λ xs. Stands (marks_of xs) y d) c.deref.ensures.value c.in_ok-sides-2.ensures.inner in
    let form = subst (λ z. IfSome z (λ w. o ≡ in_hole (pattern_of w.left.now) (pattern_of w.right.now))) c.in-Some.is c.two_patterns.ensures.some in
    let i = c.in_ok-hole.hole in
    let m = hole_match_part L p o ms h.opened (binding_of f.binding) b s q r c.requires.two (pattern_of v.left.now) (pattern_of v.right.now) form x y
    c.in_ok-sides.ensures.outer c.in_ok-sides.ensures.inner t h.holds (tree_of i.context) (tree_of i.part) a d c.in_ok-hole.ensures.outer
    c.in_ok-hole.ensures.inner k l in
    IfOk-weaker c.from_hole.result _ _
    (λ z e. hole_match_step L c.args.l.now z p e.0 _ _ e.1 q r c.requires.known c.requires.two t (tree_of i.context) (tree_of i.part) b a d refl refl
    m)
    c.from_hole.ensures
