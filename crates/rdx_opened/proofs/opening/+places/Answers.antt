use Rattle.std.proofs.Common.{◌≡◌, ◌∙◌, inl, inr, [], map, refl, sym, ap, subst, Global}
use Rattle.std.proofs.lemmas.Result.{IfOk-weaker}
use Rattle.std.specs.Prelude.{Vec}
use Rattle.rdx_term.specs.View.{tree_of}
use Rattle.rdx_lang.specs.Patterns.{wild, of_kind, except, prefix, hole, lit, nt, named, differ, in_hole, hide_hole, closed, seq}
use Rattle.rdx_lang.specs.PatternView.{pattern_of, slot_of, items_of}
use Rattle.rdx_lang.specs.Variants.{variant}
use Rattle.rdx_lang.specs.declared.pattern.Item as code_item
use Rattle.rdx_lang.specs.declared.pattern.Pat as code_pattern
use Rattle.rdx_lang.proofs.PatternEquations.{pattern_wild, pattern_kind, pattern_except, pattern_prefix, pattern_hole, pattern_lit, pattern_nt, pattern_closed, pattern_named, pattern_differ, pattern_in_hole, pattern_hide_hole, pattern_seq}
use Rattle.rdx_opened.specs.Inside.Marks.{OpensBehind}
use Rattle.rdx_opened.specs.Opening.{Opens, opens_wild, opens_kind, opens_except, opens_prefix, opens_hole, opens_lit, opens_nt, opens_closed}
use Rattle.rdx_opened.specs.Seeking.{marks_of}
use Rattle.rdx_opened.specs.declared.opening.Mark.{Mark}
use Rattle.rdx_opened.proofs.Made.{behind_alone, behind_as, behind_named, behind_differ, behind_in_hole, behind_hide_hole, behind_seq}
use Rattle.rdx_opened.proofs.MarkLists.{begun_end, begun_many, begun_one, next_number, opens_at}
use Rattle.rdx_opened.proofs.opening.+places.Goals as goal
use Rattle.rdx_opened.proofs.opening.+places.Goals.{open_items-in-One+in_ok-inner-in-One+in_ok-push-in-One, open_items-in-Many+in_ok-inner-in-Many+in_ok-length-in-Many+in_ok-push-in-Many}

pub open_places-returns-in_ok-new-in-Named : goal.open_places-returns-in_ok-new-in-Named
open_places-returns-in_ok-new-in-Named t c =
    let x = c.in-Named.x in
    let e : pattern_of c.args.pat.now ≡ named x (pattern_of c.deref.result.now) =
    ap pattern_of c.in-Named.is ∙ pattern_named x c.in-Named.q ∙ ap (λ (p : code_pattern.Pat). named x (pattern_of p)) (sym c.deref.ensures) in
    let f : pattern_of (code_pattern.Named c.in_ok-share-in-Named.field-0 c.in_ok-new-in-Named.field-0)
    ≡ named x (pattern_of c.in_ok-inner-in-Named.inner) =
    pattern_named c.in_ok-share-in-Named.field-0 c.in_ok-new-in-Named.field-0
    ∙ (λ i. named (c.in_ok-share-in-Named.ensures i) (pattern_of (c.in_ok-new-in-Named.ensures.ok i))) in
    behind_as c.args.base.now (behind_named c.args.base.now x c.in_ok-inner-in-Named.ensures) e f

pub open_places-returns-in_ok-new-in-Differ : goal.open_places-returns-in_ok-new-in-Differ
open_places-returns-in_ok-new-in-Differ t c =
    let x = c.in-Differ.x in
    let y = c.in_ok-name-in-Differ.name in
    let e : pattern_of c.args.pat.now ≡ differ x (pattern_of c.deref-in-Differ.result.now) =
    ap pattern_of c.in-Differ.is ∙ pattern_differ x c.in-Differ.q
    ∙ ap (λ (p : code_pattern.Pat). differ x (pattern_of p)) (sym c.deref-in-Differ.ensures) in
    let g : c.name.inside.text.text.value.bytes.items ≡ y = cc c.name.view_is in
    let f : pattern_of (code_pattern.Named c.name.inside.text.text.value.bytes.items c.in_ok-new-in-Differ.field-0)
    ≡ named y (pattern_of c.in_ok-inner-in-Differ.inner) =
    pattern_named c.name.inside.text.text.value.bytes.items c.in_ok-new-in-Differ.field-0
    ∙ (λ i. named (g i) (pattern_of (c.in_ok-new-in-Differ.ensures.ok i))) in
    behind_as c.args.base.now
    (behind_differ c.args.base.now y x (c.in_ok-name-in-Differ.ensures.name ∙ ap (variant c.args.base.now) (next_number c.args.marks.now.items))
    c.in_ok-name-in-Differ.ensures.marks c.in_ok-inner-in-Differ.ensures) e f

pub open_places-returns-in_ok-new-in-InHole-2 : goal.open_places-returns-in_ok-new-in-InHole-2
open_places-returns-in_ok-new-in-InHole-2 t c =
    let e : pattern_of c.args.pat.now ≡ in_hole (pattern_of c.deref-in-InHole.result.now) (pattern_of c.deref-in-InHole-2.result.now) =
    ap pattern_of c.in-InHole.is ∙ pattern_in_hole c.in-InHole.q c.in-InHole.r
    ∙ (λ i. in_hole (pattern_of (sym c.deref-in-InHole.ensures i)) (pattern_of (sym c.deref-in-InHole-2.ensures i))) in
    let f : pattern_of (code_pattern.InHole c.in_ok-new-in-InHole.field-0 c.in_ok-new-in-InHole-2.field-0)
    ≡ in_hole (pattern_of c.in_ok-left-in-InHole.left) (pattern_of c.in_ok-right-in-InHole.right) =
    pattern_in_hole c.in_ok-new-in-InHole.field-0 c.in_ok-new-in-InHole-2.field-0
    ∙ (λ i. in_hole (pattern_of (c.in_ok-new-in-InHole.ensures.ok i)) (pattern_of (c.in_ok-new-in-InHole-2.ensures.ok i))) in
    behind_as c.args.base.now (behind_in_hole c.args.base.now c.in_ok-left-in-InHole.ensures c.in_ok-right-in-InHole.ensures) e f

pub open_places-returns-in_ok-new-in-HideHole : goal.open_places-returns-in_ok-new-in-HideHole
open_places-returns-in_ok-new-in-HideHole t c =
    let e : pattern_of c.args.pat.now ≡ hide_hole (pattern_of c.deref-in-HideHole.result.now) =
    ap pattern_of c.in-HideHole.is ∙ pattern_hide_hole c.in-HideHole.q
    ∙ ap (λ (p : code_pattern.Pat). hide_hole (pattern_of p)) (sym c.deref-in-HideHole.ensures) in
    let f : pattern_of (code_pattern.HideHole c.in_ok-new-in-HideHole.field-0) ≡ hide_hole (pattern_of c.in_ok-inner-in-HideHole.inner) =
    pattern_hide_hole c.in_ok-new-in-HideHole.field-0 ∙ ap (λ (p : code_pattern.Pat). hide_hole (pattern_of p)) c.in_ok-new-in-HideHole.ensures.ok in
    behind_as c.args.base.now (behind_hide_hole c.args.base.now c.in_ok-inner-in-HideHole.ensures) e f

pub open_places-returns-in_ok-open_items-in-Seq : goal.open_places-returns-in_ok-open_items-in-Seq
open_places-returns-in_ok-open_items-in-Seq t c =
    let e : pattern_of c.args.pat.now ≡ seq (items_of (map slot_of c.deref-in-Seq.result.now)) =
    ap pattern_of c.in-Seq.is ∙ pattern_seq c.in-Seq.items ∙ ap (λ is. seq (items_of (map slot_of is))) (sym c.deref-in-Seq.ensures.value) in
    behind_as c.args.base.now (behind_seq c.args.base.now c.in_ok-open_items-in-Seq.ensures) e (pattern_seq c.in_ok-open_items-in-Seq.field-0)

pub open_places-returns-in-Wild : goal.open_places-returns-in-Wild
open_places-returns-in-Wild t c =
    let p = c.args.pat.now in
    let h : Opens (pattern_of p) (pattern_of p) [] = elim c.in-Wild.is [
      | inl e ↦ opens_at p wild (ap pattern_of e ∙ pattern_wild) opens_wild
      | inr a ↦ elim a [
        | inl e ↦ opens_at p (of_kind e.0) (ap pattern_of e.1 ∙ pattern_kind e.0) opens_kind
        | inr b ↦ elim b [
          | inl e ↦ opens_at p (except e.0.items) (ap pattern_of e.1 ∙ pattern_except e.0) opens_except
          | inr d ↦ elim d [
            | inl e ↦ opens_at p (prefix e.0) (ap pattern_of e.1 ∙ pattern_prefix e.0) opens_prefix
            | inr f ↦ elim f [
              | inl e ↦ opens_at p hole (ap pattern_of e ∙ pattern_hole) opens_hole
              | inr g ↦ elim g [
                | inl e ↦ opens_at p (lit (tree_of e.0)) (ap pattern_of e.1 ∙ pattern_lit e.0) opens_lit
                | inr k ↦ elim k [
                  | inl e ↦ opens_at p (nt e.0) (ap pattern_of e.1 ∙ pattern_nt e.0) opens_nt
                  | inr e ↦ opens_at p (closed (pattern_of e.0.value)) (ap pattern_of e.1 ∙ pattern_closed e.0) opens_closed
                ]
              ]
            ]
          ]
        ]
      ]
    ] in
    IfOk-weaker c.share-in-Wild.result _ _ (λ o e. behind_as c.args.base.now (behind_alone c.args.base.now h) refl e) c.share-in-Wild.ensures

pub open_items-loop-item-preserved : goal.open_items-loop-item-preserved
open_items-loop-item-preserved t c =
    let items = c.args.items.now in
    let i = c.loop-item.item-index in
    let start = marks_of c.args.marks.now.items in
    let now = marks_of c.loop-item.marks.items in
    elim c.match-item.branch [
      | open_items-in-One+in_ok-inner-in-One+in_ok-push-in-One w ↦
          (let k : OpensBehind c.args.base.now now (marks_of c.match-item.marks.items) (pattern_of w.in-One.q)
          (pattern_of w.in_ok-inner-in-One.inner) =
          subst (λ (v : Vec Mark Global). OpensBehind c.args.base.now now (marks_of v.items) (pattern_of w.in-One.q)
          (pattern_of w.in_ok-inner-in-One.inner))
          (sym w.marks-is) w.in_ok-inner-in-One.ensures in
          begun_one c.args.base.now start now (marks_of c.match-item.marks.items) items i c.item-item.result c.loop-item-test.true c.item-item.is
          w.in-One.q w.in_ok-inner-in-One.inner c.loop-item.found.items c.match-item.found.items k c.loop-item.invariant w.in-One.is
          (ap (λ (v : Vec code_item.Item Global). v.items) w.found-is ∙ w.in_ok-push-in-One.ensures.items))
      | open_items-in-Many+in_ok-inner-in-Many+in_ok-length-in-Many+in_ok-push-in-Many w ↦
          (let k : OpensBehind c.args.base.now now (marks_of c.match-item.marks.items) (pattern_of w.in-Many.q)
          (pattern_of w.in_ok-inner-in-Many.inner) =
          subst (λ (v : Vec Mark Global). OpensBehind c.args.base.now now (marks_of v.items) (pattern_of w.in-Many.q)
          (pattern_of w.in_ok-inner-in-Many.inner))
          (sym w.marks-is) w.in_ok-inner-in-Many.ensures in
          begun_many c.args.base.now start now (marks_of c.match-item.marks.items) items i c.item-item.result c.loop-item-test.true c.item-item.is
          w.in-Many.q w.in_ok-inner-in-Many.inner c.loop-item.found.items c.match-item.found.items k
          c.loop-item.invariant w.in-Many.n w.in_ok-length-in-Many.length
          w.in-Many.is w.in_ok-length-in-Many.ensures
          (ap (λ (v : Vec code_item.Item Global). v.items) w.found-is ∙ w.in_ok-push-in-Many.ensures.items))
    ]

pub open_items-returns : goal.open_items-returns
open_items-returns t c =
    begun_end c.args.base.now (marks_of c.args.marks.now.items) (marks_of c.loop-item.marks.items) c.args.items.now c.loop-item.item-index
    c.loop-item.found.items
    c.loop-item-test.false c.loop-item.invariant
