use Rattle.std.proofs.Common.{◌≡◌, List, ◌++◌, sym, ap, map, ◌∙◌, append_assoc}
use Rattle.rdx_lang.specs.Crosses as model
use Rattle.rdx_lang.specs.Patterns.{Pattern, seq}
use Rattle.rdx_patterns.specs.Inside.Slots.{put_at}
use Rattle.rdx_lang.specs.PatternView.{slot_of, items_of, patterns_of}
use Rattle.rdx_lang.proofs.PatternEquations.{slot_one, slot_many}
use Rattle.rdx_patterns.proofs.CrossedItems.{crossed_from, from-start, from-next, inner}
use Rattle.rdx_patterns.proofs.crosses.alternatives.+crossing.Goals as goal
use Rattle.rdx_patterns.proofs.crosses.alternatives.+crossing.Goals.{crossed_items-in-One+in_ok-changed-in-One, crossed_items-in-Many+in_ok-changed-in-Many}

pub crossed_items-loop-place-init : goal.crossed_items-loop-place-init
crossed_items-loop-place-init t c =
    let all = model.unnamed_items (items_of (map slot_of c.args.items.now)) in
    ap (λ xs. patterns_of xs ++ map seq (crossed_from c.args.to.now all 0 all)) c.new-found.ensures.items
    ∙ ap (map seq) (sym (from-start c.args.to.now all))

-- what comes next is put behind
put-behind : (new old more rest next total : List Pattern) → new ≡ old ++ more → rest ≡ more ++ next → old ++ rest ≡ total → new ++ next ≡ total
put-behind new old more rest next total e f g = ap (λ xs. xs ++ next) e ∙ append_assoc old more next ∙ ap (λ xs. old ++ xs) (sym f) ∙ g

pub crossed_items-loop-place-preserved : goal.crossed_items-loop-place-preserved
crossed_items-loop-place-preserved t c =
    let k : patterns_of c.match-item.changed.items ≡ model.crossed c.args.to.now (model.unnamed (inner (slot_of c.index-items-place.result))) =
    elim c.match-item.branch [
      | crossed_items-in-One+in_ok-changed-in-One w ↦
          ap (λ v. patterns_of v.items) w.changed-is ∙ w.in_ok-changed-in-One.ensures
          ∙ ap (λ s. model.crossed c.args.to.now (model.unnamed (inner s))) (sym (ap slot_of w.in-One.is ∙ slot_one w.in-One.pat))
      | crossed_items-in-Many+in_ok-changed-in-Many w ↦
          ap (λ v. patterns_of v.items) w.changed-is ∙ w.in_ok-changed-in-Many.ensures
          ∙ ap (λ s. model.crossed c.args.to.now (model.unnamed (inner s))) (sym (ap slot_of w.in-Many.is ∙ slot_many w.in-Many.pat w.in-Many.field-1))
    ] in
    let all = model.unnamed_items (items_of (map slot_of c.args.items.now)) in
    put-behind _ _ _ _ _ _
    (c.in_ok-add_changed.ensures ∙ ap (λ qs. patterns_of c.loop-place.found.items ++ map (λ q. seq (put_at c.loop-place.place q all)) qs) k)
    (from-next slot_of c.args.to.now all c.args.items.now c.loop-place.place c.index-items-place.result c.loop-place-test.true c.index-items-place.is)
    c.loop-place.invariant
