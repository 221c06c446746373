use Rattle.std.proofs.Common.{◌≡◌, ◌<◌, ◌≤◌, ◌-◌, ◌+◌, ◌∷◌, ◌++◌, [], ℕ, List, length, take, drop, take_all, vec_len, refl, sym, ◌∙◌, ap, subst, arith, rules, length-append, length-drop}
use Rattle.std.proofs.lemmas.Grind.{common_steps}
use Rattle.std.proofs.Math.Seq.{take-append_seam}
use Rattle.rdx_lang.proofs.MemberLaws.{append-right}
use Rattle.rdx_lang.specs.Members.{In, here}
use Rattle.rdx_leftrec.specs.Inside.Leads.{lists_of}
use Rattle.rdx_leftrec.specs.Inside.Lists.{with_all, Nothing}
use Rattle.rdx_leftrec.specs.Inside.Walks.{Walk, walk_of, left, IsWalk, KeepsMet}
use Rattle.rdx_leftrec.specs.declared.walk.State.{State}
use Rattle.rdx_leftrec.specs.declared.walk.State.TheVariants.{Done}
use Rattle.rdx_leftrec.specs.declared.walk.Step.{Step}
use Rattle.rdx_leftrec.proofs.Lists.{at-length, drop-in}
use Rattle.rdx_leftrec.proofs.Walking.{closed, walk-closed, met-closed}
use Rattle.rdx_leftrec.proofs.WalkEnds.{unmet-all_done}
use Rattle.rdx_leftrec.proofs.walk.Walk.close.Goals as goal

pub offset_bounds-deref-bound : goal.offset_bounds-deref-bound
offset_bounds-deref-bound c =
    let i : In c.args.bound c.args.self.now.bounds.items = subst (λ (bs : List ℕ). In c.args.bound bs) (sym c.requires.last.whole) (append-right c.requires.last.front (c.args.bound ∷ []) c.args.bound (here refl)) in
    let k = c.requires.walk.inside c.args.bound i in
    let e = ap length c.deref.ensures.value in
    let l : c.args.bound < length c.deref.result.now = omega arith in
    search rules

pub slice_bounds-give_all-count : goal.slice_bounds-give_all-count
slice_bounds-give_all-count c =
    let i : In c.args.bound c.args.self.now.bounds.items = subst (λ (bs : List ℕ). In c.args.bound bs) (sym c.requires.last.whole) (append-right c.requires.last.front (c.args.bound ∷ []) c.args.bound (here refl)) in
    let k = c.requires.walk.inside c.args.bound i in
    let e = ap length c.deref.ensures.value in
    omega arith

pub slice_bounds-give_all-start : goal.slice_bounds-give_all-start
slice_bounds-give_all-start c =
    let i : In c.args.bound c.args.self.now.bounds.items = subst (λ (bs : List ℕ). In c.args.bound bs) (sym c.requires.last.whole) (append-right c.requires.last.front (c.args.bound ∷ []) c.args.bound (here refl)) in
    let k = c.requires.walk.inside c.args.bound i in
    let e = ap length c.deref.ensures.value in
    let l : c.args.bound ≤ length c.deref.result.now = omega arith in
    search rules

-- the part of a list behind a place
behind : (xs ys : List ℕ) (b : ℕ) → ys ≡ xs → take (length ys - b) (drop b ys) ≡ drop b xs
behind xs ys b e = take_all (length ys - b) (drop b ys) (let k = length-drop b ys in omega arith) ∙ ap (drop b) e

pub give_all-requires : goal.give_all-requires
give_all-requires c j h =
    let k : In j (drop c.args.bound c.args.self.now.opened.items) = subst (λ (js : List ℕ). In j js) (behind c.args.self.now.opened.items c.deref.result.now c.args.bound c.deref.ensures.value) h in
    let m = drop-in c.args.self.now.opened.items c.args.bound j k in
    at-length c.args.self.now.states.items j _ (c.requires.walk.opened_at j m.0 m.2)

-- what holds of the walk behind
record Closed (ts : List (List ℕ)) (w x : Walk) : Type 0 where
  pub walk : IsWalk ts Nothing x
  pub kept : KeepsMet w x
  pub left : left ts x < left ts w

-- from what it is
of_parts : (ts : List (List ℕ)) (w : Walk) (b n : ℕ) (front opened bounds : List ℕ) (states : List State) → IsWalk ts Nothing w → w.bounds ≡ front ++ b ∷ [] → ((s : Step) → In s w.pending → s.from < b)
    → states ≡ with_all w.states (drop b w.opened) (Done w.complete) → opened ≡ take b w.opened → bounds ≡ front → n ≡ w.complete + 1
    → Closed ts w (record { states = states; opened = opened; bounds = bounds; pending = w.pending; complete = n })
of_parts ts w b n front opened bounds states x e none f g h k = subst (λ (y : Walk). Closed ts w y) (sym same) (record {
  walk = walk-closed ts w x b front e none;
  kept = met-closed ts w x b front e none;
  left = less;
})
  where
    same : record { states = states; opened = opened; bounds = bounds; pending = w.pending; complete = n } ≡ closed ts w x b front e none
    same = λ i. record { states = f i; opened = g i; bounds = h i; pending = w.pending; complete = k i }

    less : left ts (closed ts w x b front e none) < left ts w
    less =
        let a = unmet-all_done ts w.states (drop b w.opened) w.complete in
        let c = ap length e in
        let d = length-append front (b ∷ []) in
        omega arith

-- what is left of a list without its last
without_last : (xs front : List ℕ) (b n : ℕ) → xs ≡ front ++ b ∷ [] → n ≡ length xs → take (n - 1) xs ≡ front
without_last xs front b n e f =
    let k : n - 1 ≡ length front = (let l = ap length e in omega (arith, length-append front (b ∷ []))) in
    (λ i. take (k i) (e i)) ∙ take-append_seam front (b ∷ [])

-- so it is here
after : (c : goal.After-pop) → Closed (lists_of c.args.targets.now) (walk_of c.args.self.now)
    (record { states = c.give_all.new.states.items; opened = c.truncate.new.self.items; bounds = c.pop.new.self.items; pending = c.args.self.now.pending.items; complete = c.in_ok-self.field-0 })
after c =
    let w : Walk = walk_of c.args.self.now in
    let f : c.give_all.new.states.items ≡ with_all w.states (drop c.args.bound w.opened) (Done w.complete) =
    c.give_all.ensures ∙ ap (λ (js : List ℕ). with_all w.states js (Done w.complete)) (behind w.opened c.deref.result.now c.args.bound c.deref.ensures.value) in
    let n : vec_len c.args.self.now.bounds ≡ length w.bounds = grind (arith, common_steps) in
    let h : c.pop.new.self.items ≡ c.requires.last.front = c.pop.ensures.rest ∙ without_last w.bounds c.requires.last.front c.args.bound (vec_len c.args.self.now.bounds) c.requires.last.whole n in
    let k : c.in_ok-self.field-0 ≡ w.complete + 1 = grind (arith, common_steps) in
    of_parts (lists_of c.args.targets.now) w c.args.bound c.in_ok-self.field-0 c.requires.last.front c.truncate.new.self.items c.pop.new.self.items c.give_all.new.states.items
    c.requires.walk c.requires.last.whole c.requires.none f c.truncate.ensures.items h k

pub returns-clause-walk : goal.returns-clause-walk
returns-clause-walk c = (after c).walk

pub returns-clause-kept : goal.returns-clause-kept
returns-clause-kept c = (after c).kept

pub returns-clause-left : goal.returns-clause-left
returns-clause-left c = (after c).left
