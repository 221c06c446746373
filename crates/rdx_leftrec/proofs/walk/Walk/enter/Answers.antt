use Rattle.std.proofs.Common.{◌≡◌, ◌<◌, ◌≤◌, ◌∷◌, ◌++◌, [], ℕ, List, length, map, set, sym, ◌∙◌, ap, subst, arith, rules, length-append}
use Rattle.std.proofs.lemmas.Grind.{common_steps}
use Rattle.std.proofs.lemmas.List.{length-map}
use Rattle.rdx_leftrec.specs.Inside.Leads.{lists_of}
use Rattle.rdx_leftrec.specs.Inside.Lists.{At, Nothing}
use Rattle.rdx_leftrec.specs.Inside.Reach.{targets_at, Path}
use Rattle.rdx_leftrec.specs.Inside.Walks.{Walk, walk_of, step, left, IsWalk, IsNew, KeepsMet}
use Rattle.rdx_leftrec.specs.declared.walk.State.TheVariants.{New, Open}
use Rattle.rdx_leftrec.specs.declared.walk.Step.{Step}
use Rattle.rdx_leftrec.proofs.Paths.{targets_at-read}
use Rattle.rdx_leftrec.proofs.Lists.{at-length}
use Rattle.rdx_leftrec.proofs.Walking.{entered, walk-entered, met-entered, met-here}
use Rattle.rdx_leftrec.proofs.WalkEnds.{unmet-opened}
use Rattle.rdx_leftrec.proofs.walk.Walk.enter.Goals as goal

-- the place has a state
inside : (ts : List (List ℕ)) (X : ℕ → Type 0) (w : Walk) (p : ℕ) → IsWalk ts X w → IsNew w p → p < length ts
inside ts X w p x h = let k = at-length w.states p New h in let e = x.size in omega arith

-- what holds of the walk behind
record Entered (ts : List (List ℕ)) (w x : Walk) (p : ℕ) : Type 0 where
  pub walk : IsWalk ts Nothing x
  pub kept : KeepsMet w x
  pub met : IsNew x p → ⊥
  pub left : left ts x ≤ left ts w

-- from what it is
of_parts : (ts : List (List ℕ)) (w : Walk) (p t : ℕ) (js opened bounds : List ℕ) (pending : List Step) → IsWalk ts (λ j. j ≡ p) w → IsNew w p → ((v s : ℕ) → At w.opened s v → Path ts v p)
    → t ≡ length w.opened → js ≡ targets_at ts p → opened ≡ w.opened ++ p ∷ [] → bounds ≡ w.bounds ++ t ∷ [] → pending ≡ w.pending ++ map (step t) js
    → Entered ts w (record { states = set w.states p (Open t); opened = opened; bounds = bounds; pending = pending; complete = w.complete }) p
of_parts ts w p t js opened bounds pending x new from e f g h k = subst (λ (y : Walk). Entered ts w y p) (sym same) (record {
  walk = walk-entered ts w p x new from;
  kept = met-entered ts w p x new from;
  met = met-here ts w p x new from;
  left = less;
})
  where
    same : record { states = set w.states p (Open t); opened = opened; bounds = bounds; pending = pending; complete = w.complete } ≡ entered ts w p x new from
    same = λ i. record {
      states = set w.states p (Open (e i));
      opened = g i;
      bounds = (h ∙ ap (λ (s : ℕ). w.bounds ++ s ∷ []) e) i;
      pending = (k ∙ (λ l. w.pending ++ map (step (e l)) (f l))) i;
      complete = w.complete;
    }

    less : left ts (entered ts w p x new from) ≤ left ts w
    less =
        let a = unmet-opened ts w.states p (length w.opened) (inside ts (λ j. j ≡ p) w p x new) new in
        let b = length-append w.pending (map (step (length w.opened)) (targets_at ts p)) in
        let c = length-map (targets_at ts p) (step (length w.opened)) in
        let d = length-append w.bounds (length w.opened ∷ []) in
        omega arith

pub index_mut-requires : goal.index_mut-requires
index_mut-requires c =
    let k = at-length c.args.self.now.states.items c.args.place New c.requires.new in
    grind (arith, common_steps)

pub bounds-targets-place : goal.bounds-targets-place
bounds-targets-place c =
    let k : c.args.place < length (lists_of c.args.targets.now) = inside (lists_of c.args.targets.now) (λ j. j ≡ c.args.place) (walk_of c.args.self.now) c.args.place c.requires.walk c.requires.new in
    let l = length-map c.args.targets.now (λ v. v.items) in
    omega arith

pub offset_bounds-targets-place : goal.offset_bounds-targets-place
offset_bounds-targets-place c =
    let k : c.args.place < length (lists_of c.args.targets.now) = inside (lists_of c.args.targets.now) (λ j. j ≡ c.args.place) (walk_of c.args.self.now) c.args.place c.requires.walk c.requires.new in
    let l = length-map c.args.targets.now (λ v. v.items) in
    let m : c.args.place < length c.args.targets.now = omega arith in
    search rules

-- so it is here
behind : (c : goal.In_ok-add_steps) → Entered (lists_of c.args.targets.now) (walk_of c.args.self.now)
    (record { states = set c.args.self.now.states.items c.args.place (Open c.len-from.result); opened = c.push.new.self.items; bounds = c.push-2.new.self.items; pending = c.add_steps.new.pending.items; complete = c.args.self.now.complete })
    c.args.place
behind c =
    let n : c.len-from.result ≡ length c.args.self.now.opened.items = grind (arith, common_steps) in
    let k : c.args.place < length (lists_of c.args.targets.now) = inside (lists_of c.args.targets.now) (λ j. j ≡ c.args.place) (walk_of c.args.self.now) c.args.place c.requires.walk c.requires.new in
    let l = length-map c.args.targets.now (λ v. v.items) in
    let e : targets_at (lists_of c.args.targets.now) c.args.place ≡ c.deref.result.now =
    targets_at-read c.args.targets.now c.args.place c.index-targets-place.result (omega arith) c.index-targets-place.is ∙ sym c.deref.ensures.value in
    of_parts (lists_of c.args.targets.now) (walk_of c.args.self.now) c.args.place c.len-from.result c.deref.result.now c.push.new.self.items c.push-2.new.self.items c.add_steps.new.pending.items
    c.requires.walk c.requires.new c.requires.from n (sym e) c.in_ok-push.ensures.items c.in_ok-push-2.ensures.items c.in_ok-add_steps.ensures

pub returns-clause-walk : goal.returns-clause-walk
returns-clause-walk c = (behind c).walk

pub returns-clause-kept : goal.returns-clause-kept
returns-clause-kept c = (behind c).kept

pub returns-clause-met : goal.returns-clause-met
returns-clause-met c = (behind c).met

pub returns-clause-left : goal.returns-clause-left
returns-clause-left c = (behind c).left
