use Rattle.std.proofs.Common.{◌≡◌, ◌<◌, ℕ, List, length, map, sym, ◌∙◌, ap, subst, arith}
use Rattle.std.proofs.lemmas.List.{length-map}
use Rattle.std.specs.Prelude.{Result, Ok, Err, IfOk, Vec}
use Rattle.std.specs.declared.alloc.Global.{Global}
use Rattle.rdx_leftrec.specs.Inside.Components.{AreComponents}
use Rattle.rdx_leftrec.specs.Inside.Leads.{lists_of}
use Rattle.rdx_leftrec.specs.Inside.Walks.{Walk, walk_of, IsWalk, IsNew, number_of}
use Rattle.rdx_leftrec.specs.Inside.Lists.{Nothing}
use Rattle.rdx_leftrec.specs.declared.walk.State.{State}
use Rattle.rdx_leftrec.proofs.ComponentNumbers.{numbered}
use Rattle.rdx_leftrec.proofs.Walking.{walk-untouched}
use Rattle.rdx_leftrec.proofs.components.components.Goals as goal

pub loop-place-init : goal.loop-place-init
loop-place-init c = record {
  walk = subst (λ (w : Walk). IsWalk (lists_of c.args.targets.now) Nothing w) (sym c.in_ok-walk.ensures)
      (walk-untouched (lists_of c.args.targets.now) (length c.args.targets.now) (sym (length-map c.args.targets.now (λ v. v.items))));
  ended = ap (λ (w : Walk). w.bounds) c.in_ok-walk.ensures;
  met = λ v l. absurd (omega arith);
}

-- numbers of such states are those of components
of_states : {F : Type 0} (ts : List (List ℕ)) (w : Walk) (states : List State) (r : Result (Vec ℕ Global) F) → AreComponents ts (map number_of w.states) → states ≡ w.states
    → IfOk r (λ v. v.items ≡ map number_of states) → IfOk r (λ v. AreComponents ts v.items)
of_states ts w states (Ok v) c e h = subst (λ (ns : List ℕ). AreComponents ts ns) (sym (h ∙ ap (map number_of) e)) c
of_states ts w states (Err x) c e h = tt

pub returns : goal.returns
returns c =
    let m : (v : ℕ) → v < length (lists_of c.args.targets.now) → IsNew (walk_of c.loop-place.walk) v → ⊥ =
    λ v l. c.loop-place.invariant.met v (let k = length-map c.args.targets.now (λ u. u.items) in let n = c.loop-place-test.false in omega arith) in
    of_states (lists_of c.args.targets.now) (walk_of c.loop-place.walk) c.deref.result.now c.numbers.result
    (numbered (lists_of c.args.targets.now) (walk_of c.loop-place.walk) c.loop-place.invariant.walk c.loop-place.invariant.ended m) c.deref.ensures.value c.numbers.ensures
