-- What the numbers of components tell of recursion.
use Rattle.std.proofs.Common.{◌≡◌, ℕ, ◌<◌, ◌≤◌, List, [], length, get_or, map, refl, sym, ◌∙◌, subst, inl, inr, arith}
use Rattle.std.proofs.lemmas.List.{length-map}
use Rattle.rdx_lang.specs.Members.{In}
use Rattle.rdx_leftrec.specs.Inside.Components.{ReachesOrIs, AreComponents, AreFalling, IsFirst}
use Rattle.rdx_leftrec.specs.Inside.Lists.{At, Nothing}
use Rattle.rdx_leftrec.specs.Inside.Reach.{targets_at, Path, once, more, AreFreeBefore}
use Rattle.rdx_leftrec.specs.Inside.Walks.{Walk, IsNew, IsWalk, number_of}
use Rattle.rdx_leftrec.specs.declared.walk.State.{State}
use Rattle.rdx_leftrec.specs.declared.walk.State.TheVariants.{New, Open, Done}
use Rattle.rdx_leftrec.proofs.Lists.{at_inside, at-length, at-map}
use Rattle.rdx_leftrec.proofs.Paths.{path-before, targets_at-inside}
use Rattle.rdx_leftrec.proofs.Walking.{then_step}

-- the first step of a path
first_step : (ts : List (List ℕ)) (i k : ℕ) → Path ts i k → (j : ℕ) × In j (targets_at ts i) × ReachesOrIs ts j k
first_step ts i k (once h) = (k, h, inl refl)
first_step ts i k (more {j = j} p h) = let f = first_step ts i j p in (f.0, f.1, inr (then_step ts f.0 j k f.2 h))

-- no place before n has a step to one with its number
abbrev pub AreApart : List (List ℕ) → List ℕ → ℕ → Type 0
AreApart ts ns n = (i j : ℕ) → i < n → In j (targets_at ts i) → ¬ (get_or ns j 0 ≡ get_or ns i 0)

module _ (ts : List (List ℕ)) (ns : List ℕ) (c : AreComponents ts ns) where
  -- numbers don't rise along paths
  most-path : (i k : ℕ) → Path ts i k → get_or ns k 0 ≤ get_or ns i 0
  most-path i k (once h) = c.most i k h
  most-path i k (more {j = j} p h) = let l = most-path i j p in let m = c.most j k h in omega arith

  most-reached : (i k : ℕ) → ReachesOrIs ts i k → get_or ns k 0 ≤ get_or ns i 0
  most-reached i k (inl e) = subst (λ (j : ℕ). get_or ns j 0 ≤ get_or ns i 0) e (omega arith)
  most-reached i k (inr p) = most-path i k p

  -- a place with a step to one of its component reaches itself
  pub same-recursive : (i j : ℕ) → In j (targets_at ts i) → get_or ns j 0 ≡ get_or ns i 0 → Path ts i i
  same-recursive i j h e = elim (c.back i j h e) [
    | inl d ↦ once (subst (λ (k : ℕ). In k (targets_at ts i)) d h)
    | inr p ↦ path-before ts i j i h p
  ]

  -- a place that reaches itself has such a step
  recursive-same : (i : ℕ) → Path ts i i → (j : ℕ) × In j (targets_at ts i) × (get_or ns j 0 ≡ get_or ns i 0)
  recursive-same i p =
      let f = first_step ts i i p in
      let l : get_or ns i 0 ≤ get_or ns f.0 0 = most-reached f.0 i f.2 in
      let m : get_or ns f.0 0 ≤ get_or ns i 0 = c.most i f.0 f.1 in
      (f.0, f.1, omega arith)

  -- where no place before n has such a step, none reaches itself
  free-before : (n : ℕ) → AreApart ts ns n → AreFreeBefore ts n
  free-before n a i l p = let f = recursive-same i p in a i f.0 l f.1 f.2

  -- the first place with one
  pub first-found : (i j : ℕ) → i < length ts → AreApart ts ns i → In j (targets_at ts i) → get_or ns j 0 ≡ get_or ns i 0 → IsFirst ts i
  first-found i j l a h e = record { inside = l; recursive = same-recursive i j h e; first = free-before i a }

  -- where there is none, numbers fall
  pub falling : AreApart ts ns (length ts) → AreFalling ts ns
  falling a = record {
    size = c.size;
    fall = λ i j h. let l = c.most i j h in let n = a i j (targets_at-inside ts i j h) h in omega arith;
  }

-- a walk that has met all places, and ended, has numbered their components
pub numbered : (ts : List (List ℕ)) (w : Walk) → IsWalk ts Nothing w → w.bounds ≡ [] → ((v : ℕ) → v < length ts → IsNew w v → ⊥) → AreComponents ts (map number_of w.states)
numbered ts w x e met = record {
  size = length-map w.states number_of ∙ x.size;
  most = λ i j h.
      let a = step i j h in
      let b : get_or (map number_of w.states) i 0 ≡ a.0 = read i a.0 a.1 in
      let c : get_or (map number_of w.states) j 0 ≡ a.2 = read j a.2 a.3 in
      let l : a.2 ≤ a.0 = a.4 in
      omega arith;
  back = λ i j h d.
      let a = step i j h in
      let b : get_or (map number_of w.states) i 0 ≡ a.0 = read i a.0 a.1 in
      let c : get_or (map number_of w.states) j 0 ≡ a.2 = read j a.2 a.3 in
      x.done_back i a.0 j a.1 h (subst (λ (n : ℕ). At w.states j (Done n)) (sym c ∙ d ∙ b) a.3);
}
  where
    read : (v n : ℕ) → At w.states v (Done n) → get_or (map number_of w.states) v 0 ≡ n
    read v n h = at-map number_of w.states v (Done n) 0 h

    none : (v t : ℕ) → At w.states v (Open t) → ⊥
    none v t h =
        let b = x.bottom t (at-length w.opened t v (x.at_opened v t h)) in
        let i : In b.0 [] = subst (λ (bs : List ℕ). In b.0 bs) e b.1 in
        elim i [ ]

    done : (v : ℕ) → v < length ts → (n : ℕ) × At w.states v (Done n)
    done v l = of_state a.0 a.1
      where
        a : (s : State) × At w.states v s
        a = at_inside w.states v (let z = x.size in omega arith)

        of_state : (s : State) → At w.states v s → (n : ℕ) × At w.states v (Done n)
        of_state New h = absurd (met v l h)
        of_state (Open t) h = absurd (none v t h)
        of_state (Done n) h = (n, h)

    step : (i j : ℕ) → In j (targets_at ts i) → (n : ℕ) × At w.states i (Done n) × (m : ℕ) × At w.states j (Done m) × (m ≤ n)
    step i j h =
        let d = done i (targets_at-inside ts i j h) in
        let f = x.done_step i d.0 j d.1 h in
        (d.0, d.1, f.0, f.1, f.2)
