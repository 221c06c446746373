-- What a walk keeps: opening a place, putting components together, completing one.
use Rattle.std.proofs.Common.{◌≡◌, ℕ, zero, suc, ◌+◌, ◌<◌, ◌≤◌, List, [], ◌∷◌, ◌++◌, length, get_or, set, take, drop, map, replicate, refl, sym, ◌∙◌, ap, subst, ◌⊎◌, inl, inr, arith, length-append}
use Rattle.std.specs.Prelude.{Vec}
use Rattle.std.specs.declared.alloc.Global.{Global}
use Rattle.std.proofs.lemmas.List.{length-map, length-set, length-replicate}
use Rattle.std.proofs.lemmas.Bool.{cases_lt}
use Rattle.rdx_lang.proofs.MemberLaws.{in-append, append-left, append-right, in-map, map-in}
use Rattle.rdx_lang.specs.Members.{In, here, there}
use Rattle.rdx_leftrec.specs.Inside.Components.{ReachesOrIs}
use Rattle.rdx_leftrec.specs.Inside.Leads.{lists_of}
use Rattle.rdx_leftrec.specs.Inside.Lists.{At, IsSorted, with_all, Nothing}
use Rattle.rdx_leftrec.specs.Inside.Reach.{targets_at, Path, once, more}
use Rattle.rdx_leftrec.specs.Inside.Walks.{Walk, untouched, step, IsNew, KeepsMet, IsWithin, IsFollowed, IsWalk}
use Rattle.rdx_leftrec.specs.declared.walk.State.{State}
use Rattle.rdx_leftrec.specs.declared.walk.State.TheVariants.{New, Open, Done}
use Rattle.rdx_leftrec.specs.declared.walk.Step.{Step}
use Rattle.rdx_leftrec.proofs.Lists.{at_read, at_inside, at-length, at_same, at-left, at-end, at-append, at-take, take-at, drop-in, at-drop, set-here, set-other, at-set, length-with_all, with_all-here, with_all-other, at-with_all}
use Rattle.rdx_leftrec.proofs.Sorted.{sorted-front, sorted-across, sorted-append}

-- ---- states

-- a place is not both new and open
pub new_open : {t : ℕ} → New ≡ Open t → ⊥
new_open e = absurd cc

-- nor new and done
pub new_done : {n : ℕ} → New ≡ Done n → ⊥
new_done e = absurd cc

-- nor open and done
pub open_done : {t n : ℕ} → Open t ≡ Done n → ⊥
open_done e = absurd cc

-- an open place has one position
open_same : {s t : ℕ} → Open s ≡ Open t → s ≡ t
open_same e = cc

-- a place that is done has one number
done_same : {m n : ℕ} → Done m ≡ Done n → m ≡ n
done_same e = cc

-- the state that is read is that of the place
pub state-at : (ss : List State) (p : ℕ) (s t : State) → p < length ss → s ≡ get_or ss p s → s ≡ t → At ss p t
state-at ss p s t l e f = subst (λ (r : State). At ss p r) f (at_read ss p s l e)

-- each place has one
pub has-state : (vs : List (Vec ℕ Global)) (X : ℕ → Type 0) (w : Walk) (p : ℕ) → IsWalk (lists_of vs) X w → p < length vs → p < length w.states
has-state vs X w p x l = let k = length-map vs (λ (v : Vec ℕ Global). v.items) in let z = x.size in omega arith

-- ---- paths

-- what is reached, and then perhaps more
pub path_then : (ts : List (List ℕ)) (i j k : ℕ) → Path ts i j → ReachesOrIs ts j k → Path ts i k
path_then ts i j k p (inl e) = subst (λ (m : ℕ). Path ts i m) e p
path_then ts i j k p (inr q) = joined p q
  where
    joined : {m : ℕ} → Path ts i j → Path ts j m → Path ts i m
    joined p (once h) = more p h
    joined p (more q h) = more (joined p q) h

-- perhaps something, and then a step
pub then_step : (ts : List (List ℕ)) (i j k : ℕ) → ReachesOrIs ts i j → In k (targets_at ts j) → Path ts i k
then_step ts i j k (inl e) h = once (subst (λ (m : ℕ). In k (targets_at ts m)) (sym e) h)
then_step ts i j k (inr p) h = more p h

-- ---- the beginning

-- none of many new places is anything else
at-replicate : (n i : ℕ) (s x : State) → At (replicate n s) i x → x ≡ s
at-replicate zero i s x h = absurd h
at-replicate (suc n) zero s x h = h
at-replicate (suc n) (suc i) s x h = at-replicate n i s x h

-- a walk that has met nothing
pub walk-untouched : (ts : List (List ℕ)) (n : ℕ) → n ≡ length ts → IsWalk ts Nothing (untouched n)
walk-untouched ts n e = record {
  size = length-replicate n New ∙ e;
  opened_at = λ v t h. absurd h;
  at_opened = λ v t h. absurd (new_open (sym (at-replicate n v New (Open t) h)));
  done_step = λ v m j h. absurd (new_done (sym (at-replicate n v New (Done m) h)));
  done_back = λ v m j h. absurd (new_done (sym (at-replicate n v New (Done m) h)));
  done_below = λ v m h. absurd (new_done (sym (at-replicate n v New (Done m) h)));
  together = λ u v s t h. absurd h;
  followed = λ v t j h. absurd h;
  kept = λ s h. elim h [ ];
  steps = tt;
  sorted = tt;
  inside = λ b h. elim h [ ];
  bottom = λ t h. absurd (omega arith);
}

module _ (ts : List (List ℕ)) where
  -- ---- a place is opened

  module _ (w : Walk) (p : ℕ) (x : IsWalk ts (λ j. j ≡ p) w) (new : IsNew w p) (from : (v t : ℕ) → At w.opened t v → Path ts v p) where
    -- its position
    abbrev t0 : ℕ
    t0 = length w.opened

    -- the walk behind
    abbrev pub entered : Walk
    entered = record {
      states = set w.states p (Open (length w.opened));
      opened = w.opened ++ p ∷ [];
      bounds = w.bounds ++ length w.opened ∷ [];
      pending = w.pending ++ map (step (length w.opened)) (targets_at ts p);
      complete = w.complete;
    }

    -- it was no open place
    not_opened : (t : ℕ) → At w.opened t p → ⊥
    not_opened t h = new_open (at_same w.states p New (Open t) new (x.opened_at p t h))

    -- a place in another state is another
    other_open : (v t : ℕ) → At w.states v (Open t) → ¬ (v ≡ p)
    other_open v t h e = new_open (at_same w.states p New (Open t) new (subst (λ (i : ℕ). At w.states i (Open t)) e h))

    other_done : (v n : ℕ) → At w.states v (Done n) → ¬ (v ≡ p)
    other_done v n h e = new_done (at_same w.states p New (Done n) new (subst (λ (i : ℕ). At w.states i (Done n)) e h))

    -- a place that is done was so
    was_done : (v n : ℕ) → At (set w.states p (Open (length w.opened))) v (Done n) → At w.states v (Done n)
    was_done v n h = elim (at-set w.states p v (Open t0) (Done n) h) [ inl k ↦ absurd (open_done (sym k.1)) | inr k ↦ k.1 ]

    -- and stays so
    stays_done : (v n : ℕ) → At w.states v (Done n) → At (set w.states p (Open (length w.opened))) v (Done n)
    stays_done v n h = set-other w.states p v (Open t0) (Done n) (other_done v n h) h

    -- it stands at its position
    here_opened : At (w.opened ++ p ∷ []) (length w.opened) p
    here_opened = at-end w.opened p

    opened-entered : (v t : ℕ) → At (w.opened ++ p ∷ []) t v → At (set w.states p (Open (length w.opened))) v (Open t)
    opened-entered v t h = elim (at-append w.opened p t v h) [
      | inl k ↦ let a : At w.states v (Open t) = x.opened_at v t k in set-other w.states p v (Open t0) (Open t) (other_open v t a) a
      | inr k ↦
          let a : At (set w.states p (Open t0)) p (Open t0) = set-here w.states p (Open t0) (at-length w.states p New new) in
          subst (λ (i : ℕ). At (set w.states p (Open t0)) i (Open t)) (sym k.1) (subst (λ (s : ℕ). At (set w.states p (Open t0)) p (Open s)) (sym k.0) a)
    ]

    entered-opened : (v t : ℕ) → At (set w.states p (Open (length w.opened))) v (Open t) → At (w.opened ++ p ∷ []) t v
    entered-opened v t h = elim (at-set w.states p v (Open t0) (Open t) h) [
      | inl k ↦
          subst (λ (i : ℕ). At (w.opened ++ p ∷ []) t i) (sym k.0) (subst (λ (s : ℕ). At (w.opened ++ p ∷ []) s p) (sym (open_same k.1)) here_opened)
      | inr k ↦ at-left w.opened (p ∷ []) t v (x.at_opened v t k.1)
    ]

    -- the new bound is above all positions of places that were open
    old_within : (s t : ℕ) → s < length w.opened → IsWithin w.bounds s t → IsWithin (w.bounds ++ length w.opened ∷ []) s t
    old_within s t l h b i m = elim (in-append w.bounds (t0 ∷ []) b i) [ inl k ↦ h b k m | inr k ↦ absurd (last_bound b k m) ]
      where
        last_bound : (b : ℕ) → In b (t0 ∷ []) → b ≤ s → ⊥
        last_bound b (here e) m = omega arith
        last_bound b (there k) m = elim k [ ]

    -- all bounds are at most the new one
    all_within : (s : ℕ) → IsWithin (w.bounds ++ length w.opened ∷ []) s (length w.opened)
    all_within s b i m = elim (in-append w.bounds (t0 ∷ []) b i) [ inl k ↦ (let l = x.inside b k in omega arith) | inr k ↦ last_bound b k ]
      where
        last_bound : (b : ℕ) → In b (t0 ∷ []) → b ≤ t0
        last_bound b (here e) = omega arith
        last_bound b (there k) = elim k [ ]

    -- and the new one is within itself alone
    new_within : (t : ℕ) → t < length w.opened → IsWithin (w.bounds ++ length w.opened ∷ []) (length w.opened) t → ⊥
    new_within t l h = let k : t0 ≤ t = h t0 (append-right w.bounds (t0 ∷ []) t0 (here refl)) (omega arith) in omega arith

    entered-together : (u v s t : ℕ) → At (w.opened ++ p ∷ []) s u → At (w.opened ++ p ∷ []) t v → IsWithin (w.bounds ++ length w.opened ∷ []) s t → ReachesOrIs ts u v
    entered-together u v s t h k i = elim (at-append w.opened p s u h) [
      | inl a ↦ elim (at-append w.opened p t v k) [
        | inl b ↦ x.together u v s t a b (λ c j m. i c (append-left w.bounds (t0 ∷ []) c j) m)
        | inr b ↦ inr (subst (λ (y : ℕ). Path ts u y) (sym b.1) (from u s a))
      ]
      | inr a ↦ elim (at-append w.opened p t v k) [
        | inl b ↦ absurd (new_within t (at-length w.opened t v b) (subst (λ (y : ℕ). IsWithin (w.bounds ++ t0 ∷ []) y t) a.0 i))
        | inr b ↦ inl (a.1 ∙ sym b.1)
      ]
    ]

    -- a step that was taken or is pending
    stays_followed : (t j : ℕ) → t < length w.opened → IsFollowed w t j → IsFollowed entered t j
    stays_followed t j l (inl i) = inl (append-left w.pending (map (step t0) (targets_at ts p)) (step t j) i)
    stays_followed t j l (inr (inl d)) = inr (inl (d.0, stays_done j d.0 d.1))
    stays_followed t j l (inr (inr o)) = inr (inr (o.0, at-left w.opened (p ∷ []) o.0 j o.1, old_within t o.0 l o.2))

    -- a step to the place itself
    now_followed : (t j : ℕ) → j ≡ p → IsFollowed entered t j
    now_followed t j e = inr (inr (t0, subst (λ (y : ℕ). At (w.opened ++ p ∷ []) t0 y) (sym e) here_opened, all_within t))

    entered-followed : (v t j : ℕ) → At (w.opened ++ p ∷ []) t v → In j (targets_at ts v) → IsFollowed entered t j ⊎ Nothing j
    entered-followed v t j h i = elim (at-append w.opened p t v h) [
      | inl a ↦ inl (elim (x.followed v t j a i) [ inl f ↦ stays_followed t j (at-length w.opened t v a) f | inr e ↦ now_followed t j e ])
      | inr a ↦
          let k : In j (targets_at ts p) = subst (λ (y : ℕ). In j (targets_at ts y)) a.1 i in
          let m : In (step t0 j) (w.pending ++ map (step t0) (targets_at ts p)) = append-right w.pending (map (step t0) (targets_at ts p)) (step t0 j) (map-in (step t0) (targets_at ts p) j k) in
          inl (inl (subst (λ (y : ℕ). In (step y j) (w.pending ++ map (step t0) (targets_at ts p))) (sym a.0) m))
    ]

    entered-kept : (s : Step) → In s (w.pending ++ map (step (length w.opened)) (targets_at ts p)) → (v : ℕ) × At (w.opened ++ p ∷ []) s.from v × In s.to (targets_at ts v)
    entered-kept s h = elim (in-append w.pending (map (step t0) (targets_at ts p)) s h) [
      | inl k ↦ let o = x.kept s k in (o.0, at-left w.opened (p ∷ []) s.from o.0 o.1, o.2)
      | inr k ↦
          let m : (j : ℕ) × In j (targets_at ts p) × (s ≡ step t0 j) = in-map (step t0) (targets_at ts p) s k in
          subst (λ (r : Step). (v : ℕ) × At (w.opened ++ p ∷ []) r.from v × In r.to (targets_at ts v)) (sym m.2) (p, here_opened, m.1)
    ]

    -- steps from one place are sorted
    sorted-steps : (t : ℕ) (js : List ℕ) → IsSorted (λ (a b : Step). a.from ≤ b.from) (map (step t) js)
    sorted-steps t [] = tt
    sorted-steps t (j ∷ js) = ((λ s h. let m : (i : ℕ) × In i js × (s ≡ step t i) = in-map (step t) js s h in let e : s.from ≡ t = ap (λ (r : Step). r.from) m.2 in omega arith), sorted-steps t js)

    entered-steps : IsSorted (λ (a b : Step). a.from ≤ b.from) (w.pending ++ map (step (length w.opened)) (targets_at ts p))
    entered-steps = sorted-append (λ (a b : Step). a.from ≤ b.from) w.pending (map (step t0) (targets_at ts p)) x.steps (sorted-steps t0 (targets_at ts p))
        (λ a b h k.
        let o = x.kept a h in
        let l = at-length w.opened a.from o.0 o.1 in
        let m : (i : ℕ) × In i (targets_at ts p) × (b ≡ step t0 i) = in-map (step t0) (targets_at ts p) b k in
        let e : b.from ≡ t0 = ap (λ (r : Step). r.from) m.2 in
        omega arith)

    entered-sorted : IsSorted (λ (a b : ℕ). a < b) (w.bounds ++ length w.opened ∷ [])
    entered-sorted = sorted-append (λ (a b : ℕ). a < b) w.bounds (t0 ∷ []) x.sorted ((λ y h. elim h [ ]), tt) above
      where
        above : (a b : ℕ) → In a w.bounds → In b (t0 ∷ []) → a < b
        above a b h (here e) = let l = x.inside a h in omega arith
        above a b h (there k) = elim k [ ]

    entered-inside : (b : ℕ) → In b (w.bounds ++ length w.opened ∷ []) → b < length (w.opened ++ p ∷ [])
    entered-inside b h = let l = all_within b b h (omega arith) in omega (arith, length-append w.opened (p ∷ []))

    entered-bottom : (t : ℕ) → t < length (w.opened ++ p ∷ []) → (b : ℕ) × In b (w.bounds ++ length w.opened ∷ []) × (b ≤ t)
    entered-bottom t l = elim (cases_lt t t0) [
      | inl m ↦ let b : (b : ℕ) × In b w.bounds × (b ≤ t) = x.bottom t m in (b.0, append-left w.bounds (t0 ∷ []) b.0 b.1, b.2)
      | inr m ↦ (t0, append-right w.bounds (t0 ∷ []) t0 (here refl), m)
    ]

    pub walk-entered : IsWalk ts Nothing entered
    walk-entered = record {
      size = length-set w.states p (Open t0) ∙ x.size;
      opened_at = opened-entered;
      at_opened = entered-opened;
      done_step = λ v n j h i. let d = x.done_step v n j (was_done v n h) i in (d.0, stays_done j d.0 d.1, d.2);
      done_back = λ v n j h i k. x.done_back v n j (was_done v n h) i (was_done j n k);
      done_below = λ v n h. x.done_below v n (was_done v n h);
      together = entered-together;
      followed = entered-followed;
      kept = entered-kept;
      steps = entered-steps;
      sorted = entered-sorted;
      inside = entered-inside;
      bottom = entered-bottom;
    }

    -- what was met stays met
    pub met-entered : KeepsMet w entered
    met-entered v h = elim (at-set w.states p v (Open t0) New h) [ inl k ↦ absurd (new_open k.1) | inr k ↦ k.1 ]

    -- and so is the place
    pub met-here : IsNew entered p → ⊥
    met-here h = elim (at-set w.states p p (Open t0) New h) [ inl k ↦ new_open k.1 | inr k ↦ k.0 refl ]

  -- ---- components are put together

  module _ (w : Walk) (p : ℕ) (x : IsWalk ts (λ j. j ≡ p) w) (t0 : ℕ) (opened : At w.states p (Open t0)) (from : (v t : ℕ) → At w.opened t v → Path ts v p)
      (bs : List ℕ) (sorted : IsSorted (λ (a b : ℕ). a < b) bs) (members : (b : ℕ) → (In b bs → In b w.bounds × (b ≤ t0)) × (In b w.bounds × (b ≤ t0) → In b bs)) where
    -- the walk behind
    abbrev pub merged : Walk
    merged = record { states = w.states; opened = w.opened; bounds = bs; pending = w.pending; complete = w.complete }

    -- fewer bounds
    fewer : (s t : ℕ) → IsWithin w.bounds s t → IsWithin bs s t
    fewer s t h b i m = h b ((members b).0 i).0 m

    merged-followed : (v t j : ℕ) → At w.opened t v → In j (targets_at ts v) → IsFollowed merged t j ⊎ Nothing j
    merged-followed v t j h i = inl (elim (x.followed v t j h i) [ inl f ↦ of_old f | inr e ↦ of_place e ])
      where
        of_old : IsFollowed w t j → IsFollowed merged t j
        of_old (inl k) = inl k
        of_old (inr (inl d)) = inr (inl d)
        of_old (inr (inr o)) = inr (inr (o.0, o.1, fewer t o.0 o.2))

        of_place : j ≡ p → IsFollowed merged t j
        of_place e = inr (inr (t0, subst (λ (y : ℕ). At w.opened t0 y) (sym e) (x.at_opened p t0 opened), λ b k m. ((members b).0 k).1))

    -- where the bounds that are left allow it, the place leads on
    merged-together : (u v s t : ℕ) → At w.opened s u → At w.opened t v → IsWithin bs s t → ReachesOrIs ts u v
    merged-together u v s t h k i = elim (cases_lt t0 s) [
      | inl l ↦ inr (path_then ts u p v (from u s h) (x.together p v t0 t (x.at_opened p t0 opened) k (λ b j m. i b ((members b).1 (j, m)) (omega arith))))
      | inr l ↦ x.together u v s t h k (λ b j m. i b ((members b).1 (j, omega arith)) m)
    ]

    merged-bottom : (t : ℕ) → t < length w.opened → (b : ℕ) × In b bs × (b ≤ t)
    merged-bottom t l =
        let a : (b : ℕ) × In b w.bounds × (b ≤ t) = x.bottom t l in
        elim (cases_lt t0 a.0) [
          | inl m ↦
              let c : (b : ℕ) × In b w.bounds × (b ≤ t0) = x.bottom t0 (at-length w.opened t0 p (x.at_opened p t0 opened)) in
              let d : a.0 ≤ t = a.2 in
              let e : c.0 ≤ t0 = c.2 in
              (c.0, (members c.0).1 (c.1, c.2), omega arith)
          | inr m ↦ (a.0, (members a.0).1 (a.1, m), a.2)
        ]

    pub walk-merged : IsWalk ts Nothing merged
    walk-merged = record {
      size = x.size;
      opened_at = x.opened_at;
      at_opened = x.at_opened;
      done_step = x.done_step;
      done_back = x.done_back;
      done_below = x.done_below;
      together = merged-together;
      followed = merged-followed;
      kept = x.kept;
      steps = x.steps;
      sorted = sorted;
      inside = λ b i. x.inside b ((members b).0 i).0;
      bottom = merged-bottom;
    }

  -- ---- a step to a place that is done

  pub walk-done : (w : Walk) (p n : ℕ) → IsWalk ts (λ j. j ≡ p) w → At w.states p (Done n) → IsWalk ts Nothing w
  walk-done w p n x d = record {
    size = x.size;
    opened_at = x.opened_at;
    at_opened = x.at_opened;
    done_step = x.done_step;
    done_back = x.done_back;
    done_below = x.done_below;
    together = x.together;
    followed = λ v t j h i. inl (elim (x.followed v t j h i) [ inl f ↦ f | inr e ↦ inr (inl (n, subst (λ (y : ℕ). At w.states y (Done n)) (sym e) d)) ]);
    kept = x.kept;
    steps = x.steps;
    sorted = x.sorted;
    inside = x.inside;
    bottom = x.bottom;
  }

  -- ---- no step is left out

  pub walk-more : (w : Walk) (X : ℕ → Type 0) → IsWalk ts Nothing w → IsWalk ts X w
  walk-more w X x = record {
    size = x.size;
    opened_at = x.opened_at;
    at_opened = x.at_opened;
    done_step = x.done_step;
    done_back = x.done_back;
    done_below = x.done_below;
    together = x.together;
    followed = λ v t j h i. elim (x.followed v t j h i) [ inl f ↦ inl f | inr e ↦ absurd e ];
    kept = x.kept;
    steps = x.steps;
    sorted = x.sorted;
    inside = x.inside;
    bottom = x.bottom;
  }

  -- ---- the last step is taken from those that are pending

  module _ (w : Walk) (rest : List Step) (s : Step) (x : IsWalk ts Nothing w) (e : w.pending ≡ rest ++ s ∷ []) where
    -- the walk behind
    abbrev pub popped : Walk
    popped = record { states = w.states; opened = w.opened; bounds = w.bounds; pending = rest; complete = w.complete }

    popped-followed : (v t j : ℕ) → At w.opened t v → In j (targets_at ts v) → IsFollowed popped t j ⊎ (j ≡ s.to)
    popped-followed v t j h i = elim (x.followed v t j h i) [ inl f ↦ of_old f | inr n ↦ absurd n ]
      where
        of_last : In (step t j) (s ∷ []) → j ≡ s.to
        of_last (here d) = ap (λ (r : Step). r.to) d
        of_last (there k) = elim k [ ]

        of_old : IsFollowed w t j → IsFollowed popped t j ⊎ (j ≡ s.to)
        of_old (inl k) = elim (in-append rest (s ∷ []) (step t j) (subst (λ (ss : List Step). In (step t j) ss) e k)) [ inl l ↦ inl (inl l) | inr l ↦ inr (of_last l) ]
        of_old (inr o) = inl (inr o)

    -- what is pending still was so
    was_pending : (r : Step) → In r rest → In r w.pending
    was_pending r k = subst (λ (ss : List Step). In r ss) (sym e) (append-left rest (s ∷ []) r k)

    pub walk-popped : IsWalk ts (λ j. j ≡ s.to) popped
    walk-popped = record {
      size = x.size;
      opened_at = x.opened_at;
      at_opened = x.at_opened;
      done_step = x.done_step;
      done_back = x.done_back;
      done_below = x.done_below;
      together = x.together;
      followed = popped-followed;
      kept = λ r k. x.kept r (was_pending r k);
      steps = sorted-front (λ (a b : Step). a.from ≤ b.from) rest (s ∷ []) (subst (λ (ss : List Step). IsSorted (λ (a b : Step). a.from ≤ b.from) ss) e x.steps);
      sorted = x.sorted;
      inside = x.inside;
      bottom = x.bottom;
    }

    -- the step itself was
    pub last_pending : In s w.pending
    last_pending = subst (λ (ss : List Step). In s ss) (sym e) (append-right rest (s ∷ []) s (here refl))

    -- where it leads from the last component, all open places reach its target
    pub all-reach : ((b : ℕ) → In b w.bounds → b ≤ s.from) → (v t : ℕ) → At w.opened t v → Path ts v s.to
    all-reach l v t h =
        let o : (u : ℕ) × At w.opened s.from u × In s.to (targets_at ts u) = x.kept s last_pending in
        then_step ts v o.0 s.to (x.together v o.0 t s.from h o.1 (λ b i m. l b i)) o.2

  -- ---- the last component is completed

  module _ (w : Walk) (x : IsWalk ts Nothing w) (b0 : ℕ) (rest : List ℕ) (e : w.bounds ≡ rest ++ b0 ∷ []) (none : (s : Step) → In s w.pending → s.from < b0) where
    -- the walk behind
    abbrev pub closed : Walk
    closed = record {
      states = with_all w.states (drop b0 w.opened) (Done w.complete);
      opened = take b0 w.opened;
      bounds = rest;
      pending = w.pending;
      complete = w.complete + 1;
    }

    -- a bound that is left was one
    was_bound : (b : ℕ) → In b rest → In b w.bounds
    was_bound b h = subst (λ (bs : List ℕ). In b bs) (sym e) (append-left rest (b0 ∷ []) b h)

    -- and is below the last
    below_last : (b : ℕ) → In b rest → b < b0
    below_last b h = sorted-across (λ (a c : ℕ). a < c) rest (b0 ∷ []) b b0 (subst (λ (bs : List ℕ). IsSorted (λ (a c : ℕ). a < c) bs) e x.sorted) h (here refl)

    -- a bound is left, or is the last
    left_or_last : (b : ℕ) → In b w.bounds → In b rest ⊎ (b ≡ b0)
    left_or_last b h = elim (in-append rest (b0 ∷ []) b (subst (λ (bs : List ℕ). In b bs) e h)) [ inl k ↦ inl k | inr k ↦ inr (alone k) ]
      where
        alone : In b (b0 ∷ []) → b ≡ b0
        alone (here d) = d
        alone (there k) = elim k [ ]

    -- all bounds are at most the last
    most_last : (b : ℕ) → In b w.bounds → b ≤ b0
    most_last b h = elim (left_or_last b h) [ inl k ↦ (let l = below_last b k in omega arith) | inr d ↦ omega arith ]

    -- the last bound is one
    last_is : In b0 w.bounds
    last_is = subst (λ (bs : List ℕ). In b0 bs) (sym e) (append-right rest (b0 ∷ []) b0 (here refl))

    -- a place of the component stands at a position behind the bound
    member_opened : (v : ℕ) → In v (drop b0 w.opened) → (t : ℕ) × (b0 ≤ t) × At w.opened t v
    member_opened v h = drop-in w.opened b0 v h

    -- a place that was done is none of the component
    done_apart : (v n : ℕ) → At w.states v (Done n) → ¬ In v (drop b0 w.opened)
    done_apart v n h k = let m = member_opened v k in open_done (at_same w.states v (Open m.0) (Done n) (x.opened_at v m.0 m.2) h)

    -- nor is a new one
    new_apart : (v : ℕ) → At w.states v New → ¬ In v (drop b0 w.opened)
    new_apart v h k = let m = member_opened v k in new_open (at_same w.states v New (Open m.0) h (x.opened_at v m.0 m.2))

    -- nor one at a position before the bound
    before_apart : (v t : ℕ) → At w.opened t v → t < b0 → ¬ In v (drop b0 w.opened)
    before_apart v t h l k =
        let m = member_opened v k in
        let d : Open t ≡ Open m.0 = at_same w.states v (Open t) (Open m.0) (x.opened_at v t h) (x.opened_at v m.0 m.2) in
        let f : t ≡ m.0 = open_same d in
        let g : b0 ≤ m.0 = m.1 in
        omega arith

    -- its places are done
    now_done : (v : ℕ) → In v (drop b0 w.opened) → At (with_all w.states (drop b0 w.opened) (Done w.complete)) v (Done w.complete)
    now_done v h =
        let m = member_opened v h in
        with_all-here w.states (drop b0 w.opened) v (Done w.complete) h (at-length w.states v (Open m.0) (x.opened_at v m.0 m.2))

    -- others stay so
    still_done : (v n : ℕ) → At w.states v (Done n) → At (with_all w.states (drop b0 w.opened) (Done w.complete)) v (Done n)
    still_done v n h = with_all-other w.states (drop b0 w.opened) v (Done w.complete) (Done n) (done_apart v n h) h

    -- a place that is done is of the component, or was done
    done_how : (v n : ℕ) → At (with_all w.states (drop b0 w.opened) (Done w.complete)) v (Done n) → (In v (drop b0 w.opened) × (n ≡ w.complete)) ⊎ At w.states v (Done n)
    done_how v n h = elim (at-with_all w.states (drop b0 w.opened) v (Done w.complete) (Done n) h) [ inl k ↦ inl (k.0, done_same k.1) | inr k ↦ inr k.1 ]

    closed-opened_at : (v t : ℕ) → At (take b0 w.opened) t v → At (with_all w.states (drop b0 w.opened) (Done w.complete)) v (Open t)
    closed-opened_at v t h =
        let k : (t < b0) × At w.opened t v = at-take w.opened b0 t v h in
        with_all-other w.states (drop b0 w.opened) v (Done w.complete) (Open t) (before_apart v t k.1 k.0) (x.opened_at v t k.1)

    closed-at_opened : (v t : ℕ) → At (with_all w.states (drop b0 w.opened) (Done w.complete)) v (Open t) → At (take b0 w.opened) t v
    closed-at_opened v t h = elim (at-with_all w.states (drop b0 w.opened) v (Done w.complete) (Open t) h) [
      | inl k ↦ absurd (open_done k.1)
      | inr k ↦
          let a : At w.opened t v = x.at_opened v t k.1 in
          elim (cases_lt t b0) [ inl l ↦ take-at w.opened b0 t v a l | inr l ↦ absurd (k.0 (at-drop w.opened b0 t v a l)) ]
    ]

    -- a step from the component leads to a place that was done, or to one of it
    from_member : (v t j : ℕ) → b0 ≤ t → At w.opened t v → In j (targets_at ts v) → ((m : ℕ) × At w.states j (Done m)) ⊎ ((s : ℕ) × At w.opened s j × (b0 ≤ s))
    from_member v t j l h i = elim (x.followed v t j h i) [ inl f ↦ of_followed f | inr n ↦ absurd n ]
      where
        of_followed : IsFollowed w t j → ((m : ℕ) × At w.states j (Done m)) ⊎ ((s : ℕ) × At w.opened s j × (b0 ≤ s))
        of_followed (inl k) = absurd (let m : t < b0 = none (step t j) k in omega arith)
        of_followed (inr (inl d)) = inl d
        of_followed (inr (inr o)) = inr (o.0, o.1, o.2 b0 last_is l)

    closed-done_step : (v n j : ℕ) → At (with_all w.states (drop b0 w.opened) (Done w.complete)) v (Done n) → In j (targets_at ts v)
        → (m : ℕ) × At (with_all w.states (drop b0 w.opened) (Done w.complete)) j (Done m) × (m ≤ n)
    closed-done_step v n j h i = elim (done_how v n h) [ inl k ↦ of_member k.0 k.1 | inr k ↦ of_done k ]
      where
        of_done : At w.states v (Done n) → (m : ℕ) × At (with_all w.states (drop b0 w.opened) (Done w.complete)) j (Done m) × (m ≤ n)
        of_done k = let d = x.done_step v n j k i in (d.0, still_done j d.0 d.1, d.2)

        of_member : In v (drop b0 w.opened) → n ≡ w.complete → (m : ℕ) × At (with_all w.states (drop b0 w.opened) (Done w.complete)) j (Done m) × (m ≤ n)
        of_member k f =
            let a = member_opened v k in
            elim (from_member v a.0 j a.1 a.2 i) [
              | inl d ↦ (d.0, still_done j d.0 d.1, let l = x.done_below j d.0 d.1 in omega arith)
              | inr o ↦ (w.complete, now_done j (at-drop w.opened b0 o.0 j o.1 o.2), omega arith)
            ]

    closed-done_back : (v n j : ℕ) → At (with_all w.states (drop b0 w.opened) (Done w.complete)) v (Done n) → In j (targets_at ts v)
        → At (with_all w.states (drop b0 w.opened) (Done w.complete)) j (Done n) → ReachesOrIs ts j v
    closed-done_back v n j h i k = elim (done_how v n h) [
      | inl a ↦ elim (done_how j n k) [
        | inl b ↦ both a.0 b.0
        | inr b ↦ absurd (let l : n < w.complete = x.done_below j n b in let f : n ≡ w.complete = a.1 in omega arith)
      ]
      | inr a ↦ elim (done_how j n k) [
        | inl b ↦ absurd (let l : n < w.complete = x.done_below v n a in let f : n ≡ w.complete = b.1 in omega arith)
        | inr b ↦ x.done_back v n j a i b
      ]
    ]
      where
        both : In v (drop b0 w.opened) → In j (drop b0 w.opened) → ReachesOrIs ts j v
        both a b =
            let c = member_opened v a in
            let d = member_opened j b in
            let l : b0 ≤ c.0 = c.1 in
            x.together j v d.0 c.0 d.2 c.2 (λ q r m. let z = most_last q r in omega arith)

    closed-done_below : (v n : ℕ) → At (with_all w.states (drop b0 w.opened) (Done w.complete)) v (Done n) → n < w.complete + 1
    closed-done_below v n h = elim (done_how v n h) [ inl k ↦ (let f : n ≡ w.complete = k.1 in omega arith) | inr k ↦ (let l = x.done_below v n k in omega arith) ]

    -- before the last bound, it makes no difference
    without_last : (s t : ℕ) → s < b0 → IsWithin rest s t → IsWithin w.bounds s t
    without_last s t l h b i m = elim (left_or_last b i) [ inl k ↦ h b k m | inr d ↦ absurd (omega arith) ]

    closed-together : (u v s t : ℕ) → At (take b0 w.opened) s u → At (take b0 w.opened) t v → IsWithin rest s t → ReachesOrIs ts u v
    closed-together u v s t h k i =
        let a : (s < b0) × At w.opened s u = at-take w.opened b0 s u h in
        let b : (t < b0) × At w.opened t v = at-take w.opened b0 t v k in
        x.together u v s t a.1 b.1 (without_last s t a.0 i)

    closed-followed : (v t j : ℕ) → At (take b0 w.opened) t v → In j (targets_at ts v) → IsFollowed closed t j ⊎ Nothing j
    closed-followed v t j h i =
        let a : (t < b0) × At w.opened t v = at-take w.opened b0 t v h in
        inl (elim (x.followed v t j a.1 i) [ inl f ↦ of_followed f | inr n ↦ absurd n ])
      where
        of_open : (s : ℕ) → At w.opened s j → IsWithin w.bounds t s → IsFollowed closed t j
        of_open s o r = elim (cases_lt s b0) [
          | inl l ↦ inr (inr (s, take-at w.opened b0 s j o l, λ b k m. r b (was_bound b k) m))
          | inr l ↦ inr (inl (w.complete, now_done j (at-drop w.opened b0 s j o l)))
        ]

        of_followed : IsFollowed w t j → IsFollowed closed t j
        of_followed (inl k) = inl k
        of_followed (inr (inl d)) = inr (inl (d.0, still_done j d.0 d.1))
        of_followed (inr (inr o)) = of_open o.0 o.1 o.2

    closed-bottom : (t : ℕ) → t < length (take b0 w.opened) → (b : ℕ) × In b rest × (b ≤ t)
    closed-bottom t l =
        let a : (y : ℕ) × At (take b0 w.opened) t y = at_inside (take b0 w.opened) t l in
        let c : (t < b0) × At w.opened t a.0 = at-take w.opened b0 t a.0 a.1 in
        let m : t < b0 = c.0 in
        let d : (b : ℕ) × In b w.bounds × (b ≤ t) = x.bottom t (at-length w.opened t a.0 c.1) in
        let n : d.0 ≤ t = d.2 in
        elim (left_or_last d.0 d.1) [ inl k ↦ (d.0, k, d.2) | inr f ↦ absurd (omega arith) ]

    closed-inside : (b : ℕ) → In b rest → b < length (take b0 w.opened)
    closed-inside b h =
        let l = below_last b h in
        let a : (y : ℕ) × At w.opened b y = at_inside w.opened b (x.inside b (was_bound b h)) in
        at-length (take b0 w.opened) b a.0 (take-at w.opened b0 b a.0 a.1 l)

    pub walk-closed : IsWalk ts Nothing closed
    walk-closed = record {
      size = length-with_all w.states (drop b0 w.opened) (Done w.complete) ∙ x.size;
      opened_at = closed-opened_at;
      at_opened = closed-at_opened;
      done_step = closed-done_step;
      done_back = closed-done_back;
      done_below = closed-done_below;
      together = closed-together;
      followed = closed-followed;
      kept = λ s h. let o = x.kept s h in (o.0, take-at w.opened b0 s.from o.0 o.1 (none s h), o.2);
      steps = x.steps;
      sorted = sorted-front (λ (a c : ℕ). a < c) rest (b0 ∷ []) (subst (λ (bs : List ℕ). IsSorted (λ (a c : ℕ). a < c) bs) e x.sorted);
      inside = closed-inside;
      bottom = closed-bottom;
    }

    -- what was met stays met
    pub met-closed : KeepsMet w closed
    met-closed v h = elim (at-with_all w.states (drop b0 w.opened) v (Done w.complete) New h) [ inl k ↦ absurd (new_done k.1) | inr k ↦ k.1 ]
