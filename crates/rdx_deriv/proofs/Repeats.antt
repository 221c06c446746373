-- What a repetition binds in its turns, and what an item takes.
use Rattle.std.proofs.Common.{◌≡◌, ℕ, zero, suc, ◌+◌, ◌<◌, ◌≤◌, true, false, List, [], ◌∷◌, Option, Some, None, length, drop, get_or, refl, sym, ◌∙◌, ap, subst}
use Rattle.std.specs.Prelude.{◌↔◌, IsTrue, IfSome, IfNone}
use Rattle.rdx_term.specs.Tree.{Tree}
use Rattle.rdx_lang.specs.Bindings.{Binding, one_name, len, bound_names, name_cmp}
use Rattle.rdx_lang.specs.Collections.{IsCollection, IsRepetition, with_length}
use Rattle.rdx_lang.specs.Join.{IsJoin}
use Rattle.rdx_lang.specs.Ascending.{IsAscending}
use Rattle.rdx_lang.specs.Members.{In, here, there}
use Rattle.rdx_lang.specs.Names.{names}
use Rattle.rdx_lang.specs.Patterns.{Pattern}
use Rattle.rdx_lang.specs.PatternView.{Slot, just, repeated}
use Rattle.rdx_lang.specs.Shown.{binding_of, bindings_of}
use Rattle.rdx_lang.specs.declared.binding.Binding as code
use Rattle.rdx_lang.proofs.CollectionLaws.{BindNames, one_collection, one_repetition}
use Rattle.rdx_lang.proofs.NameLaws.{names-ascend}
use Rattle.rdx_lang.proofs.Rest.{rest_at, rest_none}
use Rattle.rdx_bind.proofs.AcrossRows.{bindings_are_maps}
use Rattle.rdx_deriv.specs.Derivations.{Goal}
use Rattle.rdx_deriv.specs.Uses.{Focus, nowhere, at, item_goal}
use Rattle.rdx_deriv.specs.Inside.Layouts.{State, Takes, TakesTurns, no_turn, turn, TakesItem, takes_one, takes_many, IsTheOne, BindsItsNames, BindTheirNames}
use Rattle.rdx_deriv.proofs.Turning.{one_step, one_run, bind_first, bind_not, bind_none}

-- ---- the loop over turns, of their names

abbrev pub BindRest : List (List ℕ) → List code.Binding → ℕ → Type 0
BindRest xs turns i = BindNames xs (bindings_of (drop i turns)) ↔ BindNames xs (bindings_of turns)

module _ (xs : List (List ℕ)) (turns : List code.Binding) (i : ℕ) where
  pub bind_loop_not : (c : code.Binding) → i < length turns → c ≡ get_or turns i c → (bound_names (binding_of c) ≡ xs → IsTrue false) → BindRest xs turns i
      → (IsTrue false ↔ BindNames xs (bindings_of turns))
  bind_loop_not c h e n inv = (
    λ k. absurd cc,
    λ k. absurd (bind_not xs (binding_of c) (bindings_of (drop (i + 1) turns)) (λ f. let z = n f in cc)
        (subst (λ cs. BindNames xs cs) (rest_at binding_of turns i c h e) (inv.1 k))),
  )

  pub bind_loop_more : (c : code.Binding) → i < length turns → c ≡ get_or turns i c → bound_names (binding_of c) ≡ xs → BindRest xs turns i → BindRest xs turns (i + 1)
  bind_loop_more c h e n inv =
      let f = bind_first xs (binding_of c) (bindings_of (drop (i + 1) turns)) n in
      let s = rest_at binding_of turns i c h e in
      (λ k. inv.0 (subst (λ cs. BindNames xs cs) (sym s) (f.0 k)), λ k. f.1 (subst (λ cs. BindNames xs cs) s (inv.1 k)))

  pub bind_loop_end : length turns ≤ i → BindRest xs turns i → (IsTrue true ↔ BindNames xs (bindings_of turns))
  bind_loop_end h inv = (λ k. inv.0 (subst (λ cs. BindNames xs cs) (sym (rest_none binding_of turns i h)) (bind_none xs)), λ k. refl)

-- ---- what repetitions bind

pub length_bindings : (bs : List code.Binding) → length (bindings_of bs) ≡ length bs
length_bindings [] = refl
length_bindings (b ∷ bs) = ap suc (length_bindings bs)

module _ (xs : List (List ℕ)) (bs : List code.Binding) (n : Option (List ℕ)) (x : List ℕ) (collected : Binding)
    (e : n ≡ Some x) (h : IsCollection xs (bindings_of bs) collected) where
  same_number : one_name x (len (length bs)) ≡ one_name x (len (length (bindings_of bs)))
  same_number = ap (λ m. one_name x (len m)) (sym (length_bindings bs))

  pub counted_some : (r : Option code.Binding) → IfSome r (λ c. IsJoin collected (one_name x (len (length bs))) (binding_of c))
      → IfSome r (λ c. IsRepetition xs (bindings_of bs) n (binding_of c))
  counted_some None j = j
  counted_some (Some c) j =
      subst (λ m. IsRepetition xs (bindings_of bs) m (binding_of c)) (sym e)
      (with_length h (subst (λ d. IsJoin collected d (binding_of c)) same_number j))

  no_join : IsAscending name_cmp xs → ((c : Binding) → IsJoin collected (one_name x (len (length bs))) c → ⊥) → (c : Binding) → IsRepetition xs (bindings_of bs) (Some x) c → ⊥
  no_join a none c (with_length {c = d} g j) =
      let s : d ≡ collected = one_collection xs (bindings_of bs) d collected a (bindings_are_maps bs) g h in
      none c (subst (λ k. IsJoin k (one_name x (len (length bs))) c) s (subst (λ k. IsJoin d k c) (sym same_number) j))

  pub counted_none : IsAscending name_cmp xs → (r : Option code.Binding) → IfNone r ((c : Binding) → IsJoin collected (one_name x (len (length bs))) c → ⊥)
      → IfNone r (BindNames xs (bindings_of bs) → (c : Binding) → IsRepetition xs (bindings_of bs) n c → ⊥)
  counted_none a None none = λ b c r. no_join a none c (subst (λ m. IsRepetition xs (bindings_of bs) m c) e r)
  counted_none a (Some d) none = none

-- ---- what turns bind

-- an item's goal binds c, by p
item_binds : (f : Focus) (l : List ℕ) (p : Pattern) (t : Tree) (c : Binding) → BindsItsNames (item_goal f l p t c) → bound_names c ≡ names p
item_binds nowhere l p t c h = h
item_binds (at zero D s) l p t c h = h
item_binds (at (suc k) D s) l p t c h = h

-- where the goals bind their names, so does a step
step_binds : (l : List ℕ) (p : Pattern) (x y : State) (c : Binding) → Takes l p x c y → BindTheirNames x.goals → bound_names c ≡ names p
step_binds l p x y c h b =
    let g : BindsItsNames h.goal = b h.goal (subst (λ gs. In h.goal gs) (sym h.goals) (here refl)) in
    item_binds x.focus l p h.term c (subst (λ (k : Goal). BindsItsNames k) h.of_item g)

-- and those that are left do
pub step_leaves : (l : List ℕ) (p : Pattern) (x y : State) (c : Binding) → Takes l p x c y → BindTheirNames x.goals → BindTheirNames y.goals
step_leaves l p x y c h b g i = b g (subst (λ gs. In g gs) (sym h.goals) (there i))

pub turns_bind : (l : List ℕ) (p : Pattern) (k : ℕ) (x y : State) (cs : List Binding) → TakesTurns l p k x cs y → BindTheirNames x.goals
    → BindNames (names p) cs
turns_bind l p zero x y cs no_turn b c i = elim i [ ]
turns_bind l p (suc k) x y cs (turn {y = z} {c = d} {cs = ds} h r) b c (here e) = ap bound_names e ∙ step_binds l p x z d h b
turns_bind l p (suc k) x y cs (turn {y = z} {c = d} {cs = ds} h r) b c (there i) = turns_bind l p k z y ds r (step_leaves l p x z d h b) c i

pub turns_leave : (l : List ℕ) (p : Pattern) (k : ℕ) (x y : State) (cs : List Binding) → TakesTurns l p k x cs y → BindTheirNames x.goals → BindTheirNames y.goals
turns_leave l p zero x y cs no_turn b = b
turns_leave l p (suc k) x y cs (turn {y = z} {c = d} {cs = ds} h r) b = turns_leave l p k z y ds r (step_leaves l p x z d h b)

-- so does an item
pub item_leaves : (l : List ℕ) (r : Slot) (x y : State) (ks ms : List ℕ) (c : Binding) → TakesItem l r x ks c y ms → BindTheirNames x.goals → BindTheirNames y.goals
item_leaves l (just p) x y ks ms c (takes_one h) b = step_leaves l p x y c h b
item_leaves l (repeated p n) x y ks ms c (takes_many {k = k} {cs = cs} h r) b = turns_leave l p k x y cs h b

-- ---- items

-- the turns of a repetition
record ManyTaken (l : List ℕ) (p : Pattern) (n : Option (List ℕ)) (x : State) (k : ℕ) (ks : List ℕ) (c : Binding) (z : State) (ns : List ℕ) : Type 0 where
  pub bound : List Binding
  pub taken : TakesTurns l p k x bound z
  pub repeats : IsRepetition (names p) bound n c
  pub lengths : ns ≡ ks

many_takes : {l : List ℕ} {p : Pattern} {n : Option (List ℕ)} {x z : State} {k : ℕ} {ks ns : List ℕ} {c : Binding} →
    TakesItem l (repeated p n) x (k ∷ ks) c z ns → ManyTaken l p n x k ks c z ns
many_takes (takes_many {cs = ds} g r) = record { bound = ds; taken = g; repeats = r; lengths = refl }

-- a repetition that binds nothing in its turns takes nothing
pub many_none : (l : List ℕ) (p : Pattern) (n : Option (List ℕ)) (x : State) (k : ℕ) (ks ms : List ℕ) (cs : List Binding) (y : State) → ms ≡ k ∷ ks
    → TakesTurns l p k x cs y → (BindNames (names p) cs → (c : Binding) → IsRepetition (names p) cs n c → ⊥)
    → BindTheirNames x.goals → (c : Binding) (z : State) (ns : List ℕ) → TakesItem l (repeated p n) x ms c z ns → ⊥
many_none l p n x k ks ms cs y e h none b c z ns t =
    let m : ManyTaken l p n x k ks c z ns = many_takes (subst (λ is. TakesItem l (repeated p n) x is c z ns) e t) in
    let s = one_run l p k x m.bound cs z y m.taken h in
    none (turns_bind l p k x y cs h b) c (subst (λ es. IsRepetition (names p) es n c) s.0 m.repeats)

-- one that binds c takes nothing else
pub many_one : (l : List ℕ) (p : Pattern) (n : Option (List ℕ)) (x : State) (k : ℕ) (ks ms : List ℕ) (bs : List code.Binding) (y : State) (c : Binding) → ms ≡ k ∷ ks
    → TakesTurns l p k x (bindings_of bs) y → IsRepetition (names p) (bindings_of bs) n c → IsTheOne l (repeated p n) x ms c y ks
many_one l p n x k ks ms bs y c e h r = subst (λ is. IsTheOne l (repeated p n) x is c y ks) (sym e) (record { takes = takes_many h r; alone = alone })
  where
    alone : (d : Binding) (z : State) (ns : List ℕ) → TakesItem l (repeated p n) x (k ∷ ks) d z ns → (d ≡ c) × (z ≡ y) × (ns ≡ ks)
    alone d z ns t =
        let m : ManyTaken l p n x k ks d z ns = many_takes t in
        let s = one_run l p k x m.bound (bindings_of bs) z y m.taken h in
        (one_repetition (names-ascend p) (bindings_are_maps bs) (subst (λ es. IsRepetition (names p) es n d) s.0 m.repeats) r, s.1, m.lengths)

-- what one term takes
record SingleTaken (l : List ℕ) (p : Pattern) (x : State) (ks : List ℕ) (c : Binding) (z : State) (ns : List ℕ) : Type 0 where
  pub taken : Takes l p x c z
  pub lengths : ns ≡ ks

single_takes : {l : List ℕ} {p : Pattern} {x z : State} {ks ns : List ℕ} {c : Binding} → TakesItem l (just p) x ks c z ns → SingleTaken l p x ks c z ns
single_takes (takes_one g) = record { taken = g; lengths = refl }

-- so does one term
pub single_one : (l : List ℕ) (p : Pattern) (x y : State) (ks : List ℕ) (c : Binding) → Takes l p x c y → IsTheOne l (just p) x ks c y ks
single_one l p x y ks c h = record { takes = takes_one h; alone = alone }
  where
    alone : (d : Binding) (z : State) (ns : List ℕ) → TakesItem l (just p) x ks d z ns → (d ≡ c) × (z ≡ y) × (ns ≡ ks)
    alone d z ns t = let g = single_takes t in let s = one_step l p x d c z y g.taken h in (s.0, s.1, g.lengths)

pub single_none : (l : List ℕ) (p : Pattern) (x : State) (ks : List ℕ) → ((c : Binding) (y : State) → Takes l p x c y → ⊥)
    → (c : Binding) (y : State) (ns : List ℕ) → TakesItem l (just p) x ks c y ns → ⊥
single_none l p x ks none c y ns t = none c y (single_takes t).taken
