-- A list pattern, item after item: what the items that are left bind, joined with what those before them bind.
use Rattle.std.proofs.Common.{◌≡◌, ℕ, zero, suc, ◌+◌, ◌<◌, ◌≤◌, true, false, Bool, List, [], ◌∷◌, ◌++◌, Option, length, drop, get_or, map, refl, sym, ◌∙◌, ap, subst, arith, eqb-true}
use Rattle.std.specs.Prelude.{◌↔◌, ◌==◌, IsTrue}
use Rattle.rdx_term.specs.Tree.{Trees, cons}
use Rattle.rdx_term.specs.Tree.{nil as no_trees}
use Rattle.rdx_term.specs.View.{trees_of}
use Rattle.rdx_term.specs.declared.term.Term.{Term}
use Rattle.rdx_lang.specs.Bindings.{Binding, no_names}
use Rattle.rdx_lang.specs.Collecting.{across_none, across_row}
use Rattle.rdx_lang.specs.Join.{IsJoin}
use Rattle.rdx_lang.specs.Members.{In, here, there}
use Rattle.rdx_lang.specs.Patterns.{Pattern, Items, nil, one, many}
use Rattle.rdx_lang.specs.PatternView.{Slot, just, repeated, slot_of, items_of}
use Rattle.rdx_lang.specs.Shown.{binding_of, bindings_of}
use Rattle.rdx_lang.specs.declared.binding.Binding as code
use Rattle.rdx_lang.specs.declared.pattern.Item as code_item
use Rattle.rdx_lang.proofs.Rest.{rest_at, rest_none}
use Rattle.rdx_bind.specs.Combining.{JoinsAcross}
use Rattle.rdx_deriv.specs.Derivations.{Goal}
use Rattle.rdx_deriv.specs.Uses.{Focus, nowhere, next, ItemUses, TurnUses, uses_none, uses_one, uses_many, turns_end, turns_more}
use Rattle.rdx_deriv.specs.Inside.Layouts.{State, Uses, Takes, TakesTurns, no_turn, turn, TakesItem, takes_one, takes_many, IsTheOne, BindTheirNames, JoinedBefore, IsUsedUp, BindsSo, alone}
use Rattle.rdx_deriv.proofs.Repeats.{item_leaves}

-- ---- an item more

-- the state of terms and goals
abbrev pub state : Trees → List Goal → Focus → State
state ts gs f = record { terms = ts; goals = gs; focus = f }

-- what an item takes, and what the items behind it bind
pub record Stepped (l : List ℕ) (r : Slot) (rs : Items) (x : State) (ks : List ℕ) (b : Binding) : Type 0 where
  pub first : Binding
  pub left : State
  pub lengths : List ℕ
  pub rest : Binding
  pub takes : TakesItem l r x ks first left lengths
  pub uses : Uses l left rs lengths rest
  pub joined : IsJoin first rest b

-- what turns take, and what the items behind them bind
record TurnsTaken (l : List ℕ) (p : Pattern) (ps : Items) (k : ℕ) (x : State) (ks : List ℕ) (cs : List Binding) (d : Binding) : Type 0 where
  pub left : State
  pub taken : TakesTurns l p k x cs left
  pub uses : Uses l left ps ks d

turns_taken : {l : List ℕ} {f : Focus} {p : Pattern} {ps : Items} {ts : Trees} {k : ℕ} {ks : List ℕ} {gs : List Goal} {cs : List Binding} {d : Binding} →
    TurnUses l f p ps ts k ks gs cs d → TurnsTaken l p ps k (state ts gs f) ks cs d
turns_taken {ts = ts} {gs = gs} (turns_end {f = f} u) = record { left = state ts gs f; taken = no_turn; uses = u }
turns_taken (turns_more {f = f} {p = p} {ps = ps} {t = t} {ts = ts} {k = k} {ks = ks} {g = g} {gs = gs} {d = d} {cs = cs} e r) =
    let i : TurnsTaken _ p ps k (state ts gs (next f)) ks cs d = turns_taken r in
    record { left = i.left; taken = turn (record { term = t; goal = g; terms = refl; goals = refl; of_item = e; behind = refl }) i.taken; uses = i.uses }

one_stepped : {l : List ℕ} {f : Focus} {p : Pattern} {ps : Items} {ts : Trees} {ks : List ℕ} {gs : List Goal} {b : Binding} →
    ItemUses l f (one p ps) ts ks gs b → Stepped l (just p) ps (state ts gs f) ks b
one_stepped (uses_one {f = f} {t = t} {ts = ts} {ks = ks} {g = g} {gs = gs} {c = c} {d = d} e u j) = record {
  first = c;
  left = state ts gs (next f);
  lengths = ks;
  rest = d;
  takes = takes_one (record { term = t; goal = g; terms = refl; goals = refl; of_item = e; behind = refl });
  uses = u;
  joined = j;
}

many_stepped : {l : List ℕ} {f : Focus} {p : Pattern} {n : Option (List ℕ)} {ps : Items} {ts : Trees} {ks : List ℕ} {gs : List Goal} {b : Binding} →
    ItemUses l f (many p n ps) ts ks gs b → Stepped l (repeated p n) ps (state ts gs f) ks b
many_stepped (uses_many {ks = ks} {c = c} {d = d} r h j) =
    let i = turns_taken r in
    record { first = c; left = i.left; lengths = ks; rest = d; takes = takes_many i.taken h; uses = i.uses; joined = j }

pub stepped : (l : List ℕ) (r : Slot) (rs : List Slot) (x : State) (ks : List ℕ) (b : Binding) → Uses l x (items_of (r ∷ rs)) ks b → Stepped l r (items_of rs) x ks b
stepped l (just p) rs x ks b u = one_stepped u
stepped l (repeated p n) rs x ks b u = many_stepped u

-- the other way
turns_used : (l : List ℕ) (p : Pattern) (ps : Items) (k : ℕ) (x y : State) (ks : List ℕ) (cs : List Binding) (d : Binding) → TakesTurns l p k x cs y → Uses l y ps ks d
    → TurnUses l x.focus p ps x.terms k ks x.goals cs d
turns_used l p ps zero x y ks cs d no_turn u = turns_end u
turns_used l p ps (suc k) x y ks cs d (turn {y = z} {c = c} {cs = es} h r) u =
    let i : TurnUses l z.focus p ps z.terms k ks z.goals es d = turns_used l p ps k z y ks es d r u in
    let m : TurnUses l x.focus p ps (cons h.term z.terms) (suc k) ks (h.goal ∷ z.goals) (c ∷ es) d =
    turns_more h.of_item (subst (λ (f : Focus). TurnUses l f p ps z.terms k ks z.goals es d) h.behind i) in
    subst (λ (ts : Trees). TurnUses l x.focus p ps ts (suc k) ks x.goals (c ∷ es) d) (sym h.terms)
    (subst (λ (gs : List Goal). TurnUses l x.focus p ps (cons h.term z.terms) (suc k) ks gs (c ∷ es) d) (sym h.goals) m)

one_used : (l : List ℕ) (p : Pattern) (ps : Items) (x y : State) (ks : List ℕ) (c d b : Binding) → Takes l p x c y → Uses l y ps ks d → IsJoin c d b → Uses l x (one p ps) ks b
one_used l p ps x y ks c d b h u j =
    let m : ItemUses l x.focus (one p ps) (cons h.term y.terms) ks (h.goal ∷ y.goals) b =
    uses_one h.of_item (subst (λ (f : Focus). ItemUses l f ps y.terms ks y.goals d) h.behind u) j in
    subst (λ (ts : Trees). ItemUses l x.focus (one p ps) ts ks x.goals b) (sym h.terms)
    (subst (λ (gs : List Goal). ItemUses l x.focus (one p ps) (cons h.term y.terms) ks gs b) (sym h.goals) m)

pub step_used : (l : List ℕ) (r : Slot) (rs : List Slot) (x y : State) (ks ms : List ℕ) (c d b : Binding) → TakesItem l r x ks c y ms → Uses l y (items_of rs) ms d → IsJoin c d b
    → Uses l x (items_of (r ∷ rs)) ks b
step_used l (just p) rs x y ks ms c d b (takes_one h) u j = one_used l p (items_of rs) x y ms c d b h u j
step_used l (repeated p n) rs x y ks ms c d b (takes_many {k = k} {cs = cs} h r) u j = uses_many (turns_used l p (items_of rs) k x y ms cs d h u) r j

-- ---- joins

joined_more : (cs : List Binding) (c d e b : Binding) → JoinedBefore cs e b → IsJoin c d e → JoinedBefore (cs ++ c ∷ []) d b
joined_more [] c d e b h j = (d, refl, subst (λ f. IsJoin c d f) h j)
joined_more (a ∷ cs) c d e b h j = (h.0, joined_more cs c d e h.0 h.1 j, h.2)

joined_less : (cs : List Binding) (c d b : Binding) → JoinedBefore (cs ++ c ∷ []) d b → (e : Binding) × IsJoin c d e × JoinedBefore cs e b
joined_less [] c d b h = (b, subst (λ f. IsJoin c f b) (sym h.1) h.2, refl)
joined_less (a ∷ cs) c d b h = let k = joined_less cs c d h.0 h.1 in (k.0, k.1, (h.0, k.2, h.2))

-- what is joined before no names is joined across rows of one binding each
pub joined_across : (cs : List Binding) (b : Binding) → JoinedBefore cs no_names b → JoinsAcross (map alone cs) b
joined_across [] b h = subst (λ c. JoinsAcross [] c) h across_none
joined_across (c ∷ cs) b h = across_row (here refl) (joined_across cs h.0 h.1) h.2

pub across_joined : (cs : List Binding) (b : Binding) → JoinsAcross (map alone cs) b → JoinedBefore cs no_names b
across_joined [] b across_none = refl
across_joined (c ∷ cs) b (across_row {x = x} {y = y} i a j) = (y, across_joined cs y a, subst (λ d. IsJoin d y b) (only i) j)
  where
    only : In x (c ∷ []) → x ≡ c
    only (here e) = e
    only (there k) = elim k [ ]

-- ---- the loop

-- the items at first bind what those that are left bind, joined with what was taken
pub record IsGoing (l : List ℕ) (x : State) (ps : Items) (ks : List ℕ) (y : State) (qs : Items) (ms : List ℕ) (cs : List Binding) : Type 0 where
  pub forth : (b : Binding) → Uses l x ps ks b → (d : Binding) × Uses l y qs ms d × JoinedBefore cs d b
  pub back : (d b : Binding) → Uses l y qs ms d → JoinedBefore cs d b → Uses l x ps ks b
  pub stay : BindTheirNames x.goals → BindTheirNames y.goals

pub going_on : (l : List ℕ) (x : State) (ps : Items) (ks : List ℕ) (y : State) (r : Slot) (rs : List Slot) (ms : List ℕ) (cs : List Binding) (c : Binding) (z : State) (ns : List ℕ) →
    IsGoing l x ps ks y (items_of (r ∷ rs)) ms cs → IsTheOne l r y ms c z ns → IsGoing l x ps ks z (items_of rs) ns (cs ++ c ∷ [])
going_on l x ps ks y r rs ms cs c z ns g o = record { forth = forth; back = back; stay = λ h. item_leaves l r y z ms ns c o.takes (g.stay h) }
  where
    forth : (b : Binding) → Uses l x ps ks b → (d : Binding) × Uses l z (items_of rs) ns d × JoinedBefore (cs ++ c ∷ []) d b
    forth b u =
        let k = g.forth b u in
        let s : Stepped l r (items_of rs) y ms k.0 = stepped l r rs y ms k.0 k.1 in
        let a = o.alone s.first s.left s.lengths s.takes in
        let v : Uses l z (items_of rs) ns s.rest =
        subst (λ (m : List ℕ). Uses l z (items_of rs) m s.rest) a.2 (subst (λ (w : State). Uses l w (items_of rs) s.lengths s.rest) a.1 s.uses) in
        (s.rest, v, joined_more cs c s.rest k.0 b k.2 (subst (λ (e : Binding). IsJoin e s.rest k.0) a.0 s.joined))

    back : (d b : Binding) → Uses l z (items_of rs) ns d → JoinedBefore (cs ++ c ∷ []) d b → Uses l x ps ks b
    back d b u j =
        let k = joined_less cs c d b j in
        g.back k.0 b (step_used l r rs y z ms ns c d k.0 o.takes u k.1) k.2

-- an item that takes nothing leaves nothing that they bind
pub going_not : (l : List ℕ) (x : State) (ps : Items) (ks : List ℕ) (y : State) (r : Slot) (rs : List Slot) (ms : List ℕ) (cs : List Binding) →
    IsGoing l x ps ks y (items_of (r ∷ rs)) ms cs
    → (BindTheirNames y.goals → (c : Binding) (z : State) (ns : List ℕ) → TakesItem l r y ms c z ns → ⊥)
    → BindTheirNames x.goals → (b : Binding) → Uses l x ps ks b → ⊥
going_not l x ps ks y r rs ms cs g none h b u =
    let k = g.forth b u in
    let s : Stepped l r (items_of rs) y ms k.0 = stepped l r rs y ms k.0 k.1 in
    none (g.stay h) s.first s.left s.lengths s.takes

record NoneUsed (f : Focus) (ts : Trees) (ks : List ℕ) (gs : List Goal) (b : Binding) : Type 0 where
  pub used : IsUsedUp (state ts gs f) ks
  pub nameless : b ≡ no_names

none_used : {l : List ℕ} {f : Focus} {ts : Trees} {ks : List ℕ} {gs : List Goal} {b : Binding} → ItemUses l f nil ts ks gs b → NoneUsed f ts ks gs b
none_used uses_none = record { used = record { terms = refl; goals = refl; focus = refl; lengths = refl }; nameless = refl }

used_none : (l : List ℕ) (x : State) (ks : List ℕ) → IsUsedUp x ks → Uses l x nil ks no_names
used_none l x ks u =
    subst (λ (f : Focus). ItemUses l f nil x.terms ks x.goals no_names) (sym u.focus)
    (subst (λ (ts : Trees). ItemUses l nowhere nil ts ks x.goals no_names) (sym u.terms)
    (subst (λ (gs : List Goal). ItemUses l nowhere nil no_trees ks gs no_names) (sym u.goals)
    (subst (λ (m : List ℕ). ItemUses l nowhere nil no_trees m [] no_names) (sym u.lengths) uses_none)))

pub going_last : (l : List ℕ) (x : State) (ps : Items) (ks : List ℕ) (y : State) (ms : List ℕ) (cs : List Binding) → IsGoing l x ps ks y nil ms cs → IsUsedUp y ms
    → BindsSo l x ps ks cs
going_last l x ps ks y ms cs g e b = (forth, λ j. g.back no_names b (used_none l y ms e) j)
  where
    forth : Uses l x ps ks b → JoinedBefore cs no_names b
    forth u = let k = g.forth b u in let n = none_used k.1 in subst (λ (d : Binding). JoinedBefore cs d b) n.nameless k.2

pub going_short : (l : List ℕ) (x : State) (ps : Items) (ks : List ℕ) (y : State) (ms : List ℕ) (cs : List Binding) → IsGoing l x ps ks y nil ms cs → (IsUsedUp y ms → ⊥)
    → (b : Binding) → Uses l x ps ks b → ⊥
going_short l x ps ks y ms cs g none b u = let k = g.forth b u in none (none_used k.1).used

-- ---- lists of the code

pub terms_none : (r : Bool) (xs : List Term) → (r ≡ (length xs == 0)) → (IsTrue r ↔ (trees_of xs ≡ no_trees))
terms_none r [] h = (λ k. refl, λ e. h)
terms_none r (x ∷ xs) h = (λ k. absurd (let e : (length (x ∷ xs) == 0) ≡ true = sym h ∙ k in let f : length (x ∷ xs) ≡ 0 = eqb-true (length (x ∷ xs)) 0 e in omega arith), λ e. absurd cc)

-- whether a binding is among others
module _ (b : Binding) (found : List code.Binding) (i : ℕ) where
  abbrev pub AmongRest : Type 0
  AmongRest = In b (bindings_of (drop i found)) ↔ In b (bindings_of found)

  pub among_here : (c : code.Binding) → i < length found → c ≡ get_or found i c → b ≡ binding_of c → AmongRest → (IsTrue true ↔ In b (bindings_of found))
  among_here c h e f inv =
      (λ k. inv.0 (subst (λ bs. In b bs) (sym (rest_at binding_of found i c h e)) (here f)), λ k. refl)

  pub among_later : (c : code.Binding) → i < length found → c ≡ get_or found i c → (b ≡ binding_of c → ⊥) → AmongRest
      → (In b (bindings_of (drop (i + 1) found)) ↔ In b (bindings_of found))
  among_later c h e n inv =
      let s = rest_at binding_of found i c h e in
      (λ k. inv.0 (subst (λ bs. In b bs) (sym s) (there k)), λ k. behind (subst (λ bs. In b bs) s (inv.1 k)))
    where
      behind : In b (binding_of c ∷ bindings_of (drop (i + 1) found)) → In b (bindings_of (drop (i + 1) found))
      behind (here f) = absurd (n f)
      behind (there k) = k

  pub among_none : length found ≤ i → AmongRest → (IsTrue false ↔ In b (bindings_of found))
  among_none h inv = (λ k. absurd cc, λ k. absurd (nothing (subst (λ bs. In b bs) (rest_none binding_of found i h) (inv.1 k))))
    where
      nothing : In b [] → ⊥
      nothing k = elim k [ ]

-- the items that are left begin with the next one
pub items_ahead : (items : List code_item.Item) (i : ℕ) (item : code_item.Item) → i < length items → item ≡ get_or items i item
    → items_of (map slot_of (drop i items)) ≡ items_of (slot_of item ∷ map slot_of (drop (i + 1) items))
items_ahead items i item h e = ap items_of (rest_at slot_of items i item h e)

pub items_over : (items : List code_item.Item) (i : ℕ) → length items ≤ i → items_of (map slot_of (drop i items)) ≡ nil
items_over items i h = ap items_of (rest_none slot_of items i h)
